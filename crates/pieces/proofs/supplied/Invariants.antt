use Rattle.pieces.specs.Holds.{at}
use Rattle.pieces.specs.Laws.{Seen}
use Rattle.pieces.proofs.supplied.Given as goal

abbrev pub invariant-loop-y : goal.invariant-loop-y
invariant-loop-y l = Seen (at l.places) (at l.fn.labels) l.fed l.y
