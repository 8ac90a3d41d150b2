use Rattle.pieces.specs.Laws.{Searched}
use Rattle.pieces.proofs.find.Given as goal

abbrev pub invariant-loop-r : goal.invariant-loop-r
invariant-loop-r l = Searched l.runs l.flags l.labels l.closing l.r
