use Rattle.bridges.specs.Routine.{Supplies}
use Rattle.bridges.proofs.supplies.Given as goal

abbrev pub invariant-loop-y : goal.invariant-loop-y
invariant-loop-y l = Supplies l.places l.y l.supplies
