use Rattle.forest.specs.Parts.{order_at}
use Rattle.bridges.specs.Steps.{Marking}
use Rattle.bridges.proofs.kinds.Given as goal

abbrev pub invariant-loop-r : goal.invariant-loop-r
invariant-loop-r l = Marking (order_at l.places l.runs l.states l.m) l.grown.rank l.grown.up l.grown.via l.passed l.r
