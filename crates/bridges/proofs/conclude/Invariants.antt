use Rattle.bridges.specs.Routine.{Told}
use Rattle.bridges.proofs.conclude.Given as goal

abbrev pub invariant-loop-x : goal.invariant-loop-x
invariant-loop-x l = Told l.grown.via l.passed l.fed l.m l.x l.kinds
