use Rattle.scan.specs.Laws.{Going, Of}
use Rattle.wirings.specs.Wiring.{Order}
use Rattle.scan.proofs.scan.Given as goal

abbrev pub invariant-loop-r : goal.invariant-loop-r
invariant-loop-r l = (o : Order) → Of l.places l.runs l.states l.m o → Going o l.spare l.used l.labels l.fed l.left l.r
