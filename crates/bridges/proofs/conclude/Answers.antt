use Rattle.std.proofs.Common.{arith}
use Rattle.bridges.specs.Steps.{told_none, told_way, told_pass}
use Rattle.bridges.proofs.conclude.Goals as goal
use Rattle.bridges.proofs.conclude.Goals.{then-r-m, else-r-m}

pub loop-x-init : goal.loop-x-init
loop-x-init c = told_none

pub loop-x-preserved : goal.loop-x-preserved
loop-x-preserved c = elim c.if-r-m.branch [
  | then-r-m w ↦ rw (w.kinds-is, c.from-r.ensures) (told_way c.loop-x.invariant (omega arith) (omega arith) w.kind_of.ensures)
  | else-r-m w ↦ rw w.kinds-is (told_pass c.loop-x.invariant (omega (arith, w.if-r-m.false)))
]
