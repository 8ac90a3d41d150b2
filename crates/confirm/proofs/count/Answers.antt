use Rattle.std.proofs.Common.{sym, subst, arith}
use Rattle.confirm.specs.Laws.{counts_here, counts_past, counts_end}
use Rattle.wirings.specs.Wiring.{Counts, none}
use Rattle.confirm.proofs.count.Goals as goal
use Rattle.confirm.proofs.count.Goals.{then-states-r-eq1+then-marks-r, else-states-r-eq1, else-states-r-eq1-via-then-states-r-eq1+else-marks-r, else-states-r-eq1-via-else-states-r-eq1}

pub loop-r-init : goal.loop-r-init
loop-r-init c = (omega arith, omega arith, none)

pub loop-r-preserved : goal.loop-r-preserved
loop-r-preserved c = elim c.if-states-r-eq1.branch [
  | then-states-r-eq1+then-marks-r w ↦ (omega arith, omega arith, subst (Counts _ _) (sym w.k-is) (counts_here c.loop-r.invariant.2 (w.if-states-r-eq1.true, w.if-marks-r.true)))
  | else-states-r-eq1 w ↦ (
    omega arith,
    omega arith,
    subst (Counts _ _) (sym w.k-is) (counts_past c.loop-r.invariant.2 (λ h. elim w.else-states-r-eq1.branch [
      | else-states-r-eq1-via-then-states-r-eq1+else-marks-r v ↦ v.if-marks-r.false h.1
      | else-states-r-eq1-via-else-states-r-eq1 v ↦ v.if-states-r-eq1.false h.0
    ])),
  )
]

pub returns : goal.returns
returns c = counts_end c.loop-r.invariant.2 (omega arith)
