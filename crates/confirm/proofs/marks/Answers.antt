use Rattle.std.proofs.Common.{length-set, arith}
use Rattle.confirm.specs.Ready.{marked_more}
use Rattle.confirm.proofs.marks.Goals as goal

pub loop-r-preserved : goal.loop-r-preserved
loop-r-preserved c = (
  simp length-set c.loop-r.invariant.0,
  marked_more _ _ _ _ _ _ _ _ _ c.loop-r.r c.loop-r.marks (omega arith) c.run_at-u.ensures.one c.run_at-u.ensures.other
      (rw (c.from-low.ensures, c.from-high.ensures, c.from.ensures, c.from-in-loop-r.ensures) at c.mark.ensures) c.loop-r.invariant.1,
)
