use Rattle.std.proofs.Common.{ℕ, ◌+◌, ◌*◌, List, refl, sym, ap, ◌∙◌, set, length-set, arith}
use Rattle.filter.specs.Laws.{restated_none, restated_more}
use Rattle.pieces.specs.Holds.{at}
use Rattle.filter.proofs.restate.Goals as goal

pub loop-r-init : goal.loop-r-init
loop-r-init c = (omega arith, refl, sym (restated_none _ _))

pub loop-r-preserved : goal.loop-r-preserved
loop-r-preserved c = (
  omega arith,
  simp length-set c.loop-r.invariant.1,
  ap (λ (l : List ℕ). set l (5 * c.loop-r.r + 4) (at c.args.marks.now c.loop-r.r)) c.loop-r.invariant.2 ∙ sym (restated_more _ c.loop-r.r _),
)
