use Rattle.std.proofs.Common.{sym, ◌∙◌, arith}
use Rattle.std.proofs.lemmas.Grind.{get_or_default_zero}
use Rattle.std.proofs.lemmas.List.Edits.{map_over_more}
use Rattle.pieces.specs.Holds.{at}
use Rattle.wirings.specs.Labels.{moved, moved_is, moved_not}
use Rattle.pieces.proofs.join.Goals as goal
use Rattle.pieces.proofs.join.Goals.{then-label-high, else-label-high}

pub loop-label-preserved : goal.loop-label-preserved
loop-label-preserved c = let items = c.loop-label.label-items in let i = c.loop-label.label-index in let x = at items i in
    let more = map_over_more (moved _ _) c.args.labels items i x (omega arith) c.loop-label.invariant (sym (get_or_default_zero items i x (omega arith))) in
    elim c.if-label-high.branch [
      | then-label-high w ↦ rw w.label-items-is (rw (c.min-low.ensures ∙ sym (moved_is _ _ _ (w.if-label-high.true ∙ c.max-high.ensures))) more)
      | else-label-high w ↦ rw w.label-items-is (rw (moved_not _ _ _ (λ e. w.if-label-high.false (e ∙ sym c.max-high.ensures))) at more)
    ]
