-- Amendments that the contract rejects: replies that count the amendment's own mark.
use Rattle.std.specs.Prelude.{ℕ, ◌+◌, ◌*◌, ◌<◌, List, ◌≡◌, refl, length}
use Rattle.std.proofs.Common.{sym, ap, ◌∙◌, arith}
use Rattle.amend.specs.Amending.{written, Leaves}
use Rattle.amend.specs.Fields.{written_states}
use Rattle.amend.proofs.Laws.{leaves_one}
use Rattle.answer.specs.Laws.{accepted_one}
use Rattle.answer.specs.declared.Counts.{Counts}
use Rattle.answer.specs.Reply.{accepted}
use Rattle.filter.specs.Filtered.{Lent, Left}
use Rattle.layout.specs.Layout.{sizes, runs_in, Fields}
use Rattle.wirings.proofs.Amended.{put_here}
use Rattle.wirings.specs.Amendments.{pin, strike}
use Rattle.wirings.specs.OfForm.{order_of}

-- ---- only possible runs are counted, and in the form that is filtered last the amendment's own run is none
module _ (f : Fields) (whole : length f.runs ≡ 5 * runs_in sizes f.runs) (r : ℕ) (run : r < runs_in sizes f.runs) where
  pub pin_not_possible : (order_of (written (pin r) f)).state r ≡ 1 → ⊥
  pin_not_possible e = omega (arith, e, written_states f whole (pin r) run r, put_here r 2 (order_of f).state r refl)

  pub strike_not_possible : (order_of (written (strike r) f)).state r ≡ 1 → ⊥
  strike_not_possible e = omega (arith, e, written_states f whole (strike r) run r, put_here r 0 (order_of f).state r refl)

-- ---- and no reply counts more than the allowed one does
pub not_counted : (s : List ℕ) (x y z : ℕ) (lent : Lent) (left other : Left) → Leaves s x y z lent left → Leaves s x y z lent other
    → (struck pinned more extra : ℕ) → left.reply ≡ accepted (record { struck = struck; pinned = pinned }) → other.reply ≡ accepted (record { struck = struck + more; pinned = pinned + extra })
    → 0 < more + extra → ⊥
not_counted s x y z lent left other p q struck pinned more extra e f l =
    let same = accepted_one (sym e ∙ ap (λ (k : Left). k.reply) (leaves_one s x y z lent left other p q) ∙ f) in
    omega (arith, l, ap (λ (c : Counts). c.struck) same, ap (λ (c : Counts). c.pinned) same)
