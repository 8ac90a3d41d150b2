-- Any two outcomes that the contract of an amendment allows are equal.
use Rattle.std.specs.Prelude.{ℕ, List, ◌≡◌, Result}
use Rattle.std.proofs.Common.{ap, subst, arith}
use Rattle.amend.specs.Amending.{Named, Ordered, written, Amended, amend_rows, Leaves, Amends}
use Rattle.amend.proofs.Settling.{says_one, well_formed}
use Rattle.amend.specs.Fields.{written_sound}
use Rattle.answer.specs.declared.Counts.{Counts}
use Rattle.answer.specs.declared.Refusal.{Refusal}
use Rattle.answer.specs.Laws.{replied_one, settled_if, clears_front, fact, clears_back}
use Rattle.answer.specs.Table.{Clears}
use Rattle.filter.specs.One.{restated_same, accepted_same}
use Rattle.filter.specs.Filtered.{Lent, Left, Accepted, confirmed_fields, later_rows, filter_rows}
use Rattle.filter.specs.Restated.{still_sound, same_wirings}
use Rattle.layout.specs.Layout.{sizes, runs_in, Fields}
use Rattle.layout.proofs.Laws.{fields_sound}
use Rattle.layout.specs.Rows.{fields_of, read_rows, sound_rows}
use Rattle.wirings.proofs.Amendments.{well_formed_as}
use Rattle.wirings.specs.OfForm.{order_of, order_sound}
use Rattle.wirings.proofs.Same.{confirmed_one}

module _ (f : Fields) (sound : Clears (sound_rows sizes f)) (x y z : ℕ) (lent : Lent) where
  -- the confirmed form with the amendment is one
  same_form : {p q : Left} (a : Amended f x y z lent p) (b : Amended f x y z lent q)
      → written b.amendment (confirmed_fields f b.state b.low b.high) ≡ written a.amendment (confirmed_fields f a.state a.low a.high)
  same_form a b =
      let (e, _, _) = confirmed_one (order_of f) (order_sound f sound) b.confirmed a.confirmed in
      λ i. written (says_one b.says a.says i)
      (record { places = f.places; runs = restated_same b.state a.state (runs_in sizes f.runs) f.runs e.states i; low = e.lows i; high = e.highs i })

  amended_same : Named (runs_in sizes f.runs) x y z → Ordered x y z → (p q : Left) → Amended f x y z lent p → Amended f x y z lent q → p ≡ q
  amended_same named ordered p q a b =
      accepted_same (written a.amendment (confirmed_fields f a.state a.low a.high))
      (written_sound (confirmed_fields f a.state a.low a.high) (still_sound f sound a.confirmed) a.amendment (well_formed_as (same_wirings f sound a.confirmed).alike a.amendment (well_formed (order_of f) a.says named ordered)) (omega (arith, a.last.confirmed.first.lawful.enough, a.last.confirmed.first.lawful.few)))
      lent p q a.last (subst (λ (g : Fields). Accepted g lent q) (same_form a b) b.last)

pub leaves_one : (s : List ℕ) (x y z : ℕ) (lent : Lent) (p q : Left) → Leaves s x y z lent p → Leaves s x y z lent q → p ≡ q
leaves_one s x y z lent p q a b =
    settled_if (λ c. let (named, later) = clears_back (filter_rows s lent) (amend_rows (fields_of sizes s) x y z) c in
    amended_same (fields_of sizes s) (fields_sound sizes (omega arith) s (clears_front (read_rows sizes s) (later_rows (fields_of sizes s) lent) (clears_front (filter_rows s lent) (amend_rows (fields_of sizes s) x y z) c))) x y z lent (fact named) (fact later.0)) a b

pub amends_one : (s : List ℕ) (x y z : ℕ) (form wiring segments : List ℕ) (a b : Result Counts Refusal) (f w g f' w' g' : List ℕ)
    → Amends s x y z form wiring segments a f w g → Amends s x y z form wiring segments b f' w' g' → (a ≡ b) × (f ≡ f') × (w ≡ w') × (g ≡ g')
amends_one s x y z form wiring segments a b f w g f' w' g' p q =
    let e = leaves_one s x y z (record { form = form; wiring = wiring; segments = segments }) _ _ p q in (
      replied_one (λ x y e. e) a b (ap (λ (l : Left). l.reply) e),
      ap (λ (l : Left). l.lent.form) e,
      ap (λ (l : Left). l.lent.wiring) e,
      ap (λ (l : Left). l.lent.segments) e,
    )
