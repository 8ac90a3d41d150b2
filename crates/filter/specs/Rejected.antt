-- Filters that the contract rejects: one that refuses each form, one with a constant reply, one that copies the form.
use Rattle.std.specs.Prelude.{ℕ, zero, suc, ◌≤◌, ◌<◌, ◌≡◌, refl, length}
use mathlib.Core.List.{List, [], ◌∷◌}
use Rattle.std.proofs.Common.{sym, ◌∙◌, arith}
use Rattle.std.proofs.Math.Path.{ap}
use Rattle.std.proofs.Math.ListN.{get_or}
use Rattle.std.proofs.Math.Decide.{ℕ_discrete}
use Rattle.answer.specs.Laws.{not_refused, accepted_one, clear}
use Rattle.answer.specs.declared.Counts.{Counts}
use Rattle.answer.specs.Reply.{accepted, refused}
use Rattle.answer.specs.Table.{Clears}
use Rattle.filter.specs.Demand2.{lawful_confirmed}
use Rattle.filter.specs.Filtered.{Lent, Left, Room, restated, Accepted, Leaves}
use Rattle.layout.specs.Layout.{sizes, over}
use Rattle.layout.proofs.Laws.{fields_sound}
use Rattle.layout.specs.Rows.{Place, Good, fields_of, read_rows}
use Rattle.wirings.specs.Chosen.{chosen}
use Rattle.wirings.specs.Counted.{Sound}
use Rattle.wirings.specs.Labels.{moved, labels}
use Rattle.wirings.specs.OfForm.{order_of, order_sound}
use Rattle.wirings.specs.Pieces.{pieces, stock, fed_pieces}
use Rattle.wirings.proofs.Same.{confirmed_one}
use Rattle.wirings.proofs.Solved.{all_below, first_bad, count_of, judged, mark_of, scanned}
use Rattle.wirings.specs.Tally.{when, tally}
use Rattle.wirings.proofs.Theorem1.{member}
use Rattle.wirings.specs.Wiring.{Order, Wiring, Lawful}
use Rattle.wirings.specs.Worked.{Confirmation, RightFor}
use Rattle.wirings.proofs.Worked.{confirmed_by, outcome_right}

-- ---- refusing each form: not one that has a lawful wiring
pub not_refusing : (s : List ℕ) (lent : Lent) (left : Left) → Clears (read_rows sizes s) → Room (fields_of sizes s) lent → (w : Wiring) → Lawful (order_of (fields_of sizes s)) w
    → Leaves s lent left → (number place : ℕ) → left.reply ≡ refused number place → ⊥
not_refusing s lent left read room w h p number place e = not_refused (sym (lawful_confirmed s lent left read room w h p).reply ∙ e)

-- ---- P4 and P5: two supplies and a run between them, k segments
abbrev two : ℕ → List ℕ
two k =
    3 ∷ 0 ∷ 1 ∷ 0 ∷ 20 ∷ 0 ∷ 2 ∷ 0 ∷ 2 ∷ 0 ∷ 22 ∷ 0 ∷ 1 ∷ 0 ∷ 3 ∷ 0 ∷ 27 ∷ 0 ∷ 1 ∷ 0
    ∷ 1 ∷ 1
    ∷ 0 ∷ 0 ∷ 1 ∷ 0 ∷ 1
    ∷ k ∷ 0 ∷ k ∷ 0 ∷ []

abbrev order_two : ℕ → Order
order_two k = order_of (fields_of sizes (two k))

two_read : (k : ℕ) → Clears (read_rows sizes (two k))
two_read k = (
  clear (record { there = omega arith; entries = refl; places = refl; runs = refl; line = refl; single = refl }),
  (
    clear (record { some = omega arith; places = omega arith; runs = omega arith }),
    (
      clear (record { places = refl; runs = refl; line = refl; total = refl }),
      (
        record { within = omega arith; before = place; found = λ l. absurd (omega arith) },
        (
          record { within = omega arith; before = run; found = λ l. absurd (omega arith) },
          (record { within = omega arith; before = λ r l j below. absurd (omega arith); found = λ l. absurd (omega arith) }, (clear (omega arith), tt)),
        ),
      ),
    ),
  ),
)
  where
    place : (j : ℕ) → j < 2 → Place (1 ∷ 1 ∷ []) j
    place zero l = omega arith
    place (suc zero) l = omega arith
    place (suc (suc j)) l = absurd (omega arith)

    run : (r : ℕ) → r < 1 → Good sizes 2 (0 ∷ 0 ∷ 1 ∷ 0 ∷ 1 ∷ []) r
    run zero l = record { there = omega arith; order = omega arith; place = omega arith; state = omega arith }
    run (suc r) l = absurd (omega arith)

two_sound : (k : ℕ) → Sound (order_two k)
two_sound k = order_sound (fields_of sizes (two k)) (fields_sound sizes (omega arith) (two k) (two_read k))

abbrev as_struck : Confirmation
as_struck = record { states = 0 ∷ []; low = 2; high = 2; wiring = 0 ∷ []; segments = 0 ∷ 1 ∷ []; struck = 1; pinned = 0 }

abbrev as_pinned : Confirmation
as_pinned = record { states = 2 ∷ []; low = 1; high = 1; wiring = 1 ∷ []; segments = 0 ∷ 0 ∷ []; struck = 0; pinned = 1 }

p4 : RightFor (order_two 2) (accepted as_struck)
unfolding confirmed_by judged mark_of scanned all_below first_bad count_of member chosen labels moved pieces stock fed_pieces when tally ℕ_discrete
p4 = outcome_right (order_two 2) (two_sound 2) (judged (order_two 2)) refl (accepted as_struck) refl

p5 : RightFor (order_two 1) (accepted as_pinned)
unfolding confirmed_by judged mark_of scanned all_below first_bad count_of member chosen labels moved pieces stock fed_pieces when tally ℕ_discrete
p5 = outcome_right (order_two 1) (two_sound 1) (judged (order_two 1)) refl (accepted as_pinned) refl

module _ (lent : Lent) (form : 31 ≤ length lent.form) (wiring : 1 ≤ length lent.wiring) (segments : 2 ≤ length lent.segments) where
  room : (k : ℕ) → Room (fields_of sizes (two k)) lent
  room k = record { form = form; wiring = wiring; segments = segments }

  p4_accepted : (left : Left) → Leaves (two 2) lent left → Accepted (fields_of sizes (two 2)) lent left
  p4_accepted left p = lawful_confirmed (two 2) lent left (two_read 2) (room 2) _ p4.first.lawful p

  -- ---- one constant reply: P4 and P5 are not answered alike
  pub not_constant : (one other : Left) → Leaves (two 2) lent one → Leaves (two 1) lent other → one.reply ≡ other.reply → ⊥
  not_constant one other p q e =
      let a = p4_accepted one p in let b = lawful_confirmed (two 1) lent other (two_read 1) (room 1) _ p5.first.lawful q in
      let same = ap (λ (c : Counts). c.struck) (accepted_one (sym a.reply ∙ e ∙ b.reply)) in
      omega (arith, same, (confirmed_one (order_two 2) (two_sound 2) a.confirmed p4).1, (confirmed_one (order_two 1) (two_sound 1) b.confirmed p5).1)

  -- ---- the form copied: the run of P4 is struck, and its state in the written form is 0
  pub not_copied : (left : Left) → Leaves (two 2) lent left → left.lent.form ≡ over (two 2) lent.form → ⊥
  unfolding restated
  not_copied left p e =
      let a = p4_accepted left p in
      let state : a.state 0 ≡ 1 = ap (λ (s : List ℕ). get_or s 26 0) (sym a.form ∙ e) in
      omega (arith, state, (confirmed_one (order_two 2) (two_sound 2) a.confirmed p4).0.states 0 (omega arith))
