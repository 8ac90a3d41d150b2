-- Demand 2: a form with buffers long enough is confirmed exactly if a lawful wiring exists; in the form that is written then, a possible run is struck
-- exactly if no lawful wiring uses it and fixed exactly if all do, and line four runs from the smallest to the largest count of a lawful wiring.
use Rattle.std.specs.Prelude.{ℕ, ◌<◌, List, ◌↔◌, ◌≡◌, length, take}
use Rattle.std.proofs.Common.{sym, ap, subst, ◌∙◌, arith}
use Rattle.answer.specs.Laws.{not_refused, settled_last, cleared, clears_join, clear}
use Rattle.answer.specs.declared.Counts.{Counts}
use Rattle.answer.specs.Reply.{accepted}
use Rattle.answer.specs.Table.{Clears}
use Rattle.filter.specs.Filtered.{Lent, Left, Room, later_rows, confirmed_fields, Accepted, Leaves}
use Rattle.filter.specs.Restated.{states_are, still_sound, form_left}
use Rattle.layout.proofs.Image.{fields_back}
use Rattle.layout.specs.Layout.{sizes, state_of, Fields}
use Rattle.layout.proofs.Laws.{fields_sound}
use Rattle.layout.specs.Rows.{fields_of, read_rows}
use Rattle.wirings.specs.Chosen.{true_not_false}
use Rattle.wirings.specs.Confirmed.{Never, Always, Mark, kept, struck, pinned, stays, Lowest, Highest}
use Rattle.wirings.specs.Counted.{Sound}
use Rattle.wirings.specs.OfForm.{order_of, order_sound}
use Rattle.wirings.specs.Theorem1.{order_rows}
use Rattle.wirings.proofs.Theorem1.{meets_of}
use Rattle.wirings.specs.Wiring.{Order, Wiring, Lawful}

-- ---- confirmed exactly if a lawful wiring exists
-- a confirmed form has one
pub confirmed_lawful : (s : List ℕ) (lent : Lent) (left : Left) → Leaves s lent left → (c : Counts) → left.reply ≡ accepted c → (w : Wiring) × Lawful (order_of (fields_of sizes s)) w
confirmed_lawful s lent left p c e =
    let a = (cleared p (λ number k g. not_refused (sym e ∙ ap (λ (l : Left). l.reply) g))).1 in (a.wiring, a.confirmed.first.lawful)

-- where there is one, 9 to 11 do not refuse
pub lawful_clears : (o : Order) → Sound o → (w : Wiring) → Lawful o w → Clears (order_rows o)
lawful_clears o ok w h = let m = meets_of o ok w h in (
  record { within = omega arith; before = m.open'; found = λ l. absurd (omega arith) },
  (record { within = omega arith; before = m.fed; found = λ l. absurd (omega arith) }, (clear (record { few = m.few; enough = m.enough }), tt)),
)

-- a form that has one is confirmed
pub lawful_confirmed : (s : List ℕ) (lent : Lent) (left : Left) → Clears (read_rows sizes s) → Room (fields_of sizes s) lent → (w : Wiring) → Lawful (order_of (fields_of sizes s)) w
    → Leaves s lent left → Accepted (fields_of sizes s) lent left
lawful_confirmed s lent left read room w h p = let f = fields_of sizes s in
    settled_last (clears_join (read_rows sizes s) (later_rows f lent) read (clear room, lawful_clears (order_of f) (order_sound f (fields_sound sizes (omega arith) s read)) w h)) p

-- ---- a possible run: struck exactly if no lawful wiring uses it, fixed exactly if all do
exactly : (o : Order) (r : ℕ) {state : ℕ} (w : Wiring) → Lawful o w → o.state r ≡ 1 → Mark o r state → ((state ≡ 0) ↔ Never o r) × ((state ≡ 2) ↔ Always o r)
exactly o r w h possible (kept n e) = absurd (n possible)
exactly o r w h possible (struck p n e) = ((λ _. n, λ _. e), (λ q. absurd (omega arith), λ a. absurd (n w h (a w h))))
exactly o r w h possible (pinned p a e) = ((λ q. absurd (omega arith), λ n. absurd (n w h (a w h))), (λ _. a, λ _. e))
exactly o r w h possible (stays p s t e) =
    ((λ q. absurd (omega arith), λ n. absurd (n s.0 s.1 s.2)), (λ q. absurd (omega arith), λ a. absurd (true_not_false (sym (a t.0 t.1) ∙ t.2))))

-- ---- demand 2: of an image that 1 to 7 pass, with the lawful wirings of its order
pub record Demand2 (s : List ℕ) (left : Left) : Type 0 where
  -- confirmed exactly if a lawful wiring exists
  pub confirmed : ((c : Counts) × (left.reply ≡ accepted c)) ↔ ((w : Wiring) × Lawful (order_of (fields_of sizes s)) w)
  -- and then, of the form that stands at the start of the form buffer
  pub struck : {c : Counts} → left.reply ≡ accepted c → (r : ℕ) → r < (order_of (fields_of sizes s)).m → (order_of (fields_of sizes s)).state r ≡ 1
      → ((order_of (fields_of sizes (take (length s) left.lent.form))).state r ≡ 0) ↔ Never (order_of (fields_of sizes s)) r
  pub pinned : {c : Counts} → left.reply ≡ accepted c → (r : ℕ) → r < (order_of (fields_of sizes s)).m → (order_of (fields_of sizes s)).state r ≡ 1
      → ((order_of (fields_of sizes (take (length s) left.lent.form))).state r ≡ 2) ↔ Always (order_of (fields_of sizes s)) r
  pub lowest : {c : Counts} → left.reply ≡ accepted c → Lowest (order_of (fields_of sizes s)) (fields_of sizes (take (length s) left.lent.form)).low
  pub highest : {c : Counts} → left.reply ≡ accepted c → Highest (order_of (fields_of sizes s)) (fields_of sizes (take (length s) left.lent.form)).high

pub demand_2 : (s : List ℕ) (lent : Lent) (left : Left) → Clears (read_rows sizes s) → Room (fields_of sizes s) lent → Leaves s lent left → Demand2 s left
demand_2 s lent left read room p = record {
  confirmed = (
    λ (c, e). confirmed_lawful s lent left p c e,
    λ (w, h). let a = lawful_confirmed s lent left read room w h p in (record { struck = a.struck; pinned = a.pinned }, a.reply),
  );
  struck = λ e r l possible. (mark e r l possible).0;
  pinned = λ e r l possible. (mark e r l possible).1;
  lowest = λ e. let a = accepted_by e in subst (λ (g : Fields). Lowest o g.low) (sym (form_is a)) a.confirmed.lowest;
  highest = λ e. let a = accepted_by e in subst (λ (g : Fields). Highest o g.high) (sym (form_is a)) a.confirmed.highest;
}
  where
    f : Fields
    f = fields_of sizes s

    o : Order
    o = order_of (fields_of sizes s)

    accepted_by : {c : Counts} → left.reply ≡ accepted c → Accepted (fields_of sizes s) lent left
    accepted_by e = (cleared p (λ number k g. not_refused (sym e ∙ ap (λ (l : Left). l.reply) g))).1

    form_is : (a : Accepted (fields_of sizes s) lent left) → fields_of sizes (take (length s) left.lent.form) ≡ confirmed_fields (fields_of sizes s) a.state a.low a.high
    form_is a = ap (fields_of sizes) (form_left s read a)
        ∙ fields_back (confirmed_fields (fields_of sizes s) a.state a.low a.high) (still_sound (fields_of sizes s) (fields_sound sizes (omega arith) s read) a.confirmed)

    mark : {c : Counts} → left.reply ≡ accepted c → (r : ℕ) → r < (order_of (fields_of sizes s)).m → (order_of (fields_of sizes s)).state r ≡ 1
        → (((order_of (fields_of sizes (take (length s) left.lent.form))).state r ≡ 0) ↔ Never (order_of (fields_of sizes s)) r)
        × (((order_of (fields_of sizes (take (length s) left.lent.form))).state r ≡ 2) ↔ Always (order_of (fields_of sizes s)) r)
    mark e r l possible = let a = accepted_by e in
        exactly (order_of (fields_of sizes s)) r a.wiring a.confirmed.first.lawful possible
        (subst (Mark (order_of (fields_of sizes s)) r)
        (sym (ap (λ (g : Fields). state_of sizes g.runs r) (form_is a) ∙ states_are (fields_of sizes s) (fields_sound sizes (omega arith) s read) a.state a.low a.high r l))
        (a.confirmed.marks r l))
