-- A form with other states or another line four: what order it makes, that it has no fault where its states and line four have none, and that
-- the confirmed form is one, with the lawful wirings of the form it came from.
use Prim.Native.Nat.{ℕ, zero, suc, ◌+◌, ◌*◌, ◌/◌, ◌≤◌, ◌<◌}
use Rattle.std.specs.Prelude.{List, ◌≡◌, refl, length, set, take, drop}
use Rattle.std.proofs.Common.{sym, ap, ap₂, subst₂, ◌∙◌, length-set, get_or-set_same, take_at, arith}
use Rattle.std.proofs.Math.Path.{subst}
use Rattle.std.proofs.Math.ListN.{get_or}
use Rattle.std.proofs.Math.Seq.{get_or-set_other}
use Rattle.std.proofs.Math.Decide.{ℕ_discrete}
use Rattle.answer.specs.Laws.{clear, fact}
use Rattle.answer.specs.Table.{First, Clears}
use Rattle.filter.specs.Filtered.{Lent, Left, Accepted, restated, confirmed_fields}
use Rattle.filter.specs.Laws.{length_restated}
use Rattle.layout.proofs.Image.{length_image}
use Rattle.layout.specs.Layout.{sizes, length_of, runs_in, end_u, end_v, state_of, Fields, image}
use Rattle.layout.proofs.Laws.{places_length, runs_count, fields_sound, whole_runs}
use Rattle.layout.specs.Rows.{Numbers, Place, Good, fields_of, read_rows, sound_rows}
use Rattle.wirings.specs.Alike.{Alike}
use Rattle.wirings.specs.Confirmed.{Confirmed}
use Rattle.wirings.proofs.Limits.{counts_one}
use Rattle.wirings.specs.OfForm.{order_of, order_sound}
use Rattle.wirings.specs.Same.{Agree}
use Rattle.wirings.proofs.Same.{confirmed_sound, keeps}
use Rattle.wirings.proofs.Standing.{agree_trans, agree_same}
use Rattle.wirings.specs.Wiring.{Wiring}

-- ---- bytes that are no states are kept
-- i is the place of a state
abbrev pub State : ℕ → Type 0
State i = (r : ℕ) × (i ≡ 5 * r + 4)

-- another list of run records with the same ends
pub record Ends (runs runs' : List ℕ) : Type 0 where
  pub size : length runs' ≡ length runs
  pub kept : (i : ℕ) → (State i → ⊥) → get_or runs' i 0 ≡ get_or runs i 0

pub set_ends : (runs : List ℕ) (r v : ℕ) → Ends runs (set runs (5 * r + 4) v)
set_ends runs r v = record { size = length-set runs (5 * r + 4) v; kept = λ i n. get_or-set_other runs (5 * r + 4) i v 0 (λ e. n (r, e)) }

pub restated_ends : (state : ℕ → ℕ) (k : ℕ) (runs : List ℕ) → Ends runs (restated state k runs)
unfolding restated
restated_ends state zero runs = record { size = refl; kept = λ i n. refl }
restated_ends state (suc k) runs =
    let e = restated_ends state k runs in let h = set_ends (restated state k runs) k (state k) in
    record { size = h.size ∙ e.size; kept = λ i n. h.kept i n ∙ e.kept i n }

module _ {runs runs' : List ℕ} (e : Ends runs runs') where
  pub same_u : (r : ℕ) → end_u sizes runs' r ≡ end_u sizes runs r
  same_u r = ap₂ (λ (a b : ℕ). a + 256 * b) (e.kept (5 * r) (λ h. omega (arith, h.1))) (e.kept (5 * r + 1) (λ h. omega (arith, h.1)))

  pub same_v : (r : ℕ) → end_v sizes runs' r ≡ end_v sizes runs r
  same_v r = ap₂ (λ (a b : ℕ). a + 256 * b) (e.kept (5 * r + 2) (λ h. omega (arith, h.1))) (e.kept (5 * r + 2 + 1) (λ h. omega (arith, h.1)))

  pub same_m : runs_in sizes runs' ≡ runs_in sizes runs
  same_m = ap (λ (k : ℕ). (k + 4) / 5) e.size

-- ---- no fault where states and line four have none
pub sound_as : (f g : Fields) → g.places ≡ f.places → Ends f.runs g.runs → ((r : ℕ) → r < runs_in sizes f.runs → state_of sizes g.runs r ≤ 2) → g.low ≤ g.high
    → Clears (sound_rows sizes f) → Clears (sound_rows sizes g)
sound_as f g p e marks line sound = (
  clear numbers,
  (
    all_good (λ j l. subst (λ (places : List ℕ). Place places j) (sym p) (sound.1.0.before j (subst (λ (k : ℕ). j < k) n l))),
    (
      all_good (λ j l. good j (subst (λ (k : ℕ). j < k) m l)),
      (all_good (λ j l i k a b. sound.1.1.1.0.before j (subst (λ (k : ℕ). j < k) m l) i k (sym (same_u e i) ∙ a ∙ same_u e j) (sym (same_v e i) ∙ b ∙ same_v e j)), (clear line, tt)),
    ),
  ),
)
  where
    n : length g.places ≡ length f.places
    n = ap length p

    m : runs_in sizes g.runs ≡ runs_in sizes f.runs
    m = same_m e

    numbers : Numbers (length g.places) (runs_in sizes g.runs)
    numbers = subst₂ Numbers (sym n) (sym m) (fact sound.0)

    all_good : {P : ℕ → Type 0} {k : ℕ} → ((j : ℕ) → j < k → P j) → First P k k
    all_good h = record { within = omega arith; before = h; found = λ l. absurd (omega arith) }

    good : (j : ℕ) → j < runs_in sizes f.runs → Good sizes (length g.places) g.runs j
    good j l = let h = sound.1.1.0.before j l in record {
      there = omega (arith, h.there, e.size);
      order = omega (arith, h.order, same_u e j, same_v e j);
      place = omega (arith, h.place, same_v e j, n);
      state = marks j l;
    }

-- ---- the confirmed form
module _ (state : ℕ → ℕ) where
  -- the states of the first k runs, where there are k
  pub restated_says : (k : ℕ) (runs : List ℕ) → 5 * k ≤ length runs → (r : ℕ) → r < k → state_of sizes (restated state k runs) r ≡ state r
  unfolding restated
  restated_says zero runs l r h = absurd (omega arith)
  restated_says (suc k) runs l r h =
      elim (ℕ_discrete r k) [
        | yes p ↦ subst (λ (i : ℕ). get_or (set (restated state k runs) (5 * k + 4) (state k)) (5 * i + 4) 0 ≡ state i) (sym p) (get_or-set_same (restated state k runs) (5 * k + 4) (state k) 0 (omega (arith, length_restated state k runs)))
        | no n ↦ get_or-set_other (restated state k runs) (5 * k + 4) (5 * r + 4) (state k) 0 (λ q. omega (arith, q)) ∙ restated_says k runs (omega arith) r (omega arith)
      ]

module _ (f : Fields) (sound : Clears (sound_rows sizes f)) (state : ℕ → ℕ) (low high : ℕ) where
  ends : Ends f.runs (confirmed_fields f state low high).runs
  ends = restated_ends state (runs_in sizes f.runs) f.runs

  -- its states are the confirmed ones
  pub states_are : (r : ℕ) → r < runs_in sizes f.runs → state_of sizes (confirmed_fields f state low high).runs r ≡ state r
  states_are r l = restated_says state (runs_in sizes f.runs) f.runs (omega (arith, whole_runs sizes (omega arith) f sound)) r l

  pub confirmed_alike : Alike (order_of f) (order_of (confirmed_fields f state low high))
  confirmed_alike = record { n = refl; m = sym (same_m ends); supply = λ x. refl; u = λ r. sym (same_u ends r); v = λ r. sym (same_v ends r) }

  pub confirmed_fields_sound : ((r : ℕ) → r < runs_in sizes f.runs → state r ≤ 2) → low ≤ high → Clears (sound_rows sizes (confirmed_fields f state low high))
  confirmed_fields_sound marks line = sound_as f (confirmed_fields f state low high) refl ends (λ r l. omega (arith, states_are r l, marks r l)) line sound

module _ (f : Fields) (sound : Clears (sound_rows sizes f)) {state : ℕ → ℕ} {low high : ℕ} {w : Wiring} {segment : ℕ → ℕ} {struck pinned : ℕ}
    (c : Confirmed (order_of f) state low high w segment struck pinned) where
  line_left : low ≤ high
  line_left = omega (arith, c.highest.all c.lowest.by c.lowest.lawful, counts_one c.lowest.counted c.lowest.lawful.counted)

  -- the confirmed form has no fault, and the wirings of the form
  pub still_sound : Clears (sound_rows sizes (confirmed_fields f state low high))
  still_sound = confirmed_fields_sound f sound state low high (confirmed_sound (order_of f) (order_sound f sound) c).mark line_left

  pub same_wirings : Agree (order_of f) (order_of (confirmed_fields f state low high))
  same_wirings = let e = confirmed_alike f sound state low high in
      agree_trans (keeps (order_of f) (order_sound f sound) c)
      (agree_same (record { n = e.n; m = e.m; supply = e.supply; u = e.u; v = e.v }) (λ r l. sym (states_are f sound state low high r l)) refl refl)

-- what an accepted call leaves at the start of its form buffer is the confirmed form, as long as the form it came from
module _ (s : List ℕ) (read : Clears (read_rows sizes s)) {lent : Lent} {left : Left} (a : Accepted (fields_of sizes s) lent left) where
  pub image_long : length (image sizes (confirmed_fields (fields_of sizes s) a.state a.low a.high)) ≡ length s
  image_long =
      let laid = fact read.1.1.0 in let f = fields_of sizes s in let g = confirmed_fields f a.state a.low a.high in
      length_image g (whole_runs sizes (omega arith) g (still_sound f (fields_sound sizes (omega arith) s read) a.confirmed))
      ∙ ap₂ (length_of sizes) (places_length sizes (omega arith) s laid) (sym (confirmed_alike f (fields_sound sizes (omega arith) s read) a.state a.low a.high).m ∙ runs_count sizes (omega arith) s laid)
      ∙ sym laid.total

  pub form_left : take (length s) left.lent.form ≡ image sizes (confirmed_fields (fields_of sizes s) a.state a.low a.high)
  form_left = ap (take (length s)) a.form ∙ take_at (image sizes g) (drop (length (image sizes g)) lent.form) (length s) image_long
    where
      g : Fields
      g = confirmed_fields (fields_of sizes s) a.state a.low a.high
