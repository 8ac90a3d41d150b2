-- A form with an amendment written in: what order it makes, and that it has no fault where a count is left.
use Rattle.std.specs.Prelude.{ℕ, ◌+◌, ◌*◌, ◌≤◌, ◌<◌, List, ◌≡◌, refl, length, set}
use Rattle.std.proofs.Common.{sym, subst, ◌∙◌, get_or-set_same, get_or-set_other, arith}
use Rattle.std.proofs.Math.Decide.{ℕ_discrete}
use Rattle.amend.specs.Amending.{written}
use Rattle.answer.specs.Table.{Clears}
use Rattle.filter.specs.Restated.{Ends, set_ends, same_u, same_v, same_m, sound_as}
use Rattle.layout.specs.Layout.{sizes, runs_in, state_of, Fields}
use Rattle.layout.proofs.Laws.{whole_runs}
use Rattle.layout.specs.Rows.{sound_rows}
use Rattle.wirings.specs.Alike.{Alike}
use Rattle.wirings.specs.Amended.{put}
use Rattle.wirings.proofs.Amended.{put_here, put_there, marked_sound}
use Rattle.wirings.specs.Amendments.{Amendment, pin, strike, narrow, WellFormed, amended}
use Rattle.wirings.specs.OfForm.{order_of, order_sound}

abbrev SetStates : List ℕ → ℕ → ℕ → Type 0
SetStates runs e v = (r : ℕ) → state_of sizes (set runs (5 * e + 4) v) r ≡ put e v (state_of sizes runs) r

set_says : (runs : List ℕ) (e v : ℕ) → 5 * e + 5 ≤ length runs → SetStates runs e v
set_says runs e v l r =
    elim (ℕ_discrete r e) [
      | yes p ↦ subst (λ (i : ℕ). state_of sizes (set runs (5 * e + 4) v) i ≡ put e v (state_of sizes runs) i) (sym p) (get_or-set_same runs (5 * e + 4) v 0 (omega arith) ∙ sym (put_here e v (state_of sizes runs) e refl))
      | no n ↦ get_or-set_other runs (5 * e + 4) (5 * r + 4) v 0 (λ q. omega (arith, q)) ∙ sym (put_there e v (state_of sizes runs) r n)
    ]

-- the form makes the amended order
pub written_alike : (f : Fields) (a : Amendment) → Alike (amended a (order_of f)) (order_of (written a f))
written_alike f (pin r) = let e = set_ends f.runs r 2 in record { n = refl; m = sym (same_m e); supply = λ x. refl; u = λ r. sym (same_u e r); v = λ r. sym (same_v e r) }
written_alike f (strike r) = let e = set_ends f.runs r 0 in record { n = refl; m = sym (same_m e); supply = λ x. refl; u = λ r. sym (same_u e r); v = λ r. sym (same_v e r) }
written_alike f (narrow a b) = record { n = refl; m = refl; supply = λ x. refl; u = λ r. refl; v = λ r. refl }

pub written_low : (f : Fields) (a : Amendment) → (amended a (order_of f)).low ≡ (written a f).low
written_low f (pin r) = refl
written_low f (strike r) = refl
written_low f (narrow a b) = refl

pub written_high : (f : Fields) (a : Amendment) → (amended a (order_of f)).high ≡ (written a f).high
written_high f (pin r) = refl
written_high f (strike r) = refl
written_high f (narrow a b) = refl

module _ (f : Fields) (whole : length f.runs ≡ 5 * runs_in sizes f.runs) where
  pub written_states : (a : Amendment) → WellFormed (order_of f) a → (r : ℕ) → (amended a (order_of f)).state r ≡ (order_of (written a f)).state r
  written_states (pin r) l j = sym (set_says f.runs r 2 (omega (arith, whole)) j)
  written_states (strike r) l j = sym (set_says f.runs r 0 (omega (arith, whole)) j)
  written_states (narrow a b) l j = refl

  pub written_wholes : (a : Amendment) → length (written a f).runs ≡ 5 * runs_in sizes (written a f).runs
  written_wholes (pin r) = omega (arith, whole, (set_ends f.runs r 2).size, same_m (set_ends f.runs r 2))
  written_wholes (strike r) = omega (arith, whole, (set_ends f.runs r 0).size, same_m (set_ends f.runs r 0))
  written_wholes (narrow a b) = whole

-- and has no fault where a count is left
module _ (f : Fields) (sound : Clears (sound_rows sizes f)) where
  small : (e v : ℕ) → v ≤ 2 → e < runs_in sizes f.runs → (j : ℕ) → j < runs_in sizes f.runs → state_of sizes (set f.runs (5 * e + 4) v) j ≤ 2
  small e v b l j k = subst (λ (x : ℕ). x ≤ 2) (sym (set_says f.runs e v (omega (arith, whole_runs sizes (omega arith) f sound)) j)) ((marked_sound (order_of f) e v b (order_sound f sound)).mark j k)

  pub written_sound : (a : Amendment) → WellFormed (order_of f) a → (written a f).low ≤ (written a f).high → Clears (sound_rows sizes (written a f))
  written_sound (pin r) l line = sound_as f (written (pin r) f) refl (set_ends f.runs r 2) (λ j k. small r 2 (omega arith) l j k) line sound
  written_sound (strike r) l line = sound_as f (written (strike r) f) refl (set_ends f.runs r 0) (λ j k. small r 0 (omega arith) l j k) line sound
  written_sound (narrow a b) l line = sound_as f (written (narrow a b) f) refl (record { size = refl; kept = λ i n. refl }) (λ j k. (sound.1.1.0.before j k).state) line sound

pub written_places : (a : Amendment) (f : Fields) → (written a f).places ≡ f.places
written_places (pin r) f = refl
written_places (strike r) f = refl
written_places (narrow a b) f = refl

pub written_ends : (a : Amendment) (f : Fields) → Ends f.runs (written a f).runs
written_ends (pin r) f = set_ends f.runs r 2
written_ends (strike r) f = set_ends f.runs r 0
written_ends (narrow a b) f = record { size = refl; kept = λ i n. refl }
