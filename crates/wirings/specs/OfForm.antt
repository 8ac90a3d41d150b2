-- The order that a form's fields make.
use Rattle.std.specs.Prelude.{ℕ, zero, suc, ◌≤◌, ◌<◌, Bool, List, ◌≡◌, refl, length, get_or}
use Rattle.std.proofs.Common.{sym, ap₂, arith}
use Rattle.std.proofs.Math.ListN.{get_or-eq_default}
use Rattle.std.proofs.Math.Decide.{dec_lt}
use Rattle.answer.specs.Laws.{fact}
use Rattle.answer.specs.Table.{each, Clear, Clears}
use Rattle.layout.specs.Layout.{sizes, runs_in, end_u, end_v, state_of, Fields}
use Rattle.layout.specs.Rows.{Good, Fresh, sound_rows}
use Rattle.wirings.specs.Chosen.{taken, chosen}
use Rattle.wirings.specs.Counted.{Sound}
use Rattle.wirings.specs.Wiring.{Order}

abbrev pub order_of : Fields → Order
order_of f = record {
  n = length f.places;
  m = runs_in sizes f.runs;
  supply = λ x. get_or f.places x 0;
  u = end_u sizes f.runs;
  v = end_v sizes f.runs;
  state = state_of sizes f.runs;
  low = f.low;
  high = f.high;
}

-- fields without a fault make a sound order
module _ (f : Fields) (sound : Clears (sound_rows sizes f)) where
  pub order_sound : Sound (order_of f)
  order_sound = record {
    up = λ r l. (good.before r l).order;
    inside = λ r l. (good.before r l).place;
    fresh = λ r j lr lj p q. elim (dec_lt r j) [
      | yes l ↦ absurd (new.before j lj r l p q)
      | no l ↦ elim (dec_lt j r) [ yes k ↦ absurd (new.before r lr j k (sym p) (sym q)) | no k ↦ omega arith ]
    ];
    bit = λ x. elim (dec_lt x (length f.places)) [ yes l ↦ sound.1.0.before x l | no l ↦ omega (arith, get_or-eq_default f.places 0 {n = x} (omega arith)) ];
    mark = λ r l. (good.before r l).state;
  }
    where
      good : Clear (each 5 (runs_in sizes f.runs) (Good sizes (length f.places) f.runs))
      good = sound.1.1.0

      new : Clear (each 6 (runs_in sizes f.runs) (Fresh sizes f.runs))
      new = sound.1.1.1.0

  pub order_line : f.low ≤ f.high
  order_line = fact sound.1.1.1.1.0

-- an order is the one of these places and runs, whatever its states and line four
pub record Described (o : Order) (places runs : List ℕ) : Type 0 where
  pub n : o.n ≡ length places
  pub supply : o.supply ≡ (λ x. get_or places x 0)
  pub u : o.u ≡ end_u sizes runs
  pub v : o.v ≡ end_v sizes runs

-- its states are those of a list
abbrev pub States : Order → List ℕ → Type 0
States o states = (r : ℕ) → r < o.m → o.state r ≡ get_or states r 0

-- choices that are the same below k choose the same
pub chosen_same : (w b : ℕ → Bool) (k : ℕ) → ((r : ℕ) → r < k → w r ≡ b r) → chosen w k ≡ chosen b k
unfolding chosen
chosen_same w b zero h = refl
chosen_same w b (suc k) h = ap₂ (λ (x : Bool) (L : List ℕ). taken x k L) (h k (omega arith)) (chosen_same w b k (λ r l. h r (omega arith)))
