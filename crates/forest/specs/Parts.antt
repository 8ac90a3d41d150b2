-- What the growth and its parts promise.
use Rattle.std.specs.Prelude.{ℕ, ◌+◌, ◌*◌, ◌%◌, ◌≤◌, ◌<◌, List, ◌≡◌, length, Option, Some, None}
use Rattle.forest.specs.Links.{Linked}
use Rattle.layout.specs.Layout.{sizes, end_u, end_v}
use Rattle.pieces.specs.Holds.{at, Fits}
use Rattle.wirings.specs.Wiring.{Order}

-- the order that these places, runs and states make; its line four does not matter
abbrev pub order_at : List ℕ → List ℕ → List ℕ → ℕ → Order
order_at places runs states m = record { n = length places; m = m; supply = at places; u = end_u sizes runs; v = end_v sizes runs; state = at states; low = 0; high = 0 }

-- the chains of entries, whichever places the runs fit
abbrev pub Links : List ℕ → List ℕ → ℕ → List ℕ → List ℕ → Type 0
Links runs states m head prev = (places : List ℕ) → Fits places runs m → Linked (order_at places runs states m) head prev (2 * m)

-- the end of a run that is not the one of entry e
pub record Far (e u v z : ℕ) : Type 0 where
  pub even : e % 2 ≡ 0 → z ≡ v
  pub odd : (e % 2 ≡ 0 → ⊥) → z ≡ u

-- candidate i is a place that is not there yet; or none is to be taken
pub data Candidate (places rank : List ℕ) (i : ℕ) : Option ℕ → Type 0 where
  supply : i < length places → at places i ≡ 1 → at rank i ≡ 0 → Candidate places rank i (Some i)
  place : {z : ℕ} → z < length places → length places + z ≡ i → at rank z ≡ 0 → Candidate places rank i (Some z)
  none : (i < length places → at places i ≡ 1 → 0 < at rank i) → ((y : ℕ) → length places + y ≡ i → y < length places → 0 < at rank y) → Candidate places rank i None

-- the places in the order of their ranks
pub record Ranked (n : ℕ) (order rank : List ℕ) : Type 0 where
  pub ordered : (k : ℕ) → k < n → (at order k < n) × (at rank (at order k) ≡ k + 1)
  pub most : (y : ℕ) → y < n → at rank y ≤ n
