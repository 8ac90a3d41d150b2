-- What the routine for the first wiring and its parts promise.
use Rattle.std.specs.Prelude.{ℕ, min, max, ◌+◌, ◌≤◌, ◌<◌, Bool, List, ◌≡◌, get_or}
use Rattle.pieces.specs.Holds.{Holds, Tells}
use Rattle.wirings.specs.Chosen.{flagged}
use Rattle.wirings.specs.Labels.{label}
use Rattle.wirings.specs.Limits.{fixed_runs}
use Rattle.wirings.specs.OfForm.{Described, States}
use Rattle.wirings.specs.Scan.{Scan, Goes}
use Rattle.wirings.specs.Theorem1.{Names}
use Rattle.wirings.specs.Wiring.{Order}

-- the scan in listed order from the fixed runs with some joins to spare: the runs taken, by a byte each, and the labels they give
pub record Scanned (o : Order) (spare : ℕ) (used labels : List ℕ) : Type 0 where
  pub end : Scan
  pub goes : Goes o (λ j. j) (record { taken = fixed_runs o; spare = spare }) o.m end
  pub names : Names o (flagged used) end.taken
  pub bits : (r : ℕ) → get_or used r 0 ≤ 1
  pub holds : Holds (label o end.taken) labels

-- for whatever order these places, runs and states describe, where the flags mark its fixed runs
abbrev pub Scans : List ℕ → List ℕ → List ℕ → ℕ → ℕ → List ℕ → List ℕ → Type 0
Scans places runs states m spare used labels =
    (o : Order) → Described o places runs → o.m ≡ m → States o states → Scanned o spare used labels

-- ---- the parts
-- flags mark those of the first k runs that are fixed
pub record Flags (states : List ℕ) (k : ℕ) (flags : List ℕ) : Type 0 where
  pub bits : (r : ℕ) → get_or flags r 0 ≤ 1
  pub only : (r : ℕ) → 0 < get_or flags r 0 → (r < k) × (get_or states r 0 ≡ 2)
  pub all : (r : ℕ) → r < k → get_or states r 0 ≡ 2 → 0 < get_or flags r 0

-- the smaller of two labels gets what both had
pub record Gets (a b : ℕ) (f g : ℕ → ℕ) : Type 0 where
  pub low : g (min a b) ≡ f (min a b) + f (max a b)
  pub high : g (max a b) ≡ 0
  pub other : (x : ℕ) → (x ≡ min a b → ⊥) → (x ≡ max a b → ⊥) → g x ≡ f x

-- so do flags that tell which labels have any
abbrev pub Merges : List Bool → ℕ → ℕ → List Bool → Type 0
Merges fed a b after = (f g : ℕ → ℕ) → Gets a b f g → Tells f fed → Tells g after
