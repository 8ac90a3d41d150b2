-- What the arrays of the piece finder hold.
use Rattle.std.specs.Prelude.{ℕ, ◌*◌, ◌≤◌, ◌<◌, Bool, false, ltb, List, ◌≡◌, length, get_or}
use Rattle.std.proofs.Common.{arith}
use Rattle.layout.specs.Layout.{sizes, end_u, end_v}
use Rattle.wirings.specs.Chosen.{chosen, flagged}
use Rattle.wirings.specs.Labels.{labels}

-- an array of labels as a function of the place
abbrev pub at : List ℕ → ℕ → ℕ
at array x = get_or array x 0

-- the first 256 of an array are what a function says
pub record Holds (f : ℕ → ℕ) (array : List ℕ) : Type 0 where
  pub size : length array ≡ 256
  pub says : (x : ℕ) → x < 256 → at array x ≡ f x

-- an array of flags as a function of the place
abbrev pub has : List Bool → ℕ → Bool
has flags x = get_or flags x false

-- the first 256 flags of an array tell where a function is above 0
pub record Tells (f : ℕ → ℕ) (flags : List Bool) : Type 0 where
  pub size : length flags ≡ 256
  pub says : (x : ℕ) → x < 256 → has flags x ≡ ltb 0 (f x)

-- the ends of the first m runs are below 256, and their records are there
pub record Ended (runs : List ℕ) (m : ℕ) : Type 0 where
  pub there : 5 * m ≤ length runs
  pub one : (r : ℕ) → r < m → end_u sizes runs r < 256
  pub other : (r : ℕ) → r < m → end_v sizes runs r < 256

-- the labels that the chosen ones of the first k runs give
abbrev pub labels_of : List ℕ → List ℕ → ℕ → ℕ → ℕ
labels_of runs flags k = labels (end_u sizes runs) (end_v sizes runs) (chosen (flagged flags) k)

-- run r is chosen only if earlier chosen runs do not join its ends
abbrev pub Opens : List ℕ → List ℕ → ℕ → Type 0
Opens runs flags r = 0 < get_or flags r 0 → labels_of runs flags r (end_u sizes runs r) ≡ labels_of runs flags r (end_v sizes runs r) → ⊥

-- the records of m runs are there, at most 1,024, with both ends among at most 256 places, each of which says 0 or 1
pub record Fits (places runs : List ℕ) (m : ℕ) : Type 0 where
  pub few : m ≤ 1024
  pub small : length places ≤ 256
  pub bit : (x : ℕ) → get_or places x 0 ≤ 1
  pub there : 5 * m ≤ length runs
  pub one : (r : ℕ) → r < m → end_u sizes runs r < length places
  pub other : (r : ℕ) → r < m → end_v sizes runs r < length places

pub fits_ended : {places runs : List ℕ} {m : ℕ} → Fits places runs m → Ended runs m
fits_ended f = record { there = f.there; one = λ r l. omega (arith, f.one r l, f.small); other = λ r l. omega (arith, f.other r l, f.small) }
