-- What the parts of the routine promise.
use Rattle.std.specs.Prelude.{ℕ, ◌≤◌, ◌<◌, Bool, true, false, List, ◌↔◌, ◌≡◌, length, get_or}
use Rattle.bridges.specs.Climbed.{Marked, Climbed}
use Rattle.bridges.specs.declared.Kind.{Kind}
use Rattle.bridges.specs.declared.Kind.TheVariants.{Bypassed, Supplied, Bare}
use Rattle.forest.specs.Grown.{Grown, Outside}
use Rattle.forest.specs.Parts.{Ranked}
use Rattle.bridges.specs.Supplied.{Feeding}
use Rattle.pieces.specs.Holds.{at}
use Rattle.wirings.specs.Wiring.{Order, Joined}

-- a forest with these ranks and ways, in which runs outside it join u and v
pub record Crossed (rank up : List ℕ) (u v : ℕ) (o : Order) (via : ℕ → ℕ) : Type 0 where
  pub grown : Grown o (at rank) (at up) via
  pub few : o.n ≤ 256
  pub one : u < o.n
  pub other : v < o.n
  pub joined : Joined o (Outside o via) u v

abbrev pub Climbable : List ℕ → List ℕ → ℕ → ℕ → Type 0
Climbable rank up u v = (o : Order) × (via : ℕ → ℕ) × Crossed rank up u v o via

abbrev pub Climbs : List ℕ → List ℕ → ℕ → ℕ → List Bool → List Bool → Type 0
Climbs rank up u v before after = (o : Order) (via : ℕ → ℕ) → Crossed rank up u v o via → Climbed o (at rank) (at up) via u v before after

-- which of the first k places hold a supply, in an array for 256
pub record Supplies (places : List ℕ) (k : ℕ) (array : List Bool) : Type 0 where
  pub size : length array ≡ 256
  pub says : (y : ℕ) → y < k → Marked array y ↔ (at places y ≡ 1)

-- which places have a supply under them, for whatever forest has these ways
pub record Feedable (n : ℕ) (order up via : List ℕ) (m : ℕ) : Type 0 where
  pub few : n ≤ 256
  pub places : (k : ℕ) → k < n → at order k < n
  pub ups : (x : ℕ) → x < n → at via x < m → at up x < n

pub record Of (places order up via : List ℕ) (m : ℕ) (o : Order) (rank : List ℕ) : Type 0 where
  pub grown : Grown o (at rank) (at up) (at via)
  pub ranked : Ranked (length places) order rank
  pub as_many : o.n ≡ length places
  pub as_runs : o.m ≡ m
  pub supply : (y : ℕ) → o.supply y ≡ at places y

abbrev pub Feeds : List ℕ → List ℕ → List ℕ → List ℕ → ℕ → List Bool → Type 0
Feeds places order up via m fed = (o : Order) (rank : List ℕ) → Of places order up via m o rank → Feeding o (at rank) (at up) (at via) fed 0

-- the kind of the run to a place, by whether it was passed and whether a supply lies under it
pub data Ruled (passed fed : Bool) : Kind → Type 0 where
  round : passed ≡ true → Ruled passed fed Bypassed
  supplied : passed ≡ false → fed ≡ true → Ruled passed fed Supplied
  bare : passed ≡ false → fed ≡ false → Ruled passed fed Bare

-- the first i places have told the kinds of their runs
pub record Told (via : List ℕ) (passed fed : List Bool) (m i : ℕ) (kinds : List Kind) : Type 0 where
  pub size : length kinds ≡ 1024
  pub way : (x : ℕ) → x < i → at via x < m → ((y : ℕ) → y < i → at via y ≡ at via x → y ≡ x) → Ruled (get_or passed x false) (get_or fed x false) (get_or kinds (at via x) Bypassed)
  pub rest : (r : ℕ) → ((x : ℕ) → x < i → at via x ≡ r → ⊥) → get_or kinds r Bypassed ≡ Bypassed

abbrev pub Concluded : List ℕ → List Bool → List Bool → ℕ → ℕ → List Kind → Type 0
Concluded via passed fed n m kinds = Told via passed fed m n kinds
