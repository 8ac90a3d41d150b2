-- Amendments, the wirings that obey them, and the form with amendments written in.
use Rattle.std.specs.Prelude.{ℕ, min, max, ◌≤◌, ◌<◌, true, List, [], ◌∷◌, ◌≡◌}
use Rattle.wirings.specs.Amended.{marked}
use Rattle.wirings.specs.Same.{confirmed}
use Rattle.wirings.specs.Wiring.{Order, Wiring, Segments}

-- § 8.1: an amendment pins a run, strikes a run, or narrows the number of segments to a..b
pub data Amendment : Type 0 where
  pin : ℕ → Amendment
  strike : ℕ → Amendment
  narrow : ℕ → ℕ → Amendment

-- § 8.1: not refused with 12 or 13
abbrev pub WellFormed : Order → Amendment → Type 0
WellFormed o (pin r) = r < o.m
WellFormed o (strike r) = r < o.m
WellFormed o (narrow a b) = a ≤ b

abbrev pub AllWellFormed : Order → List Amendment → Type 0
AllWellFormed o [] = Unit {0}
AllWellFormed o (a ∷ L) = WellFormed o a × AllWellFormed o L

-- § 8.2: a wiring obeys an amendment, said of the wiring alone
abbrev pub Obeys : Order → Wiring → Amendment → Type 0
Obeys o w (pin r) = w r ≡ true
Obeys o w (strike r) = w r ≡ true → ⊥
Obeys o w (narrow a b) = (k : ℕ) × Segments o w k × (a ≤ k) × (k ≤ b)

abbrev pub ObeysAll : Order → Wiring → List Amendment → Type 0
ObeysAll o w [] = Unit {0}
ObeysAll o w (a ∷ L) = Obeys o w a × ObeysAll o w L

-- § 8.3: the form with an amendment written in, the run fixed, or struck; of line four the larger low and the smaller high
abbrev pub amended : Amendment → Order → Order
amended (pin r) o = marked r 2 o
amended (strike r) o = marked r 0 o
amended (narrow a b) o = confirmed o o.state (max o.low a) (min o.high b)

-- § 8.5: all of them written in
abbrev pub written_in : List Amendment → Order → Order
written_in [] o = o
written_in (a ∷ L) o = written_in L (amended a o)

-- § 8.3: the amendment pins a struck run, or strikes a fixed one
abbrev pub Clash : Order → Amendment → Type 0
Clash o (pin r) = o.state r ≡ 0
Clash o (strike r) = o.state r ≡ 2
Clash o (narrow a b) = ⊥

-- ---- § 8.5: the list in another order
pub data Permuted : List Amendment → List Amendment → Type 0 where
  empty : Permuted [] []
  ahead : {a : Amendment} {L K : List Amendment} → Permuted L K → Permuted (a ∷ L) (a ∷ K)
  swapped : {a b : Amendment} {L : List Amendment} → Permuted (a ∷ b ∷ L) (b ∷ a ∷ L)
  twice : {L K J : List Amendment} → Permuted L K → Permuted K J → Permuted L J
