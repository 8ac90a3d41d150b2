-- When a possible run is struck or pinned, by theorem 1 for the form with the run fixed, and with it struck.
use Rattle.std.specs.Prelude.{ℕ, ◌<◌, ◌≡◌}
use Rattle.wirings.specs.Wiring.{Order, Joined, Fed}

-- the unstruck runs other than e
abbrev pub Others : Order → ℕ → ℕ → Type 0
Others o e r = (r < o.m) × (0 < o.state r) × (r ≡ e → ⊥)

-- what kind of bridge run e is: 0 where other unstruck runs join its ends; else 1 where both sides hold a supply, 2 where one does not
pub data Bridge (o : Order) (e kind : ℕ) : Type 0 where
  bypassed : Joined o (Others o e) (o.u e) (o.v e) → kind ≡ 0 → Bridge o e kind
  supplied : (Joined o (Others o e) (o.u e) (o.v e) → ⊥) → Fed o (Others o e) (o.u e) → Fed o (Others o e) (o.v e) → kind ≡ 1 → Bridge o e kind
  bare : (Joined o (Others o e) (o.u e) (o.v e) → ⊥) → (Fed o (Others o e) (o.u e) → Fed o (Others o e) (o.v e) → ⊥) → kind ≡ 2 → Bridge o e kind
