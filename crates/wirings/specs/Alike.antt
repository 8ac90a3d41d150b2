-- Two orders with the same places, supplies and run ends: what is said of a wiring on one holds on the other.
use Rattle.std.specs.Prelude.{ℕ, ◌≡◌}
use Rattle.wirings.specs.Wiring.{Order}

pub record Alike (o p : Order) : Type 0 where
  pub n : o.n ≡ p.n
  pub m : o.m ≡ p.m
  pub supply : (x : ℕ) → o.supply x ≡ p.supply x
  pub u : (r : ℕ) → o.u r ≡ p.u r
  pub v : (r : ℕ) → o.v r ≡ p.v r
