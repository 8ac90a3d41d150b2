-- A run pinned or struck on the form: its lawful wirings are those that use the run, or do not.
use Rattle.std.specs.Prelude.{ℕ, ◌≡◌}
use Rattle.std.proofs.Math.Decide.{ℕ_discrete}
use Rattle.wirings.specs.Wiring.{Order}

-- f with another value at e
unfoldable pub put : ℕ → ℕ → (ℕ → ℕ) → ℕ → ℕ
put e s f r = elim (ℕ_discrete r e) [ yes _ ↦ s | no _ ↦ f r ]

-- the order with another state for run e
abbrev pub marked : ℕ → ℕ → Order → Order
marked e s o = record { n = o.n; m = o.m; supply = o.supply; u = o.u; v = o.v; state = put e s o.state; low = o.low; high = o.high }

-- every state of the marked order is the old one, or s at e
pub data At (o : Order) (e s r state : ℕ) : Type 0 where
  same : r ≡ e → state ≡ s → At o e s r state
  other : (r ≡ e → ⊥) → state ≡ o.state r → At o e s r state
