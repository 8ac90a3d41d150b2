-- A confirmation goes by the lawful wirings alone: the same wirings, the same confirmation; confirming keeps the wirings; confirming twice changes nothing.
use Rattle.std.specs.Prelude.{ℕ, ◌<◌, true, false, ◌≡◌}
use Rattle.wirings.specs.Alike.{Alike}
use Rattle.wirings.specs.Confirmed.{Never, Always, Some}
use Rattle.wirings.specs.Wiring.{Order, Wiring, Lawful}

-- ---- a mark by the lawful wirings alone, whatever the state was
pub data Marked (o : Order) (r state : ℕ) : Type 0 where
  never : Never o r → state ≡ 0 → Marked o r state
  always : Always o r → state ≡ 2 → Marked o r state
  either : Some o r true → Some o r false → state ≡ 1 → Marked o r state

-- two orders have the same lawful wirings
pub record Agree (o p : Order) : Type 0 where
  pub alike : Alike o p
  pub to : (w : Wiring) → Lawful o w → Lawful p w
  pub from : (w : Wiring) → Lawful p w → Lawful o w

-- ---- the same wirings, the same confirmation
pub record Equal (o : Order) (state state' : ℕ → ℕ) (low low' high high' : ℕ) (w w' : Wiring) (segment segment' : ℕ → ℕ) : Type 0 where
  pub states : (r : ℕ) → r < o.m → state r ≡ state' r
  pub lows : low ≡ low'
  pub highs : high ≡ high'
  pub wirings : (r : ℕ) → r < o.m → w r ≡ w' r
  pub segments : (x : ℕ) → x < o.n → segment x ≡ segment' x

-- ---- confirming keeps the wirings
abbrev pub confirmed : Order → (ℕ → ℕ) → ℕ → ℕ → Order
confirmed o state low high = record { n = o.n; m = o.m; supply = o.supply; u = o.u; v = o.v; state = state; low = low; high = high }
