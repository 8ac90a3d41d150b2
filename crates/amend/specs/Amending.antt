-- What an amendment promises: the form is filtered, the amendment written in, and the result filtered again.
use Rattle.std.specs.Prelude.{ℕ, min, max, ◌+◌, ◌*◌, ◌≤◌, ◌<◌, List, [], ◌∷◌, ◌++◌, ◌≡◌, get_or, set, Result, Ok, Err}
use Rattle.answer.specs.declared.Counts.{Counts}
use Rattle.answer.specs.declared.Refusal.{Refusal}
use Rattle.answer.specs.declared.Refusal.TheVariants.{NoAmendment, NarrowedToNone, NoWiring}
use Rattle.answer.specs.Reply.{refused, told}
use Rattle.answer.specs.Table.{Row, whole, Settled}
use Rattle.filter.specs.Filtered.{Lent, Left, Accepted, confirmed_fields, filter_rows}
use Rattle.layout.specs.Layout.{sizes, runs_in, Fields, image}
use Rattle.layout.specs.Rows.{fields_of}
use Rattle.wirings.specs.Confirmed.{Confirmed}
use Rattle.wirings.specs.Amendments.{Amendment, pin, strike, narrow, WellFormed, Obeys, Clash}
use Rattle.wirings.specs.OfForm.{order_of}
use Rattle.wirings.specs.Wiring.{Order, Wiring, Lawful}

-- § 8.1: what three numbers say, 1 r 0 pins run r, 2 r 0 strikes it, 3 a b narrows the count to a..b
pub data Says (x y z : ℕ) : Amendment → Type 0 where
  pins : x ≡ 1 → z ≡ 0 → Says x y z (pin y)
  strikes : x ≡ 2 → z ≡ 0 → Says x y z (strike y)
  narrows : x ≡ 3 → Says x y z (narrow y z)

-- the run that an amendment names is one of m
abbrev pub Run : ℕ → Amendment → Type 0
Run m (pin r) = r < m
Run m (strike r) = r < m
Run m (narrow a b) = Unit {0}

-- § 2.2, 12: the numbers say an amendment, of a run that there is
abbrev pub Named : ℕ → ℕ → ℕ → ℕ → Type 0
Named m x y z = (a : Amendment) × Says x y z a × Run m a

-- § 2.2, 13: a narrowing has a count in it
abbrev pub Ordered : ℕ → ℕ → ℕ → Type 0
Ordered x y z = x ≡ 3 → y ≤ z

-- § 2.2, 14: some lawful wiring of the form obeys the amendment
abbrev pub Obeyed : Order → ℕ → ℕ → ℕ → Type 0
Obeyed o x y z = (a : Amendment) × Says x y z a × (w : Wiring) × Lawful o w × Obeys o w a

abbrev pub amend_rows : Fields → ℕ → ℕ → ℕ → List Row
amend_rows f x y z = whole 12 (Named (runs_in sizes f.runs) x y z) ∷ whole 13 (Ordered x y z) ∷ whole 14 (Obeyed (order_of f) x y z) ∷ []

-- § 8.3: a form with an amendment written in, the state of a run, or the larger low and the smaller high
abbrev pub written : Amendment → Fields → Fields
written (pin r) f = record { places = f.places; runs = set f.runs (5 * r + 4) 2; low = f.low; high = f.high }
written (strike r) f = record { places = f.places; runs = set f.runs (5 * r + 4) 0; low = f.low; high = f.high }
written (narrow a b) f = record { places = f.places; runs = f.runs; low = max f.low a; high = min f.high b }

-- § 8.3, § 8.4, accepted: what the filter gives for the confirmed form with the amendment written in
pub record Amended (f : Fields) (x y z : ℕ) (lent : Lent) (left : Left) : Type 0 where
  pub amendment : Amendment
  pub says : Says x y z amendment
  pub state : ℕ → ℕ
  pub low : ℕ
  pub high : ℕ
  pub wiring : Wiring
  pub segment : ℕ → ℕ
  pub struck : ℕ
  pub pinned : ℕ
  pub confirmed : Confirmed (order_of f) state low high wiring segment struck pinned
  pub last : Accepted (written amendment (confirmed_fields f state low high)) lent left

-- § 2.1, § 8.3: numbers 1 to 14 in their order, with the buffers as they were; else the amended form, confirmed
abbrev pub Leaves : List ℕ → ℕ → ℕ → ℕ → Lent → Left → Type 0
Leaves s x y z lent =
    Settled (λ number k. record { reply = refused number k; lent = lent }) (filter_rows s lent ++ amend_rows (fields_of sizes s) x y z) (Amended (fields_of sizes s) x y z lent)

abbrev pub Amends : List ℕ → ℕ → ℕ → ℕ → List ℕ → List ℕ → List ℕ → Result Counts Refusal → List ℕ → List ℕ → List ℕ → Type 0
Amends s x y z form wiring segments r form' wiring' segments' =
    Leaves s x y z (record { form = form; wiring = wiring; segments = segments })
    (record { reply = told r; lent = record { form = form'; wiring = wiring'; segments = segments' } })

-- ---- what writing an amendment into a confirmed form gives: the refusal, or the form with it
pub data WritesIn (g : Fields) (x y z : ℕ) (s : List ℕ) (r : Result (Unit {0}) Refusal) : Type 0 where
  unnamed : r ≡ Err NoAmendment → (Named (runs_in sizes g.runs) x y z → ⊥) → WritesIn g x y z s r
  reversed : r ≡ Err NarrowedToNone → Named (runs_in sizes g.runs) x y z → (Ordered x y z → ⊥) → WritesIn g x y z s r
  clashing : r ≡ Err NoWiring → (a : Amendment) → Says x y z a → WellFormed (order_of g) a → Clash (order_of g) a → WritesIn g x y z s r
  done : r ≡ Ok tt → (a : Amendment) → Says x y z a → WellFormed (order_of g) a → (Clash (order_of g) a → ⊥) → s ≡ image sizes (written a g) → WritesIn g x y z s r

-- a state is written, unless the other one stands there
pub data Marks (s : List ℕ) (at other state : ℕ) (s' : List ℕ) (r : Result (Unit {0}) Refusal) : Type 0 where
  stood : r ≡ Err NoWiring → get_or s at 0 ≡ other → Marks s at other state s' r
  put : r ≡ Ok tt → (get_or s at 0 ≡ other → ⊥) → s' ≡ set s at state → Marks s at other state s' r
