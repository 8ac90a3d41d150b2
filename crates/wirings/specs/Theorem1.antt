-- Theorem 1 of the paper: a lawful wiring exists exactly if the fixed runs have no loop, each component over unstruck runs holds a supply, and low..high meets MIN..MAX;
-- and then there is one of every count that lies in both.
use Rattle.std.specs.Prelude.{ℕ, ◌-◌, ◌≤◌, ◌<◌, true, List, [], ◌∷◌, ◌≡◌}
use Rattle.answer.specs.Table.{Row, each, whole}
use Rattle.wirings.specs.Counted.{comps}
use Rattle.wirings.specs.Forest.{Forest}
use Rattle.wirings.specs.Labels.{In}
use Rattle.wirings.specs.Limits.{Unstruck, fixed_runs, unstruck_runs, least, most}
use Rattle.wirings.specs.Scan.{Scan}
use Rattle.wirings.specs.Wiring.{Order, Wiring, Joined, Fed}

-- ---- § 5.1: the three conditions, in words
-- earlier fixed runs do not join the ends of run r, if it is fixed
abbrev pub Opens : Order → ℕ → Type 0
Opens o r = o.state r ≡ 2 → Joined o (λ j. (j < r) × (o.state j ≡ 2)) (o.u r) (o.v r) → ⊥

-- unstruck runs join x with a supply
abbrev pub Reached : Order → ℕ → Type 0
Reached o x = Fed o (Unstruck o) x

pub record Meets (o : Order) : Type 0 where
  pub open' : (r : ℕ) → r < o.m → Opens o r
  pub fed : (x : ℕ) → x < o.n → Reached o x
  pub few : least o ≤ o.high
  pub enough : o.low ≤ most o

-- a wiring uses exactly the runs of a list
pub record Names (o : Order) (w : Wiring) (L : List ℕ) : Type 0 where
  pub only : (r : ℕ) → r < o.m → w r ≡ true → In L r
  pub all : (r : ℕ) → In L r → w r ≡ true

-- an order of the runs in which every possible one comes up
pub record Covers (o : Order) (c : ℕ → ℕ) : Type 0 where
  pub all : (j : ℕ) → j < o.m → c j < o.m
  pub every : (r : ℕ) → r < o.m → o.state r ≡ 1 → (j : ℕ) × (j < o.m) × (c j ≡ r)

-- a scan for k segments starts with the fixed runs, and may join as many supplied pieces as are above k
abbrev pub start : Order → ℕ → Scan
start o k = record { taken = fixed_runs o; spare = most o - k }

pub record Ends (o : Order) (k : ℕ) (s : Scan) : Type 0 where
  pub forest : Forest o s.taken
  pub more : (r : ℕ) → In (fixed_runs o) r → In s.taken r
  pub less : (r : ℕ) → In s.taken r → In (unstruck_runs o) r
  pub fed : (x : ℕ) → x < o.n → Fed o (In s.taken) x
  pub count : comps o s.taken ≡ k

-- ---- § 2.2: the conditions as rows of the paper's table
-- 11: low..high meets MIN..MAX
pub record Met (o : Order) : Type 0 where
  pub few : least o ≤ o.high
  pub enough : o.low ≤ most o

-- 9: no fixed run closes a loop with earlier ones. 10: each place is joined with a supply by unstruck runs
abbrev pub order_rows : Order → List Row
order_rows o = each 9 o.m (Opens o) ∷ each 10 o.n (Reached o) ∷ whole 11 (Met o) ∷ []
