-- § 2.1: the paper's table of refusals, as a list of rows in the order of their numbers.
use Rattle.std.specs.Prelude.{ℕ, ◌≤◌, ◌<◌, Bool, true, false, List, [], ◌∷◌, ◌⊎◌, ◌≡◌, Option, unwrap_or, IfSome}

-- k is the first number below n that is not good, or n where all are
pub record First (good : ℕ → Type 0) (n k : ℕ) : Type 0 where
  pub within : k ≤ n
  pub before : (j : ℕ) → j < k → good j
  pub found : k < n → good k → ⊥

-- what a search returns: the first number below n that is not good, or none where all are
pub record Finds (good : ℕ → Type 0) (n : ℕ) (r : Option ℕ) : Type 0 where
  pub first : First good n (unwrap_or r n)
  pub inside : IfSome r (λ k. k < n)

-- a search that came to k has found all before it good
pub record Going (good : ℕ → Type 0) (n k : ℕ) : Type 0 where
  pub within : k ≤ n
  pub before : (j : ℕ) → j < k → good j

-- a row: its number, how many places it looks at, and what must hold of each
pub record Row : Type 1 where
  pub number : ℕ
  pub count : ℕ
  pub good : ℕ → Type 0

-- a row that asks one thing of each place, or of each run
abbrev pub each : ℕ → ℕ → (ℕ → Type 0) → Row
each number count good = record { number = number; count = count; good = good }

-- a row that asks one thing of the whole form: its place is 0
abbrev pub whole : ℕ → Type 0 → Row
whole number fact = each number 1 (λ _. fact)

-- k is the row's first fault
abbrev pub Fault : Row → ℕ → Type 0
Fault row k = First row.good row.count k × (k < row.count)

-- the row has no fault
abbrev pub Clear : Row → Type 0
Clear row = First row.good row.count row.count

-- the first row that has a fault refuses with its number, at its first fault; where none has, `K` says what comes out
abbrev pub Outcome : {R : Type 0} → (ℕ → ℕ → R) → List Row → (R → Type 0) → R → Type 0
Outcome refusal [] K r = K r
Outcome refusal (row ∷ rows) K r =
    ((k : ℕ) × Fault row k × (r ≡ refusal row.number k)) ⊎ (Clear row × Outcome refusal rows K r)

-- no row has a fault
abbrev pub Clears : List Row → Type 0
Clears [] = Unit {0}
Clears (row ∷ rows) = Clear row × Clears rows

-- the table refuses with a number at a place: no row before has a fault, and this is the first of the row with that number
abbrev pub Refuses : List Row → ℕ → ℕ → Type 0
Refuses [] number place = ⊥
Refuses (row ∷ rows) number place = ((number ≡ row.number) × Fault row place) ⊎ (Clear row × Refuses rows number place)

-- what a contract promises of r
pub record Settled {R : Type 0} (refusal : ℕ → ℕ → R) (rows : List Row) (K : R → Type 0) (r : R) : Type 0 where
  pub outcome : Outcome refusal rows K r

-- a test: yes with what it tests, no with its refutation
pub data Decides (P : Type 0) : Bool → Type 0 where
  holds : P → Decides P true
  fails : (P → ⊥) → Decides P false
