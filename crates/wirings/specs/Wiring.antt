-- A lawful wiring, said of the wiring alone.
use Rattle.std.specs.Prelude.{ℕ, suc, ◌+◌, ◌≤◌, ◌<◌, Bool, true, List, ◌≡◌, length, get_or}

-- § 1.1, § 1.3: what a form says, by number: n places and which hold a supply (1); m runs, their ends and states (0 struck, 1 possible, 2 fixed); line four
pub record Order : Type 0 where
  pub n : ℕ
  pub m : ℕ
  pub supply : ℕ → ℕ
  pub u : ℕ → ℕ
  pub v : ℕ → ℕ
  pub state : ℕ → ℕ
  pub low : ℕ
  pub high : ℕ

-- § 3.1: a wiring names the runs that it uses
abbrev pub Wiring : Type 0
Wiring = ℕ → Bool

abbrev pub Used : Order → Wiring → ℕ → Type 0
Used o w r = (r < o.m) × (w r ≡ true)

-- run r leads from x to y, one way or the other
pub data Leads (o : Order) (r x y : ℕ) : Type 0 where
  along : o.u r ≡ x → o.v r ≡ y → Leads o r x y
  back : o.v r ≡ x → o.u r ≡ y → Leads o r x y

-- § 3.2: x and y are joined by runs of a set
pub data Joined (o : Order) (Q : ℕ → Type 0) (x : ℕ) : ℕ → Type 0 where
  here : Joined o Q x x
  on : {y z : ℕ} → Joined o Q x y → (r : ℕ) → Q r → Leads o r y z → Joined o Q x z

-- § 3.2: x is the smallest place of its segment, the places that are joined with it
abbrev pub Smallest : Order → (ℕ → Type 0) → ℕ → Type 0
Smallest o Q x = (y : ℕ) → y < x → Joined o Q x y → ⊥

-- k of the numbers below n have a property
pub data Counts (P : ℕ → Type 0) : ℕ → ℕ → Type 0 where
  none : Counts P 0 0
  one : {n k : ℕ} → Counts P n k → P n → Counts P (suc n) (suc k)
  skip : {n k : ℕ} → Counts P n k → (P n → ⊥) → Counts P (suc n) k

-- § 3.2: the number of segments; each has one smallest place
abbrev pub Segments : Order → Wiring → ℕ → Type 0
Segments o w k = Counts (Smallest o (Used o w)) o.n k

-- § 3.3: a closed way through three or more different places along different runs of a set: run i leads from place i to the next, the last back to the first
pub record Loop (o : Order) (Q : ℕ → Type 0) : Type 0 where
  pub places : List ℕ
  pub runs : List ℕ
  pub three : 3 ≤ length places
  pub as_many : length runs ≡ length places
  pub of_set : (i : ℕ) → i < length runs → Q (get_or runs i 0)
  pub leads : (i : ℕ) → i + 1 < length places → Leads o (get_or runs i 0) (get_or places i 0) (get_or places (i + 1) 0)
  pub closes : (i : ℕ) → i + 1 ≡ length places → Leads o (get_or runs i 0) (get_or places i 0) (get_or places 0 0)
  pub places_differ : (i j : ℕ) → i < j → j < length places → get_or places i 0 ≡ get_or places j 0 → ⊥
  pub runs_differ : (i j : ℕ) → i < j → j < length runs → get_or runs i 0 ≡ get_or runs j 0 → ⊥

-- § 3.4: x is joined with a supply
pub record Fed (o : Order) (Q : ℕ → Type 0) (x : ℕ) : Type 0 where
  pub at : ℕ
  pub place : at < o.n
  pub supplied : o.supply at ≡ 1
  pub joined : Joined o Q x at

-- § 3.4: every fixed run is used and no struck one, there is no loop, each segment holds a supply, and the number of segments lies from low to high
pub record Lawful (o : Order) (w : Wiring) : Type 0 where
  pub fixed : (r : ℕ) → r < o.m → o.state r ≡ 2 → w r ≡ true
  pub struck : (r : ℕ) → r < o.m → o.state r ≡ 0 → w r ≡ true → ⊥
  pub no_loop : Loop o (Used o w) → ⊥
  pub fed : (x : ℕ) → x < o.n → Fed o (Used o w) x
  pub count : ℕ
  pub counted : Segments o w count
  pub enough : o.low ≤ count
  pub few : count ≤ o.high
