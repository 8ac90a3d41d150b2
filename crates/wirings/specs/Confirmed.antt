-- The confirmed form and the first wiring, said of the lawful wirings alone.
use Rattle.std.specs.Prelude.{ℕ, ◌≤◌, ◌<◌, Bool, true, false, ◌≡◌}
use Rattle.wirings.specs.Wiring.{Order, Wiring, Used, Joined, Counts, Segments, Lawful}

-- no lawful wiring uses run r; every one does; one does, or one does not
abbrev pub Never : Order → ℕ → Type 0
Never o r = (w : Wiring) → Lawful o w → w r ≡ true → ⊥

abbrev pub Always : Order → ℕ → Type 0
Always o r = (w : Wiring) → Lawful o w → w r ≡ true

abbrev pub Some : Order → ℕ → Bool → Type 0
Some o r b = (w : Wiring) × Lawful o w × (w r ≡ b)

-- § 4.1: the confirmed state of run r. A possible run is struck if no lawful wiring uses it, fixed if every one does, else it stays; the others keep their state
pub data Mark (o : Order) (r state : ℕ) : Type 0 where
  kept : (o.state r ≡ 1 → ⊥) → state ≡ o.state r → Mark o r state
  struck : o.state r ≡ 1 → Never o r → state ≡ 0 → Mark o r state
  pinned : o.state r ≡ 1 → Always o r → state ≡ 2 → Mark o r state
  stays : o.state r ≡ 1 → Some o r true → Some o r false → state ≡ 1 → Mark o r state

-- § 4.2: the least, and the greatest, number of segments of a lawful wiring
pub record Lowest (o : Order) (k : ℕ) : Type 0 where
  pub by : Wiring
  pub lawful : Lawful o by
  pub counted : Segments o by k
  pub all : (w : Wiring) (h : Lawful o w) → k ≤ h.count

pub record Highest (o : Order) (k : ℕ) : Type 0 where
  pub by : Wiring
  pub lawful : Lawful o by
  pub counted : Segments o by k
  pub all : (w : Wiring) (h : Lawful o w) → h.count ≤ k

-- § 4.3: the first wiring, among the lawful wirings with the greatest count it uses the first run at which it differs from any other
pub record FirstWiring (o : Order) (w : Wiring) : Type 0 where
  pub count : ℕ
  pub highest : Highest o count
  pub lawful : Lawful o w
  pub counted : Segments o w count
  pub first : (b : Wiring) → Lawful o b → Segments o b count → (i : ℕ) → i < o.m → ((j : ℕ) → j < i → w j ≡ b j) → (w i ≡ b i → ⊥) → w i ≡ true

-- § 4.4: the segment number of place x, the smallest place of its segment
pub record SegmentNumber (o : Order) (w : Wiring) (x number : ℕ) : Type 0 where
  pub joined : Joined o (Used o w) x number
  pub smallest : (y : ℕ) → Joined o (Used o w) x y → number ≤ y

-- § 4.1 to § 4.5: all of a confirmation, the states, line four, the first wiring and the segment numbers, and how many possible runs were struck and pinned
pub record Confirmed (o : Order) (state : ℕ → ℕ) (low high : ℕ) (w : Wiring) (segment : ℕ → ℕ) (struck pinned : ℕ) : Type 0 where
  pub marks : (r : ℕ) → r < o.m → Mark o r (state r)
  pub lowest : Lowest o low
  pub highest : Highest o high
  pub first : FirstWiring o w
  pub segments : (x : ℕ) → x < o.n → SegmentNumber o w x (segment x)
  pub struck_counted : Counts (λ r. (o.state r ≡ 1) × (state r ≡ 0)) o.m struck
  pub pinned_counted : Counts (λ r. (o.state r ≡ 1) × (state r ≡ 2)) o.m pinned
