-- § 1.2: the form on file, where each part stands, and what a run's record holds.
use Rattle.std.specs.Prelude.{ℕ, ◌+◌, ◌-◌, ◌*◌, ◌/◌, ◌%◌, List, [], ◌∷◌, ◌++◌, ◌≡◌, length, get_or, take, drop}

-- the sizes that the layout is made of, in bytes: the table of contents, and one run
pub record Sizes : Type 0 where
  pub contents : ℕ
  pub run : ℕ

abbrev pub sizes : Sizes
sizes = record { contents = 20; run = 5 }

-- the 16 bits at i, the low byte first
abbrev pub word : List ℕ → ℕ → ℕ
word s i = get_or s i 0 + 256 * get_or s (i + 1) 0

-- a number as 16 bits, the low byte first
abbrev pub bytes : ℕ → List ℕ
bytes x = x % 256 ∷ x / 256 ∷ []

-- the len bytes of s from start on
abbrev pub part : List ℕ → ℕ → ℕ → List ℕ
part s start len = take len (drop start s)

module _ (z : Sizes) where
  -- with n places and m runs: where the runs start, where line four stands, and the length of the form
  abbrev pub runs_at : ℕ → ℕ
  runs_at n = z.contents + n

  abbrev pub line_at : ℕ → ℕ → ℕ
  line_at n m = runs_at n + z.run * m

  abbrev pub length_of : ℕ → ℕ → ℕ
  length_of n m = line_at n m + 4

  -- how many runs the bytes of a run section hold, a torn last one counted
  abbrev pub runs_in : List ℕ → ℕ
  runs_in runs = (length runs + (z.run - 1)) / z.run

  -- run r of a run section: its ends and its state
  abbrev pub end_u : List ℕ → ℕ → ℕ
  end_u runs r = word runs (z.run * r)

  abbrev pub end_v : List ℕ → ℕ → ℕ
  end_v runs r = word runs (z.run * r + 2)

  abbrev pub state_of : List ℕ → ℕ → ℕ
  state_of runs r = get_or runs (z.run * r + 4) 0

-- what run r of a run section shows
pub record Shows (z : Sizes) (runs : List ℕ) (r u v state : ℕ) : Type 0 where
  pub one : u ≡ end_u z runs r
  pub other : v ≡ end_v z runs r
  pub mark : state ≡ state_of z runs r

-- § 1.1: what a form says, a byte for each place, the records of its runs, and line four
pub record Fields : Type 0 where
  pub places : List ℕ
  pub runs : List ℕ
  pub low : ℕ
  pub high : ℕ

-- the length of the form that these fields make
abbrev pub length_for : Sizes → Fields → ℕ
length_for z f = length_of z (length f.places) (runs_in z f.runs)

-- an entry of the table of contents: kind, offset, number of records
abbrev pub entry : ℕ → ℕ → ℕ → List ℕ
entry kind offset records = bytes kind ++ bytes offset ++ bytes records

abbrev pub contents : Sizes → ℕ → ℕ → List ℕ
contents z n m = bytes 3 ++ entry 1 z.contents n ++ entry 2 (runs_at z n) m ++ entry 3 (line_at z n m) 1

abbrev pub line_four_bytes : ℕ → ℕ → List ℕ
line_four_bytes low high = bytes low ++ bytes high

-- the bytes on file
abbrev pub image : Sizes → Fields → List ℕ
image z f =
    contents z (length f.places) (runs_in z f.runs) ++ f.places ++ f.runs ++ line_four_bytes f.low f.high

-- a lent buffer with xs written at its start, or from at on, and the rest kept
abbrev pub over : {A : Type 0} → List A → List A → List A
over xs before = xs ++ drop (length xs) before

abbrev pub over_at : {A : Type 0} → ℕ → List A → List A → List A
over_at at xs before = take at before ++ (xs ++ drop (at + length xs) before)
