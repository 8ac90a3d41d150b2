-- § 2.2: numbers 1 to 8 of the paper's table, what each asks, in the order of the numbers.
use Rattle.std.specs.Prelude.{ℕ, ◌+◌, ◌*◌, ◌≤◌, ◌<◌, List, [], ◌∷◌, ◌++◌, ◌≡◌, length, get_or}
use Rattle.answer.specs.Table.{Row, each, whole}
use Rattle.layout.specs.Layout.{Sizes, word, part, runs_at, line_at, length_of, runs_in, end_u, end_v, state_of, Fields, length_for}

-- 1: the table of contents is there, with three entries, of the kinds 1, 2 and 3, and line four has one record
pub record Listed (z : Sizes) (s : List ℕ) : Type 0 where
  pub there : z.contents ≤ length s
  pub entries : word s 0 ≡ 3
  pub places : word s 2 ≡ 1
  pub runs : word s 8 ≡ 2
  pub line : word s 14 ≡ 3
  pub single : word s 18 ≡ 1

-- 2: 1 to 256 places, and at most 1,024 runs
pub record Numbers (n m : ℕ) : Type 0 where
  pub some : 0 < n
  pub places : n ≤ 256
  pub runs : m ≤ 1024

-- 3: the offsets and the length are those of the layout
pub record Laid (z : Sizes) (s : List ℕ) (n m : ℕ) : Type 0 where
  pub places : word s 4 ≡ z.contents
  pub runs : word s 10 ≡ runs_at z n
  pub line : word s 16 ≡ line_at z n m
  pub total : length s ≡ length_of z n m

-- 4: a place says 0 or 1
abbrev pub Place : List ℕ → ℕ → Type 0
Place places k = get_or places k 0 ≤ 1

-- 5: a run's record is whole, u < v < n, and its state is 0, 1 or 2
pub record Good (z : Sizes) (n : ℕ) (runs : List ℕ) (r : ℕ) : Type 0 where
  pub there : z.run * r + z.run ≤ length runs
  pub order : end_u z runs r < end_v z runs r
  pub place : end_v z runs r < n
  pub state : state_of z runs r ≤ 2

-- two runs name different pairs of ends
abbrev pub Apart : Sizes → List ℕ → ℕ → ℕ → Type 0
Apart z runs r j = end_u z runs j ≡ end_u z runs r → end_v z runs j ≡ end_v z runs r → ⊥

-- 6: no earlier run names the run's pair of ends
abbrev pub Fresh : Sizes → List ℕ → ℕ → Type 0
Fresh z runs r = (j : ℕ) → j < r → Apart z runs r j

-- 4 to 7, of n places and m runs
abbrev pub field_rows : Sizes → ℕ → ℕ → Fields → List Row
field_rows z n m f =
    each 4 n (Place f.places)
    ∷ each 5 m (Good z n f.runs)
    ∷ each 6 m (Fresh z f.runs)
    ∷ whole 7 (f.low ≤ f.high)
    ∷ []

-- what the writer asks of its fields, before it looks at the buffer
abbrev pub sound_rows : Sizes → Fields → List Row
sound_rows z f =
    let n = length f.places in let m = runs_in z f.runs in
    whole 2 (Numbers n m) ∷ field_rows z n m f

-- what the table of contents says there is, and the fields that stand where it says
abbrev pub fields_of : Sizes → List ℕ → Fields
fields_of z s =
    let n = word s 6 in let m = word s 12 in
    record {
      places = part s z.contents n;
      runs = part s (runs_at z n) (z.run * m);
      low = word s (line_at z n m);
      high = word s (line_at z n m + 2);
    }

-- what an accepted form shows beside its sections
pub record Heading : Type 0 where
  pub places : ℕ
  pub runs : ℕ
  pub low : ℕ
  pub high : ℕ

abbrev pub heading_of : Sizes → List ℕ → Heading
heading_of z s =
    record { places = word s 6; runs = word s 12; low = (fields_of z s).low; high = (fields_of z s).high }

-- § 2.3: the reader, 1 to 7
abbrev pub read_rows : Sizes → List ℕ → List Row
read_rows z s =
    let n = word s 6 in let m = word s 12 in
    whole 1 (Listed z s) ∷ whole 2 (Numbers n m) ∷ whole 3 (Laid z s n m) ∷ field_rows z n m (fields_of z s)

-- 8: the form fits a buffer of some bytes
abbrev pub room_row : Sizes → Fields → ℕ → List Row
room_row z f buffer = whole 8 (length_for z f ≤ buffer) ∷ []

-- § 2.4: the writer, 2 and 4 to 8
abbrev pub write_rows : Sizes → Fields → ℕ → List Row
write_rows z f buffer = sound_rows z f ++ room_row z f buffer
