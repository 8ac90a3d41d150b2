-- The image of sound fields, part by part: how long it is, and that its parts are the fields.
use Rattle.std.specs.Prelude.{ℕ, suc, ◌+◌, ◌-◌, ◌*◌, ◌%◌, ◌/◌, ◌≤◌, ◌<◌, List, [], ◌∷◌, ◌++◌, ◌≡◌, refl, length, get_or, take, drop}
use Rattle.std.proofs.Common.{append_assoc, append-nil, sym, ap, ap₂, subst₂, ◌∙◌, length-append, take-append-drop, length-drop, drop_of_length-le, take_at, take_all, drop_at, drop-cons, drop-drop, get_or-append-add, le_refl, add-one, arith}
use Rattle.std.proofs.Math.Path.{subst₃}
use Rattle.std.proofs.Math.Seq.{take-length, drop-length, drop-append-add}
use Rattle.answer.specs.Laws.{clear, fact}
use Rattle.answer.specs.Table.{Clears}
use Rattle.layout.specs.Layout.{sizes, word, bytes, part, runs_at, line_at, runs_in, Fields, length_for, contents, line_four_bytes, image, over, over_at}
use Rattle.layout.proofs.Laws.{places_length, runs_count, whole_runs}
use Rattle.layout.specs.Rows.{Numbers, Listed, Laid, field_rows, sound_rows, fields_of, read_rows}

-- the table of contents of these fields
abbrev pub head : Fields → List ℕ
head f = contents sizes (length f.places) (runs_in sizes f.runs)

-- ---- lengths
pub up_to_runs : (f : Fields) → length (head f ++ f.places) ≡ runs_at sizes (length f.places)
up_to_runs f = length-append (head f) f.places

module _ (f : Fields) (wholes : length f.runs ≡ 5 * runs_in sizes f.runs) where
  pub up_to_line : length (head f ++ f.places ++ f.runs) ≡ line_at sizes (length f.places) (runs_in sizes f.runs)
  up_to_line = length-append (head f ++ f.places) f.runs ∙ ap₂ (λ (a b : ℕ). a + b) (up_to_runs f) wholes

  pub length_image : length (image sizes f) ≡ length_for sizes f
  length_image = length-append (head f ++ f.places ++ f.runs) (line_four_bytes f.low f.high) ∙ ap (λ (k : ℕ). k + 4) up_to_line

-- ---- parts
-- what stands between two lists
pub part_at : (a b c : List ℕ) {start len : ℕ} → length a ≡ start → length b ≡ len → part (a ++ b ++ c) start len ≡ b
part_at a b c {start} {len} e l = ap (λ (k : List ℕ). take len k) (ap (drop start) (append_assoc a b c) ∙ drop_at a (b ++ c) start e) ∙ take_at b c len l

-- a number's two bytes make the number again
pub word_bytes : (x : ℕ) → x % 256 + 256 * (x / 256) ≡ x
word_bytes x = omega arith

-- a word that lies past the first list
pub word_past : (a b : List ℕ) (i k : ℕ) → length a + i ≡ k → word (a ++ b) k ≡ word b i
word_past a b i k e =
    ap₂ (λ (x y : ℕ). x + 256 * y)
    (ap (λ (j : ℕ). get_or (a ++ b) j 0) (sym e) ∙ get_or-append-add a b i 0)
    (ap (λ (j : ℕ). get_or (a ++ b) j 0) (omega arith) ∙ get_or-append-add a b (i + 1) 0)

-- ---- the image of fields with whole runs is read as those fields
pub n_is : (f : Fields) → word (image sizes f) 6 ≡ length f.places
n_is f = word_bytes (length f.places)

pub m_is : (f : Fields) → word (image sizes f) 12 ≡ runs_in sizes f.runs
m_is f = word_bytes (runs_in sizes f.runs)

module _ (f : Fields) (wholes : length f.runs ≡ 5 * runs_in sizes f.runs) where
  line_at_lem : line_at sizes (word (image sizes f) 6) (word (image sizes f) 12) ≡ length (head f ++ f.places ++ f.runs)
  line_at_lem = ap₂ (line_at sizes) (n_is f) (m_is f) ∙ sym (up_to_line f wholes)

  pub fields_whole : fields_of sizes (image sizes f) ≡ f
  fields_whole = λ i. record { places = places i; runs = runs i; low = low i; high = high i }
    where
      s : List ℕ
      s = image sizes f

      line : ℕ
      line = line_at sizes (word s 6) (word s 12)

      places : part s 20 (word s 6) ≡ f.places
      places = ap (take (word s 6)) (append_assoc f.places f.runs (line_four_bytes f.low f.high)) ∙ take_at f.places (f.runs ++ line_four_bytes f.low f.high) (word s 6) (sym (n_is f))

      runs : part s (runs_at sizes (word s 6)) (5 * word s 12) ≡ f.runs
      runs = part_at (head f ++ f.places) f.runs (line_four_bytes f.low f.high) (up_to_runs f ∙ ap (runs_at sizes) (sym (n_is f))) (wholes ∙ ap (λ (k : ℕ). 5 * k) (sym (m_is f)))

      low : word s (line_at sizes (word s 6) (word s 12)) ≡ f.low
      low = word_past (head f ++ f.places ++ f.runs) (line_four_bytes f.low f.high) 0 line (omega (arith, line_at_lem)) ∙ word_bytes f.low

      high : word s (line_at sizes (word s 6) (word s 12) + 2) ≡ f.high
      high = word_past (head f ++ f.places ++ f.runs) (line_four_bytes f.low f.high) 2 (line + 2) (omega (arith, line_at_lem)) ∙ word_bytes f.high

-- ---- and where they are sound, it has no fault
module _ (f : Fields) (sound : Clears (sound_rows sizes f)) where
  wholes : length f.runs ≡ 5 * runs_in sizes f.runs
  wholes = whole_runs sizes (omega arith) f sound

  pub fields_back : fields_of sizes (image sizes f) ≡ f
  fields_back = fields_whole f wholes

  pub read_back : Clears (read_rows sizes (image sizes f))
  read_back = (
    clear (omega (arith, total, word_bytes 3)),
    (
      clear numbers,
      (
        clear laid,
        subst₃ (λ (n m : ℕ) (g : Fields). Clears (field_rows sizes n m g)) (sym (n_is f)) (sym (m_is f)) (sym fields_back) sound.1,
      ),
    ),
  )
    where
      s : List ℕ
      s = image sizes f

      total : length s ≡ length_for sizes f
      total = length_image f wholes

      numbers : Numbers (word s 6) (word s 12)
      numbers = subst₂ Numbers (sym (n_is f)) (sym (m_is f)) (fact sound.0)

      laid : Laid sizes s (word s 6) (word s 12)
      laid = omega (arith, total, n_is f, m_is f, word_bytes (runs_at sizes (length f.places)), word_bytes (line_at sizes (length f.places) (runs_in sizes f.runs)))

-- ---- an image that is read is the image of its fields
-- numbers as 16 bits each, one after the other; and that s holds them from i on
abbrev words : List ℕ → List ℕ
words [] = []
words (w ∷ ws) = bytes w ++ words ws

abbrev Words : List ℕ → ℕ → List ℕ → Type 0
Words s i [] = Unit {0}
Words s i (w ∷ ws) = (word s i ≡ w) × Words s (i + 2) ws

-- every element is a byte
abbrev pub Bytes : List ℕ → Type 0
Bytes s = (i : ℕ) → get_or s i 0 < 256

words_at : (s : List ℕ) → Bytes s → (ws : List ℕ) (i e : ℕ) → i + 2 * length ws ≡ e → e ≤ length s → Words s i ws → drop i s ≡ words ws ++ drop e s
words_at s small [] i e l fits h = let same : i ≡ e = omega arith in ap (λ (k : ℕ). drop k s) same
words_at s small (w ∷ ws) i e l fits h =
    drop-cons s i 0 (omega arith)
    ∙ ap (λ (t : List ℕ). get_or s i 0 ∷ t) (drop-cons s (suc i) 0 (omega arith))
    ∙ λ j. one j ∷ other j ∷ (ap (λ (k : ℕ). drop k s) two ∙ words_at s small ws (i + 2) e (omega arith) fits h.1) j
  where
    two : suc (suc i) ≡ i + 2
    two = omega arith

    next : get_or s (suc i) 0 ≡ get_or s (i + 1) 0
    next = rw add-one

    one : get_or s i 0 ≡ w % 256
    one = omega (arith, h.0, small i)

    other : get_or s (suc i) 0 ≡ w / 256
    other = omega (arith, next, h.0, small i)

module _ (s : List ℕ) (small : Bytes s) (sound : Clears (read_rows sizes s)) where
  listed : Listed sizes s
  listed = fact sound.0

  laid : Laid sizes s (word s 6) (word s 12)
  laid = fact sound.1.1.0

  pub image_back : image sizes (fields_of sizes s) ≡ s
  image_back =
      ap₂ (λ (n m : ℕ). contents sizes n m ++ f.places ++ f.runs ++ line_four_bytes f.low f.high) (places_length sizes (omega arith) s laid) (runs_count sizes (omega arith) s laid)
      ∙ ap (λ (t : List ℕ). contents sizes n m ++ t) (sym (from_places ∙ ap (λ (t : List ℕ). f.places ++ t) (from_runs ∙ ap (λ (t : List ℕ). f.runs ++ t) from_line)
      ∙ sym (append_assoc f.places f.runs (line_four_bytes f.low f.high))))
      ∙ sym from_start
    where
      f : Fields
      f = fields_of sizes s

      n : ℕ
      n = word s 6

      m : ℕ
      m = word s 12

      from_start : s ≡ contents sizes n m ++ drop 20 s
      from_start =
          words_at s small (3 ∷ 1 ∷ 20 ∷ n ∷ 2 ∷ runs_at sizes n ∷ m ∷ 3 ∷ line_at sizes n m ∷ 1 ∷ []) 0 20 refl listed.there
          (listed.entries, (listed.places, (laid.places, (refl, (listed.runs, (laid.runs, (refl, (listed.line, (laid.line, (listed.single, tt))))))))))

      from_places : drop 20 s ≡ f.places ++ drop (runs_at sizes n) s
      from_places = sym (take-append-drop n (drop 20 s)) ∙ ap (λ (t : List ℕ). f.places ++ t) (drop-drop n 20 s)

      from_runs : drop (runs_at sizes n) s ≡ f.runs ++ drop (line_at sizes n m) s
      from_runs = sym (take-append-drop (5 * m) (drop (runs_at sizes n) s)) ∙ ap (λ (t : List ℕ). f.runs ++ t) (drop-drop (5 * m) (runs_at sizes n) s)

      from_line : drop (line_at sizes n m) s ≡ line_four_bytes f.low f.high
      from_line =
          words_at s small (f.low ∷ f.high ∷ []) (line_at sizes n m) (length s) (sym laid.total) (le_refl (length s)) (refl, (refl, tt))
          ∙ ap (λ (t : List ℕ). line_four_bytes f.low f.high ++ t) (drop-length s)

-- ---- writing one part after the other
-- a copy to the part of a buffer from at on
pub put_is : (at : ℕ) (src xs ys : List ℕ) → at + length src ≤ length xs
    → ys ≡ take (length src) src ++ drop (length src) (take (length xs - at) (drop at xs))
    → take at xs ++ (ys ++ drop (length xs - at) (drop at xs)) ≡ over_at at src xs
put_is at src xs ys fits e =
    ap (λ (l : List ℕ). take at xs ++ l)
    (ap₂ (λ (a b : List ℕ). a ++ b)
    (e ∙ ap₂ (λ (a b : List ℕ). a ++ drop (length src) b) (take-length src) (take_all (length xs - at) (drop at xs) end))
    (drop_of_length-le (drop at xs) end)
    ∙ append-nil (src ++ drop (length src) (drop at xs))
    ∙ ap (λ (l : List ℕ). src ++ l) (drop-drop (length src) at xs))
  where
    end : length (drop at xs) ≤ length xs - at
    end = simp length-drop (omega arith)

-- what is written next follows what was written
pub over_more : (p q before : List ℕ) (at : ℕ) → length p ≡ at → over_at at q (over p before) ≡ over (p ++ q) before
over_more p q before at e =
    ap₂ (λ (a b : List ℕ). a ++ (q ++ b))
    (take_at p (drop (length p) before) at e)
    (ap (λ (k : ℕ). drop (k + length q) (p ++ drop (length p) before)) (sym e)
    ∙ drop-append-add p (drop (length p) before) (length q)
    ∙ drop-drop (length q) (length p) before
    ∙ ap (λ (k : ℕ). drop k before) (sym (length-append p q)))
    ∙ sym (append_assoc p q (drop (length (p ++ q)) before))
