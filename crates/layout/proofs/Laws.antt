-- Laws of the layout: what the sections of an image are, and how their checks become the reader's.
use Rattle.std.specs.Prelude.{ℕ, zero, suc, ◌+◌, ◌-◌, ◌*◌, ◌/◌, ◌≤◌, ◌<◌, List, ◌∷◌, ◌≡◌, length, get_or, Result}
use Rattle.std.proofs.Common.{sym, ap, ap₂, subst, subst₂, ◌∙◌, length-take, length-drop, add_assoc, add_comm, zero-add, arith}
use Rattle.std.proofs.Math.Nat.{add-mul-div_left, div-eq_of_lt, lt-div-mul-add}
use Rattle.answer.specs.Reply.{Reply, accepted, refused}
use Rattle.answer.specs.declared.Refusal.{Refusal}
use Rattle.answer.specs.Table.{whole, Settled, Clears}
use Rattle.answer.specs.Laws.{replied_one, settled_one, passes, onward, after, ends, fact}
use Rattle.layout.specs.Checked.{told, Checks}
use Rattle.layout.specs.Layout.{Sizes, sizes, word, part, runs_at, line_at, runs_in, Fields}
use Rattle.layout.specs.Rows.{Listed, Numbers, Laid, Good, field_rows, sound_rows, fields_of, Heading, heading_of, read_rows}

-- where all of m runs are good, their records are all there
pub all_there : (z : Sizes) (n : ℕ) (runs : List ℕ) (m : ℕ) → ((r : ℕ) → r < m → Good z n runs r) → z.run * m ≤ length runs
all_there z n runs zero h = omega arith
all_there z n runs (suc m) h = omega (arith, (h m (omega arith)).there)

-- a part that lies within is as long as it says
pub length_part : (s : List ℕ) (start len : ℕ) → start + len ≤ length s → length (part s start len) ≡ len
length_part s start len h = simp (length-take, length-drop) (omega arith)

-- the fields as code takes them out of an image, each part by its start and its end
abbrev pub taken : Sizes → List ℕ → ℕ → ℕ → Fields
taken z s n m =
    let at = line_at z n m in
    record {
      places = part s z.contents (runs_at z n - z.contents);
      runs = part s (runs_at z n) (at - runs_at z n);
      low = get_or s at 0 + 256 * get_or s (at + 1) 0;
      high = get_or s (at + 2) 0 + 256 * get_or s (at + 3) 0;
    }

pub taken_is : (z : Sizes) (s : List ℕ) {n m : ℕ} → n ≡ word s 6 → m ≡ word s 12 → taken z s n m ≡ fields_of z s
taken_is z s {n} {m} p q =
    (λ i. record {
      places = ap (λ (k : ℕ). part s z.contents k) places i;
      runs = ap (λ (k : ℕ). part s (runs_at z n) k) runs i;
      low = word s (line_at z n m);
      high = ap (λ (k : ℕ). get_or s (line_at z n m + 2) 0 + 256 * get_or s k 0) (sym (add_assoc (line_at z n m) 2 1)) i;
    })
    ∙ ap₂ at p q
  where
    at : ℕ → ℕ → Fields
    at a b = record {
      places = part s z.contents a;
      runs = part s (runs_at z a) (z.run * b);
      low = word s (line_at z a b);
      high = word s (line_at z a b + 2);
    }

    places : runs_at z n - z.contents ≡ n
    places = omega arith

    runs : line_at z n m - runs_at z n ≡ z.run * m
    runs = omega arith

module _ (z : Sizes) (sized : 0 < z.run) where
  -- whole records are counted
  pub runs_in_lem : (runs : List ℕ) (m : ℕ) → length runs ≡ z.run * m → runs_in z runs ≡ m
  runs_in_lem runs m e =
      ap (λ (k : ℕ). (k + (z.run - 1)) / z.run) e
      ∙ ap (λ (k : ℕ). k / z.run) (add_comm (z.run * m) (z.run - 1))
      ∙ add-mul-div_left (z.run - 1) m sized
      ∙ ap (λ (k : ℕ). k + m) (div-eq_of_lt (omega arith))
      ∙ zero-add m

  module _ (s : List ℕ) (laid : Laid z s (word s 6) (word s 12)) where
    pub places_length : length (fields_of z s).places ≡ word s 6
    places_length = length_part s z.contents (word s 6) (omega arith)

    pub runs_count : runs_in z (fields_of z s).runs ≡ word s 12
    runs_count = runs_in_lem (fields_of z s).runs (word s 12) (length_part s (runs_at z (word s 6)) (z.run * word s 12) (omega arith))

    -- the check of the sections settles what is left of the reader's table
    pub read_on : {f : Fields} {r : Reply (Unit {0})} {a : Reply Heading} → Listed z s → Numbers (word s 6) (word s 12) → f ≡ fields_of z s
        → Settled refused (sound_rows z f) (λ x. x ≡ accepted tt) r
        → ((number k : ℕ) → r ≡ refused number k → a ≡ refused number k) → (r ≡ accepted tt → a ≡ accepted (heading_of z s))
        → Settled refused (read_rows z s) (λ x. x ≡ accepted (heading_of z s)) a
    read_on {f} {r} {a} listed numbers same p refuse accept =
        passes listed (passes numbers (passes laid (onward rest refuse (λ e. ends (accept e)))))
      where
        sound : Settled refused (sound_rows z (fields_of z s)) (λ x. x ≡ accepted tt) r
        sound = rw same at p

        rest : Settled refused (field_rows z (word s 6) (word s 12) (fields_of z s)) (λ x. x ≡ accepted tt) r
        rest =
            subst₂ (λ (n m : ℕ). Settled refused (field_rows z n m (fields_of z s)) (λ x. x ≡ accepted tt) r)
            places_length runs_count (after (subst₂ Numbers (sym places_length) (sym runs_count) numbers) sound)

  -- the fields of an image that is read are sound
  pub fields_sound : (s : List ℕ) → Clears (read_rows z s) → Clears (sound_rows z (fields_of z s))
  fields_sound s c = let laid = fact c.1.1.0 in
      subst₂ (λ (n m : ℕ). Clears (whole 2 (Numbers n m) ∷ field_rows z n m (fields_of z s))) (sym (places_length s laid)) (sym (runs_count s laid)) (c.1.0, c.1.1.1)

-- the check's table at the number of runs as it was counted
pub as_counted : (f : Fields) {m : ℕ} {r : Reply (Unit {0})} → m ≡ runs_in sizes f.runs
    → Settled refused (whole 2 (Numbers (length f.places) m) ∷ field_rows sizes (length f.places) m f) (λ s. s ≡ accepted tt) r
    → Settled refused (sound_rows sizes f) (λ s. s ≡ accepted tt) r
as_counted f {r = r} e p =
    subst (λ (m : ℕ). Settled refused (whole 2 (Numbers (length f.places) m) ∷ field_rows sizes (length f.places) m f) (λ s. s ≡ accepted tt) r) e p

-- ---- fields without a fault
module _ (z : Sizes) (sized : 0 < z.run) (f : Fields) (sound : Clears (sound_rows z f)) where
  -- the run section is made of whole records
  pub whole_runs : length f.runs ≡ z.run * runs_in z f.runs
  whole_runs =
      omega (
        arith,
        lt-div-mul-add {a = length f.runs + (z.run - 1)} {b = z.run} sized,
        all_there z (length f.places) f.runs (runs_in z f.runs) (λ r l. sound.1.1.0.before r l),
      )

  pub counts : Numbers (length f.places) (runs_in z f.runs)
  counts = fact sound.0

-- ---- any two replies of the check are equal
pub told_one : (a b : Result (Unit {0}) Refusal) → told a ≡ told b → a ≡ b
told_one = replied_one (λ x y e. e)

pub checks_one : (f : Fields) (a b : Result (Unit {0}) Refusal) → Checks f a → Checks f b → a ≡ b
checks_one f a b p q = told_one a b (settled_one (λ r s h k. h ∙ sym k) p q)
