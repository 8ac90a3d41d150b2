-- An amendment written into a form on file, byte by byte.
use Rattle.std.specs.Prelude.{ℕ, zero, suc, min, max, ◌+◌, ◌*◌, ◌/◌, ◌≤◌, ◌<◌, List, [], ◌∷◌, ◌++◌, ◌≡◌, refl, length, get_or, set, Result, Ok, Err}
use Rattle.std.proofs.Common.{sym, ap, ap₂, subst, ◌∙◌, length-set, drop_of_length-le, take_at, get_or-take, get_or-append-add, arith}
use Rattle.std.proofs.lemmas.List.{set-append_left}
use Rattle.amend.specs.Amending.{Says, pins, strikes, narrows, Run, Marks, stood, put, WritesIn, unnamed, reversed, clashing, done}
use Rattle.answer.specs.Laws.{not_refused, settled_last}
use Rattle.answer.specs.declared.Refusal.{Refusal}
use Rattle.answer.specs.declared.Refusal.TheVariants.{NoAmendment, NarrowedToNone}
use Rattle.answer.specs.Table.{Clears}
use Rattle.layout.proofs.Image.{head, up_to_runs, up_to_line, length_image, n_is, m_is, fields_back, read_back}
use Rattle.layout.specs.Layout.{sizes, word, runs_at, line_at, runs_in, state_of, Fields, contents, line_four_bytes, image, over_at}
use Rattle.layout.proofs.Laws.{whole_runs}
use Rattle.layout.specs.Rows.{fields_of, read_rows, sound_rows}
use Rattle.reader.specs.declared.Form.{Form}
use Rattle.reader.specs.Laws.{Valid}
use Rattle.reader.specs.Reading.{told, Reads}
use Rattle.wirings.specs.Amendments.{Amendment, pin, strike, narrow}

-- a form on file without a fault
pub record OnFile (s : List ℕ) : Type 0 where
  pub sound : Clears (sound_rows sizes (fields_of sizes s))
  pub is : s ≡ image sizes (fields_of sizes s)

pub on_file : (g : Fields) → Clears (sound_rows sizes g) → OnFile (image sizes g)
on_file g sound = record {
  sound = subst (λ (h : Fields). Clears (sound_rows sizes h)) (sym (fields_back g sound)) sound;
  is = ap (image sizes) (sym (fields_back g sound));
}

-- a store past the first of two lists
set_past : (a b : List ℕ) (j k v : ℕ) → length a + j ≡ k → set (a ++ b) k v ≡ a ++ set b j v
set_past [] b j k v e = let q : k ≡ j = omega arith in ap (λ (i : ℕ). set b i v) q
set_past (x ∷ a) b j zero v e = absurd (omega arith)
set_past (x ∷ a) b j (suc k) v e = ap (λ (l : List ℕ). x ∷ l) (set_past a b j k v (omega arith))

module _ (f : Fields) (sound : Clears (sound_rows sizes f)) where
  wholes : length f.runs ≡ 5 * runs_in sizes f.runs
  wholes = whole_runs sizes (omega arith) f sound

  -- a state
  state_at : (r k : ℕ) → r < runs_in sizes f.runs → k ≡ runs_at sizes (length f.places) + 5 * r + 4 → get_or (image sizes f) k 0 ≡ state_of sizes f.runs r
  state_at r k l e =
      sym (get_or-take (length (head f ++ f.places ++ f.runs)) (image sizes f) k 0 (omega (arith, up_to_line f wholes)))
      ∙ ap (λ (x : List ℕ). get_or x k 0) (take_at (head f ++ f.places ++ f.runs) (line_four_bytes f.low f.high) _ refl)
      ∙ ap (λ (i : ℕ). get_or (head f ++ f.places ++ f.runs) i 0) (let q : k ≡ length (head f ++ f.places) + (5 * r + 4) = omega (arith, up_to_runs f) in q)
      ∙ get_or-append-add (head f ++ f.places) f.runs (5 * r + 4) 0

  state_put : (r k v : ℕ) → r < runs_in sizes f.runs → k ≡ runs_at sizes (length f.places) + 5 * r + 4
      → set (image sizes f) k v ≡ image sizes (record { places = f.places; runs = set f.runs (5 * r + 4) v; low = f.low; high = f.high })
  state_put r k v l e =
      set-append_left (head f ++ f.places ++ f.runs) (line_four_bytes f.low f.high) k v (omega (arith, up_to_line f wholes))
      ∙ ap (λ (x : List ℕ). x ++ line_four_bytes f.low f.high) (set_past (head f ++ f.places) f.runs (5 * r + 4) k v (omega (arith, up_to_runs f)))
      ∙ ap (λ (i : ℕ). contents sizes (length f.places) ((i + 4) / 5) ++ f.places ++ set f.runs (5 * r + 4) v ++ line_four_bytes f.low f.high) (sym (length-set f.runs (5 * r + 4) v))

  -- line four
  line_put : (k low high : ℕ) → k ≡ line_at sizes (length f.places) (runs_in sizes f.runs)
      → over_at k (line_four_bytes low high) (image sizes f) ≡ image sizes (record { places = f.places; runs = f.runs; low = low; high = high })
  line_put k low high e =
      ap₂ (λ (a b : List ℕ). a ++ (line_four_bytes low high ++ b)) (take_at (head f ++ f.places ++ f.runs) (line_four_bytes f.low f.high) k (up_to_line f wholes ∙ sym e))
      (drop_of_length-le (image sizes f) {i = k + 4} (omega (arith, length_image f wholes)))

module _ {s : List ℕ} (on : OnFile s) where
  clears : Clears (read_rows sizes s)
  clears = subst (λ (t : List ℕ). Clears (read_rows sizes t)) (sym on.is) (read_back (fields_of sizes s) on.sound)

  pub always_read : {r : Result Form Refusal} {e : Refusal} → Reads s r → r ≡ Err e → ⊥
  always_read p e = not_refused (sym (settled_last clears p) ∙ ap told e)

  module _ {n m low high : ℕ} (v : Valid s n m low high) where
    n_here : n ≡ length (fields_of sizes s).places
    n_here = v.places ∙ ap (λ (t : List ℕ). word t 6) on.is ∙ n_is (fields_of sizes s)

    m_here : m ≡ runs_in sizes (fields_of sizes s).runs
    m_here = v.runs ∙ ap (λ (t : List ℕ). word t 12) on.is ∙ m_is (fields_of sizes s)

    pub at_line : (k : ℕ) → k ≡ 20 + n + 5 * m → k ≡ line_at sizes (length (fields_of sizes s).places) (runs_in sizes (fields_of sizes s).runs)
    at_line k e = omega (arith, n_here, m_here)

    module _ (r k : ℕ) (l : r < m) (e : k ≡ 20 + n + 5 * r + 4) where
      run : r < runs_in sizes (fields_of sizes s).runs
      run = omega (arith, m_here)

      place : k ≡ runs_at sizes (length (fields_of sizes s).places) + 5 * r + 4
      place = omega (arith, n_here)

      stands : get_or s k 0 ≡ state_of sizes (fields_of sizes s).runs r
      stands = ap (λ (t : List ℕ). get_or t k 0) on.is ∙ state_at (fields_of sizes s) on.sound r k run place

      puts : (x : ℕ) {t : List ℕ} → t ≡ set s k x → t ≡ image sizes (record { places = (fields_of sizes s).places; runs = set (fields_of sizes s).runs (5 * r + 4) x; low = (fields_of sizes s).low; high = (fields_of sizes s).high })
      puts x q = q ∙ ap (λ (t : List ℕ). set t k x) on.is ∙ state_put (fields_of sizes s) on.sound r k x run place

      pub pinned : {x z : ℕ} {t : List ℕ} {i : Result (Unit {0}) Refusal} → x ≡ 1 → z ≡ 0 → Marks s k 0 2 t i → WritesIn (fields_of sizes s) x r z t i
      pinned a b (stood q h) = clashing q (pin r) (pins a b) run (sym stands ∙ h)
      pinned a b (put q n h) = done q (pin r) (pins a b) run (λ c. n (stands ∙ c)) (puts 2 h)

      pub struck : {x z : ℕ} {t : List ℕ} {i : Result (Unit {0}) Refusal} → x ≡ 2 → z ≡ 0 → Marks s k 2 0 t i → WritesIn (fields_of sizes s) x r z t i
      struck a b (stood q h) = clashing q (strike r) (strikes a b) run (sym stands ∙ h)
      struck a b (put q n h) = done q (strike r) (strikes a b) run (λ c. n (stands ∙ c)) (puts 0 h)

    pub narrowed : {x y z : ℕ} {t : List ℕ} (k : ℕ) → k ≡ 20 + n + 5 * m → x ≡ 3 → y ≤ z → t ≡ over_at k (line_four_bytes (max low y) (min high z)) s → WritesIn (fields_of sizes s) x y z t (Ok tt)
    narrowed {x} {y} {z} k e a l q = done refl (narrow y z) (narrows a) l (λ c. c)
        (q ∙ ap (over_at k (line_four_bytes (max low y) (min high z))) on.is ∙ line_put (fields_of sizes s) on.sound k (max low y) (min high z) (at_line k e)
        ∙ ap₂ (λ (a b : ℕ). image sizes (record { places = (fields_of sizes s).places; runs = (fields_of sizes s).runs; low = max a y; high = min b z })) v.from v.to)

    pub no_such : {x y z : ℕ} {t : List ℕ} → (x ≡ 1 → z ≡ 0 → y < m → ⊥) → (x ≡ 2 → z ≡ 0 → y < m → ⊥) → (x ≡ 3 → ⊥) → WritesIn (fields_of sizes s) x y z t (Err NoAmendment)
    no_such {x} {y} {z} p q r = unnamed refl (λ (a, h, l). go h l)
      where
        go : {a : Amendment} → Says x y z a → Run (runs_in sizes (fields_of sizes s).runs) a → ⊥
        go (pins e f) l = p e f (omega (arith, m_here))
        go (strikes e f) l = q e f (omega (arith, m_here))
        go (narrows e) l = r e

  pub turned_round : {x y z : ℕ} {t : List ℕ} → x ≡ 3 → z < y → WritesIn (fields_of sizes s) x y z t (Err NarrowedToNone)
  turned_round {y = y} {z} e l = reversed refl (narrow y z, narrows e, tt) (λ h. omega (arith, h e))
