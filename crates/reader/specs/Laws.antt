-- What a reading shows of its image, whichever way the reader came to it; and that it is the only one.
use Rattle.std.specs.Prelude.{ℕ, List, [], ◌≡◌, refl, length, Result, Ok, Err}
use Rattle.std.proofs.Common.{sym, ap, ◌∙◌, arith}
use Rattle.answer.specs.Laws.{not_refused, accepted_one, replied_one, settled_one, onward, cleared, all_clear, fact}
use Rattle.answer.specs.Reply.{accepted}
use Rattle.answer.specs.Table.{Clears}
use Rattle.layout.specs.Layout.{sizes, word, length_of, Fields}
use Rattle.layout.proofs.Laws.{taken, taken_is}
use Rattle.layout.specs.Rows.{Numbers, Heading, heading_of, fields_of, read_rows}
use Rattle.reader.specs.Reading.{heading, told, Reads, Section}
use Rattle.reader.specs.declared.Form.{Form}
use Rattle.answer.specs.declared.Refusal.{Refusal}

-- ---- an image that is read as a form with n places and m runs
pub record Valid (s : List ℕ) (n m low high : ℕ) : Type 0 where
  pub clears : Clears (read_rows sizes s)
  pub numbers : Numbers n m
  pub total : length s ≡ length_of sizes n m
  pub places : n ≡ word s 6
  pub runs : m ≡ word s 12
  pub from : low ≡ (fields_of sizes s).low
  pub to : high ≡ (fields_of sizes s).high

pub valid : {s : List ℕ} {r : Result Form Refusal} {f : Form} → Reads s r → r ≡ Ok f → Valid s f.places f.runs f.line.low f.line.high
valid {s} {r} {f} p e =
    record {
      clears = c.0;
      numbers = omega (arith, places, runs, fact c.0.1.0);
      total = omega (arith, places, runs, fact c.0.1.1.0);
      places = places;
      runs = runs;
      from = ap (λ (h : Heading). h.low) shown;
      to = ap (λ (h : Heading). h.high) shown;
    }
  where
    c : Clears (read_rows sizes s) × (told r ≡ accepted (heading_of sizes s))
    c = cleared p (λ number k g. not_refused (sym (ap told e) ∙ g))

    shown : heading f ≡ heading_of sizes s
    shown = accepted_one (sym (ap told e) ∙ c.1)

    places : f.places ≡ word s 6
    places = ap (λ (h : Heading). h.places) shown

    runs : f.runs ≡ word s 12
    runs = ap (λ (h : Heading). h.runs) shown

-- ---- the sections of an image
pub no_section : {s : List ℕ} {r : Result Form Refusal} {refusal : Refusal} (field : Fields → List ℕ) → Reads s r → r ≡ Err refusal → Section field s []
no_section field p e = onward p (λ number k _. refl) (λ a. absurd (not_refused (sym a ∙ ap told e)))

pub a_section : {s : List ℕ} {n m low high : ℕ} (field : Fields → List ℕ) → Valid s n m low high → Section field s (field (taken sizes s n m))
a_section {s} field v = all_clear (read_rows sizes s) v.clears (ap field (taken_is sizes s v.places v.runs))

-- ---- any two readings of an image are equal
heading_one : (f g : Form) → heading f ≡ heading g → f ≡ g
heading_one f g e = λ i. record { places = (e i).places; runs = (e i).runs; line = record { low = (e i).low; high = (e i).high } }

told_one : (a b : Result Form Refusal) → told a ≡ told b → a ≡ b
told_one = replied_one heading_one

pub reads_one : {s : List ℕ} (a b : Result Form Refusal) → Reads s a → Reads s b → a ≡ b
reads_one a b p q = told_one a b (settled_one (λ r s h k. h ∙ sym k) p q)

pub section_one : (field : Fields → List ℕ) {s a b : List ℕ} → Section field s a → Section field s b → a ≡ b
section_one field p q = settled_one (λ r s h k. h ∙ sym k) p q
