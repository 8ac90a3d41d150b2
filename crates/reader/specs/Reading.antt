-- What the reader promises, in the paper's terms.
use Rattle.std.specs.Prelude.{ℕ, List, [], ◌≡◌, Result}
use Rattle.answer.specs.Reply.{Reply, accepted, refused, replied}
use Rattle.answer.specs.Table.{Settled}
use Rattle.layout.specs.Layout.{sizes, Fields}
use Rattle.layout.specs.Rows.{Heading, heading_of, fields_of, read_rows}
use Rattle.reader.specs.declared.Form.{Form}
use Rattle.answer.specs.declared.Refusal.{Refusal}

-- what the form that is read shows
abbrev pub heading : Form → Heading
heading f = record { places = f.places; runs = f.runs; low = f.line.low; high = f.line.high }

-- the paper's number and values for each case
abbrev pub told : Result Form Refusal → Reply Heading
told = replied heading

-- § 2.3: numbers 1 to 7 in their order; else what the form says
abbrev pub Reply_to : List ℕ → Reply Heading → Type 0
Reply_to s = Settled refused (read_rows sizes s) (λ a. a ≡ accepted (heading_of sizes s))

abbrev pub Reads : List ℕ → Result Form Refusal → Type 0
Reads s r = Reply_to s (told r)

-- § 2.3: a section is empty where the image is refused, else the part of it that holds the field
abbrev pub Section : (Fields → List ℕ) → List ℕ → List ℕ → Type 0
Section field s part = Settled (λ _ _. []) (read_rows sizes s) (λ p. p ≡ field (fields_of sizes s)) part

abbrev pub Places : List ℕ → List ℕ → Type 0
Places = Section (λ f. f.places)

abbrev pub Runs : List ℕ → List ℕ → Type 0
Runs = Section (λ f. f.runs)
