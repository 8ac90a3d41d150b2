-- `read` settles numbers 1 to 7: 1 to 3 itself, the others by the check of the sections.
use Rattle.std.proofs.Common.{ℕ, List, ◌≡◌, sym, ap, ◌∙◌, arith}
use Rattle.answer.specs.Laws.{not_refused, refused_as, handed_on, decided, denied, refuses, passes}
use Rattle.answer.specs.Reply.{Reply, accepted, refused}
use Rattle.layout.specs.Checked.{told}
use Rattle.layout.proofs.Laws.{read_on, taken, taken_is}
use Rattle.layout.specs.Layout.{sizes, Fields}
use Rattle.layout.specs.Rows.{fields_of, Heading, heading_of}
use Rattle.reader.specs.Reading.{heading, Reply_to}
use Rattle.reader.proofs.read.Goals as goal
use Rattle.reader.proofs.read.Goals.{After-check}

pub returns-then-not-listed : goal.returns-then-not-listed
returns-then-not-listed c = refuses (denied c.listed.ensures c.if-not-listed.true)

pub returns-then-not-numbers : goal.returns-then-not-numbers
returns-then-not-numbers c = passes (decided c.listed.ensures c.if-not-listed.false)
    (refuses (λ h. denied c.numbers.ensures c.if-not-numbers.true (omega arith)))

pub returns-then-not-laid : goal.returns-then-not-laid
returns-then-not-laid c = let n = decided c.numbers.ensures c.if-not-numbers.false in
    passes (decided c.listed.ensures c.if-not-listed.false) (passes (omega arith)
    (refuses (λ h. denied c.laid.ensures c.if-not-laid.true (omega arith))))

pub slice_bounds-check-end-2 : goal.slice_bounds-check-end-2
slice_bounds-check-end-2 c = let d = decided c.laid.ensures c.if-not-laid.false in omega arith

-- past the check of the sections: the image, the counts, the fields that were checked, and what the check settles for the reader
image : After-check → List ℕ
image c = c.args.image.now

places : After-check → ℕ
places c = c.from-places.result

runs : After-check → ℕ
runs c = c.from-runs.result

fields : After-check → Fields
fields c =
    let f = taken sizes (image c) (places c) (runs c) in
    record { places = f.places; runs = f.runs; low = c.word-3.result; high = c.word-4.result }

fields-are : (c : After-check) → fields c ≡ fields_of sizes (image c)
unfolding image places runs fields
fields-are c =
    let f = taken sizes (image c) (places c) (runs c) in
    (λ i. record { places = f.places; runs = f.runs; low = c.word-3.ensures i; high = c.word-4.ensures i })
    ∙ taken_is sizes (image c) (c.from-places.ensures ∙ c.word.ensures) (c.from-runs.ensures ∙ c.word-2.ensures)

heading-is : (c : After-check) → ◌≡◌ {A = Heading} (record { places = places c; runs = runs c; low = (fields c).low; high = (fields c).high }) (heading_of sizes (image c))
unfolding image places runs
heading-is c =
    λ i. record { places = (c.from-places.ensures ∙ c.word.ensures) i; runs = (c.from-runs.ensures ∙ c.word-2.ensures) i; low = (fields-are c i).low; high = (fields-are c i).high }

settles : (c : After-check) {a : Reply Heading}
    → ((number k : ℕ) → told c.check.result ≡ refused number k → a ≡ refused number k)
    → (told c.check.result ≡ accepted tt → a ≡ accepted (heading_of sizes (image c)))
    → Reply_to (image c) a
unfolding image places runs fields
settles c refuse accept =
    let n = decided c.numbers.ensures c.if-not-numbers.false in let d = decided c.laid.ensures c.if-not-laid.false in
    read_on sizes (omega arith) (image c) (omega arith) (decided c.listed.ensures c.if-not-listed.false) (omega arith) (fields-are c) c.check.ensures refuse accept

pub returns-in_err-check : goal.returns-in_err-check
unfolding image
returns-in_err-check c = let was = c.in_err-check.was in
    settles (goal.at.returns-in_err-check c).After-check
    (refused_as (λ t. t) heading was (handed_on c.from_residual.result c.from_residual.ensures.1))
    (λ e. absurd (not_refused (sym e ∙ ap told was)))

pub returns : goal.returns
unfolding image places runs fields
returns c = let was = c.in_ok-check.was in
    settles (goal.at.returns c).After-check (λ number k e. absurd (not_refused (sym (ap told was) ∙ e))) (λ e. ap accepted (heading-is (goal.at.returns c).After-check))
