-- `write` settles numbers 2 and 4 to 8: all but 8 by the check of the fields; the four parts make the image.
use Rattle.std.proofs.Common.{ℕ, ◌+◌, ◌*◌, ◌/◌, List, ◌≡◌, ap, ◌∙◌, length, arith}
use Rattle.answer.specs.Laws.{handed_on}
use Rattle.answer.specs.Reply.{accepted}
use Rattle.answer.specs.Table.{Clears}
use Rattle.answer.specs.declared.Range.{Range}
use Rattle.layout.proofs.Image.{length_image}
use Rattle.layout.proofs.Laws.{whole_runs}
use Rattle.layout.specs.Layout.{sizes, runs_in, Fields, contents, image}
use Rattle.layout.specs.Rows.{sound_rows}
use Rattle.writer.specs.Laws.{unsound, sound, written, four_parts}
use Rattle.writer.proofs.write.Goals as goal
use Rattle.writer.proofs.write.Goals.{In_ok-check}

-- the fields as they came
abbrev f : List ℕ → List ℕ → Range → Fields
f places runs line = record { places = places; runs = runs; low = line.low; high = line.high }

-- past the check: the fields are sound, so that the run section is whole and the counts are in range
clear : (c : In_ok-check) → Clears (sound_rows sizes (f c.args.places.now c.args.runs.now c.args.line))
clear c = sound (f c.args.places.now c.args.runs.now c.args.line) c.args.form.now c.check.ensures c.in_ok-check.was

runs-whole : (c : In_ok-check) → length c.args.runs.now ≡ 5 * runs_in sizes c.args.runs.now
runs-whole c = whole_runs sizes (omega arith) (f c.args.places.now c.args.runs.now c.args.line) (clear c)

length-so : (c : In_ok-check) → 20 + length c.args.places.now + 5 * (length c.args.runs.now / 5) + 4 ≡ length (image sizes (f c.args.places.now c.args.runs.now c.args.line))
length-so c = let w = runs-whole c in omega (arith, length_image (f c.args.places.now c.args.runs.now c.args.line) w)

count-so : (c : In_ok-check) → length c.args.runs.now / 5 ≡ runs_in sizes c.args.runs.now
count-so c = omega (arith, runs-whole c)

pub returns-in_err-check : goal.returns-in_err-check
returns-in_err-check c =
    rw (handed_on c.from_residual.result c.from_residual.ensures.1)
    (unsound (f c.args.places.now c.args.runs.now c.args.line) c.args.form.now c.check.ensures c.in_err-check.was)

pub returns : goal.returns
returns c = let w = runs-whole (goal.at.returns c).In_ok-check in
    written (f c.args.places.now c.args.runs.now c.args.line) c.args.form.now c.check.ensures c.in_ok-check.was (omega arith)
    (λ i. record {
      reply = accepted (length-so (goal.at.returns c).In_ok-check i);
      form = four_parts (f c.args.places.now c.args.runs.now c.args.line) w c.args.form.now _ _ _ (c.table_of_contents-contents.ensures ∙ ap (λ (k : ℕ). contents sizes (length c.args.places.now) k) (count-so (goal.at.returns c).In_ok-check)) c.line_four-four.ensures (ap (λ (k : ℕ). 20 + length c.args.places.now + 5 * k) (count-so (goal.at.returns c).In_ok-check))
          c.put.ensures c.put-2.ensures c.put-3.ensures c.put-4.ensures i;
    })
