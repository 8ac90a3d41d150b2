-- `write_in` reads the form, and writes what the three numbers say, or tells why not.
use Rattle.std.proofs.Common.{ℕ, ◌+◌, ◌*◌, List, refl, ap, ◌∙◌, arith}
use Rattle.amend.specs.Writing.{always_read, turned_round, narrowed, no_such, pinned, struck}
use Rattle.answer.specs.declared.Range.{Range}
use Rattle.layout.specs.Layout.{line_four_bytes, over_at}
use Rattle.reader.specs.Laws.{Valid, valid}
use Rattle.amend.proofs.write_in.Goals as goal
use Rattle.amend.proofs.write_in.Goals.{In_ok-places}

-- past the reading: the form is read
read : (c : In_ok-places) → Valid c.args.form.now c.in_ok-places.field-0.places c.in_ok-places.field-0.runs c.in_ok-places.field-0.line.low c.in_ok-places.field-0.line.high
read c = valid c.read.ensures c.in_ok-places.was

pub returns-in_err-places : goal.returns-in_err-places
returns-in_err-places c = absurd (always_read c.requires c.read.ensures c.in_err-places.was)

pub returns-in-1-eq0 : goal.returns-in-1-eq0
returns-in-1-eq0 c = pinned c.requires (read (goal.at.returns-in-1-eq0 c).In_ok-places) _ _ (omega arith) (omega arith) c.in-1-eq0.is-0 c.in-1-eq0.is-1 c.mark.ensures

pub returns-in-2-eq0 : goal.returns-in-2-eq0
returns-in-2-eq0 c = struck c.requires (read (goal.at.returns-in-2-eq0 c).In_ok-places) _ _ (omega arith) (omega arith) c.in-2-eq0.is-0 c.in-2-eq0.is-1 c.mark-in-2-eq0.ensures

pub returns-in-3-default : goal.returns-in-3-default
returns-in-3-default c = turned_round c.requires c.in-3-default.is-0 c.if-second-first.true

pub put-requires : goal.put-requires
put-requires c = omega (arith, (read (goal.at.put-requires c).In_ok-places).total)

pub returns-in-3-default-2 : goal.returns-in-3-default-2
returns-in-3-default-2 c =
    narrowed c.requires (read (goal.at.returns-in-3-default-2 c).In_ok-places) _ refl c.in-3-default.is-0 c.if-second-first.false
    (c.put.ensures ∙ ap (λ (x : List ℕ). over_at (20 + c.in_ok-places.field-0.places + 5 * c.in_ok-places.field-0.runs) x c.args.form.now)
    (c.line_four.ensures ∙ ap (λ (r : Range). line_four_bytes r.low r.high) c.narrowed.ensures))

pub returns-in_default : goal.returns-in_default
returns-in_default c = no_such c.requires (read (goal.at.returns-in_default c).In_ok-places) (λ e f l. omega arith) (λ e f l. omega arith) (λ e. omega arith)

pub returns-in_default-2 : goal.returns-in_default-2
returns-in_default-2 c = no_such c.requires (read (goal.at.returns-in_default-2 c).In_ok-places) (λ e f l. omega arith) (λ e f l. omega arith) (λ e. omega arith)

pub returns-in_default-3 : goal.returns-in_default-3
returns-in_default-3 c = no_such c.requires (read (goal.at.returns-in_default-3 c).In_ok-places) (λ e f l. omega arith) (λ e f l. omega arith) (λ e. omega arith)

pub returns-in_default-4 : goal.returns-in_default-4
returns-in_default-4 c = no_such c.requires (read (goal.at.returns-in_default-4 c).In_ok-places) (λ e f l. omega arith) (λ e f l. omega arith) (λ e. omega arith)

pub returns-in_default-5 : goal.returns-in_default-5
returns-in_default-5 c = no_such c.requires (read (goal.at.returns-in_default-5 c).In_ok-places) (λ e f l. omega arith) (λ e f l. omega arith) (λ e. omega arith)
