-- `write_form` writes the image up to line four, the states, and line four: together the confirmed form.
use Rattle.std.proofs.Common.{ℕ, ◌-◌, List, ◌++◌, ap, ◌∙◌, take, drop, arith}
use Rattle.filter.specs.Confirmed.{confirmed_written}
use Rattle.layout.specs.Layout.{sizes, runs_at, line_at, over_at}
use Rattle.pieces.specs.Holds.{at}
use Rattle.filter.proofs.write_form.Goals as goal

pub returns : goal.returns
returns c = let b = c.put.new.buffer in let r = runs_at sizes c.args.n in let l = line_at sizes c.args.n c.args.m in
    confirmed_written (λ i. omega (arith, c.type_inv.image i)) c.requires.form.valid (at c.args.marks.now) c.args.line.low c.args.line.high c.args.form.now _ _ _
    c.put.ensures
    (ap (λ (x : List ℕ). take r b ++ (x ++ drop (l - r) (drop r b))) c.restate.ensures)
    (c.put-2.ensures ∙ ap (λ (x : List ℕ). over_at l x (take r b ++ (c.restate.new.runs ++ drop (l - r) (drop r b)))) c.line_four.ensures)
