-- `judge` settles numbers 9 to 11 by what the piece finder found by the fixed runs and by the unstruck ones.
use Rattle.std.proofs.Common.{ℕ, ◌≤◌, ◌<◌, List, ◌≡◌, refl, sym, subst, ◌∙◌, length, take, length-take-le, arith}
use Rattle.answer.specs.Table.{Finds}
use Rattle.std.specs.Prelude.{Option, Some, None, IfSome, Result}
use Rattle.answer.specs.declared.Refusal.{Refusal}
use Rattle.answer.specs.Laws.{handed_on}
use Rattle.confirm.specs.Judged.{Settles}
use Rattle.confirm.specs.Judging.{fields_fit, fixed_labels, unstruck_labels, closing_first, supplied_as, counted_as, fed_as, labels_below, bare_first}
use Rattle.layout.specs.Layout.{sizes, runs_in}
use Rattle.pieces.specs.Holds.{Holds, Fits}
use Rattle.pieces.specs.Laws.{holds_same}
use Rattle.wirings.specs.Labels.{label}
use Rattle.wirings.specs.Limits.{fixed_runs, unstruck_runs}
use Rattle.wirings.specs.OfForm.{order_of}
use Rattle.wirings.specs.Theorem1.{Opens}
use Rattle.layout.specs.Sound.{fields}
use Rattle.confirm.proofs.judge.Goals as goal
use Rattle.confirm.proofs.judge.Goals.{After-find-by_unstruck, After-verdict}

-- the runs are as many as were counted
counted : {places runs : List ℕ} {m k : ℕ} → Fits places runs k → m ≡ k → Fits places runs m
counted {places} {runs} fit e = subst (Fits places runs) (sym e) fit

-- a flag or a state for each run is lent
lent : (m : ℕ) (flags : List ℕ) → m ≤ 1024 → length flags ≡ 1024 → length (take m flags) ≡ m
lent m flags few long = length-take-le m flags (omega arith)

-- past both findings: the labels are those by the fixed runs, and by the unstruck ones
by_fixed : (c : After-find-by_unstruck) → Holds (label (order_of (fields c.args.form)) (fixed_runs (order_of (fields c.args.form)))) c.find-by_fixed.result.labels
by_fixed c =
    let f = fields c.args.form in let fit = counted (fields_fit f c.args.form.clears) c.count-m.ensures in
    let found = rw (lent c.count-m.result c.fixed-fixed.result fit.few (omega (arith, c.fixed-fixed.type_inv))) at c.find-by_fixed.ensures.holds in
    holds_same (rw c.count-m.ensures at found) (λ x l. fixed_labels f c.args.states.now c.fixed-fixed.result c.requires (rw c.count-m.ensures at c.fixed-fixed.ensures) x)

by_unstruck : (c : After-find-by_unstruck) → Holds (label (order_of (fields c.args.form)) (unstruck_runs (order_of (fields c.args.form)))) c.find-by_unstruck.result.labels
by_unstruck c =
    let f = fields c.args.form in let fit = counted (fields_fit f c.args.form.clears) c.count-m.ensures in
    let found = rw (lent c.count-m.result c.args.states.now fit.few (omega arith)) at c.find-by_unstruck.ensures.holds in
    holds_same (rw c.count-m.ensures at found) (λ x l. unstruck_labels f c.args.states.now c.args.states.now c.requires x)

closed : (c : After-find-by_unstruck) → Finds (Opens (order_of (fields c.args.form))) (runs_in sizes c.args.form.runs.now) c.find-by_fixed.result.closing
closed c =
    let f = fields c.args.form in let fit = counted (fields_fit f c.args.form.clears) c.count-m.ensures in
    let found = rw (lent c.count-m.result c.fixed-fixed.result fit.few (omega (arith, c.fixed-fixed.type_inv))) at c.find-by_fixed.ensures.first in
    closing_first f c.args.states.now c.fixed-fixed.result c.requires (rw c.count-m.ensures at c.fixed-fixed.ensures) (rw c.count-m.ensures at found)

pub supplied-fed-requires : goal.supplied-fed-requires
supplied-fed-requires c =
    let f = fields c.args.form in let fit = counted (fields_fit f c.args.form.clears) c.count-m.ensures in
    record { small = (fit.small, labels_below f _ _ (by_fixed (goal.at.supplied-fed-requires c).After-find-by_unstruck)); bits = fit.bit }

pub supplied-reached-requires : goal.supplied-reached-requires
supplied-reached-requires c =
    let f = fields c.args.form in let fit = counted (fields_fit f c.args.form.clears) c.count-m.ensures in
    record { small = (fit.small, labels_below f _ _ (by_unstruck (goal.at.supplied-reached-requires c).After-find-by_unstruck)); bits = fit.bit }

pub first_bare-bare-requires : goal.first_bare-bare-requires
first_bare-bare-requires c =
    let f = fields c.args.form in let fit = counted (fields_fit f c.args.form.clears) c.count-m.ensures in
    (fit.small, labels_below f _ _ (by_unstruck (goal.at.first_bare-bare-requires c).After-find-by_unstruck))

-- what a search found is below any bound on how many there are
below : {n k : ℕ} (r : Option ℕ) → IfSome r (λ i. i < n) → n ≤ k → IfSome r (λ i. i < k)
below None h l = tt
below (Some i) h l = omega arith

pub verdict-requires : goal.verdict-requires
verdict-requires c =
    let f = fields c.args.form in let fit = counted (fields_fit f c.args.form.clears) c.count-m.ensures in
    let many = lent c.count-m.result c.fixed-fixed.result fit.few (omega (arith, c.fixed-fixed.type_inv)) in
    (below _ c.find-by_fixed.ensures.first.inside (omega (arith, many, fit.few)), below _ c.first_bare-bare.ensures.inside fit.small)

-- the verdict that was given settles 9 to 11
settles : (c : After-verdict)
    → Holds (label (order_of (fields c.args.form)) (fixed_runs (order_of (fields c.args.form)))) c.find-by_fixed.result.labels
    → Holds (label (order_of (fields c.args.form)) (unstruck_runs (order_of (fields c.args.form)))) c.find-by_unstruck.result.labels
    → Finds (Opens (order_of (fields c.args.form))) (runs_in sizes c.args.form.runs.now) c.find-by_fixed.result.closing
    → Settles (order_of (fields c.args.form)) c.verdict.result
settles c fixed unstruck closing =
    let f = fields c.args.form in
    c.verdict.ensures (order_of f) refl refl
    (sym (c.count-least.ensures ∙ counted_as f c.args.form.clears _ _ c.supplied-reached.result unstruck c.supplied-reached.ensures))
    (sym (c.count_supplied-most.ensures ∙ fed_as f c.args.form.clears _ _ c.supplied-fed.result fixed c.supplied-fed.ensures))
    closing (bare_first f c.args.form.clears _ c.supplied-reached.result unstruck c.supplied-reached.ensures c.first_bare-bare.ensures)

pub returns-in_err-verdict : goal.returns-in_err-verdict
returns-in_err-verdict c =
    let f = fields c.args.form in
    let at = goal.at.returns-in_err-verdict c in let d = at.After-find-by_unstruck in
    rw (handed_on c.from_residual.result c.from_residual.ensures.1) (record {
      settles = subst (λ (r : Result (Unit {0}) Refusal). Settles (order_of f) r) c.in_err-verdict.was (settles at.After-verdict (by_fixed d) (by_unstruck d) (closed d));
      found = tt;
    })

pub returns : goal.returns
returns c =
    let f = fields c.args.form in
    let at = goal.at.returns c in let d = at.After-find-by_unstruck in
    record {
      settles = subst (λ (r : Result (Unit {0}) Refusal). Settles (order_of f) r) c.in_ok-verdict.was (settles at.After-verdict (by_fixed d) (by_unstruck d) (closed d));
      found = record {
        labelled = by_fixed d;
        supplied = supplied_as f c.args.form.clears _ _ c.supplied-fed.result (by_fixed d) c.supplied-fed.ensures;
        lowest = c.count-least.ensures ∙ counted_as f c.args.form.clears _ _ c.supplied-reached.result (by_unstruck d) c.supplied-reached.ensures;
        highest = c.count_supplied-most.ensures ∙ fed_as f c.args.form.clears _ _ c.supplied-fed.result (by_fixed d) c.supplied-fed.ensures;
      };
    }
