-- `conclude` puts the confirmation together.
use Rattle.std.proofs.Common.{ℕ, ◌≡◌, ◌-◌, ◌≤◌, min, refl, sym, ap, ◌∙◌, subst, length, arith}
use Rattle.answer.specs.declared.Range.{Range}
use Rattle.confirm.specs.Concluded.{concluded, fed_few}
use Rattle.confirm.specs.Judging.{fields_fit, labels_below}
use Rattle.layout.specs.Layout.{sizes, runs_in, Fields}
use Rattle.pieces.specs.Holds.{at, fits_ended}
use Rattle.scan.specs.Scans.{Scans}
use Rattle.wirings.specs.Chosen.{flagged}
use Rattle.wirings.specs.Confirmed.{Confirmed}
use Rattle.wirings.specs.Labels.{label}
use Rattle.wirings.specs.Limits.{fixed_runs, most}
use Rattle.wirings.specs.OfForm.{order_of}
use Rattle.layout.specs.Sound.{fields}
use Rattle.confirm.proofs.conclude.Goals as goal
use Rattle.confirm.proofs.conclude.Goals.{After-scan-wired}

most_small : (f : Fields) (k : ℕ) → k ≡ most (order_of f) → length f.places ≤ 256 → k ≤ 256
most_small f k e small = omega (arith, e, fed_few (length f.places) (order_of f).supply (label (order_of f) (fixed_runs (order_of f))), small)

pub marks-marks-requires : goal.marks-marks-requires
marks-marks-requires c =
    let f = fields c.args.form in let fit = fields_fit f c.args.form.clears in
    record { few = fit.few; ended = fits_ended fit; labelled = labels_below f _ _ c.requires.judges.found.labelled }

pub overflow_cast-most : goal.overflow_cast-most
overflow_cast-most c =
    let f = fields c.args.form in let fit = fields_fit f c.args.form.clears in
    omega (arith, most_small f c.args.judged.most c.requires.judges.found.highest fit.small)

pub scan-wired-requires : goal.scan-wired-requires
scan-wired-requires c =
    let f = fields c.args.form in let fit = fields_fit f c.args.form.clears in
    rw c.count-m.ensures fit

-- the scan had as many joins to spare as MAX is above the confirmed high
scanned : (c : After-scan-wired)
    → Scans c.args.form.places.now c.args.form.runs.now c.args.states.now (runs_in sizes c.args.form.runs.now)
    (c.args.judged.most - min c.args.form.line.high c.args.judged.most) c.scan-wired.result.used c.scan-wired.result.labels
scanned c =
    let counted = rw c.count-m.ensures at c.scan-wired.ensures in
    subst (λ (x : ℕ). Scans c.args.form.places.now c.args.form.runs.now c.args.states.now (runs_in sizes c.args.form.runs.now) (c.args.judged.most - x) c.scan-wired.result.used c.scan-wired.result.labels)
    (c.from.ensures ∙ ap (λ (r : Range). r.high) c.narrowed-narrowed.ensures) counted

pub returns : goal.returns
returns c =
    let f = fields c.args.form in
    let j = c.requires.judges in let e = (goal.at.returns c).After-scan-wired in
    record {
      settles = j.settles;
      confirmed =
          subst (λ (r : Range). Confirmed (order_of f) (at c.marks-marks.result) r.low r.high (flagged c.scan-wired.result.used) (at c.scan-wired.result.labels) c.count.result c.count-2.result)
          (sym c.narrowed-narrowed.ensures)
          (concluded f c.args.form.clears c.args.states.now c.requires.states_of c.args.judged j
          c.kinds-kinds.result c.marks-marks.result c.scan-wired.result.used c.scan-wired.result.labels c.count.result c.count-2.result
          (rw c.count-m.ensures at c.kinds-kinds.ensures) c.marks-marks.ensures (scanned e) (rw c.count-m.ensures at c.count.ensures) (rw c.count-m.ensures at c.count-2.ensures));
      bits = (scanned e (order_of f) (record { n = refl; supply = refl; u = refl; v = refl }) refl (λ r l. sym (c.requires.states_of.says r l))).bits;
    }
