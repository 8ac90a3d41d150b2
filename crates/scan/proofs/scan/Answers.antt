use Rattle.std.specs.Int.{from_bool}
use Rattle.std.proofs.Common.{◌<◌, ◌∙◌, ap, length, take, arith}
use Rattle.scan.specs.Laws.{labels_of_le, going_le, Of, some_of, going_none, going_pass, going_closed, going_full, going_take, going_all}
use Rattle.scan.proofs.scan.Goals as goal
use Rattle.scan.proofs.scan.Goals.{After-from-b, then-fed-a, else-fed-a, then-states-r-eq1+then-a-b+then-cost-left, then-states-r-eq1+else-a-b, else-a-b-via-then-a-b+else-cost-left, else-a-b-via-else-a-b, else-states-r-eq1}

pub supplied-fed-requires-clause-small : goal.supplied-fed-requires-clause-small
supplied-fed-requires-clause-small c = let flags = take c.args.m c.fixed-used.result in
    (c.requires.small, λ x l. omega (arith, c.find.ensures.holds.says x l, labels_of_le c.args.runs.now flags (length flags) x))

pub loop-r-init : goal.loop-r-init
loop-r-init c = let f = c.fixed-used in
    λ o of. going_none of f.ensures (omega (arith, f.type_inv)) _ c.find.ensures.holds c.supplied-fed.ensures

-- the labels of the ends of the run that was read are places
labels_small : (c : After-from-b) → (c.from-a.result < 256) × (c.from-b.result < 256)
labels_small c = let f = c.requires in let r = c.loop-r.r in let l = c.loop-r-test.true in let le = going_le (c.loop-r.invariant _ (some_of c.args.states.now f)) in
    let u : c.run_at-u.result.u < 256 = omega (arith, f.one r l) in let v : c.run_at-u.result.v < 256 = omega (arith, f.other r l) in
    (omega (arith, le _ u), omega (arith, le _ v))

pub bounds-fed-a : goal.bounds-fed-a
bounds-fed-a c = (labels_small c).0

pub bounds-fed-b : goal.bounds-fed-b
bounds-fed-b c = (labels_small (goal.at.bounds-fed-b c).After-from-b).1

pub merged-fed-requires : goal.merged-fed-requires
merged-fed-requires c = let small = labels_small (goal.at.merged-fed-requires c).After-from-b in (small.0, small.1, c.if-a-b.true)

pub loop-r-preserved : goal.loop-r-preserved
loop-r-preserved c = λ o of. let g = c.loop-r.invariant o of in let l = c.loop-r-test.true in
    elim c.if-states-r-eq1.branch [
      | then-states-r-eq1+then-a-b+then-cost-left w ↦ rw w.used-is (rw w.labels-is (rw w.fed-is (rw w.left-is
          (going_take of g l w.if-states-r-eq1.true w.run_at-u.ensures w.from-a.ensures w.from-b.ensures w.if-a-b.true
          (elim w.if-fed-a.branch [
            | then-fed-a k ↦ w.from-cost.ensures ∙ ap from_bool (rw k.if-fed-a.true k.from-is)
            | else-fed-a k ↦ w.from-cost.ensures ∙ ap from_bool (rw k.if-fed-a.false (k.from-is ∙ k.if-fed-a.false))
          ])
          w.if-cost-left.true w.join-labels.ensures w.merged-fed.ensures))))
      | then-states-r-eq1+else-a-b w ↦ rw w.used-is (rw w.labels-is (rw w.fed-is (rw w.left-is (elim w.else-a-b.branch [
        | else-a-b-via-then-a-b+else-cost-left k ↦ going_full of g l w.if-states-r-eq1.true w.run_at-u.ensures w.from-a.ensures w.from-b.ensures k.if-a-b.true
            (elim w.if-fed-a.branch [
              | then-fed-a e ↦ w.from-cost.ensures ∙ ap from_bool (rw e.if-fed-a.true e.from-is)
              | else-fed-a e ↦ w.from-cost.ensures ∙ ap from_bool (rw e.if-fed-a.false (e.from-is ∙ e.if-fed-a.false))
            ])
            k.if-cost-left.false
        | else-a-b-via-else-a-b k ↦ going_closed of g l w.if-states-r-eq1.true w.run_at-u.ensures w.from-a.ensures w.from-b.ensures k.if-a-b.false
      ]))))
      | else-states-r-eq1 w ↦ rw w.used-is (rw w.labels-is (rw w.fed-is (rw w.left-is (going_pass of g l w.if-states-r-eq1.false))))
    ]

pub returns : goal.returns
returns c = λ o d e m. let of : Of c.args.places.now c.args.runs.now c.args.states.now c.args.m o = record { fits = c.requires; drawn = d; many = e; marks = m } in
    going_all of (c.loop-r.invariant o of) (omega arith)
