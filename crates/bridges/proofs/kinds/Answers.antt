use Rattle.std.proofs.Common.{◌≡◌, ◌∙◌, refl, sym, arith}
use Rattle.forest.specs.Parts.{order_at}
use Rattle.bridges.specs.Steps.{marking_none, marking_skip, marking_climb, run_ends, crossed, kinds_told}
use Rattle.pieces.specs.Holds.{at}
use Rattle.bridges.proofs.kinds.Goals as goal
use Rattle.bridges.proofs.kinds.Goals.{then-states-r-gt0+then-from-r+then-from-r-2, then-states-r-gt0+else-from-r, else-from-r-via-then-from-r+else-from-r-2, else-from-r-via-else-from-r, else-states-r-gt0}

pub loop-r-init : goal.loop-r-init
loop-r-init c = marking_none

pub climb-requires : goal.climb-requires
climb-requires c = let f = c.grow-grown.result in (
  order_at c.args.places.now c.args.runs.now c.args.states.now c.args.m,
  at f.via,
  crossed c.requires c.args.states.now f.rank f.up f.via c.grow-grown.ensures.grown c.loop-r-test.true c.run_at-u.ensures c.if-states-r-gt0.true
      (λ e. c.if-from-r.true (c.from.ensures ∙ e)) (λ e. c.if-from-r-2.true (c.from-then-from-r.ensures ∙ e)),
)

pub loop-r-preserved : goal.loop-r-preserved
loop-r-preserved c = let f = c.grow-grown.result in let k = c.loop-r.invariant in elim c.if-states-r-gt0.branch [
  | then-states-r-gt0+then-from-r+then-from-r-2 w ↦ rw w.passed-is (marking_climb k w.run_at-u.ensures.one w.run_at-u.ensures.other (w.climb.ensures (order_at c.args.places.now c.args.runs.now c.args.states.now c.args.m) (at f.via)
      (crossed c.requires c.args.states.now f.rank f.up f.via c.grow-grown.ensures.grown c.loop-r-test.true w.run_at-u.ensures w.if-states-r-gt0.true
      (λ e. w.if-from-r.true (w.from.ensures ∙ e)) (λ e. w.if-from-r-2.true (w.from-then-from-r.ensures ∙ e)))))
  | then-states-r-gt0+else-from-r w ↦ let t = run_ends c.requires c.loop-r-test.true w.run_at-u.ensures in rw w.passed-is (marking_skip k (λ out. elim w.else-from-r.branch [
    | else-from-r-via-then-from-r+else-from-r-2 v ↦ out.1 _ t.1 (sym v.from-then-from-r.ensures ∙ v.if-from-r-2.false)
    | else-from-r-via-else-from-r v ↦ out.1 _ t.0 (sym w.from.ensures ∙ v.if-from-r.false)
  ]))
  | else-states-r-gt0 w ↦ rw w.passed-is (marking_skip k (λ out. omega (arith, out.0.1, w.if-states-r-gt0.false)))
]

pub returns : goal.returns
returns c = let f = c.grow-grown.result in let g = c.grow-grown.ensures in
    let e : c.loop-r.r ≡ c.args.m = omega arith in
    kinds_told c.args.places.now c.args.runs.now c.args.states.now c.args.m g.grown (rw e at c.loop-r.invariant)
    (c.fed-fed.ensures (order_at c.args.places.now c.args.runs.now c.args.states.now c.args.m) f.rank (record { grown = g.grown; ranked = g.ranked; as_many = refl; as_runs = refl; supply = λ y. refl })) c.conclude.ensures
