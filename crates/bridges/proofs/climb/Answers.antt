use Rattle.std.proofs.Common.{ap, length-set, arith}
use Rattle.bridges.specs.Climbed.{climb_start, climb_later, climb_up, climb_other, climb_up', climb_swap}
use Rattle.pieces.specs.Holds.{at}
use Rattle.bridges.proofs.climb.Goals as goal

pub loop-a-init : goal.loop-a-init
loop-a-init c = (c.told-passed, λ o via k. climb_start k.one k.other k.joined)

pub loop-a-smaller-then-grown-b : goal.loop-a-smaller-then-grown-b
loop-a-smaller-then-grown-b c = let (o, via, k) = c.requires in let h = c.loop-a.invariant.1 o via k in
    omega (arith, (k.grown.reached c.loop-a.a h.one (climb_later k.grown h (omega arith))).earlier, ap (at c.args.grown.now.rank) c.from-a.ensures)

pub loop-a-preserved-then-grown-b : goal.loop-a-preserved-then-grown-b
loop-a-preserved-then-grown-b c = (simp length-set c.loop-a.invariant.0, λ o via k. let h = c.loop-a.invariant.1 o via k in rw c.from-a.ensures (climb_up k.grown h (omega arith) (omega (arith, c.loop-a.invariant.0, h.one, k.few))))

pub loop-a-smaller : goal.loop-a-smaller
loop-a-smaller c = let (o, via, k) = c.requires in let h = c.loop-a.invariant.1 o via k in
    omega (arith, (k.grown.reached c.loop-a.b h.other (climb_later k.grown (climb_swap h) (climb_other k.grown h (λ e. omega arith) (omega arith)))).earlier, ap (at c.args.grown.now.rank) c.from-b.ensures)

pub loop-a-preserved : goal.loop-a-preserved
loop-a-preserved c = (
  simp length-set c.loop-a.invariant.0,
  λ o via k. let h = c.loop-a.invariant.1 o via k in
      rw c.from-b.ensures (climb_up' k.grown h (climb_other k.grown h (λ e. omega arith) (omega arith)) (omega (arith, c.loop-a.invariant.0, h.other, k.few))),
)
