use Rattle.std.proofs.Common.{arith}
use Rattle.bridges.specs.Steps.{unmarked, feeds_start, feeds_up, feeds_pass}
use Rattle.bridges.proofs.fed.Goals as goal
use Rattle.bridges.proofs.fed.Goals.{else-from-m-via-then-from-m+else-fed-x, else-from-m-via-else-from-m}

pub loop-k-init : goal.loop-k-init
loop-k-init c = λ o rank f. feeds_start f c.supplies-fed.ensures

pub loop-k-preserved-then-fed-x : goal.loop-k-preserved-then-fed-x
loop-k-preserved-then-fed-x c = λ o rank f. rw c.from-then-fed-x.ensures
    (feeds_up f (c.loop-k.invariant o rank f) c.loop-k-test.true c.loop-k.auto.k c.from-x.ensures c.requires.few (omega arith) c.if-fed-x.true)

pub loop-k-preserved : goal.loop-k-preserved
loop-k-preserved c = λ o rank f. feeds_pass f (c.loop-k.invariant o rank f) c.loop-k-test.true c.loop-k.auto.k c.from-x.ensures
    (λ v t. elim c.else-from-m.branch [ else-from-m-via-then-from-m+else-fed-x w ↦ unmarked w.if-fed-x.false t | else-from-m-via-else-from-m w ↦ omega arith ])
