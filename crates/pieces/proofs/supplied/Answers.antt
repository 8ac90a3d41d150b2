use Rattle.std.proofs.Common.{arith}
use Rattle.pieces.specs.Laws.{seen_none, seen_pass, seen_supply}
use Rattle.pieces.proofs.supplied.Goals as goal
use Rattle.pieces.proofs.supplied.Goals.{then-supply-eq1, else-supply-eq1}

pub loop-y-init : goal.loop-y-init
loop-y-init c = seen_none _ _

pub loop-y-preserved : goal.loop-y-preserved
loop-y-preserved c = let y = c.loop-y.y in let seen = c.loop-y.invariant in
    elim c.if-supply-eq1.branch [
      | then-supply-eq1 w ↦ rw w.fed-is (rw w.from.ensures (seen_supply _ _ seen w.if-supply-eq1.true (c.requires.small.1 y (omega arith))))
      | else-supply-eq1 w ↦ rw w.fed-is (seen_pass _ _ seen (omega (arith, c.requires.bits y)))
    ]
