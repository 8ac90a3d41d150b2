-- `room` tells what number 8 asks.
use Rattle.std.proofs.Common.{arith}
use Rattle.answer.specs.Laws.{decides_le}
use Rattle.filter.proofs.room.Goals as goal
use Rattle.filter.proofs.room.Goals.{then-n-m, else-n-m}

pub returns-then-m-wiring : goal.returns-then-m-wiring
returns-then-m-wiring c = decides_le _ _ (λ l. omega arith) (λ h. omega arith)

pub returns-else-m-wiring : goal.returns-else-m-wiring
returns-else-m-wiring c = elim c.if-n-m.branch [
  | then-n-m w ↦ rw w.t-7-is (decides_le _ _ (λ l. absurd (omega arith)) (λ h. omega arith))
  | else-n-m w ↦ rw w.t-7-is (decides_le _ _ (λ l. absurd (omega arith)) (λ h. omega arith))
]
