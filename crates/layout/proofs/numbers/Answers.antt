-- `numbers` tells what number 2 asks.
use Rattle.std.proofs.Common.{arith}
use Rattle.answer.specs.Laws.{decides_le}
use Rattle.layout.proofs.numbers.Goals as goal
use Rattle.layout.proofs.numbers.Goals.{then-n-ge1, else-n-ge1}

pub returns-then-n-le-MOST_PLACES : goal.returns-then-n-le-MOST_PLACES
returns-then-n-le-MOST_PLACES c = decides_le _ _ (λ l. omega arith) (λ h. omega arith)

pub returns-else-n-le-MOST_PLACES : goal.returns-else-n-le-MOST_PLACES
returns-else-n-le-MOST_PLACES c = elim c.if-n-ge1.branch [
  | then-n-ge1 w ↦ rw w.t-4-is (decides_le _ _ (λ l. absurd (omega arith)) (λ h. omega arith))
  | else-n-ge1 w ↦ rw w.t-4-is (decides_le _ _ (λ l. absurd (omega arith)) (λ h. omega arith))
]
