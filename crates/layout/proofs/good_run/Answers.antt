-- `good_run` tells what number 5 asks of one run.
use Rattle.std.proofs.Common.{arith}
use Rattle.answer.specs.Laws.{decides_le, decides_lt}
use Rattle.answer.specs.Table.{fails}
use Rattle.layout.proofs.good_run.Goals as goal
use Rattle.layout.proofs.good_run.Goals.{then-u-v, else-u-v}

pub returns-then-runs-r : goal.returns-then-runs-r
returns-then-runs-r c = fails (λ h. omega arith)

pub returns-then-v-n : goal.returns-then-v-n
returns-then-v-n c = decides_le _ _ (λ l. omega arith) (λ h. omega arith)

pub returns-else-v-n : goal.returns-else-v-n
returns-else-v-n c = elim c.if-u-v.branch [
  | then-u-v w ↦ rw w.t-13-is (decides_lt _ _ (λ l. absurd (omega arith)) (λ h. omega arith))
  | else-u-v w ↦ rw w.t-13-is (decides_lt _ _ (λ l. absurd (omega arith)) (λ h. omega arith))
]
