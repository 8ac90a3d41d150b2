-- `laid` tells what number 3 asks.
use Rattle.std.proofs.Common.{arith}
use Rattle.answer.specs.Table.{holds, fails}
use Rattle.reader.proofs.laid.Goals as goal

pub returns-then-from-ne-CONTENTS : goal.returns-then-from-ne-CONTENTS
returns-then-from-ne-CONTENTS c = fails (λ h. omega arith)

pub returns-then-from-runs_at : goal.returns-then-from-runs_at
returns-then-from-runs_at c = fails (λ h. omega arith)

pub returns-then-from-line_at : goal.returns-then-from-line_at
returns-then-from-line_at c = fails (λ h. omega arith)

pub returns-then-image-line_at : goal.returns-then-image-line_at
returns-then-image-line_at c = fails (λ h. omega arith)

pub returns : goal.returns
returns c = holds (omega arith)
