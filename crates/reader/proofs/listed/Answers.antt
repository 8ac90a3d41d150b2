-- `listed` tells what number 1 asks.
use Rattle.std.proofs.Common.{arith}
use Rattle.answer.specs.Table.{holds, fails}
use Rattle.reader.proofs.listed.Goals as goal

pub returns-then-image-lt-CONTENTS : goal.returns-then-image-lt-CONTENTS
returns-then-image-lt-CONTENTS c = fails (λ h. omega arith)

pub returns-then-word-ne3 : goal.returns-then-word-ne3
returns-then-word-ne3 c = fails (λ h. omega arith)

pub returns-then-word-ne1 : goal.returns-then-word-ne1
returns-then-word-ne1 c = fails (λ h. omega arith)

pub returns-then-word-ne2 : goal.returns-then-word-ne2
returns-then-word-ne2 c = fails (λ h. omega arith)

pub returns-then-word-ne3-2 : goal.returns-then-word-ne3-2
returns-then-word-ne3-2 c = fails (λ h. omega arith)

pub returns-then-word-ne1-2 : goal.returns-then-word-ne1-2
returns-then-word-ne1-2 c = fails (λ h. omega arith)

pub returns : goal.returns
returns c = holds (omega arith)
