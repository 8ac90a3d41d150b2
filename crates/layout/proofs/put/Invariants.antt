-- `put` has written the bytes passed, from `at` on.
use Rattle.std.proofs.Common.{◌≡◌}
use Rattle.std.proofs.Math.Seq.{paste}
use Rattle.layout.proofs.put.Given as goal

abbrev pub invariant-loop-i : goal.invariant-loop-i
invariant-loop-i g l = l.buffer ≡ paste l.initial.buffer l.at l.src l.i
