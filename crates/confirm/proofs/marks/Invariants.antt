-- `marks` has marked the runs passed.
use Rattle.std.proofs.Common.{◌≡◌, length}
use Rattle.confirm.specs.Ready.{MarkedTo}
use Rattle.confirm.proofs.marks.Given as goal

abbrev pub invariant-loop-r : goal.invariant-loop-r
invariant-loop-r l = (length l.marks ≡ 1024) × MarkedTo l.runs l.fn.line.low l.fn.line.high l.states l.judged.labels l.judged.fed l.kinds l.judged.least l.judged.most l.r l.marks
