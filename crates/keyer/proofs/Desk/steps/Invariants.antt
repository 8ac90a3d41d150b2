-- `steps` ends, since each turn leaves fewer words.
use Rattle.std.proofs.Common.{length, ◌-◌, ◌<◌}
use Rattle.keyer.proofs.Desk.steps.Given as goal

abbrev pub invariant-loop-i : goal.invariant-loop-i
invariant-loop-i l = l.step < l.i

abbrev pub decreases-loop-i : goal.decreases-loop-i
decreases-loop-i l = length l.words - l.i
