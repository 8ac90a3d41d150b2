-- `restate` has written the states of the runs passed.
use Rattle.std.proofs.Common.{◌≤◌, ◌≡◌, length}
use Rattle.filter.specs.Filtered.{restated}
use Rattle.pieces.specs.Holds.{at}
use Rattle.filter.proofs.restate.Given as goal

abbrev pub invariant-loop-r : goal.invariant-loop-r
invariant-loop-r l = (l.r ≤ l.m) × (length l.runs ≡ length l.initial.runs) × (l.runs ≡ restated (at l.marks) l.r l.initial.runs)
