-- `states` reads off the states of the runs passed.
use Rattle.std.proofs.Common.{◌≤◌, ◌≡◌, length}
use Rattle.confirm.specs.Judged.{StatesOf}
use Rattle.confirm.proofs.states.Given as goal

abbrev pub invariant-loop-r : goal.invariant-loop-r
invariant-loop-r l = (l.r ≤ l.m) × (length l.states ≡ 1024) × StatesOf l.runs l.r l.states
