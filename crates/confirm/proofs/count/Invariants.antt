-- `count` has counted the runs passed.
use Rattle.std.proofs.Common.{◌≤◌, ◌≡◌, get_or}
use Rattle.wirings.specs.Wiring.{Counts}
use Rattle.confirm.proofs.count.Given as goal

abbrev pub invariant-loop-r : goal.invariant-loop-r
invariant-loop-r l = (l.r ≤ l.m) × (l.k ≤ l.r) × Counts (λ j. (get_or l.states j 0 ≡ 1) × (get_or l.marks j 0 ≡ l.state)) l.r l.k
