use Rattle.std.proofs.Common.{◌+◌, ◌-◌, ◌≤◌, length}
use Rattle.forest.specs.Parts.{order_at}
use Rattle.forest.specs.Steps.{Grows}
use Rattle.forest.proofs.grow.Given as goal

-- the candidates below i have been tried, and all places in the order of growth gone through
abbrev pub invariant-loop-i : goal.invariant-loop-i
invariant-loop-i l = Grows (order_at l.places l.runs l.fn.states l.m) l.forest.order l.forest.rank l.forest.up l.forest.via l.count l.now 0 0 l.i × (l.count ≤ l.now)

abbrev pub invariant-loop-now : goal.invariant-loop-now
invariant-loop-now l = Grows (order_at l.places l.runs l.fn.states l.m) l.forest.order l.forest.rank l.forest.up l.forest.via l.count l.now 0 0 (l.i + 1)

abbrev pub decreases-loop-now : goal.decreases-loop-now
decreases-loop-now l = length l.places - l.now

abbrev pub invariant-loop-c : goal.invariant-loop-c
invariant-loop-c l = Grows (order_at l.places l.runs l.fn.states l.m) l.forest.order l.forest.rank l.forest.up l.forest.via l.count l.now l.x l.c (l.i + 1)

abbrev pub decreases-loop-c : goal.decreases-loop-c
decreases-loop-c l = l.c
