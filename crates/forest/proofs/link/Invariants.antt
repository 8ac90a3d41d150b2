use Rattle.std.proofs.Common.{ℕ, ◌*◌, List}
use Rattle.forest.specs.Links.{Linked}
use Rattle.forest.specs.Parts.{order_at}
use Rattle.pieces.specs.Holds.{Fits}
use Rattle.forest.proofs.link.Given as goal

abbrev pub invariant-loop-r : goal.invariant-loop-r
invariant-loop-r l = (places : List ℕ) → Fits places l.runs l.m → Linked (order_at places l.runs l.states l.m) l.chains.head l.chains.prev (2 * l.r)
