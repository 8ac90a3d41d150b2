use Rattle.std.proofs.Common.{ℕ, ◌+◌, ◌≡◌, length}
use Rattle.bridges.specs.Climbed.{Climb}
use Rattle.bridges.specs.Routine.{Crossed}
use Rattle.pieces.specs.Holds.{at}
use Rattle.wirings.specs.Wiring.{Order}
use Rattle.bridges.proofs.climb.Given as goal

abbrev pub invariant-loop-a : goal.invariant-loop-a
invariant-loop-a l = (length l.passed ≡ 256) × ((o : Order) (via : ℕ → ℕ) → Crossed l.grown.rank l.grown.up l.u l.v o via → Climb o (at l.grown.rank) (at l.grown.up) via l.u l.v l.initial.passed l.passed l.a l.b)

abbrev pub decreases-loop-a : goal.decreases-loop-a
decreases-loop-a l = at l.grown.rank l.a + at l.grown.rank l.b
