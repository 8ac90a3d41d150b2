use Rattle.std.proofs.Common.{ℕ, List}
use Rattle.bridges.specs.Routine.{Of}
use Rattle.bridges.specs.Supplied.{Feeding}
use Rattle.pieces.specs.Holds.{at}
use Rattle.wirings.specs.Wiring.{Order}
use Rattle.bridges.proofs.fed.Given as goal

abbrev pub invariant-loop-k : goal.invariant-loop-k
invariant-loop-k l = (o : Order) (rank : List ℕ) → Of l.places l.grown.order l.grown.up l.grown.via l.m o rank → Feeding o (at rank) (at l.grown.up) (at l.grown.via) l.fed l.k
