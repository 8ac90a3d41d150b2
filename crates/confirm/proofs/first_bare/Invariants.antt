-- `first_bare` finds the first place whose piece holds no supply: all it has passed have one.
use Rattle.std.proofs.Common.{◌≡◌, true}
use Rattle.answer.specs.Table.{Going}
use Rattle.pieces.specs.Holds.{at, has}
use Rattle.confirm.proofs.first_bare.Given as goal

abbrev pub invariant-loop-x : goal.invariant-loop-x
invariant-loop-x l = Going (λ y. has l.fed (at l.labels y) ≡ true) l.n l.x
