use Rattle.std.proofs.Common.{◌≡◌, ◌++◌, map, take, drop}
use Rattle.pieces.specs.Holds.{at}
use Rattle.wirings.specs.Labels.{moved}
use Rattle.pieces.proofs.join.Given as goal

abbrev pub invariant-loop-label : goal.invariant-loop-label
invariant-loop-label l = let labels = l.fn.labels in
    l.label-items ≡ map (moved (at labels l.u) (at labels l.v)) (take l.label-index labels) ++ drop l.label-index labels
