use Rattle.std.proofs.Common.{refl, arith}
use Rattle.confirm.specs.Laws.{states_none}
use Rattle.confirm.proofs.states.Goals as goal

pub loop-r-init : goal.loop-r-init
loop-r-init c = (omega arith, refl, states_none _ 1024)
