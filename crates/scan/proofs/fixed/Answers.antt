use Rattle.std.proofs.Common.{rules}
use Rattle.scan.specs.Laws.{flags_none}
use Rattle.scan.proofs.fixed.Goals as goal

pub loop-r-init : goal.loop-r-init
loop-r-init c = (search rules, flags_none)
