-- `first_bad_run` finds the first run that is not good: all it has passed are.
use Rattle.answer.specs.Table.{Going}
use Rattle.layout.specs.Layout.{sizes}
use Rattle.layout.specs.Rows.{Good}
use Rattle.layout.proofs.first_bad_run.Given as goal

abbrev pub invariant-loop-r : goal.invariant-loop-r
invariant-loop-r l = Going (Good sizes l.n l.runs) l.m l.r
