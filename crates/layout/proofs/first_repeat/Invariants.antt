-- `first_repeat` finds the first run with the ends of an earlier one. Outer loop: all runs passed are fresh; inner: all earlier runs passed are apart from this one.
use Rattle.answer.specs.Table.{Going}
use Rattle.layout.specs.Layout.{sizes}
use Rattle.layout.specs.Rows.{Fresh, Apart}
use Rattle.layout.proofs.first_repeat.Given as goal

abbrev pub invariant-loop-earlier : goal.invariant-loop-earlier
invariant-loop-earlier l = Going (Apart sizes l.runs l.later) l.later l.earlier

abbrev pub invariant-loop-later : goal.invariant-loop-later
invariant-loop-later l = Going (Fresh sizes l.runs) l.m l.later
