use Rattle.bridges.specs.Routine.{round, supplied, bare}
use Rattle.bridges.proofs.kind_of.Goals as goal

pub returns-in-true-default : goal.returns-in-true-default
returns-in-true-default c = round c.in-true-default.is-0

pub returns-in-false-true : goal.returns-in-false-true
returns-in-false-true c = supplied c.in-false-true.is-0 c.in-false-true.is-1

pub returns-in-false-false : goal.returns-in-false-false
returns-in-false-false c = bare c.in-false-false.is-0 c.in-false-false.is-1
