-- `number` has gone over digits alone, and has the number that they say, up to 65,536.
use Rattle.text.specs.Laws.{Saying}
use Rattle.text.proofs.number.Given as goal

abbrev pub invariant-loop-digit : goal.invariant-loop-digit
invariant-loop-digit l = Saying l.word l.digit-index l.value
