-- `asked` ends, since each turn leaves fewer words; what the words from here on ask for, all words do.
use Rattle.std.proofs.Common.{◌-◌, length}
use Rattle.std.specs.Prelude.{Result}
use Rattle.words.specs.declared.Keying.{Keying}
use Rattle.words.specs.declared.Nonsense.{Nonsense}
use Rattle.words.specs.Said.{AsksFrom, Asks}
use Rattle.words.proofs.asked.Given as goal

abbrev pub invariant-loop-i : goal.invariant-loop-i
invariant-loop-i l = (asked : Result Keying Nonsense) → AsksFrom l.words l.i l.amended l.file asked → Asks l.words asked

abbrev pub decreases-loop-i : goal.decreases-loop-i
decreases-loop-i l = length l.words - l.i
