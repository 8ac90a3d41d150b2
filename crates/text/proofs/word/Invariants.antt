-- `word` goes from the start of each word to the start of the next.
use Rattle.std.proofs.Common.{◌≤◌, length}
use Rattle.text.specs.Words.{Starts}
use Rattle.text.proofs.word.Given as goal

abbrev pub invariant-loop : goal.invariant-loop
invariant-loop l = (l.start ≤ length l.line) × Starts l.line l.counter l.start
