-- `runs` writes a line for each run.
use Rattle.std.specs.Io.KnownBytes.{Appends}
use Rattle.listing.specs.Listing.{run_lines}
use Rattle.listing.proofs.runs.Given as goal

abbrev pub invariant-loop-r : goal.invariant-loop-r
invariant-loop-r g l = Appends (g.W.Write.contents l.initial.out) (g.W.Write.contents l.out) (run_lines l.form l.n l.wiring l.r)
