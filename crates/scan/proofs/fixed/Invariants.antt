use Rattle.std.proofs.Common.{◌≡◌, length}
use Rattle.scan.specs.Scans.{Flags}
use Rattle.scan.proofs.fixed.Given as goal

abbrev pub invariant-loop-r : goal.invariant-loop-r
invariant-loop-r l = (length l.flags ≡ 1024) × Flags l.states l.r l.flags
