use Rattle.std.proofs.KnownBytes.{Appends-nil, Appends-trans}
use Rattle.std.proofs.Common.{add-one}
use Rattle.listing.specs.Listing.{run_lines}
use Rattle.listing.proofs.runs.Goals as goal

pub loop-r-init : goal.loop-r-init
unfolding run_lines
loop-r-init g c = Appends-nil _

pub loop-r-preserved : goal.loop-r-preserved
unfolding run_lines
loop-r-preserved g c = rw add-one (Appends-trans _ _ _ _ _ c.loop-r.invariant c.in_ok-run.ensures)
