use Rattle.std.proofs.KnownBytes.{Appends-nil, Appends-trans}
use Rattle.std.proofs.Common.{add-one}
use Rattle.listing.specs.Listing.{place_lines}
use Rattle.listing.proofs.places.Goals as goal

pub loop-x-init : goal.loop-x-init
unfolding place_lines
loop-x-init g c = Appends-nil _

pub loop-x-preserved : goal.loop-x-preserved
unfolding place_lines
loop-x-preserved g c = rw add-one (Appends-trans _ _ _ _ _ c.loop-x.invariant c.in_ok-place.ensures)
