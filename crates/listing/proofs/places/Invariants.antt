-- `places` writes a line for each place.
use Rattle.std.specs.Io.KnownBytes.{Appends}
use Rattle.listing.specs.Listing.{place_lines}
use Rattle.listing.proofs.places.Given as goal

abbrev pub invariant-loop-x : goal.invariant-loop-x
invariant-loop-x g l = Appends (g.W.Write.contents l.initial.out) (g.W.Write.contents l.out) (place_lines l.form l.segments l.x)
