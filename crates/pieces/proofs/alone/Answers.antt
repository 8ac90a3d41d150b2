use Rattle.std.proofs.Common.{rules}
use Rattle.pieces.proofs.alone.Goals as goal

pub returns : goal.returns
returns c = let items = c.from_fn.ensures.items in record { size = items.long; says = λ x l. let (before, after, called) = items.at x 0 l in search rules }
