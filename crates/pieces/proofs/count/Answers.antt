use Rattle.std.proofs.Common.{rules}
use Rattle.std.specs.Bool.{◌==◌}
use Rattle.pieces.specs.Holds.{at}
use Rattle.pieces.specs.Laws.{count_passed, when_eq}
use Rattle.wirings.specs.Pieces.{pieces}
use Rattle.pieces.proofs.count.Goals as goal

pub returns : goal.returns
unfolding pieces
returns c = let labels = at c.args.labels in let f = c.filter.ensures in
    count_passed (λ x. labels x == x) _ c.args.n c.count.ensures.ran f.source f.closure (λ x b q k. (search rules, search rules)) (λ x l. when_eq (labels x) x)
