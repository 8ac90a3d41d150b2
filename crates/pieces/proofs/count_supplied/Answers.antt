use Rattle.std.proofs.Common.{cond, false, rules, tests, arith, length}
use Rattle.std.specs.Bool.{◌==◌}
use Rattle.pieces.specs.Holds.{at, has}
use Rattle.pieces.specs.Laws.{count_passed, when_set}
use Rattle.wirings.specs.Pieces.{fed_pieces}
use Rattle.pieces.proofs.count_supplied.Goals as goal

pub returns : goal.returns
unfolding fed_pieces
returns c = let labels = at c.args.labels in let fed = has c.args.fed in let f = c.filter.ensures in
    count_passed (λ x. cond (labels x == x) (fed x) false) _ (length c.args.places.now) c.count.ensures.ran f.source f.closure
    (λ x b q k. (search rules, search (rules, tests))) (λ x l. when_set (labels x) x _ (c.requires.supplied.says x (omega arith)))
