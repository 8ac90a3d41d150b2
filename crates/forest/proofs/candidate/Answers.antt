use Rattle.std.proofs.Common.{length, ap, arith}
use Rattle.pieces.specs.Holds.{at}
use Rattle.forest.specs.Steps.{less_one}
use Rattle.forest.specs.Parts.{supply, place, none}
use Rattle.forest.proofs.candidate.Goals as goal
use Rattle.forest.proofs.candidate.Goals.{else-places-i-eq1-via-then-places-i-eq1+else-rank-i-eq0, else-places-i-eq1-via-else-places-i-eq1, else-z-n-via-then-z-n+else-rank-z-eq0, else-z-n-via-else-z-n}

pub returns-then-rank-i-eq0 : goal.returns-then-rank-i-eq0
returns-then-rank-i-eq0 c = supply (omega arith) (omega arith) (omega arith)

pub returns-else-places-i-eq1 : goal.returns-else-places-i-eq1
returns-else-places-i-eq1 c = none (λ l s. elim c.else-places-i-eq1.branch [ else-places-i-eq1-via-then-places-i-eq1+else-rank-i-eq0 w ↦ omega arith | else-places-i-eq1-via-else-places-i-eq1 w ↦ omega arith ])
    (λ y e l. absurd (omega arith))

pub returns-then-rank-z-eq0 : goal.returns-then-rank-z-eq0
returns-then-rank-z-eq0 c = place (omega arith) (omega arith) (omega arith)

pub returns-else-z-n : goal.returns-else-z-n
returns-else-z-n c = none (λ l. absurd (omega arith))
    (λ y e l. let same = ap (at c.args.rank.now) (less_one (length c.args.places.now) y c.args.i e) in
    elim c.else-z-n.branch [ else-z-n-via-then-z-n+else-rank-z-eq0 w ↦ omega arith | else-z-n-via-else-z-n w ↦ omega arith ])
