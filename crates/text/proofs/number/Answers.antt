use Rattle.std.proofs.Common.{◌≡◌, ◌≤◌, ◌<◌, ℕ, List, length, arith, rules}
use Rattle.std.specs.Prelude.{Result, Ok, Err, MatchResult, IsErrAnd}
use Rattle.std.specs.Result.{OkIff}
use Rattle.text.specs.declared.NotANumber.{NotANumber}
use Rattle.text.specs.declared.NotANumber.TheVariants.{Above}
use Rattle.text.specs.Numbers.{Says}
use Rattle.text.specs.Laws.{Saying, saying_none, saying_more, says_above, says_is}
use Rattle.text.proofs.number.Goals as goal

-- the word's number, as far as it goes, turned into 16 bits
in_16_bits : {s : List ℕ} {k v : ℕ} {E : Type 0} {Q : E → NotANumber → Type 0} (x : Result ℕ E) (y : Result ℕ NotANumber)
    → 0 < length s → Saying s k v → length s ≤ k → OkIff x (v < 65536) v → ((e : E) (a : NotANumber) → Q e a → a ≡ Above)
    → MatchResult x (λ w. y ≡ Ok w) (λ e. IsErrAnd y (Q e)) → Says s y
in_16_bits (Ok w) y l g e p q r = rw r (let a = says_is l g e (omega arith) in rw p.1 a)
in_16_bits (Err d) (Ok w) l g e p q r = absurd r
in_16_bits (Err d) (Err a) l g e p q r = rw (q d a r) (says_above l g e (omega arith))

pub loop-digit-init : goal.loop-digit-init
loop-digit-init c = saying_none

pub loop-digit-preserved : goal.loop-digit-preserved
loop-digit-preserved c =
    saying_more c.loop-digit.invariant (search rules) (search rules) (search rules) (omega (arith, c.min-value.ensures, c.from.ensures))

pub returns : goal.returns
returns c =
    in_16_bits c.try_from.result c.map_err.result (search rules) c.loop-digit.invariant (search rules)
    c.try_from.ensures (λ e a. search rules) c.map_err.ensures.cases
