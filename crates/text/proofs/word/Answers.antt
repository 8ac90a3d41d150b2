use Rattle.std.proofs.Common.{◌≡◌, ℕ, ◌+◌, ◌-◌, ◌≤◌, ◌<◌, true, false, not, List, length, get_or, sym, ◌∙◌, arith, rules}
use Rattle.std.proofs.lemmas.Bool.{not-false, not-true, true≢false}
use Rattle.text.specs.Laws.{one_on, word_at}
use Rattle.text.specs.Words.{is_blank, Reaches, first}
use Rattle.text.proofs.word.Goals as goal

module _ {s : List ℕ} {from r : ℕ} (on : from ≤ r) (within : r ≤ length s) where
  -- the first blank from a place on
  past_word : ((k : ℕ) → from + k < r → false ≡ is_blank (get_or s (from + k) 0))
      → (r < length s → true ≡ is_blank (get_or s r 0)) → Reaches false s from r
  past_word before found = record {
    on = on;
    within = within;
    before = λ j a b. let e : from + (j - from) ≡ j = omega arith in sym (rw e at (before (j - from) (omega arith)));
    found = λ h e. true≢false (found h ∙ e);
  }

  -- the first byte from a place on that is no blank
  past_blanks : ((k : ℕ) → from + k < r → false ≡ not (is_blank (get_or s (from + k) 0)))
      → (r < length s → true ≡ not (is_blank (get_or s r 0))) → Reaches true s from r
  past_blanks before found = record {
    on = on;
    within = within;
    before = λ j a b. let e : from + (j - from) ≡ j = omega arith in rw e at (not-false _ (sym (before (j - from) (omega arith))));
    found = λ h e. true≢false (sym e ∙ not-true _ (sym (found h)));
  }

pub loop-init : goal.loop-init
loop-init c = (search rules, first (past_blanks (search rules) c.first-start.ensures.within c.first-start.ensures.before c.first-start.ensures.found))

pub loop-preserved : goal.loop-preserved
loop-preserved c =
    let a = c.first.ensures in let b = c.first-start-in-loop.ensures in
    (search rules, one_on c.loop.invariant.1 (past_word a.on a.within a.before a.found) (past_blanks b.on b.within b.before b.found))

pub returns : goal.returns
returns c = let a = c.first-2.ensures in word_at c.loop.invariant.1 (search rules) (search rules) (past_word a.on a.within a.before a.found)
