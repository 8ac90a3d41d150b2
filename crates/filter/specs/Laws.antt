-- What the loop over the runs, and putting values into a buffer, leave.
use Rattle.std.specs.Prelude.{ℕ, zero, suc, ◌+◌, ◌*◌, ◌<◌, ◌≤◌, List, ◌≡◌, refl, length, get_or, set, take, drop, ◌++◌, ◌-◌}
use Rattle.std.proofs.Common.{sym, ap, subst, ◌∙◌, length-append, length-drop, length-take-le, length-set, add-one, arith}
use Rattle.std.proofs.lemmas.List.{get_or_append_left, get_or-append_right, get_or-take, get_or-drop}
use Rattle.filter.specs.Filtered.{restated, Written}
use Rattle.layout.specs.Layout.{over_at}

pub restated_none : (f : ℕ → ℕ) (runs : List ℕ) → restated f 0 runs ≡ runs
unfolding restated
restated_none f runs = refl

pub restated_more : (f : ℕ → ℕ) (k : ℕ) (runs : List ℕ) → restated f (k + 1) runs ≡ set (restated f k runs) (5 * k + 4) (f k)
unfolding restated
restated_more f k runs = rw add-one

pub length_restated : (f : ℕ → ℕ) (k : ℕ) (runs : List ℕ) → length (restated f k runs) ≡ length runs
unfolding restated
length_restated f zero runs = refl
length_restated f (suc k) runs = length-set (restated f k runs) (5 * k + 4) (f k) ∙ length_restated f k runs

-- values put at the start of a buffer are the first that are written
pub written_put : {f : ℕ → ℕ} (k : ℕ) (values before : List ℕ) {after : List ℕ} → k ≤ length values → k ≤ length before
    → ((j : ℕ) → j < k → get_or values j 0 ≡ f j) → after ≡ over_at 0 (take k values) before → Written f k before after
written_put {f} k values before {after} within room says e = subst (Written f k before) (sym put) (record {
  size = length-append (take k values) (drop k before) ∙ omega (arith, long, length-drop k before);
  says = λ j l. get_or_append_left (take k values) (drop k before) 0 j (omega (arith, long)) ∙ get_or-take k values j 0 l ∙ says j l;
  rest = λ j l. get_or-append_right (take k values) (drop k before) k j 0 long l ∙ get_or-drop k before (j - k) 0 ∙ ap (λ i. get_or before i 0) (omega arith);
})
  where
    long : length (take k values) ≡ k
    long = length-take-le k values within

    put : after ≡ take k values ++ drop k before
    put = e ∙ ap (λ (n : ℕ). take k values ++ drop n before) (let z : 0 + length (take k values) ≡ length (take k values) = omega arith in z ∙ long)
