-- Any two items that the contract of a line allows are equal.
use Rattle.std.specs.Prelude.{ℕ, List, ◌≡◌, Result, Ok, Err}
use Rattle.std.proofs.Common.{sym, subst, ◌∙◌}
use Rattle.text.specs.One.{word_one, says_one}
use Rattle.text.specs.Words.{Word}
use Rattle.items.specs.declared.Fault.{Fault}
use Rattle.items.specs.declared.Item.{Item}
use Rattle.items.specs.declared.Wrong.{Wrong}
use Rattle.items.specs.Items.{Only, If, so, otherwise, With, NumberIn, StateIn, PairWith, PairFrom, PairIn, Whole, RunWith, RunFrom, CountFrom, ItemIn, Reads}

-- K allows one answer at most
abbrev pub One : {R : Type 0} → (R → Type 0) → Type 0
One {R} K = (r s : R) → K r → K s → r ≡ s

only_one : {R : Type 0} (a : R) → One (Only a)
only_one a r s p q = p ∙ sym q

if_one : {R P : Type 0} {A B : R → Type 0} → One A → One B → One (If P A B)
if_one a b r s (so p x) (so q y) = a r s x y
if_one a b r s (so p x) (otherwise n y) = absurd (n p)
if_one a b r s (otherwise n x) (so q y) = absurd (n q)
if_one a b r s (otherwise m x) (otherwise n y) = b r s x y

with_one : {A R : Type 0} {W : A → Type 0} {K : A → R → Type 0} → One W → ((x : A) → One (K x)) → One (With W K)
with_one {K = K} w k r s p q = k q.found r s (subst (λ x. K x r) (w p.found q.found p.meets q.meets) p.gives) q.gives

words_one : (s : List ℕ) (k : ℕ) → One (Word s k)
words_one s k v w p q = word_one p q

number_one : (w : List ℕ) → One (NumberIn w)
number_one w = if_one (only_one _) (with_one (says_one w) (λ d. only_one _))

state_one : (w : List ℕ) → One (StateIn w)
state_one w = if_one (only_one _) (if_one (only_one _) (if_one (only_one _) (if_one (only_one _) (only_one _))))

pair_with : (a : ℕ) (x : Result ℕ Fault) → One (PairWith a x)
pair_with a (Ok b) = only_one _
pair_with a (Err f) = only_one _

pair_from : (s : List ℕ) (x : Result ℕ Fault) → One (PairFrom s x)
pair_from s (Ok a) = with_one (words_one s 2) (λ w. with_one (number_one w) (pair_with a))
pair_from s (Err f) = only_one _

pair_one : (s : List ℕ) → One (PairIn s)
pair_one s = with_one (words_one s 1) (λ w. with_one (number_one w) (pair_from s))

whole_one : (s : List ℕ) (k : ℕ) (item : Item) → One (Whole s k item)
whole_one s k item = with_one (words_one s k) (λ w. if_one (only_one _) (only_one _))

run_with : (s : List ℕ) (u v : ℕ) (x : Result ℕ Fault) → One (RunWith s u v x)
run_with s u v (Ok t) = whole_one s 4 _
run_with s u v (Err f) = only_one _

run_from : (s : List ℕ) (x : Result (ℕ × ℕ) Wrong) → One (RunFrom s x)
run_from s (Ok (u, v)) = with_one (words_one s 3) (λ w. with_one (state_one w) (run_with s u v))
run_from s (Err e) = only_one _

count_from : (s : List ℕ) (x : Result (ℕ × ℕ) Wrong) → One (CountFrom s x)
count_from s (Ok (low, high)) = whole_one s 3 _
count_from s (Err e) = only_one _

item_one : (s w : List ℕ) → One (ItemIn s w)
item_one s w =
    if_one (only_one _) (if_one (only_one _)
    (if_one (whole_one s 1 _) (if_one (whole_one s 1 _)
    (if_one (with_one (pair_one s) (run_from s))
    (if_one (with_one (pair_one s) (count_from s)) (only_one _))))))

pub reads_one : (s : List ℕ) → One (Reads s)
reads_one s = with_one (words_one s 0) (item_one s)
