-- Laws of what the piece finder's loops have done so far, and of what its counts give.
use denote.Param.Members.{Mut}
use denote.Ref.{Bor}
use Rattle.std.specs.Prelude.{ℕ, zero, suc, min, ◌+◌, ◌≤◌, ◌<◌, eqb, ltb, Bool, true, false, cond, List, ◌≡◌, length, get_or, set, replicate, Option, Some, None}
use Rattle.std.specs.Fn.{CalledAt}
use Rattle.std.specs.Iterator.{Drains}
use Rattle.std.specs.declared.iter.Filter.{Filter}
use Rattle.std.specs.Iterator.Adapters.{filter_steps, filter_source, filter_callee}
use Rattle.std.specs.declared.ops.Range.{Range}
use Rattle.std.specs.List.{range_with_len, count_by, sum_by}
use Rattle.std.specs.Option.{option_or}
use Rattle.std.proofs.Common.{sym, subst, ◌∙◌, eq-eqb, ne_eqb, lt-ltb, le-ltb, ltb-true, ltb-false, add-one, arith}
use Rattle.std.proofs.Math.Path.{refl, ap}
use Rattle.std.proofs.Math.ListN.{length-set, length-replicate, get_or-replicate, get_or-eq_default}
use Rattle.std.proofs.Math.Seq.{get_or-set_same, get_or-set_other}
use Rattle.std.proofs.Math.Decide.{ℕ_discrete, dec_lt}
use Rattle.std.proofs.iter.Yields.{nat_range_steps}
use Rattle.std.proofs.lemmas.Iterator.{YieldsList-from_range}
use Rattle.std.proofs.lemmas.Iterator.Consumers.{YieldsList-at, YieldsList-from_filter, count_from_yields_List}
use Rattle.std.proofs.lemmas.List.FromFn.{sum_by-map-range_with_len_more}
use Rattle.std.proofs.lemmas.List.Sums.{sum-map, length-filter}
use Rattle.answer.specs.Laws.{going_more, found_none}
use Rattle.answer.specs.Table.{Finds}
use Rattle.layout.specs.Layout.{sizes, end_u, end_v, Shows}
use Rattle.wirings.specs.Chosen.{taken, chosen, flagged}
use Rattle.wirings.specs.Labels.{moved, Moved, went, stayed, moves, labels}
use Rattle.wirings.specs.Pieces.{stock}
use Rattle.wirings.specs.Tally.{when, when_is, when_not, tally}
use Rattle.pieces.specs.Holds.{at, Holds, has, Tells, Ended, labels_of, Opens}

-- an array of zeros has nothing else
pub zeros : (k x : ℕ) → at (replicate k 0) x ≡ 0
zeros k x = elim (dec_lt x k) [ yes l ↦ get_or-replicate {A = ℕ} k x 0 0 l | no l ↦ get_or-eq_default (replicate k 0) 0 {n = x} (omega (arith, length-replicate {A = ℕ} k 0)) ]

-- an array holds what is the same as what it holds
pub holds_same : {f g : ℕ → ℕ} {array : List ℕ} → Holds f array → ((x : ℕ) → x < 256 → f x ≡ g x) → Holds g array
holds_same h e = record { size = h.size; says = λ x l. h.says x l ∙ e x l }

-- and so do flags that tell one
pub tells_same : {f g : ℕ → ℕ} {flags : List Bool} → Tells f flags → ((x : ℕ) → x < 256 → f x ≡ g x) → Tells g flags
tells_same h e = record { size = h.size; says = λ x l. h.says x l ∙ ap (ltb 0) (e x l) }

-- ---- counts: of the numbers below n, those that pass a test
sum_more : (c : ℕ → ℕ) (n : ℕ) → sum_by c (range_with_len 0 (suc n)) ≡ sum_by c (range_with_len 0 n) + c n
sum_more c n =
    subst (λ (k : ℕ). sum_by c (range_with_len 0 k) ≡ sum_by c (range_with_len 0 n) + c n) (add-one n)
    (sym (sum-map c (range_with_len 0 (n + 1))) ∙ sum_by-map-range_with_len_more (λ x. x) c 0 n n (omega arith) ∙ ap (λ (k : ℕ). k + c n) (sum-map c (range_with_len 0 n)))

passed : (p : ℕ → Bool) (f : ℕ → ℕ) (n : ℕ) → ((x : ℕ) → x < n → cond (p x) 1 0 ≡ f x) → count_by p (range_with_len 0 n) ≡ tally f n
unfolding tally
passed p f zero h = refl
passed p f (suc n) h = omega (arith, sum_more (λ x. cond (p x) 1 0) n, h n (omega arith), passed p f n (λ x l. h x (omega arith)))

-- a chain that counts them gives f's sum, where each call gives what the test says and leaves the closure as it was
pub count_passed : {F : Type 0} {g : Mut F (Bor ℕ × Unit {0}) Bool} {s : Filter (Range ℕ) F} {p : F} {result : ℕ} (test : ℕ → Bool) (f : ℕ → ℕ) (n : ℕ)
    → ((xs : List ℕ) × Drains (filter_steps nat_range_steps g) s xs × (result ≡ length xs)) → filter_source s ≡ record { start = 0; end = n } → filter_callee s ≡ p
    → ((x : ℕ) (b : Bool) (q : F) → CalledAt g p x b q → (q ≡ p) × (b ≡ test x)) → ((x : ℕ) → x < n → cond (test x) 1 0 ≡ f x) → result ≡ tally f n
count_passed {g = g} {s} {result = result} test f n ran source callee calls same =
    count_from_yields_List s result ran (YieldsList-from_filter g test (YieldsList-at source (YieldsList-from_range 0 n n refl (omega arith))) callee calls)
    ∙ length-filter test (range_with_len 0 n) ∙ passed test f n same

-- what a test adds where two numbers are equal, and where a flag is set too
pub when_eq : (p q : ℕ) → cond (eqb p q) 1 0 ≡ when p q 1
when_eq p q = elim (ℕ_discrete p q) [ yes e ↦ rw (eq-eqb p q e) (sym (when_is p q 1 e)) | no n ↦ rw (ne_eqb p q n) (sym (when_not p q 1 n)) ]

one_flag : (k : Bool) (z : ℕ) → k ≡ ltb 0 z → cond k 1 0 ≡ min 1 z
one_flag true z e = omega (arith, ltb-true 0 z (sym e))
one_flag false z e = omega (arith, ltb-false 0 z (sym e))

pub when_set : (p q z : ℕ) {k : Bool} → k ≡ ltb 0 z → cond (cond (eqb p q) k false) 1 0 ≡ when p q (min 1 z)
when_set p q z {k} e = elim (ℕ_discrete p q) [
  | yes s ↦ rw (eq-eqb p q s) (one_flag k z e ∙ sym (when_is p q (min 1 z) s))
  | no n ↦ rw (ne_eqb p q n) (sym (when_not p q (min 1 z) n))
]

-- ---- what `supplied` has seen: the first n places
abbrev pub Seen : (ℕ → ℕ) → (ℕ → ℕ) → List Bool → ℕ → Type 0
Seen supply lab fed n = Tells (stock n supply lab) fed

module _ (supply lab : ℕ → ℕ) where
  stock_more : (n x : ℕ) → stock (n + 1) supply lab x ≡ when (lab n) x (supply n) + stock n supply lab x
  unfolding stock tally
  stock_more n x = ap (λ (k : ℕ). stock k supply lab x) (add-one n)

  pub seen_none : Seen supply lab (replicate 256 false) 0
  unfolding stock tally
  seen_none = record { size = length-replicate {A = Bool} 256 false; says = λ x l. get_or-replicate {A = Bool} 256 x false false l }

  module _ {fed : List Bool} {n : ℕ} (h : Seen supply lab fed n) where
    pub seen_pass : supply n ≡ 0 → Seen supply lab fed (n + 1)
    seen_pass e = tells_same h (λ x l. elim (ℕ_discrete (lab n) x) [
      | yes p ↦ omega (arith, stock_more n x, when_is (lab n) x (supply n) p)
      | no p ↦ omega (arith, stock_more n x, when_not (lab n) x (supply n) p)
    ])

    pub seen_supply : supply n ≡ 1 → lab n < 256 → Seen supply lab (set fed (lab n) true) (n + 1)
    seen_supply e l =
        record {
          size = length-set fed (lab n) true ∙ h.size;
          says = λ x k. elim (ℕ_discrete (lab n) x) [
            | yes p ↦ ap (has (set fed (lab n) true)) (sym p) ∙ get_or-set_same fed (lab n) true false (omega (arith, h.size))
                ∙ sym (lt-ltb 0 (stock (n + 1) supply lab x) (omega (arith, stock_more n x, when_is (lab n) x (supply n) p)))
            | no p ↦ get_or-set_other fed (lab n) x true false (λ q. p (sym q)) ∙ h.says x k
                ∙ ap (ltb 0) (omega (arith, stock_more n x, when_not (lab n) x (supply n) p))
          ];
        }

-- ---- a search that goes on past the first fault: what it has found below r, and below r + 1
pub finds_none : {good : ℕ → Type 0} → Finds good 0 None
finds_none = record { first = record { within = omega arith; before = λ j l. absurd (omega arith); found = λ l. absurd (omega arith) }; inside = tt }

module _ {good : ℕ → Type 0} {r : ℕ} where
  -- what it has found stays, where there is any or the next is good
  finds_still : {j : ℕ} → Finds good r (Some j) → Finds good (r + 1) (Some j)
  finds_still f = record { first = record { within = omega (arith, f.inside); before = f.first.before; found = λ l. f.first.found f.inside }; inside = omega (arith, f.inside) }

  pub finds_good : (k : Option ℕ) → good r → Finds good r k → Finds good (r + 1) k
  finds_good None h f = record { first = found_none (going_more (record { within = omega arith; before = f.first.before }) (omega arith) h) (omega arith); inside = tt }
  finds_good (Some j) h f = finds_still f

  pub finds_bad : (k : Option ℕ) → (good r → ⊥) → Finds good r k → Finds good (r + 1) (option_or k (Some r))
  finds_bad None h f = record { first = record { within = omega arith; before = f.first.before; found = λ l. h }; inside = omega arith }
  finds_bad (Some j) h f = finds_still f

-- ---- the labels after one more run
module _ (runs flags : List ℕ) where
  pub labels_none : (x : ℕ) → x ≡ labels_of runs flags 0 x
  unfolding chosen labels
  labels_none x = refl

  labels_step : (r : ℕ) (x : ℕ) (b : Bool) → flagged flags r ≡ b → labels_of runs flags (r + 1) x ≡ labels (end_u sizes runs) (end_v sizes runs) (taken b r (chosen (flagged flags) r)) x
  unfolding chosen
  labels_step r x b e = ap (λ (k : ℕ). labels_of runs flags k x) (add-one r) ∙ ap (λ (b : Bool). labels (end_u sizes runs) (end_v sizes runs) (taken b r (chosen (flagged flags) r)) x) e

  pub labels_pass : (r : ℕ) → get_or flags r 0 ≤ 0 → (x : ℕ) → labels_of runs flags (r + 1) x ≡ labels_of runs flags r x
  labels_pass r l x = labels_step r x false (le-ltb 0 (get_or flags r 0) l)

  pub labels_join : (r : ℕ) → 0 < get_or flags r 0 → (x : ℕ) → labels_of runs flags (r + 1) x ≡ moved (labels_of runs flags r (end_u sizes runs r)) (labels_of runs flags r (end_v sizes runs r)) (labels_of runs flags r x)
  unfolding labels
  labels_join r l x = labels_step r x true (lt-ltb 0 (get_or flags r 0) l)

-- labels that are one already do not move
pub moved_one : (a b y : ℕ) → a ≡ b → moved a b y ≡ y
moved_one a b y e = go (moves a b y)
  where
    go : {z : ℕ} → Moved a b y z → z ≡ y
    go (went p q) = omega arith
    go (stayed p q) = q

-- ---- what `find` has done after r runs
pub record Searched (runs flags labels : List ℕ) (closing : Option ℕ) (r : ℕ) : Type 0 where
  pub holds : Holds (labels_of runs flags r) labels
  pub first : Finds (Opens runs flags) r closing

pub searched_none : {runs flags labels : List ℕ} → Holds (λ x. x) labels → Searched runs flags labels None 0
searched_none {runs} {flags} h = record { holds = holds_same h (λ x l. labels_none runs flags x); first = finds_none }

module _ {runs flags labels : List ℕ} {closing : Option ℕ} {r : ℕ} (s : Searched runs flags labels closing r) where
  pub searched_pass : get_or flags r 0 ≤ 0 → Searched runs flags labels closing (r + 1)
  searched_pass none =
      record { holds = holds_same s.holds (λ x k. sym (labels_pass runs flags r none x)); first = finds_good closing (λ f. absurd (omega arith)) s.first }

  -- run r is chosen, and its ends are u and v
  module _ {m u v state : ℕ} (ended : Ended runs m) (l : r < m) (flag : 0 < get_or flags r 0) (shows : Shows sizes runs r u v state) where
    at_u : at labels u ≡ labels_of runs flags r (end_u sizes runs r)
    at_u = s.holds.says u (omega (arith, ended.one r l, shows.one)) ∙ ap (labels_of runs flags r) shows.one

    at_v : at labels v ≡ labels_of runs flags r (end_v sizes runs r)
    at_v = s.holds.says v (omega (arith, ended.other r l, shows.other)) ∙ ap (labels_of runs flags r) shows.other

    pub searched_closed : at labels u ≡ at labels v → Searched runs flags labels (option_or closing (Some r)) (r + 1)
    searched_closed one =
        record {
          holds = holds_same s.holds (λ x k. sym (labels_join runs flags r flag x ∙ moved_one _ _ _ same));
          first = finds_bad closing (λ opens. opens flag same) s.first;
        }
      where
        same : labels_of runs flags r (end_u sizes runs r) ≡ labels_of runs flags r (end_v sizes runs r)
        same = sym at_u ∙ one ∙ at_v

    pub searched_join : {new : List ℕ} → (at labels u ≡ at labels v → ⊥) → Holds (λ x. moved (at labels u) (at labels v) (at labels x)) new → Searched runs flags new closing (r + 1)
    searched_join two h =
        record {
          holds = holds_same h (λ x k. cc (at_u, at_v, s.holds.says x k, labels_join runs flags r flag x));
          first = finds_good closing (λ f e. two (at_u ∙ e ∙ sym at_v)) s.first;
        }
