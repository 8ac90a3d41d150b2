-- Tests that compute the outcome of an order, numbers 9 to 11 and the confirmation, and that each decides what it tests.
use Rattle.std.specs.Prelude.{ℕ, zero, suc, min, ◌-◌, ◌≤◌, ◌<◌, Bool, true, false, cond, not, ◌&&◌, ◌||◌, List, ◌∷◌, ◌⊎◌, ◌≡◌, eqb, ltb, leb}
use Rattle.std.proofs.Common.{inl, inr, ⊎_elim, sym, subst, eqb-true, eq-eqb, ltb-true, ltb-false, leb-true, leb-false, arith}
use Rattle.std.proofs.Math.Path.{refl}
use Rattle.std.proofs.lemmas.Bool.{eqb-false}
use Rattle.std.proofs.Math.Decide.{ℕ_discrete, dec_lt}
use Rattle.answer.specs.Laws.{decided, refuses_at, passes_each, refuses, passes, ends}
use Rattle.answer.specs.Reply.{Reply, accepted, refused}
use Rattle.answer.specs.Table.{First, Settled, Decides, holds, fails}
use Rattle.wirings.specs.Chosen.{chosen, chosen_used, used_chosen}
use Rattle.wirings.specs.Confirmed.{Never, Always, Some, Mark, kept, struck, pinned, stays}
use Rattle.wirings.specs.Counted.{Sound, stocked, fed_stocked, stocked_fed}
use Rattle.wirings.specs.Joined.{joined_mono, fed_mono}
use Rattle.wirings.specs.Labels.{In, label, joined_same, same_joined}
use Rattle.wirings.specs.Limits.{fixed_runs, unstruck_runs, least, most}
use Rattle.wirings.proofs.Limits.{unstruck_in, in_unstruck}
use Rattle.wirings.specs.Marks.{Others}
use Rattle.wirings.proofs.Marks.{never_joined, never_full, some_free, some_spare, free_none, pinned_bare, pinned_fed, free_fed}
use Rattle.wirings.specs.Scan.{Scan, Verdict, closed, full, free, spends, Goes, begin, pass, look}
use Rattle.wirings.specs.Theorem1.{Opens, Reached, Meets, Met, order_rows}
use Rattle.wirings.specs.Wiring.{Order, Joined, Counts, none, one, skip, Fed}

-- ---- tests of numbers, and tests made of tests
pub decides_equal : (a b : ℕ) → Decides (a ≡ b) (eqb a b)
decides_equal a b = go (eqb a b) refl
  where
    go : (t : Bool) → eqb a b ≡ t → Decides (a ≡ b) t
    go true e = holds (eqb-true a b e)
    go false e = fails (eqb-false a b e)

pub decides_less : (a b : ℕ) → Decides (a < b) (ltb a b)
decides_less a b = go (ltb a b) refl
  where
    go : (t : Bool) → ltb a b ≡ t → Decides (a < b) t
    go true e = holds (ltb-true a b e)
    go false e = fails (λ l. omega (arith, ltb-false a b e))

pub decides_most : (a b : ℕ) → Decides (a ≤ b) (leb a b)
decides_most a b = go (leb a b) refl
  where
    go : (t : Bool) → leb a b ≡ t → Decides (a ≤ b) t
    go true e = holds (leb-true a b e)
    go false e = fails (λ l. omega (arith, leb-false a b e))

pub decides_both : {P Q : Type 0} {a b : Bool} → Decides P a → Decides Q b → Decides (P × Q) (a && b)
decides_both (holds p) (holds q) = holds (p, q)
decides_both (holds p) (fails n) = fails (λ h. n h.1)
decides_both (fails n) d = fails (λ h. n h.0)

pub decides_either : {P Q : Type 0} {a b : Bool} → Decides P a → Decides Q b → Decides (P ⊎ Q) (a || b)
decides_either (holds p) d = holds (inl p)
decides_either (fails n) (holds q) = holds (inr q)
decides_either (fails n) (fails m) = fails (λ h. ⊎_elim n m h)

pub decides_not : {P : Type 0} {a : Bool} → Decides P a → Decides (P → ⊥) (not a)
decides_not (holds p) = fails (λ n. n p)
decides_not (fails n) = holds n

proved : {P : Type 0} {a : Bool} → Decides P a → P → a ≡ true
proved (holds q) p = refl
proved (fails n) p = absurd (n p)

pub decides_as : {P Q : Type 0} {a : Bool} → (P → Q) → (Q → P) → Decides P a → Decides Q a
decides_as f g (holds p) = holds (f p)
decides_as f g (fails n) = fails (λ q. n (g q))

-- the test holds of every number below n
unfoldable pub all_below : (ℕ → Bool) → ℕ → Bool
all_below t zero = true
all_below t (suc k) = t k && all_below t k

pub decides_below : {P : ℕ → Type 0} (t : ℕ → Bool) (n : ℕ) → ((j : ℕ) → Decides (P j) (t j)) → Decides ((j : ℕ) → j < n → P j) (all_below t n)
unfolding all_below
decides_below t zero d = holds (λ j l. absurd (omega arith))
decides_below {P} t (suc k) d = decides_as more (λ f. (f k (omega arith), λ j l. f j (omega arith))) (decides_both (d k) (decides_below t k d))
  where
    more : P k × ((j : ℕ) → j < k → P j) → (j : ℕ) → j < suc k → P j
    more h j l = elim (ℕ_discrete j k) [ yes e ↦ subst P (sym e) h.0 | no n ↦ h.1 j (omega arith) ]

-- the first number below n where the test fails, or n
abbrev first_step : ℕ → ℕ → Bool → Bool → ℕ
first_step k n true t = k
first_step k n false true = suc n
first_step k n false false = n

unfoldable pub first_bad : (ℕ → Bool) → ℕ → ℕ
first_bad t zero = 0
first_bad t (suc n) = let k = first_bad t n in first_step k n (ltb k n) (t n)

pub first_bad_lem : {P : ℕ → Type 0} (t : ℕ → Bool) (n : ℕ) → ((j : ℕ) → Decides (P j) (t j)) → First P n (first_bad t n)
unfolding first_bad
first_bad_lem t zero d = record { within = omega arith; before = λ j l. absurd (omega arith); found = λ l. absurd (omega arith) }
first_bad_lem {P} t (suc n) d = go (first_bad_lem t n d) (decides_less (first_bad t n) n) (d n)
  where
    go : {k : ℕ} {b c : Bool} → First P n k → Decides (k < n) b → Decides (P n) c → First P (suc n) (first_step k n b c)
    go f (holds l) e = record { within = omega (arith, f.within); before = f.before; found = λ _. f.found l }
    go {k} f (fails l) (holds p) = record {
      within = omega arith;
      before = λ j h. elim (ℕ_discrete j n) [ yes e ↦ subst P (sym e) p | no m ↦ f.before j (omega (arith, f.within)) ];
      found = λ h. absurd (omega arith);
    }
    go {k} f (fails l) (fails p) = record { within = omega arith; before = λ j h. f.before j (omega (arith, f.within)); found = λ _. p }

-- how many numbers below n pass
unfoldable pub count_of : (ℕ → Bool) → ℕ → ℕ
count_of t zero = 0
count_of t (suc n) = let k = count_of t n in cond (t n) (suc k) k

pub counts_of : {P : ℕ → Type 0} (t : ℕ → Bool) (n : ℕ) → ((j : ℕ) → Decides (P j) (t j)) → Counts P n (count_of t n)
unfolding count_of
counts_of t zero d = none
counts_of {P} t (suc n) d = go (counts_of t n d) (d n)
  where
    go : {k : ℕ} {b : Bool} → Counts P n k → Decides (P n) b → Counts P (suc n) (cond b (suc k) k)
    go c (holds p) = one c p
    go c (fails p) = skip c p

-- ---- an order without a fault
unfoldable pub sound_by : Order → Bool
sound_by o =
    all_below (λ r. ltb (o.u r) (o.v r) && ltb (o.v r) o.n) o.m
    && all_below (λ r. leb (o.state r) 2) o.m
    && all_below (λ r. all_below (λ j. eqb r j || not (eqb (o.u r) (o.u j) && eqb (o.v r) (o.v j))) o.m) o.m

pub sound_by_lem : (o : Order) → ((x : ℕ) → o.supply x ≤ 1) → sound_by o ≡ true → Sound o
unfolding sound_by
sound_by_lem o bits e =
    let lead = decides_below _ o.m (λ r. decides_both (decides_less (o.u r) (o.v r)) (decides_less (o.v r) o.n)) in
    let marks = decides_below _ o.m (λ r. decides_most (o.state r) 2) in
    let differ = decides_below _ o.m (λ r. decides_below _ o.m (λ j. decides_either (decides_equal r j) (decides_not (pair r j)))) in
    let (h, apart) = decided (decides_both (decides_both lead marks) differ) e in
    record {
      up = λ r l. (h.0 r l).0;
      inside = λ r l. (h.0 r l).1;
      fresh = λ r j lr lj p q. ⊎_elim (λ k. k) (λ n. absurd (n (p, q))) (apart r lr j lj);
      bit = bits;
      mark = h.1;
    }
  where
    pair : (r j : ℕ) → Decides ((o.u r ≡ o.u j) × (o.v r ≡ o.v j)) (eqb (o.u r) (o.u j) && eqb (o.v r) (o.v j))
    pair r j = decides_both (decides_equal (o.u r) (o.u j)) (decides_equal (o.v r) (o.v j))

-- ---- two places are joined where they have one label, and a place is joined with a supply where its piece holds one
pub decides_joined : (o : Order) (L : List ℕ) (x y : ℕ) → Decides (Joined o (In L) x y) (eqb (label o L x) (label o L y))
decides_joined o L x y = decides_as (same_joined o L) (joined_same o L) (decides_equal (label o L x) (label o L y))

pub decides_fed : (o : Order) → Sound o → (L : List ℕ) (x : ℕ) → Decides (Fed o (In L) x) (ltb 0 (stocked o L x))
decides_fed o ok L x = decides_as (stocked_fed o ok.bit L x) (fed_stocked o ok.bit L) (decides_less 0 (stocked o L x))

-- ---- 9: the ends of a fixed run have different labels by the earlier ones
abbrev pub opens_by : Order → ℕ → Bool
opens_by o r = let L = chosen (λ j. eqb (o.state j) 2) r in not (eqb (o.state r) 2 && eqb (label o L (o.u r)) (label o L (o.v r)))

pub decides_opens : (o : Order) (r : ℕ) → Decides (Opens o r) (opens_by o r)
decides_opens o r = decides_as (λ n e p. n (e, joined_mono into p)) (λ f h. f h.0 (joined_mono from h.1))
    (decides_not (decides_both (decides_equal (o.state r) 2) (decides_joined o earlier (o.u r) (o.v r))))
  where
    earlier : List ℕ
    earlier = chosen (λ j. eqb (o.state j) 2) r

    into : (j : ℕ) → (j < r) × (o.state j ≡ 2) → In earlier j
    into j h = used_chosen (λ i. eqb (o.state i) 2) r j h.0 (eq-eqb (o.state j) 2 h.1)

    from : (j : ℕ) → In earlier j → (j < r) × (o.state j ≡ 2)
    from j h = let q = chosen_used (λ i. eqb (o.state i) 2) r j h in (q.0, eqb-true (o.state j) 2 q.1)

-- 10
abbrev pub reached_by : Order → ℕ → Bool
reached_by o x = ltb 0 (stocked o (unstruck_runs o) x)

pub decides_reached : (o : Order) → Sound o → (x : ℕ) → Decides (Reached o x) (reached_by o x)
decides_reached o ok x = decides_as (fed_mono (in_unstruck o)) (fed_mono (λ r h. unstruck_in o r h.0 h.1)) (decides_fed o ok (unstruck_runs o) x)

-- 11
abbrev pub met_by : Order → Bool
met_by o = leb (least o) o.high && leb o.low (most o)

pub decides_met : (o : Order) → Decides (Met o) (met_by o)
decides_met o = decides_as (λ h. record { few = h.0; enough = h.1 }) (λ m. (m.few, m.enough))
    (decides_both (decides_most (least o) o.high) (decides_most o.low (most o)))

-- the first run that closes a loop, the first place without a supply, and whether each row has one
abbrev pub weighed : ℕ → ℕ → Bool → Bool → Bool → Reply (Unit {0})
weighed closing bare true b m = refused 9 closing
weighed closing bare false true m = refused 10 bare
weighed closing bare false false true = accepted tt
weighed closing bare false false false = refused 11 0

unfoldable pub judged : Order → Reply (Unit {0})
judged o = let closing = first_bad (opens_by o) o.m in let bare = first_bad (reached_by o) o.n in
    weighed closing bare (ltb closing o.m) (ltb bare o.n) (met_by o)

pub judged_settles : (o : Order) → Sound o → Settled refused (order_rows o) (λ a. a ≡ accepted tt) (judged o)
unfolding judged
judged_settles o ok =
    go (first_bad_lem (opens_by o) o.m (decides_opens o)) (first_bad_lem (reached_by o) o.n (decides_reached o ok))
    (decides_less _ o.m) (decides_less _ o.n) (decides_met o)
  where
    go : {c x : ℕ} {a b m : Bool} → First (Opens o) o.m c → First (Reached o) o.n x → Decides (c < o.m) a → Decides (x < o.n) b → Decides (Met o) m
        → Settled refused (order_rows o) (λ a. a ≡ accepted tt) (weighed c x a b m)
    go f g (holds l) q m = refuses_at f l
    go f g (fails l) (holds k) m = passes_each f (omega arith) (refuses_at g k)
    go f g (fails l) (fails k) (holds m) = passes_each f (omega arith) (passes_each g (omega arith) (passes m (ends refl)))
    go f g (fails l) (fails k) (fails n) = passes_each f (omega arith) (passes_each g (omega arith) (refuses n))

-- ---- the confirmed state of a run
-- a possible run cannot be used: its ends are joined by fixed runs, or both their pieces hold a supply and low is MAX
abbrev Barred : Order → ℕ → Type 0
Barred o r =
    (label o (fixed_runs o) (o.u r) ≡ label o (fixed_runs o) (o.v r))
    ⊎ (((0 < stocked o (fixed_runs o) (o.u r)) × (0 < stocked o (fixed_runs o) (o.v r))) × (most o ≤ o.low))

abbrev pub barred_by : Order → ℕ → Bool
barred_by o r =
    eqb (label o (fixed_runs o) (o.u r)) (label o (fixed_runs o) (o.v r))
    || (ltb 0 (stocked o (fixed_runs o) (o.u r)) && ltb 0 (stocked o (fixed_runs o) (o.v r)) && leb (most o) o.low)

decides_barred : (o : Order) (r : ℕ) → Decides (Barred o r) (barred_by o r)
decides_barred o r = decides_either (decides_equal _ _) (decides_both (decides_both (decides_less 0 _) (decides_less 0 _)) (decides_most (most o) o.low))

-- the unstruck runs other than e, as a list
abbrev pub other_runs : Order → ℕ → List ℕ
other_runs o e = chosen (λ r. ltb 0 (o.state r) && not (eqb r e)) o.m

module _ (o : Order) (e : ℕ) where
  other_test : (r : ℕ) → Decides ((0 < o.state r) × (r ≡ e → ⊥)) (ltb 0 (o.state r) && not (eqb r e))
  other_test r = decides_both (decides_less 0 (o.state r)) (decides_not (decides_equal r e))

  others_in : (r : ℕ) → Others o e r → In (other_runs o e) r
  others_in r h = used_chosen _ o.m r h.0 (proved (other_test r) (h.1, h.2))

  in_others : (r : ℕ) → In (other_runs o e) r → Others o e r
  in_others r h = let q = chosen_used (λ j. ltb 0 (o.state j) && not (eqb j e)) o.m r h in let p = decided (other_test r) q.1 in (q.0, p.0, p.1)

-- a run is needed: no others join its ends, and not both are joined with a supply without it, or high is MIN
abbrev Needed : Order → ℕ → Type 0
Needed o r = (Joined o (Others o r) (o.u r) (o.v r) → ⊥) × ((Fed o (Others o r) (o.u r) × Fed o (Others o r) (o.v r) → ⊥) ⊎ (o.high ≤ least o))

abbrev pub needed_by : Order → ℕ → Bool
needed_by o r = let L = other_runs o r in
    not (eqb (label o L (o.u r)) (label o L (o.v r))) && (not (ltb 0 (stocked o L (o.u r)) && ltb 0 (stocked o L (o.v r))) || leb o.high (least o))

module _ (o : Order) (ok : Sound o) (r : ℕ) where
  decides_bypassed : Decides (Joined o (Others o r) (o.u r) (o.v r)) (eqb (label o (other_runs o r) (o.u r)) (label o (other_runs o r) (o.v r)))
  decides_bypassed = decides_as (joined_mono (in_others o r)) (joined_mono (others_in o r)) (decides_joined o (other_runs o r) (o.u r) (o.v r))

  decides_side : (x : ℕ) → Decides (Fed o (Others o r) x) (ltb 0 (stocked o (other_runs o r) x))
  decides_side x = decides_as (fed_mono (in_others o r)) (fed_mono (others_in o r)) (decides_fed o ok (other_runs o r) x)

  decides_needed : Decides (Needed o r) (needed_by o r)
  decides_needed = decides_both (decides_not decides_bypassed)
      (decides_either (decides_not (decides_both (decides_side (o.u r)) (decides_side (o.v r)))) (decides_most o.high (least o)))

abbrev pub marked_by : ℕ → Bool → Bool → Bool → ℕ
marked_by state false barred needed = state
marked_by state true true needed = 0
marked_by state true false true = 2
marked_by state true false false = 1

unfoldable pub mark_of : Order → ℕ → ℕ
mark_of o r = marked_by (o.state r) (eqb (o.state r) 1) (barred_by o r) (needed_by o r)

module _ (o : Order) (ok : Sound o) (line : o.low ≤ o.high) (meets : Meets o) (r : ℕ) (run : r < o.m) where
  barred_never : o.state r ≡ 1 → Barred o r → Never o r
  barred_never s h = elim (ℕ_discrete (label o (fixed_runs o) (o.u r)) (label o (fixed_runs o) (o.v r))) [
    | yes p ↦ never_joined o ok line meets r run s p
    | no n ↦ ⊎_elim (λ p. absurd (n p)) (λ q. never_full o ok line meets r run s n q.0.0 q.0.1 q.1) h
  ]

  open_some : o.state r ≡ 1 → (Barred o r → ⊥) → Some o r true
  open_some s n = elim (dec_lt 0 (min (stocked o (fixed_runs o) (o.u r)) (stocked o (fixed_runs o) (o.v r)))) [
    | no l ↦ some_free o ok line meets r run s (λ p. n (inl p)) (omega arith)
    | yes l ↦ elim (dec_lt o.low (most o)) [
      | yes k ↦ some_spare o ok line meets r run s (λ p. n (inl p)) (omega arith) (omega arith) k
      | no k ↦ absurd (n (inr ((omega arith, omega arith), omega arith)))
    ]
  ]

  needed_always : o.state r ≡ 1 → Needed o r → Always o r
  needed_always s (cut, inl n) = pinned_bare o ok line meets r run s cut (λ a b. n (a, b))
  needed_always s (cut, inr l) = pinned_fed o ok line meets r run s cut l

  spare_some : o.state r ≡ 1 → (Needed o r → ⊥) → Some o r false
  spare_some s n = go (decides_bypassed o ok r) (decides_both (decides_side o ok r (o.u r)) (decides_side o ok r (o.v r)))
    where
      go : {a b : Bool} → Decides (Joined o (Others o r) (o.u r) (o.v r)) a → Decides (Fed o (Others o r) (o.u r) × Fed o (Others o r) (o.v r)) b → Some o r false
      go (holds p) d = free_none o ok line meets r run s p
      go (fails c) (holds f) = elim (dec_lt (least o) o.high) [ yes l ↦ free_fed o ok line meets r run s c f.0 f.1 l | no l ↦ absurd (n (c, inr (omega arith))) ]
      go (fails c) (fails f) = absurd (n (c, inl f))

  pub mark_right : Mark o r (mark_of o r)
  unfolding mark_of
  mark_right = go (decides_equal (o.state r) 1) (decides_barred o r) (decides_needed o ok r)
    where
      go : {a b c : Bool} → Decides (o.state r ≡ 1) a → Decides (Barred o r) b → Decides (Needed o r) c → Mark o r (marked_by (o.state r) a b c)
      go (fails n) b c = kept n refl
      go (holds s) (holds b) c = struck s (barred_never s b) refl
      go (holds s) (fails b) (holds c) = pinned s (needed_always s c) refl
      go (holds s) (fails b) (fails c) = stays s (open_some s b) (spare_some s c) refl

-- ---- the scan
abbrev pub looked_by : ℕ → Scan → Bool → Bool → Bool → Scan
looked_by r s true fed spare = s
looked_by r s false false spare = record { taken = r ∷ s.taken; spare = s.spare }
looked_by r s false true true = record { taken = r ∷ s.taken; spare = s.spare - 1 }
looked_by r s false true false = s

abbrev pub looked : Order → ℕ → Scan → Scan
looked o r s = let L = s.taken in
    looked_by r s (eqb (label o L (o.u r)) (label o L (o.v r))) (ltb 0 (stocked o L (o.u r)) && ltb 0 (stocked o L (o.v r))) (ltb 0 s.spare)

unfoldable pub scanned : Order → Scan → ℕ → Scan
scanned o from zero = from
scanned o from (suc i) = let s = scanned o from i in cond (eqb (o.state i) 1) (looked o i s) s

looked_verdict : (o : Order) (r : ℕ) (s : Scan) → Verdict o r s (looked o r s)
looked_verdict o r s = go (decides_equal _ _) (decides_both (decides_less 0 _) (decides_less 0 _)) (decides_less 0 s.spare)
  where
    go : {a b c : Bool} → Decides (label o s.taken (o.u r) ≡ label o s.taken (o.v r)) a
        → Decides ((0 < stocked o s.taken (o.u r)) × (0 < stocked o s.taken (o.v r))) b → Decides (0 < s.spare) c → Verdict o r s (looked_by r s a b c)
    go (holds p) d c = closed p refl
    go (fails n) (fails k) c = free n (elim (dec_lt 0 (min (stocked o s.taken (o.u r)) (stocked o s.taken (o.v r)))) [ yes l ↦ absurd (k (omega arith, omega arith)) | no l ↦ omega arith ]) refl
    go (fails n) (holds k) (holds l) = spends n k.0 k.1 l refl
    go (fails n) (holds k) (fails l) = full n k.0 k.1 (omega arith) refl

pub scanned_goes : (o : Order) (from : Scan) (i : ℕ) → Goes o (λ j. j) from i (scanned o from i)
unfolding scanned
scanned_goes o from zero = begin
scanned_goes o from (suc i) = go (decides_equal (o.state i) 1) (scanned_goes o from i) (looked_verdict o i (scanned o from i))
  where
    go : {s t : Scan} {b : Bool} → Decides (o.state i ≡ 1) b → Goes o (λ j. j) from i s → Verdict o i s t → Goes o (λ j. j) from (suc i) (cond b t s)
    go (holds e) g v = look g e v
    go (fails n) g v = pass g n
