-- MIN and MAX of the paper, and what a lawful wiring has to do with them.
use Rattle.std.specs.Prelude.{ℕ, zero, suc, ◌+◌, ◌≤◌, ◌<◌, List, ◌≡◌, refl, eqb, ltb}
use Rattle.std.proofs.Common.{ap, subst, sym, eqb-true, eq-eqb, ltb-true, lt-ltb, arith}
use Rattle.std.proofs.Math.Decide.{ℕ_discrete, dec_lt}
use Rattle.wirings.specs.Chosen.{chosen_used, used_chosen}
use Rattle.wirings.specs.Counted.{Sound, comps, stocked, feds, comps_mono, feds_mono, all_fed, fed_stocked, stocked_fed}
use Rattle.wirings.specs.Joined.{joined_mono, fed_mono}
use Rattle.wirings.specs.Labels.{In, label, root_smallest, smallest_root}
use Rattle.wirings.specs.Pieces.{pieces, stock, fed_pieces}
use Rattle.wirings.specs.Tally.{when, When, same, apart, whens, tally}
use Rattle.wirings.specs.Wiring.{Order, Wiring, Used, Smallest, Counts, none, one, skip, Segments, Fed, Lawful}
use Rattle.wirings.specs.Limits.{fixed_runs, unstruck_runs, least, most, held, Unstruck, Fixed, used_runs}

module _ (o : Order) where
  pub fixed_in : (r : ℕ) → r < o.m → o.state r ≡ 2 → In (fixed_runs o) r
  fixed_in r l e = used_chosen (λ j. eqb (o.state j) 2) o.m r l (eq-eqb (o.state r) 2 e)

  pub in_fixed : (r : ℕ) → In (fixed_runs o) r → (r < o.m) × (o.state r ≡ 2)
  in_fixed r h = let q = chosen_used (λ j. eqb (o.state j) 2) o.m r h in (q.0, eqb-true (o.state r) 2 q.1)

  pub unstruck_in : (r : ℕ) → r < o.m → 0 < o.state r → In (unstruck_runs o) r
  unstruck_in r l e = used_chosen (λ j. ltb 0 (o.state j)) o.m r l (lt-ltb 0 (o.state r) e)

  pub in_unstruck : (r : ℕ) → In (unstruck_runs o) r → (r < o.m) × (0 < o.state r)
  in_unstruck r h = let q = chosen_used (λ j. ltb 0 (o.state j)) o.m r h in (q.0, ltb-true 0 (o.state r) q.1)

-- ---- a count in words has one value, and labels compute it
pub counts_one : {P : ℕ → Type 0} {n j k : ℕ} → Counts P n j → Counts P n k → j ≡ k
counts_one none none = refl
counts_one (one c p) (one d q) = ap suc (counts_one c d)
counts_one (one c p) (skip d q) = absurd (q p)
counts_one (skip c p) (one d q) = absurd (p q)
counts_one (skip c p) (skip d q) = counts_one c d

pub counts_same : {P Q : ℕ → Type 0} {n k : ℕ} → ((x : ℕ) → P x → Q x) → ((x : ℕ) → Q x → P x) → Counts P n k → Counts Q n k
counts_same f g none = none
counts_same f g (one {n = n} c p) = one (counts_same f g c) (f n p)
counts_same f g (skip {n = n} c p) = skip (counts_same f g c) (λ q. p (g n q))

pub counts_alike : {P Q : ℕ → Type 0} {n k : ℕ} → ((x : ℕ) → x < n → P x → Q x) → ((x : ℕ) → x < n → Q x → P x) → Counts P n k → Counts Q n k
counts_alike f g none = none
counts_alike f g (one {n = n} c p) = one (counts_alike (λ x l. f x (omega arith)) (λ x l. g x (omega arith)) c) (f n (omega arith) p)
counts_alike f g (skip {n = n} c p) = skip (counts_alike (λ x l. f x (omega arith)) (λ x l. g x (omega arith)) c) (λ q. p (g n (omega arith) q))

pub counts_none : {P : ℕ → Type 0} {n k : ℕ} → ((x : ℕ) → x < n → P x → ⊥) → Counts P n k → k ≡ 0
counts_none f none = refl
counts_none f (one {n = n} c p) = absurd (f n (omega arith) p)
counts_none f (skip c p) = counts_none (λ x l. f x (omega arith)) c

-- where none has the property, none is counted; where all have it, all; where one more has it, one more; where one has it not, not all
pub counts_zero : {P : ℕ → Type 0} → ((y : ℕ) → P y → ⊥) → (n : ℕ) → Counts P n 0
counts_zero f zero = none
counts_zero f (suc n) = skip (counts_zero f n) (f n)

pub counts_all : {P : ℕ → Type 0} {n k : ℕ} → Counts P n k → ((y : ℕ) → y < n → P y) → k ≡ n
counts_all none f = refl
counts_all (one c p) f = ap suc (counts_all c (λ y l. f y (omega arith)))
counts_all (skip {n = n} c p) f = absurd (p (f n (omega arith)))

pub counts_more : {P Q : ℕ → Type 0} {n k z : ℕ} → Counts P n k → z < n → (P z → ⊥) → Q z → ((y : ℕ) → (y ≡ z → ⊥) → P y → Q y) → ((y : ℕ) → (y ≡ z → ⊥) → Q y → P y) → Counts Q n (suc k)
counts_more none l f q to from = absurd (omega arith)
counts_more {P} {z = z} (one {n = n} c p) l f q to from = elim (ℕ_discrete n z) [
  | yes e ↦ absurd (f (subst P e p))
  | no d ↦ one (counts_more c (omega arith) f q to from) (to n d p)
]
counts_more {Q = Q} {z = z} (skip {n = n} c p) l f q to from = elim (ℕ_discrete n z) [
  | yes e ↦ one (counts_alike (λ y i. to y (λ d. omega arith)) (λ y i. from y (λ d. omega arith)) c) (subst Q (sym e) q)
  | no d ↦ skip (counts_more c (omega arith) f q to from) (λ h. p (from n d h))
]

pub counts_most : {P : ℕ → Type 0} {n k : ℕ} → Counts P n k → k ≤ n
counts_most none = omega arith
counts_most (one c p) = omega (arith, counts_most c)
counts_most (skip c p) = omega (arith, counts_most c)

pub counts_less : {P : ℕ → Type 0} {n k z : ℕ} → Counts P n k → z < n → (P z → ⊥) → k < n
counts_less none l f = absurd (omega arith)
counts_less {P} {z = z} (one {n = n} c p) l f = elim (ℕ_discrete n z) [ yes e ↦ absurd (f (subst P e p)) | no d ↦ omega (arith, counts_less c (omega arith) f) ]
counts_less (skip c p) l f = omega (arith, counts_most c)

pub counts_pieces : (o : Order) (L : List ℕ) (n : ℕ) → Counts (Smallest o (In L)) n (pieces n (label o L))
unfolding pieces tally
counts_pieces o L zero = none
counts_pieces o L (suc n) = go (whens (label o L n) n 1) (counts_pieces o L n)
  where
    go : {z k : ℕ} → When (label o L n) n 1 z → Counts (Smallest o (In L)) n k → Counts (Smallest o (In L)) (suc n) (z + k)
    go {z} {k} (same e f) c = subst (Counts (Smallest o (In L)) (suc n)) (omega arith) (one c (root_smallest o L e))
    go {z} {k} (apart e f) c = subst (Counts (Smallest o (In L)) (suc n)) (omega arith) (skip c (λ s. e (smallest_root o L n s)))

pub counts_fed : (o : Order) → ((x : ℕ) → o.supply x ≤ 1) → (L : List ℕ) → Counts (λ x. Smallest o (In L) x × Fed o (In L) x) o.n (feds o L)
unfolding fed_pieces tally
counts_fed o bit L = upto o.n
  where
    one_more : (k : ℕ) {c z : ℕ} → When (label o L k) k (held o L k) z → Counts (λ x. Smallest o (In L) x × Fed o (In L) x) k c → Counts (λ x. Smallest o (In L) x × Fed o (In L) x) (suc k) (z + c)
    one_more k {c} {z} (same e f) t =
        let own : stocked o L k ≡ stock o.n o.supply (label o L) k = ap (stock o.n o.supply (label o L)) e in
        elim (dec_lt 0 (stocked o L k)) [
          | yes l ↦ subst (Counts _ (suc k)) (omega (arith, f, own)) (one t (root_smallest o L e, stocked_fed o bit L k l))
          | no n ↦ subst (Counts _ (suc k)) (omega (arith, f, own)) (skip t (λ h. n (fed_stocked o bit L h.1)))
        ]
    one_more k {c} {z} (apart e f) t = subst (Counts _ (suc k)) (omega (arith, f)) (skip t (λ h. e (smallest_root o L k h.0)))

    upto : (k : ℕ) → Counts (λ x. Smallest o (In L) x × Fed o (In L) x) k (tally (λ x. when (label o L x) x (held o L x)) k)
    upto zero = none
    upto (suc k) = one_more k (whens (label o L k) k (held o L k)) (upto k)

module _ (o : Order) where
  pub least_counts : Counts (Smallest o (Unstruck o)) o.n (least o)
  least_counts = counts_same (λ x s y l p. s y l (joined_mono (λ r h. unstruck_in o r h.0 h.1) p)) (λ x s y l p. s y l (joined_mono (in_unstruck o) p)) (counts_pieces o (unstruck_runs o) o.n)

  pub most_counts : ((x : ℕ) → o.supply x ≤ 1) → Counts (λ x. Smallest o (Fixed o) x × Fed o (Fixed o) x) o.n (most o)
  most_counts bit = counts_same
      (λ x h. (λ y l p. h.0 y l (joined_mono (λ r q. fixed_in o r q.0 q.1) p), fed_mono (in_fixed o) h.1))
      (λ x h. (λ y l p. h.0 y l (joined_mono (in_fixed o) p), fed_mono (λ r q. fixed_in o r q.0 q.1) h.1))
      (counts_fed o bit (fixed_runs o))

module _ (o : Order) (w : Wiring) where
  pub in_used : (r : ℕ) → In (used_runs o w) r → Used o w r
  in_used r h = chosen_used w o.m r h

  pub used_in : (r : ℕ) → Used o w r → In (used_runs o w) r
  used_in r h = used_chosen w o.m r h.0 h.1

  pub smallest_used : (x : ℕ) → Smallest o (In (used_runs o w)) x → Smallest o (Used o w) x
  smallest_used x s y l p = s y l (joined_mono used_in p)

  pub used_smallest : (x : ℕ) → Smallest o (Used o w) x → Smallest o (In (used_runs o w)) x
  used_smallest x s y l p = s y l (joined_mono in_used p)

  -- every wiring has a number of segments
  pub segments : Segments o w (comps o (used_runs o w))
  segments = counts_same smallest_used used_smallest (counts_pieces o (used_runs o w) o.n)

  pub segments_are : {k : ℕ} → Segments o w k → k ≡ comps o (used_runs o w)
  segments_are c = counts_one c segments

-- ---- what a lawful wiring has: the fixed runs, unstruck ones alone, and a count from MIN to MAX
module _ (o : Order) (ok : Sound o) (w : Wiring) (h : Lawful o w) where
  pub lawful_more : (r : ℕ) → In (fixed_runs o) r → In (used_runs o w) r
  lawful_more r k = let q = in_fixed o r k in used_in o w r (q.0, h.fixed r q.0 q.1)

  pub lawful_less : (r : ℕ) → In (used_runs o w) r → In (unstruck_runs o) r
  lawful_less r k = let q = in_used o w r k in elim (dec_lt 0 (o.state r)) [ yes l ↦ unstruck_in o r q.0 l | no l ↦ absurd (h.struck r q.0 (omega arith) q.1) ]

  pub lawful_fed : (x : ℕ) → x < o.n → Fed o (In (used_runs o w)) x
  lawful_fed x l = let f = h.fed x l in record { at = f.at; place = f.place; supplied = f.supplied; joined = joined_mono (used_in o w) f.joined }

  pub lawful_count : h.count ≡ comps o (used_runs o w)
  lawful_count = segments_are o w h.counted

  pub lawful_least : least o ≤ h.count
  lawful_least = omega (arith, lawful_count, comps_mono o ok (used_runs o w) (unstruck_runs o) (λ r k. (in_unstruck o r k).0) lawful_less)

  pub lawful_most : h.count ≤ most o
  lawful_most =
      omega (arith, lawful_count, all_fed o ok.bit (used_runs o w) lawful_fed, feds_mono o ok (fixed_runs o) (used_runs o w) (λ r k. (in_used o w r k).0) lawful_more)
