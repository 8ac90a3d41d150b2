-- A loop, by one of its runs: the others join the ends of that run, and where others join the ends of a run, that run closes a loop.
use Rattle.std.specs.Prelude.{ℕ, zero, suc, ◌+◌, ◌-◌, ◌≤◌, ◌<◌, List, [], ◌∷◌, ◌⊎◌, ◌≡◌, refl, length, get_or}
use Rattle.std.proofs.Common.{inl, inr, ⊎_elim, sym, ap, ◌∙◌, add-one, arith}
use Rattle.std.proofs.Math.Decide.{ℕ_discrete, dec_lt}
use Rattle.wirings.specs.Joined.{leads_back, joined_sym}
use Rattle.wirings.specs.Wiring.{Order, Leads, along, back, Joined, here, on, Loop}

-- the runs of a set other than r
abbrev Others : (ℕ → Type 0) → ℕ → ℕ → Type 0
Others Q r j = Q j × (j ≡ r → ⊥)

-- ---- in a loop, the runs before the last join the ends of the last
module _ {o : Order} {Q : ℕ → Type 0} where
  joined_ends : {r x y : ℕ} → Leads o r y x → Joined o Q x y → Joined o Q (o.u r) (o.v r)
  joined_ends (along a b) p = rw (a, b) (joined_sym p)
  joined_ends (back a b) p = rw (a, b) p

  -- from place 0 along the runs before run k
  up_to : (c : Loop o Q) (k i : ℕ) → k < length c.places → i ≤ k
      → Joined o (Others Q (get_or c.runs k 0)) (get_or c.places 0 0) (get_or c.places i 0)
  up_to c k zero h l = here
  up_to c k (suc i) h l =
      on (up_to c k i h (omega arith)) (get_or c.runs i 0)
      (c.of_set i (omega (arith, c.as_many)), c.runs_differ i k l (omega (arith, c.as_many)))
      (rw add-one at (c.leads i (omega arith)))

pub loop_closes : {o : Order} {Q : ℕ → Type 0} → Loop o Q → (r : ℕ) × Q r × Joined o (λ j. Q j × (j ≡ r → ⊥)) (o.u r) (o.v r)
loop_closes {o} {Q} c = closed (length c.places - 1) (omega (arith, c.three))
  where
    closed : (k : ℕ) → k + 1 ≡ length c.places → (r : ℕ) × Q r × Joined o (Others Q r) (o.u r) (o.v r)
    closed k e = (get_or c.runs k 0, c.of_set k (omega (arith, c.as_many)), joined_ends (c.closes k e) (up_to c k k (omega arith) (omega arith)))

-- ---- a way back to the first end of a run, with that run behind it: it is a loop once it begins at the run's other end
-- z is not in a list
abbrev Fresh : ℕ → List ℕ → Type 0
Fresh z ps = (i : ℕ) → i < length ps → get_or ps i 0 ≡ z → ⊥

fresh_head : {y z : ℕ} (ps : List ℕ) → (y ≡ z → ⊥) → Fresh z ps → Fresh z (y ∷ ps)
fresh_head ps n f zero b = n
fresh_head ps n f (suc k) b = f k (omega arith)

-- a way through different places from y back to the first end of run r, along other runs: y, the places after it, the runs, and r as the last run
data Way (o : Order) (Q : ℕ → Type 0) (r : ℕ) : ℕ → List ℕ → List ℕ → Type 0 where
  start : Way o Q r (o.u r) [] (r ∷ [])
  step : {y : ℕ} {ps rs : List ℕ} → Way o Q r y ps rs
      → (z j : ℕ) → Others Q r j → Leads o j z y → Fresh z (y ∷ ps) → Way o Q r z (y ∷ ps) (j ∷ rs)

abbrev Reached : Order → (ℕ → Type 0) → ℕ → ℕ → Type 0
Reached o Q r z = (ps : List ℕ) × (rs : List ℕ) × Way o Q r z ps rs

-- a run leads between its own two ends only
apart : {o : Order} {r a b c d : ℕ} → Leads o r a b → Leads o r c d → (a ≡ c → ⊥) → (a ≡ d → ⊥) → ⊥
apart (along p _) (along q _) n m = n (sym p ∙ q)
apart (along p _) (back _ q) n m = m (sym p ∙ q)
apart (back p _) (along _ q) n m = m (sym p ∙ q)
apart (back p _) (back q _) n m = n (sym p ∙ q)

module _ {o : Order} {Q : ℕ → Type 0} {r : ℕ} where
  as_many : {y : ℕ} {ps rs : List ℕ} → Way o Q r y ps rs → length rs ≡ suc (length ps)
  as_many start = refl
  as_many (step w z j q l f) = ap suc (as_many w)

  of_set : {y : ℕ} {ps rs : List ℕ} → Q r → Way o Q r y ps rs → (i : ℕ) → i < length rs → Q (get_or rs i 0)
  of_set h start zero b = h
  of_set h start (suc i) b = absurd (omega arith)
  of_set h (step w z j q l f) zero b = q.0
  of_set h (step w z j q l f) (suc i) b = of_set h w i (omega arith)

  leads : {y : ℕ} {ps rs : List ℕ} → Way o Q r y ps rs → (i : ℕ) → i < length ps → Leads o (get_or rs i 0) (get_or (y ∷ ps) i 0) (get_or ps i 0)
  leads start i b = absurd (omega arith)
  leads (step w z j q l f) zero b = l
  leads (step w z j q l f) (suc i) b = leads w i (omega arith)

  not_last : {y : ℕ} {ps rs : List ℕ} → Way o Q r y ps rs → (i : ℕ) → i < length ps → get_or rs i 0 ≡ r → ⊥
  not_last start i b = absurd (omega arith)
  not_last (step w z j q l f) zero b = q.1
  not_last (step w z j q l f) (suc i) b = not_last w i (omega arith)

  last : {y : ℕ} {ps rs : List ℕ} → Way o Q r y ps rs → (get_or rs (length ps) 0 ≡ r) × (get_or (y ∷ ps) (length ps) 0 ≡ o.u r)
  last start = (refl, refl)
  last (step w z j q l f) = last w

  places_differ : {y : ℕ} {ps rs : List ℕ} → Way o Q r y ps rs
      → (i j : ℕ) → i < j → j < suc (length ps) → get_or (y ∷ ps) i 0 ≡ get_or (y ∷ ps) j 0 → ⊥
  places_differ start i j a b e = omega arith
  places_differ (step w z k q l f) i zero a b e = omega arith
  places_differ (step w z k q l f) zero (suc j) a b e = f j (omega arith) (sym e)
  places_differ (step w z k q l f) (suc i) (suc j) a b e = places_differ w i j (omega arith) (omega arith) e

  -- a run that stood twice would bring a place twice
  runs_differ : {y : ℕ} {ps rs : List ℕ} → Way o Q r y ps rs → (i j : ℕ) → i < j → j < suc (length ps) → get_or rs i 0 ≡ get_or rs j 0 → ⊥
  runs_differ {ps = ps} w i j a b e =
      elim (dec_lt j (length ps)) [
        | yes h ↦ apart (rw e at (leads w i (omega arith))) (leads w j h) (places_differ w i j a b) (places_differ w i (suc j) (omega arith) (omega arith))
        | no n ↦ let h : j ≡ length ps = omega arith in not_last w i (omega arith) (e ∙ rw h (last w).0)
      ]

  -- ---- what others join with the first end of r, a way reaches: a step to a place of the way cuts the way there
  at_head : {y : ℕ} {ps rs : List ℕ} → Way o Q r y ps rs → (z : ℕ) → Reached o Q r z ⊎ Fresh z ps → Reached o Q r z ⊎ Fresh z (y ∷ ps)
  at_head {y} {ps} {rs} w z c =
      elim (ℕ_discrete y z) [
        | yes e ↦ inl (ps, rs, rw e at w)
        | no n ↦ ⊎_elim inl (λ f. inr (fresh_head _ n f)) c
      ]

  on_way : {y : ℕ} {ps rs : List ℕ} → Way o Q r y ps rs → (z : ℕ) → Reached o Q r z ⊎ Fresh z (y ∷ ps)
  on_way start z = at_head start z (inr (λ i b. absurd (omega arith)))
  on_way (step w y j q l f) z = at_head (step w y j q l f) z (on_way w z)

  reach : {y : ℕ} → Joined o (Others Q r) (o.u r) y → Reached o Q r y
  reach here = ([], r ∷ [], start)
  reach (on {y = y} {z = z} p j q l) = let (ps, rs, w) = reach p in ⊎_elim (λ c. c) (λ f. (y ∷ ps, j ∷ rs, step w z j q (leads_back l) f)) (on_way w z)

-- ---- where each run has two ends and no two runs have the same, a way from one end of a run to the other makes a loop with the run
module _ (o : Order) (Q : ℕ → Type 0) (up : (r : ℕ) → Q r → o.u r < o.v r)
    (one : (r j : ℕ) → Q r → Q j → o.u r ≡ o.u j → o.v r ≡ o.v j → r ≡ j) (r : ℕ) (given : Q r) where
  same_run : {j : ℕ} → Q j → Leads o j (o.v r) (o.u r) → j ≡ r
  same_run {j} q (along a b) = absurd (omega (arith, up r given, up j q))
  same_run {j} q (back a b) = one j r q given b a

  -- no single other run has the ends of r, so that a way between them has a place more
  three : {y : ℕ} {ps rs : List ℕ} → Way o Q r y ps rs → y ≡ o.v r → 3 ≤ suc (length ps)
  three start e = absurd (omega (arith, up r given))
  three (step start z j q l f) e = absurd (q.1 (same_run q.0 (rw e at l)))
  three (step (step w y i p k g) z j q l f) e = omega arith

  closed_by : {ps rs : List ℕ} → Way o Q r (o.v r) ps rs → Loop o Q
  closed_by {ps} {rs} w = record {
    places = o.v r ∷ ps;
    runs = rs;
    three = three w refl;
    as_many = as_many w;
    of_set = of_set given w;
    leads = λ i b. rw add-one (leads w i (omega arith));
    closes = λ i b. let e : i ≡ length ps = omega arith in rw (e, (last w).0, (last w).1) (along refl refl);
    places_differ = places_differ w;
    runs_differ = λ i j a b. runs_differ w i j a (omega (arith, as_many w));
  }

pub closing_loops : (o : Order) (Q : ℕ → Type 0) → ((r : ℕ) → Q r → o.u r < o.v r)
    → ((r j : ℕ) → Q r → Q j → o.u r ≡ o.u j → o.v r ≡ o.v j → r ≡ j)
    → (r : ℕ) → Q r → Joined o (λ j. Q j × (j ≡ r → ⊥)) (o.u r) (o.v r) → Loop o Q
closing_loops o Q up one r given p = closed_by o Q up one r given (reach p).2
