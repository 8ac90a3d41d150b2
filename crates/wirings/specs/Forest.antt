-- A list of runs each of which joined two pieces when it was added: a forest. It has no loop, in whatever order its runs are taken.
use Rattle.std.specs.Prelude.{ℕ, zero, suc, ◌+◌, ◌≤◌, ◌<◌, ◌⊎◌, ◌≡◌, refl, length}
use mathlib.Core.List.{List, [], ◌∷◌}
use Rattle.std.proofs.Common.{inl, inr, sym, subst, ◌∙◌}
use Rattle.std.proofs.Math.Logic.{⊎_elim}
use Rattle.std.proofs.Math.Decide.{ℕ_discrete}
use native.Mathlib.Omega.{arith}
use Rattle.wirings.specs.Counted.{Sound, Runs, comps, comps_ext, same_labels, comps_one, one_less}
use Rattle.wirings.specs.Joined.{joined_mono}
use Rattle.wirings.specs.Labels.{In, labels, label, joined_same}
use Rattle.wirings.specs.Loops.{loop_closes}
use Rattle.wirings.specs.Pieces.{pieces, pieces_same}
use Rattle.wirings.specs.Tally.{when, when_is, tally}
use Rattle.wirings.specs.Wiring.{Order, Joined, Loop}

abbrev pub Forest : Order → List ℕ → Type 0
Forest o [] = Unit {0}
Forest o (r ∷ L) = (label o L (o.u r) ≡ label o L (o.v r) → ⊥) × Forest o L

-- a list without a run
unless : {x r : ℕ} → Dec (x ≡ r) → List ℕ → List ℕ
unless (yes _) L = L
unless {x} (no _) L = x ∷ L

without : ℕ → List ℕ → List ℕ
without r [] = []
without r (x ∷ L) = unless (ℕ_discrete x r) (without r L)

module _ (r : ℕ) where
  unless_in : {x : ℕ} (d : Dec (x ≡ r)) (L K : List ℕ) (j : ℕ) → (In K j → In L j × (j ≡ r → ⊥)) → In (unless d K) j → In (x ∷ L) j × (j ≡ r → ⊥)
  unfolding unless
  unless_in (yes e) L K j f h = (inr (f h).0, (f h).1)
  unless_in (no n) L K j f (inl e) = (inl e, λ k. n (sym e ∙ k))
  unless_in (no n) L K j f (inr h) = (inr (f h).0, (f h).1)

  without_in : (L : List ℕ) (j : ℕ) → In (without r L) j → In L j × (j ≡ r → ⊥)
  unfolding without
  without_in [] j h = absurd h
  without_in (x ∷ L) j h = unless_in (ℕ_discrete x r) L (without r L) j (without_in L j) h

  in_unless : {x : ℕ} (d : Dec (x ≡ r)) (K : List ℕ) (j : ℕ) → (j ≡ x) ⊎ In K j → (j ≡ r → ⊥) → In (unless d K) j
  unfolding unless
  in_unless (yes e) K j (inl k) n = absurd (n (k ∙ e))
  in_unless (yes e) K j (inr h) n = h
  in_unless (no m) K j h n = h

  in_without : (L : List ℕ) (j : ℕ) → In L j → (j ≡ r → ⊥) → In (without r L) j
  unfolding without
  in_without [] j h n = elim h [ ]
  in_without (x ∷ L) j (inl e) n = in_unless (ℕ_discrete x r) (without r L) j (inl e) n
  in_without (x ∷ L) j (inr h) n = in_unless (ℕ_discrete x r) (without r L) j (inr (in_without L j h n)) n

  unless_length : {x : ℕ} (d : Dec (x ≡ r)) (L K : List ℕ) → length K ≤ length L → (In L r → length K < length L) → (length (unless d K) ≤ suc (length L)) × (In (x ∷ L) r → length (unless d K) < suc (length L))
  unfolding unless
  unless_length (yes e) L K l f = (omega arith, λ _. omega arith)
  unless_length (no n) L K l f = (omega arith, λ h. ⊎_elim (λ e. absurd (n (sym e))) (λ k. omega (arith, f k)) h)

  without_length : (L : List ℕ) → (length (without r L) ≤ length L) × (In L r → length (without r L) < length L)
  unfolding without
  without_length [] = (omega arith, λ h. absurd h)
  without_length (x ∷ L) = let q = without_length L in unless_length (ℕ_discrete x r) L (without r L) q.0 q.1

ones : (n : ℕ) → tally (λ x. when x x 1) n ≡ n
unfolding tally
ones zero = refl
ones (suc n) = omega (arith, when_is n n 1 refl, ones n)

module _ (o : Order) (ok : Sound o) where
  none_comps : comps o [] ≡ o.n
  unfolding pieces labels
  none_comps = ones o.n

  -- ---- a forest is told by its count alone
  pub forest_count : (L : List ℕ) → Runs o L → Forest o L → comps o L + length L ≡ o.n
  forest_count [] runs f = omega (arith, none_comps)
  forest_count (r ∷ L) runs f = omega (arith, comps_one o ok r L (runs r (inl refl)) f.0, forest_count L (λ j h. runs j (inr h)) f.1)

  pub count_least : (L : List ℕ) → Runs o L → o.n ≤ comps o L + length L
  count_least [] runs = omega (arith, none_comps)
  count_least (r ∷ L) runs = let a = one_less o ok r L (runs r (inl refl)) in omega (arith, count_least L (λ j h. runs j (inr h)))

  -- the run that was added last to a list whose count is that of a forest joined two pieces
  pub last_opens : (r : ℕ) (L : List ℕ) → Runs o (r ∷ L) → comps o (r ∷ L) + length (r ∷ L) ≤ o.n → label o L (o.u r) ≡ label o L (o.v r) → ⊥
  last_opens r L runs h e =
      omega (arith, pieces_same o.n o.supply (label o (r ∷ L)) (label o L) (λ x l. same_labels o ok r L e x), count_least L (λ j k. runs j (inr k)))

  -- ---- no run of a forest has its ends joined by the others, so that there is no loop
  pub forest_open : (L : List ℕ) → Runs o L → Forest o L → (r : ℕ) → In L r → Joined o (λ j. In L j × (j ≡ r → ⊥)) (o.u r) (o.v r) → ⊥
  forest_open L runs f r h p =
      last_opens r K all few (joined_same o K (joined_mono (λ j q. in_without r L j q.0 q.1) p))
    where
      K : List ℕ
      K = without r L

      sub : (j : ℕ) → In (r ∷ K) j → In L j
      sub j (inl e) = subst (In L) (sym e) h
      sub j (inr k) = (without_in r L j k).0

      sup : (j : ℕ) → In L j → In (r ∷ K) j
      sup j k = elim (ℕ_discrete j r) [ yes e ↦ inl e | no n ↦ inr (in_without r L j k n) ]

      all : Runs o (r ∷ K)
      all j k = runs j (sub j k)

      few : comps o (r ∷ K) + length (r ∷ K) ≤ o.n
      few = omega (arith, comps_ext o (r ∷ K) L sub sup, forest_count L runs f, (without_length r L).1 h)

  pub forest_no_loop : (L : List ℕ) → Runs o L → Forest o L → Loop o (In L) → ⊥
  forest_no_loop L runs f c = let d = loop_closes c in forest_open L runs f d.0 d.1 d.2
