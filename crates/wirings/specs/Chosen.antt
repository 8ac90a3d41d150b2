-- The runs below k that are chosen, as a list, the last one first.
use Prim.Native.Nat.{ℕ, zero, suc, ◌<◌}
use Rattle.std.specs.Prelude.{Bool, true, false, List, [], ◌∷◌, ◌≡◌, ltb, get_or}
use Rattle.std.proofs.Common.{inl, inr, sym, ap, ◌∙◌, arith}
use Rattle.std.proofs.Math.Path.{refl}
use Rattle.std.proofs.Math.Decide.{ℕ_discrete}
use Rattle.wirings.specs.Labels.{In}

-- one more run, where it is chosen
abbrev pub taken : Bool → ℕ → List ℕ → List ℕ
taken true r L = r ∷ L
taken false r L = L

unfoldable pub chosen : (ℕ → Bool) → ℕ → List ℕ
chosen w zero = []
chosen w (suc k) = taken (w k) k (chosen w k)

-- a choice by flags: a run is chosen where its byte is above 0
abbrev pub flagged : List ℕ → ℕ → Bool
flagged flags r = ltb 0 (get_or flags r 0)

pub true_not_false : ◌≡◌ {A = Bool} true false → ⊥
true_not_false e = let z : ◌≡◌ {A = ℕ} 0 1 = cc in omega arith

-- ---- what is in the list
module _ (w : ℕ → Bool) where
  below_step : (k r : ℕ) (b : Bool) → w k ≡ b → (In (chosen w k) r → (r < k) × (w r ≡ true)) → In (taken b k (chosen w k)) r → (r < suc k) × (w r ≡ true)
  below_step k r true e f (inl p) = (omega arith, ap w p ∙ e)
  below_step k r true e f (inr p) = (omega (arith, (f p).0), (f p).1)
  below_step k r false e f p = (omega (arith, (f p).0), (f p).1)

  pub chosen_used : (k r : ℕ) → In (chosen w k) r → (r < k) × (w r ≡ true)
  unfolding chosen
  chosen_used zero r h = absurd h
  chosen_used (suc k) r h = below_step k r (w k) refl (chosen_used k r) h

  used_step : (k r : ℕ) (b : Bool) → w k ≡ b → r < suc k → w r ≡ true → (r < k → In (chosen w k) r) → In (taken b k (chosen w k)) r
  used_step k r true e l p f = elim (ℕ_discrete r k) [ yes q ↦ inl q | no n ↦ inr (f (omega arith)) ]
  used_step k r false e l p f = elim (ℕ_discrete r k) [ yes q ↦ absurd (true_not_false (sym p ∙ ap w q ∙ e)) | no n ↦ f (omega arith) ]

  pub used_chosen : (k r : ℕ) → r < k → w r ≡ true → In (chosen w k) r
  unfolding chosen
  used_chosen zero r l p = absurd (omega arith)
  used_chosen (suc k) r l p = used_step k r (w k) refl l p (λ h. used_chosen k r h p)
