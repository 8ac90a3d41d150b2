-- One turn of each loop of the confirmation.
use Rattle.std.specs.Prelude.{ℕ, zero, suc, ◌+◌, ◌<◌, List, ◌≡◌, refl, length, get_or, set, replicate}
use Rattle.std.proofs.Common.{sym, subst, subst₂, ◌∙◌, get_or-set_same, get_or-set_other, add-one, arith}
use Rattle.std.proofs.Math.Decide.{ℕ_discrete}
use Rattle.confirm.specs.Judged.{StatesOf}
use Rattle.layout.specs.Layout.{sizes, state_of}
use Rattle.wirings.specs.Wiring.{Counts, one, skip}

pub blank : (n r : ℕ) → ◌≡◌ {A = ℕ} (get_or (replicate n 0) r 0) 0
blank zero r = refl
blank (suc n) zero = refl
blank (suc n) (suc r) = blank n r

pub states_none : (runs : List ℕ) (n : ℕ) → StatesOf runs 0 (replicate n 0)
states_none runs n = record { says = λ r l. absurd (omega arith); rest = λ r l. blank n r }

pub states_more : {runs states : List ℕ} {r v : ℕ} → StatesOf runs r states → r < length states → v ≡ state_of sizes runs r → StatesOf runs (r + 1) (set states r v)
states_more {runs} {states} {r} {v} s l e = record {
  says = λ j k. elim (ℕ_discrete j r) [
    | yes p ↦ subst (λ (i : ℕ). get_or (set states r v) i 0 ≡ state_of sizes runs i) (sym p) (get_or-set_same states r v 0 l ∙ e)
    | no p ↦ get_or-set_other states r j v 0 p ∙ s.says j (omega arith)
  ];
  rest = λ j k. get_or-set_other states r j v 0 (λ p. omega arith) ∙ s.rest j (omega arith);
}

-- one more is counted, or passed by
pub counts_here : {P : ℕ → Type 0} {r k : ℕ} → Counts P r k → P r → Counts P (r + 1) (k + 1)
counts_here {P} {r} {k} c p = subst₂ (Counts P) (sym (add-one r)) (sym (add-one k)) (one c p)

pub counts_past : {P : ℕ → Type 0} {r k : ℕ} → Counts P r k → (P r → ⊥) → Counts P (r + 1) k
counts_past {P} {r} {k} c p = subst (λ (n : ℕ). Counts P n k) (sym (add-one r)) (skip c p)

-- at the end of a loop
pub counts_end : {P : ℕ → Type 0} {r m k : ℕ} → Counts P r k → r ≡ m → Counts P m k
counts_end {P} {k = k} c e = subst (λ (n : ℕ). Counts P n k) e c

pub states_end : {runs states : List ℕ} {r m : ℕ} → StatesOf runs r states → r ≡ m → StatesOf runs m states
states_end {runs} {states} s e = subst (λ (n : ℕ). StatesOf runs n states) e s
