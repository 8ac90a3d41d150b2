-- Sums over the numbers below n, and numbers that count only where two others are equal.
use Rattle.std.specs.Prelude.{ℕ, zero, suc, ◌+◌, ◌≤◌, ◌<◌, ◌≡◌, refl}
use Rattle.std.proofs.Common.{sym, ap, ap₂, ◌∙◌, arith}
use Rattle.std.proofs.Math.Decide.{ℕ_discrete, dec_lt}

-- k where p is q, else 0
unfoldable pub when : ℕ → ℕ → ℕ → ℕ
when p q k = elim (ℕ_discrete p q) [ yes _ ↦ k | no _ ↦ 0 ]

pub when_is : (p q k : ℕ) → p ≡ q → when p q k ≡ k
unfolding when
when_is p q k e = elim (ℕ_discrete p q) as (λ d. elim d as (λ _. ℕ) [ yes _ ↦ k | no _ ↦ 0 ] ≡ k) [ yes _ ↦ refl | no n ↦ absurd (n e) ]

pub when_not : (p q k : ℕ) → (p ≡ q → ⊥) → when p q k ≡ 0
unfolding when
when_not p q k n = elim (ℕ_discrete p q) as (λ d. ◌≡◌ {A = ℕ} (elim d as (λ _. ℕ) [ yes _ ↦ k | no _ ↦ 0 ]) 0) [ yes e ↦ absurd (n e) | no _ ↦ refl ]

pub data When (p q k z : ℕ) : Type 0 where
  same : p ≡ q → z ≡ k → When p q k z
  apart : (p ≡ q → ⊥) → z ≡ 0 → When p q k z

pub whens : (p q k : ℕ) → When p q k (when p q k)
whens p q k = elim (ℕ_discrete p q) [ yes e ↦ same e (when_is p q k e) | no n ↦ apart n (when_not p q k n) ]

unfoldable pub tally : (ℕ → ℕ) → ℕ → ℕ
tally f zero = 0
tally f (suc n) = f n + tally f n

pub tally_same : (f g : ℕ → ℕ) (n : ℕ) → ((x : ℕ) → x < n → f x ≡ g x) → tally f n ≡ tally g n
unfolding tally
tally_same f g zero h = refl
tally_same f g (suc n) h = ap₂ (λ (a b : ℕ). a + b) (h n (omega arith)) (tally_same f g n (λ x l. h x (omega arith)))

pub zeros : (n : ℕ) → tally (λ _. 0) n ≡ 0
unfolding tally
zeros zero = refl
zeros (suc n) = omega (arith, zeros n)

pub tally_le : (f g : ℕ → ℕ) (n : ℕ) → ((x : ℕ) → x < n → f x ≤ g x) → tally f n ≤ tally g n
unfolding tally
tally_le f g zero h = omega arith
tally_le f g (suc n) h = omega (arith, h n (omega arith), tally_le f g n (λ x l. h x (omega arith)))

pub tally_add : (f g : ℕ → ℕ) (n : ℕ) → tally (λ x. f x + g x) n ≡ tally f n + tally g n
unfolding tally
tally_add f g zero = refl
tally_add f g (suc n) = omega (arith, tally_add f g n)

-- two sums that differ at one number alone
pub tally_but : (f g : ℕ → ℕ) (n a : ℕ) → a < n → ((x : ℕ) → (x ≡ a → ⊥) → f x ≡ g x) → tally f n + g a ≡ tally g n + f a
unfolding tally
tally_but f g zero a l h = absurd (omega arith)
tally_but f g (suc n) a l h =
    elim (ℕ_discrete n a) [
      | yes e ↦ omega (arith, ap f e, ap g e, tally_same f g n (λ x k. h x (λ p. omega arith)))
      | no k ↦ omega (arith, h n k, tally_but f g n a (omega arith) h)
    ]

-- two sums that differ at two numbers alone
pub tally_two : (f g : ℕ → ℕ) (n a b : ℕ) → a < n → b < n → (a ≡ b → ⊥) → ((x : ℕ) → (x ≡ a → ⊥) → (x ≡ b → ⊥) → f x ≡ g x)
    → tally f n + (g a + g b) ≡ tally g n + (f a + f b)
tally_two f g n a b la lb ab h =
    omega (arith, tally_but f mid n a la (λ x k. sym (mid_not x k)), tally_but mid g n b lb other, mid_is, mid_not b (λ e. ab (sym e)))
  where
    mid : ℕ → ℕ
    mid x = elim (ℕ_discrete x a) [ yes _ ↦ g a | no _ ↦ f x ]

    mid_is : mid a ≡ g a
    mid_is = elim (ℕ_discrete a a) as (λ d. elim d as (λ _. ℕ) [ yes _ ↦ g a | no _ ↦ f a ] ≡ g a) [ yes _ ↦ refl | no k ↦ absurd (k refl) ]

    mid_not : (x : ℕ) → (x ≡ a → ⊥) → mid x ≡ f x
    mid_not x k = elim (ℕ_discrete x a) as (λ d. elim d as (λ _. ℕ) [ yes _ ↦ g a | no _ ↦ f x ] ≡ f x) [ yes e ↦ absurd (k e) | no _ ↦ refl ]

    other : (x : ℕ) → (x ≡ b → ⊥) → mid x ≡ g x
    other x k = elim (ℕ_discrete x a) [ yes e ↦ ap mid e ∙ mid_is ∙ ap g (sym e) | no l ↦ mid_not x l ∙ h x l k ]

-- a sum is at least each of its terms, and has a term above 0 where it is above 0
pub tally_at : (f : ℕ → ℕ) (n x : ℕ) → x < n → f x ≤ tally f n
unfolding tally
tally_at f zero x l = absurd (omega arith)
tally_at f (suc n) x l = elim (ℕ_discrete x n) [ yes e ↦ omega (arith, ap f e) | no k ↦ omega (arith, tally_at f n x (omega arith)) ]

pub record Term (f : ℕ → ℕ) (n : ℕ) : Type 0 where
  pub at : ℕ
  pub below : at < n
  pub some : 0 < f at

pub tally_some : (f : ℕ → ℕ) (n : ℕ) → 0 < tally f n → Term f n
unfolding tally
tally_some f zero h = absurd (omega arith)
tally_some f (suc n) h =
    elim (dec_lt 0 (f n)) [
      | yes l ↦ record { at = n; below = omega arith; some = l }
      | no l ↦ let t = tally_some f n (omega arith) in record { at = t.at; below = omega (arith, t.below); some = t.some }
    ]
