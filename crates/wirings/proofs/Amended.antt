-- A run pinned or struck on the form: its lawful wirings are those that use the run, or do not.
use Rattle.std.specs.Prelude.{ℕ, ◌≤◌, ◌<◌, true, ◌≡◌, refl}
use Rattle.std.proofs.Common.{sym, ap, ◌∙◌, arith}
use Rattle.std.proofs.Math.Decide.{ℕ_discrete}
use Rattle.wirings.specs.Alike.{Alike}
use Rattle.wirings.proofs.Alike.{alike_sym, lawful_as}
use Rattle.wirings.specs.Counted.{Sound}
use Rattle.wirings.specs.Wiring.{Order, Wiring, Lawful}
use Rattle.wirings.specs.Amended.{put, marked, At, other, same}

pub put_here : (e s : ℕ) (f : ℕ → ℕ) (r : ℕ) → r ≡ e → put e s f r ≡ s
unfolding put
put_here e s f r p = elim (ℕ_discrete r e) as (λ d. elim d as (λ _. ℕ) [ yes _ ↦ s | no _ ↦ f r ] ≡ s) [ yes _ ↦ refl | no n ↦ absurd (n p) ]

pub put_there : (e s : ℕ) (f : ℕ → ℕ) (r : ℕ) → (r ≡ e → ⊥) → put e s f r ≡ f r
unfolding put
put_there e s f r n = elim (ℕ_discrete r e) as (λ d. elim d as (λ _. ℕ) [ yes _ ↦ s | no _ ↦ f r ] ≡ f r) [ yes p ↦ absurd (n p) | no _ ↦ refl ]

pub at : (o : Order) (e s r : ℕ) → At o e s r ((marked e s o).state r)
at o e s r = elim (ℕ_discrete r e) [ yes p ↦ same p (put_here e s o.state r p) | no n ↦ other n (put_there e s o.state r n) ]

pub marked_sound : (o : Order) (e s : ℕ) → s ≤ 2 → Sound o → Sound (marked e s o)
marked_sound o e s l ok = record { up = ok.up; inside = ok.inside; fresh = ok.fresh; bit = ok.bit; mark = λ r l. go (at o e s r) (ok.mark r l) }
  where
    go : {r state : ℕ} → At o e s r state → o.state r ≤ 2 → state ≤ 2
    go (same p q) b = omega arith
    go (other p q) b = omega arith

pub marked_alike : (o : Order) (e s : ℕ) → Alike o (marked e s o)
marked_alike o e s = record { n = refl; m = refl; supply = λ x. refl; u = λ r. refl; v = λ r. refl }

module _ (o : Order) (e : ℕ) (w : Wiring) where
  pub pin_lawful : Lawful o w → w e ≡ true → Lawful (marked e 2 o) w
  pin_lawful h used = lawful_as (marked_alike o e 2) w h (λ r l q. fixed (at o e 2 r) l q) (λ r l q. struck (at o e 2 r) l q) h.enough h.few
    where
      fixed : {r s : ℕ} → At o e 2 r s → r < o.m → s ≡ 2 → w r ≡ true
      fixed (same p q) l z = ap w p ∙ used
      fixed {r} (other p q) l z = h.fixed r l (sym q ∙ z)

      struck : {r s : ℕ} → At o e 2 r s → r < o.m → s ≡ 0 → w r ≡ true → ⊥
      struck (same p q) l z = absurd (omega arith)
      struck {r} (other p q) l z = h.struck r l (sym q ∙ z)

  pub strike_lawful : Lawful o w → (w e ≡ true → ⊥) → Lawful (marked e 0 o) w
  strike_lawful h unused = lawful_as (marked_alike o e 0) w h (λ r l q. fixed (at o e 0 r) l q) (λ r l q. struck (at o e 0 r) l q) h.enough h.few
    where
      fixed : {r s : ℕ} → At o e 0 r s → r < o.m → s ≡ 2 → w r ≡ true
      fixed (same p q) l z = absurd (omega arith)
      fixed {r} (other p q) l z = h.fixed r l (sym q ∙ z)

      struck : {r s : ℕ} → At o e 0 r s → r < o.m → s ≡ 0 → w r ≡ true → ⊥
      struck (same p q) l z t = unused (ap w (sym p) ∙ t)
      struck {r} (other p q) l z t = h.struck r l (sym q ∙ z) t

  -- and back, for a possible run
  module _ (run : e < o.m) (possible : o.state e ≡ 1) where
    pub pinned_lawful : Lawful (marked e 2 o) w → Lawful o w × (w e ≡ true)
    pinned_lawful h = (lawful_as (alike_sym (marked_alike o e 2)) w h (λ r l q. fixed r (at o e 2 r) l q) (λ r l q. struck r (at o e 2 r) l q) h.enough h.few, h.fixed e run (put_here e 2 o.state e refl))
      where
        fixed : (r : ℕ) → At o e 2 r (put e 2 o.state r) → r < o.m → o.state r ≡ 2 → w r ≡ true
        fixed r (same p q) l z = h.fixed r l q
        fixed r (other p q) l z = h.fixed r l (q ∙ z)

        struck : (r : ℕ) → At o e 2 r (put e 2 o.state r) → r < o.m → o.state r ≡ 0 → w r ≡ true → ⊥
        struck r (same p q) l z = absurd (omega (arith, ap o.state p))
        struck r (other p q) l z = h.struck r l (q ∙ z)

    pub struck_lawful : Lawful (marked e 0 o) w → Lawful o w × (w e ≡ true → ⊥)
    struck_lawful h = (lawful_as (alike_sym (marked_alike o e 0)) w h (λ r l q. fixed r (at o e 0 r) l q) (λ r l q. struck r (at o e 0 r) l q) h.enough h.few, h.struck e run (put_here e 0 o.state e refl))
      where
        fixed : (r : ℕ) → At o e 0 r (put e 0 o.state r) → r < o.m → o.state r ≡ 2 → w r ≡ true
        fixed r (same p q) l z = absurd (omega (arith, ap o.state p))
        fixed r (other p q) l z = h.fixed r l (q ∙ z)

        struck : (r : ℕ) → At o e 0 r (put e 0 o.state r) → r < o.m → o.state r ≡ 0 → w r ≡ true → ⊥
        struck r (same p q) l z = absurd (omega (arith, ap o.state p))
        struck r (other p q) l z = h.struck r l (q ∙ z)
