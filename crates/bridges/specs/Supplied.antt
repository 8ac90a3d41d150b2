-- Which places have a supply under them: found from the last place of the growth back to the first.
use Rattle.std.specs.Prelude.{ℕ, ◌+◌, ◌≤◌, ◌<◌, Bool, true, false, List, ◌↔◌, ◌⊎◌, ◌≡◌, refl, length, get_or, set}
use Rattle.std.proofs.Common.{inl, inr, ⊎_elim, sym, ap, subst, ◌∙◌, length-set, get_or-set_same, get_or-set_other, arith}
use Rattle.std.proofs.Math.Decide.{ℕ_discrete}
use Rattle.bridges.specs.Climbed.{Marked}
use Rattle.forest.specs.Grown.{Grown, Under, self, more}
use Rattle.wirings.specs.Wiring.{Order}

module _ {o : Order} {rank up via : ℕ → ℕ} where
  weaken : {k x y : ℕ} → Under o rank up via (k + 1) x y → Under o rank up via k x y
  weaken self = self
  weaken (more v c u) = more v (omega arith) (weaken u)

  over_top : {k x y : ℕ} → via x < o.m → k < rank x → Under o rank up via k x y → Under o rank up via k (up x) y
  over_top v c self = more v c self
  over_top v c (more w d u) = more w d (over_top v c u)

  top : {k z w : ℕ} → Under o rank up via k z w → rank w ≤ k → z ≡ w
  top self d = refl
  top (more _ f _) d = absurd (omega arith)

  module _ (g : Grown o rank up via) {k x : ℕ} (l : x < o.n) (e : rank x ≡ k + 1) where
    -- a way over ranks above k goes over ranks above k + 1, or ends in the step from x
    split : {z y : ℕ} → y < o.n → Under o rank up via k z y → Under o rank up via (k + 1) z y ⊎ ((z ≡ up x) × (via x < o.m) × Under o rank up via (k + 1) x y)
    split i self = inl self
    split {z} {y} i (more v c u) = let b = g.reached y i v in elim (ℕ_discrete (rank y) (k + 1)) [
      | yes q ↦ let p = g.apart y x i l (q ∙ sym e) in inr (
        top (subst (λ (j : ℕ). Under o rank up via k z (up j)) p u) (omega (arith, b.earlier, ap rank (ap up p))),
        subst (λ (j : ℕ). via j < o.m) p v,
        subst (Under o rank up via (k + 1) x) (sym p) self,
      )
      | no q ↦ ⊎_elim (λ h. inl (more v (omega arith) h)) (λ (d, w, h). inr (d, w, more v (omega arith) h)) (split b.place u)
    ]

-- which places have a supply under them, over ranks above k
pub record Feeding (o : Order) (rank up via : ℕ → ℕ) (fed : List Bool) (k : ℕ) : Type 0 where
  pub size : length fed ≡ 256
  pub some : (z : ℕ) → z < o.n → Marked fed z → (y : ℕ) × (y < o.n) × (o.supply y ≡ 1) × Under o rank up via k z y
  pub all : (z y : ℕ) → z < o.n → y < o.n → o.supply y ≡ 1 → Under o rank up via k z y → Marked fed z

module _ {o : Order} {rank up via : ℕ → ℕ} (g : Grown o rank up via) where
  pub feeding_start : {fed : List Bool} {k : ℕ} → length fed ≡ 256 → ((y : ℕ) → y < o.n → rank y ≤ k) → ((y : ℕ) → y < o.n → Marked fed y ↔ (o.supply y ≡ 1)) → Feeding o rank up via fed k
  feeding_start {fed} {k} s top h = record { size = s; some = λ z l e. (z, l, (h z l).0 e, self); all = λ z y l i p u. alone z y i p u }
    where
      alone : (z y : ℕ) → y < o.n → o.supply y ≡ 1 → Under o rank up via k z y → Marked fed z
      alone z y i p self = (h y i).1 p
      alone z y i p (more v c u) = absurd (omega (arith, top y i))

  module _ {fed : List Bool} {k x : ℕ} (h : Feeding o rank up via fed (k + 1)) (l : x < o.n) (e : rank x ≡ k + 1) where
    -- x hands its supply on
    pub feeding_up : o.n ≤ 256 → via x < o.m → Marked fed x → Feeding o rank up via (set fed (up x) true) k
    feeding_up few v f = record {
      size = length-set fed (up x) true ∙ h.size;
      some = λ z i p. elim (ℕ_discrete z (up x)) [
        | yes q ↦ let (y, j, s, u) = h.some x l f in (y, j, s, subst (λ (j : ℕ). Under o rank up via k j y) (sym q) (over_top v (omega arith) (weaken u)))
        | no n ↦ let (y, j, s, u) = h.some z i (sym (get_or-set_other fed (up x) z true false n) ∙ p) in (y, j, s, weaken u)
      ];
      all = λ z y i j s u. elim (ℕ_discrete z (up x)) [
        | yes q ↦ ap (λ (j : ℕ). get_or (set fed (up x) true) j false) q ∙ get_or-set_same fed (up x) true false (omega (arith, h.size, (g.reached x l v).place))
        | no n ↦ get_or-set_other fed (up x) z true false n ∙ ⊎_elim (λ t. h.all z y i j s t) (λ t. absurd (n t.0)) (split g l e j u)
      ];
    }

    -- or has none to hand on, or nowhere to
    pub feeding_pass : (via x < o.m → Marked fed x → ⊥) → Feeding o rank up via fed k
    feeding_pass n = record {
      size = h.size;
      some = λ z i p. let (y, j, s, u) = h.some z i p in (y, j, s, weaken u);
      all = λ z y i j s u. ⊎_elim (λ t. h.all z y i j s t) (λ (q, v, t). absurd (n v (h.all x y l j s t))) (split g l e j u);
    }
