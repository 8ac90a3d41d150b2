-- Amendments, the wirings that obey them, and the form with amendments written in.
use Rattle.std.specs.Prelude.{ℕ, ◌<◌, true, List, [], ◌∷◌, ◌↔◌, ◌≡◌, refl}
use Rattle.std.proofs.Common.{sym, ap, subst, ◌∙◌, arith}
use Rattle.wirings.specs.Alike.{Alike}
use Rattle.wirings.proofs.Alike.{alike_sym, segments_as, lawful_as}
use Rattle.wirings.specs.Amended.{put, marked, At, same, other}
use Rattle.wirings.proofs.Amended.{put_here, at, marked_sound, marked_alike, pin_lawful, strike_lawful}
use Rattle.wirings.specs.Counted.{Sound}
use Rattle.wirings.proofs.Limits.{counts_one}
use Rattle.wirings.proofs.Same.{agree_self}
use Rattle.wirings.proofs.Standing.{alike_trans}
use Rattle.wirings.specs.Wiring.{Order, Wiring, Lawful}
use Rattle.wirings.specs.Amendments.{Amendment, narrow, pin, strike, WellFormed, AllWellFormed, Obeys, ObeysAll, amended, written_in, Clash, Permuted, ahead, empty, swapped, twice}

-- ---- one amendment cuts down the lawful wirings to those that obey it
pub amended_alike : (o : Order) (a : Amendment) → Alike o (amended a o)
amended_alike o (pin r) = marked_alike o r 2
amended_alike o (strike r) = marked_alike o r 0
amended_alike o (narrow a b) = record { n = refl; m = refl; supply = λ x. refl; u = λ r. refl; v = λ r. refl }

pub amended_sound : (o : Order) (a : Amendment) → Sound o → Sound (amended a o)
amended_sound o (pin r) ok = marked_sound o r 2 (omega arith) ok
amended_sound o (strike r) ok = marked_sound o r 0 (omega arith) ok
amended_sound o (narrow a b) ok = record { up = ok.up; inside = ok.inside; fresh = ok.fresh; bit = ok.bit; mark = ok.mark }

-- a mark taken away again, where it did not turn a fixed run or a struck one
unmarked : (o : Order) (e s : ℕ) (w : Wiring) → (o.state e ≡ 2 → s ≡ 2) → (o.state e ≡ 0 → s ≡ 0) → Lawful (marked e s o) w → Lawful o w
unmarked o e s w two nought h =
    lawful_as (alike_sym (marked_alike o e s)) w h (λ r l z. used r (at o e s r) l z) (λ r l z. unused r (at o e s r) l z) h.enough h.few
  where
    used : (r : ℕ) → At o e s r (put e s o.state r) → r < o.m → o.state r ≡ 2 → w r ≡ true
    used r (same p q) l z = h.fixed r l (q ∙ two (ap o.state (sym p) ∙ z))
    used r (other p q) l z = h.fixed r l (q ∙ z)

    unused : (r : ℕ) → At o e s r (put e s o.state r) → r < o.m → o.state r ≡ 0 → w r ≡ true → ⊥
    unused r (same p q) l z = h.struck r l (q ∙ nought (ap o.state (sym p) ∙ z))
    unused r (other p q) l z = h.struck r l (q ∙ z)

module _ (o : Order) (w : Wiring) where
  pub amendment_cuts : (a : Amendment) → WellFormed o a → (Clash o a → ⊥) → Lawful (amended a o) w ↔ (Lawful o w × Obeys o w a)
  amendment_cuts (pin r) l n =
      (λ h. (unmarked o r 2 w (λ z. refl) (λ z. absurd (n z)) h, h.fixed r l (put_here r 2 o.state r refl)), λ p. pin_lawful o r w p.0 p.1)
  amendment_cuts (strike r) l n =
      (λ h. (unmarked o r 0 w (λ z. absurd (n z)) (λ z. refl) h, h.struck r l (put_here r 0 o.state r refl)), λ p. strike_lawful o r w p.0 p.1)
  amendment_cuts (narrow a b) l n = (
    λ h. (
      lawful_as (alike_sym (amended_alike o (narrow a b))) w h h.fixed h.struck (omega (arith, h.enough)) (omega (arith, h.few)),
      (h.count, segments_as (alike_sym (amended_alike o (narrow a b))) w h.counted, omega (arith, h.enough), omega (arith, h.few)),
    ),
    λ p. let h = p.0 in let (k, c, x, y) = p.1 in let e = counts_one h.counted c in
        lawful_as (amended_alike o (narrow a b)) w h h.fixed h.struck (omega (arith, h.enough)) (omega (arith, h.few)),
  )

  -- where it clashes with the form, no lawful wiring obeys it
  pub clash_none : (a : Amendment) → WellFormed o a → Clash o a → Lawful o w → Obeys o w a → ⊥
  clash_none (pin r) l z h p = h.struck r l z p
  clash_none (strike r) l z h p = p (h.fixed r l z)
  clash_none (narrow a b) l z h p = z

-- ---- on a form with the same places and runs the same is obeyed
pub well_formed_as : {o p : Order} → Alike o p → (a : Amendment) → WellFormed o a → WellFormed p a
well_formed_as e (pin r) l = subst (λ (k : ℕ). r < k) e.m l
well_formed_as e (strike r) l = subst (λ (k : ℕ). r < k) e.m l
well_formed_as e (narrow a b) l = l

pub all_well_formed_as : {o p : Order} → Alike o p → (L : List Amendment) → AllWellFormed o L → AllWellFormed p L
all_well_formed_as e [] h = tt
all_well_formed_as e (a ∷ L) h = (well_formed_as e a h.0, all_well_formed_as e L h.1)

module _ {o p : Order} (e : Alike o p) (w : Wiring) where
  pub obeys_as : (a : Amendment) → Obeys o w a → Obeys p w a
  obeys_as (pin r) h = h
  obeys_as (strike r) h = h
  obeys_as (narrow a b) h = (h.0, segments_as e w h.1, h.2, h.3)

  pub obeys_all_as : (L : List Amendment) → ObeysAll o w L → ObeysAll p w L
  obeys_all_as [] h = tt
  obeys_all_as (a ∷ L) h = (obeys_as a h.0, obeys_all_as L h.1)

-- ---- all written in together: where some lawful wiring obeys all, those that do are the lawful ones
pub written_alike : (L : List Amendment) (o : Order) → Alike o (written_in L o)
written_alike [] o = (agree_self o).alike
written_alike (a ∷ L) o = alike_trans (amended_alike o a) (written_alike L (amended a o))

pub written_sound : (L : List Amendment) (o : Order) → Sound o → Sound (written_in L o)
written_sound [] o ok = ok
written_sound (a ∷ L) o ok = written_sound L (amended a o) (amended_sound o a ok)

pub written_wirings : (L : List Amendment) (o : Order) → AllWellFormed o L → (b : Wiring) → Lawful o b → ObeysAll o b L
    → (w : Wiring) → Lawful (written_in L o) w ↔ (Lawful o w × ObeysAll o w L)
written_wirings [] o good b h all w = (λ g. (g, tt), λ p. p.0)
written_wirings (a ∷ L) o good b h all w =
    let n : Clash o a → ⊥ = λ c. clash_none o b a good.0 c h all.0 in
    let e = amended_alike o a in
    let c = amendment_cuts o w a good.0 n in
    let h' = (amendment_cuts o b a good.0 n).1 (h, all.0) in
    let i = written_wirings L (amended a o) (all_well_formed_as e L good.1) b h' (obeys_all_as e b L all.1) w in (
      λ g. let q = c.0 (i.0 g).0 in (q.0, (q.1, obeys_all_as (alike_sym e) w L (i.0 g).1)),
      λ p. i.1 (c.1 (p.0, p.1.0), obeys_all_as e w L p.1.1),
    )

pub obeys_permuted : (o : Order) (w : Wiring) {L K : List Amendment} → Permuted L K → ObeysAll o w L ↔ ObeysAll o w K
obeys_permuted o w empty = (λ h. h, λ h. h)
obeys_permuted o w (ahead p) = let q = obeys_permuted o w p in (λ h. (h.0, q.0 h.1), λ h. (h.0, q.1 h.1))
obeys_permuted o w swapped = (λ h. (h.1.0, (h.0, h.1.1)), λ h. (h.1.0, (h.0, h.1.1)))
obeys_permuted o w (twice p q) = let x = obeys_permuted o w p in let y = obeys_permuted o w q in (λ h. y.0 (x.0 h), λ h. x.1 (y.1 h))

pub well_formed_permuted : (o : Order) {L K : List Amendment} → Permuted L K → AllWellFormed o L → AllWellFormed o K
well_formed_permuted o empty h = h
well_formed_permuted o (ahead p) h = (h.0, well_formed_permuted o p h.1)
well_formed_permuted o swapped h = (h.1.0, (h.0, h.1.1))
well_formed_permuted o (twice p q) h = well_formed_permuted o q (well_formed_permuted o p h)
