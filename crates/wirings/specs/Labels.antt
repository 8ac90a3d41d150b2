-- Labels: each place has the smallest place that runs of a list join it with.
use Prim.Native.Nat.{ℕ, min, max, ◌≤◌}
use mathlib.Core.List.{List, [], ◌∷◌}
use Rattle.std.specs.Prelude.{◌⊎◌, ◌≡◌}
use Rattle.std.proofs.Common.{inl, inr, sym, subst₂, ◌∙◌, le_antisymm}
use Rattle.std.proofs.Math.Path.{refl, ap, subst}
use Rattle.std.proofs.Math.Decide.{ℕ_discrete, dec_lt}
use native.Mathlib.Omega.{arith}
use Rattle.wirings.specs.Joined.{joined_trans, joined_sym, joined_mono}
use Rattle.wirings.specs.Wiring.{Order, along, back, Joined, here, on, Smallest}

-- r is in a list of runs
abbrev pub In : List ℕ → ℕ → Type 0
In [] r = ⊥
In (x ∷ xs) r = (r ≡ x) ⊎ In xs r

-- a label y after the pieces labelled a and b are joined: the larger becomes the smaller
unfoldable pub moved : ℕ → ℕ → ℕ → ℕ
moved a b y = elim (ℕ_discrete y (max a b)) [ yes _ ↦ min a b | no _ ↦ y ]

pub moved_is : (a b y : ℕ) → y ≡ max a b → moved a b y ≡ min a b
unfolding moved
moved_is a b y e = elim (ℕ_discrete y (max a b)) as (λ d. elim d as (λ _. ℕ) [ yes _ ↦ min a b | no _ ↦ y ] ≡ min a b) [ yes _ ↦ refl | no n ↦ absurd (n e) ]

pub moved_not : (a b y : ℕ) → (y ≡ max a b → ⊥) → moved a b y ≡ y
unfolding moved
moved_not a b y n = elim (ℕ_discrete y (max a b)) as (λ d. elim d as (λ _. ℕ) [ yes _ ↦ min a b | no _ ↦ y ] ≡ y) [ yes e ↦ absurd (n e) | no _ ↦ refl ]

-- the two cases of a moved label, as facts
pub data Moved (a b y z : ℕ) : Type 0 where
  went : y ≡ max a b → z ≡ min a b → Moved a b y z
  stayed : (y ≡ max a b → ⊥) → z ≡ y → Moved a b y z

pub moves : (a b y : ℕ) → Moved a b y (moved a b y)
moves a b y = elim (ℕ_discrete y (max a b)) [ yes e ↦ went e (moved_is a b y e) | no n ↦ stayed n (moved_not a b y n) ]

-- what holds of both holds of the smaller and of the larger
pub of_both : (P : ℕ → Type 0) (a b : ℕ) → P a → P b → P (min a b) × P (max a b)
of_both P a b p q =
    elim (dec_lt a b) [ yes l ↦ (subst P (omega arith) p, subst P (omega arith) q) | no l ↦ (subst P (omega arith) q, subst P (omega arith) p) ]

-- joining two pieces of labels that are their own labels gives such labels again
moved_root : (lab : ℕ → ℕ) (a b x : ℕ) → ((y : ℕ) → lab (lab y) ≡ lab y) → lab a ≡ a → lab b ≡ b → moved a b (lab (moved a b (lab x))) ≡ moved a b (lab x)
moved_root lab a b x root p q = go (moves a b (lab x))
  where
    low : moved a b (lab (min a b)) ≡ min a b
    low = ap (moved a b) (of_both (λ (k : ℕ). lab k ≡ k) a b p q).0 ∙ lowest (moves a b (min a b))
      where
        lowest : {z : ℕ} → Moved a b (min a b) z → z ≡ min a b
        lowest (went e f) = f
        lowest (stayed e f) = f

    go : {z : ℕ} → Moved a b (lab x) z → moved a b (lab z) ≡ z
    go (went e f) = ap (λ (k : ℕ). moved a b (lab k)) f ∙ low ∙ sym f
    go (stayed e f) = ap (λ (k : ℕ). moved a b (lab k)) f ∙ ap (moved a b) (root x) ∙ moved_not a b (lab x) e ∙ sym f

-- two labels that are joined move to one
pub moved_same : (a b : ℕ) → moved a b a ≡ moved a b b
moved_same a b = go (moves a b a) (moves a b b)
  where
    go : {y z : ℕ} → Moved a b a y → Moved a b b z → y ≡ z
    go (went e f) (went g h) = f ∙ sym h
    go (went e f) (stayed g h) = omega arith
    go (stayed e f) (went g h) = omega arith
    go (stayed e f) (stayed g h) = absurd (elim (dec_lt a b) [ yes l ↦ g (omega arith) | no l ↦ e (omega arith) ])

-- the label of a place, by a list of runs with these ends: each run joins the pieces of its ends
module _ (u v : ℕ → ℕ) where
  unfoldable pub labels : List ℕ → ℕ → ℕ
  labels [] x = x
  labels (r ∷ L) x = moved (labels L (u r)) (labels L (v r)) (labels L x)

module _ (o : Order) where
  abbrev pub label : List ℕ → ℕ → ℕ
  label = labels o.u o.v

  pub label_le : (L : List ℕ) (x : ℕ) → label L x ≤ x
  unfolding labels
  label_le [] x = omega arith
  label_le (r ∷ L) x = go (moves (label L (o.u r)) (label L (o.v r)) (label L x)) (label_le L x)
    where
      go : {a b y z : ℕ} → Moved a b y z → y ≤ x → z ≤ x
      go (went p q) l = omega arith
      go (stayed p q) l = omega arith

  -- a label is its own label
  pub label_root : (L : List ℕ) (x : ℕ) → label L (label L x) ≡ label L x
  unfolding labels
  label_root [] x = refl
  label_root (r ∷ L) x = moved_root (label L) (label L (o.u r)) (label L (o.v r)) x (label_root L) (label_root L (o.u r)) (label_root L (o.v r))

  -- ---- two places have one label exactly if they are joined
  step_joined : (r : ℕ) (L : List ℕ) (x : ℕ) → ((y : ℕ) → Joined o (In L) y (label L y)) → Joined o (In (r ∷ L)) x (label (r ∷ L) x)
  unfolding labels
  step_joined r L x known = go (moves a b (label L x))
    where
      a : ℕ
      a = label L (o.u r)

      b : ℕ
      b = label L (o.v r)

      more : (y : ℕ) → Joined o (In (r ∷ L)) y (label L y)
      more y = joined_mono (λ j h. inr h) (known y)

      across : Joined o (In (r ∷ L)) a b
      across = joined_trans (on (joined_sym (more (o.u r))) r (inl refl) (along refl refl)) (more (o.v r))

      down : Joined o (In (r ∷ L)) (max a b) (min a b)
      down = elim (dec_lt a b) [
        | yes l ↦ subst₂ (λ (y z : ℕ). Joined o (In (r ∷ L)) y z) (omega arith) (omega arith) (joined_sym across)
        | no l ↦ subst₂ (λ (y z : ℕ). Joined o (In (r ∷ L)) y z) (omega arith) (omega arith) across
      ]

      go : {z : ℕ} → Moved a b (label L x) z → Joined o (In (r ∷ L)) x z
      go (went p q) = subst (λ (k : ℕ). Joined o (In (r ∷ L)) x k) (sym q) (joined_trans (subst (λ (k : ℕ). Joined o (In (r ∷ L)) x k) p (more x)) down)
      go (stayed p q) = subst (λ (k : ℕ). Joined o (In (r ∷ L)) x k) (sym q) (more x)

  pub joined_label : (L : List ℕ) (x : ℕ) → Joined o (In L) x (label L x)
  unfolding labels
  joined_label [] x = here
  joined_label (r ∷ L) x = step_joined r L x (joined_label L)

  ends_same : (L : List ℕ) (r : ℕ) → In L r → label L (o.u r) ≡ label L (o.v r)
  unfolding labels
  ends_same [] r h = elim h [ ]
  ends_same (x ∷ L) r (inl e) =
      subst (λ (k : ℕ). label (x ∷ L) (o.u k) ≡ label (x ∷ L) (o.v k)) (sym e) (moved_same (label L (o.u x)) (label L (o.v x)))
  ends_same (x ∷ L) r (inr h) = ap (moved (label L (o.u x)) (label L (o.v x))) (ends_same L r h)

  pub joined_same : (L : List ℕ) {x y : ℕ} → Joined o (In L) x y → label L x ≡ label L y
  joined_same L here = refl
  joined_same L (on p r h (along e f)) = joined_same L p ∙ ap (label L) (sym e) ∙ ends_same L r h ∙ ap (label L) f
  joined_same L (on p r h (back e f)) = joined_same L p ∙ ap (label L) (sym e) ∙ sym (ends_same L r h) ∙ ap (label L) f

  pub same_joined : (L : List ℕ) {x y : ℕ} → label L x ≡ label L y → Joined o (In L) x y
  same_joined L {x} {y} e = joined_trans (joined_label L x) (subst (λ (k : ℕ). Joined o (In L) k y) (sym e) (joined_sym (joined_label L y)))

  -- ---- the label is the smallest place joined; so it goes by what is joined alone
  pub label_least : (L : List ℕ) {x y : ℕ} → Joined o (In L) x y → label L x ≤ y
  label_least L {x} {y} p = subst (λ (k : ℕ). k ≤ y) (sym (joined_same L p)) (label_le L y)

  pub root_smallest : (L : List ℕ) {x : ℕ} → label L x ≡ x → Smallest o (In L) x
  root_smallest L e y l p = omega (arith, label_least L p)

  pub smallest_root : (L : List ℕ) (x : ℕ) → Smallest o (In L) x → label L x ≡ x
  smallest_root L x h = elim (dec_lt (label L x) x) [ yes l ↦ absurd (h (label L x) l (joined_label L x)) | no l ↦ omega (arith, label_le L x) ]

  pub label_mono : (L K : List ℕ) → ((r : ℕ) → In L r → In K r) → (x : ℕ) → label K x ≤ label L x
  label_mono L K f x = label_least K (joined_mono f (joined_label L x))

  pub label_ext : (L K : List ℕ) → ((r : ℕ) → In L r → In K r) → ((r : ℕ) → In K r → In L r) → (x : ℕ) → label L x ≡ label K x
  label_ext L K f g x = le_antisymm (label_mono K L g x) (label_mono L K f x)
