-- The pieces of a list of runs: how they are counted, and what one more run or more runs do.
use Rattle.std.specs.Prelude.{ℕ, min, ◌+◌, ◌≤◌, ◌<◌, List, [], ◌∷◌, ◌++◌, ◌⊎◌, ◌≡◌, refl}
use Rattle.std.proofs.Common.{inl, inr, ⊎_elim, ◌∙◌}
use Rattle.std.proofs.Math.Path.{sym, ap}
use Rattle.std.proofs.Math.Decide.{ℕ_discrete, dec_lt}
use native.Mathlib.Omega.{arith}
use Rattle.wirings.specs.Labels.{In, Moved, went, stayed, moves, labels, label, label_le, label_root, joined_same, same_joined, label_ext}
use Rattle.wirings.specs.Pieces.{pieces, stock, fed_pieces, pieces_same, fed_same, pieces_join, fed_join}
use Rattle.wirings.specs.Tally.{when, when_is, when_not, When, same, apart, whens, tally_same, tally_at, tally_some}
use Rattle.wirings.specs.Wiring.{Order, Fed}

-- the order of a form without a fault: a run leads from a smaller place to a larger one, no two runs have one pair of ends, a supply is 0 or 1, a state at most 2
pub record Sound (o : Order) : Type 0 where
  pub up : (r : ℕ) → r < o.m → o.u r < o.v r
  pub inside : (r : ℕ) → r < o.m → o.v r < o.n
  pub fresh : (r j : ℕ) → r < o.m → j < o.m → o.u r ≡ o.u j → o.v r ≡ o.v j → r ≡ j
  pub bit : (x : ℕ) → o.supply x ≤ 1
  pub mark : (r : ℕ) → r < o.m → o.state r ≤ 2

-- a list of runs of the order
abbrev pub Runs : Order → List ℕ → Type 0
Runs o L = (r : ℕ) → In L r → r < o.m

-- the components over a list of runs, the supplies of the one with label x, and the components that hold a supply
abbrev pub comps : Order → List ℕ → ℕ
comps o L = pieces o.n (label o L)

abbrev pub stocked : Order → List ℕ → ℕ → ℕ
stocked o L x = stock o.n o.supply (label o L) (label o L x)

abbrev pub feds : Order → List ℕ → ℕ
feds o L = fed_pieces o.n o.supply (label o L)

-- ---- the same runs make the same pieces
module _ (o : Order) (L K : List ℕ) (f : (r : ℕ) → In L r → In K r) (g : (r : ℕ) → In K r → In L r) where
  pub comps_ext : comps o L ≡ comps o K
  comps_ext = pieces_same o.n o.supply (label o L) (label o K) (λ x l. label_ext o L K f g x)

  pub feds_ext : feds o L ≡ feds o K
  feds_ext = fed_same o.n o.supply (label o L) (label o K) (λ x l. label_ext o L K f g x)

-- ---- one more run
module _ (o : Order) (ok : Sound o) (r : ℕ) (L : List ℕ) where
  -- one whose ends are joined changes nothing
  pub same_labels : label o L (o.u r) ≡ label o L (o.v r) → (x : ℕ) → label o (r ∷ L) x ≡ label o L x
  unfolding labels
  same_labels e x = go (moves (label o L (o.u r)) (label o L (o.v r)) (label o L x))
    where
      go : {y z : ℕ} → Moved (label o L (o.u r)) (label o L (o.v r)) y z → z ≡ y
      go (went p q) = omega arith
      go (stayed p q) = q

  module _ (run : r < o.m) (open' : label o L (o.u r) ≡ label o L (o.v r) → ⊥) where
    below : (label o L (o.u r) < o.n) × (label o L (o.v r) < o.n)
    below = (omega (arith, label_le o L (o.u r), ok.up r run, ok.inside r run), omega (arith, label_le o L (o.v r), ok.inside r run))

    pub comps_one : comps o (r ∷ L) + 1 ≡ comps o L
    unfolding labels
    comps_one = pieces_join o.n o.supply (label o L) _ _ (label_root o L (o.u r)) (label_root o L (o.v r)) open' below.0 below.1

    pub feds_one : feds o (r ∷ L) + (min 1 (stocked o L (o.u r)) + min 1 (stocked o L (o.v r))) ≡ feds o L + min 1 (stocked o L (o.u r) + stocked o L (o.v r))
    unfolding labels
    feds_one = fed_join o.n o.supply (label o L) _ _ (label_root o L (o.u r)) (label_root o L (o.v r)) open' below.0 below.1

  pub one_less : r < o.m → (comps o (r ∷ L) ≤ comps o L) × (comps o L ≤ comps o (r ∷ L) + 1) × (feds o (r ∷ L) ≤ feds o L)
  one_less run =
      elim (ℕ_discrete (label o L (o.u r)) (label o L (o.v r))) [
        | yes e ↦ let p = pieces_same o.n o.supply (label o (r ∷ L)) (label o L) (λ x l. same_labels e x) in
            let q = fed_same o.n o.supply (label o (r ∷ L)) (label o L) (λ x l. same_labels e x) in (omega arith, omega arith, omega arith)
        | no d ↦ let p = comps_one run d in let q = feds_one run d in (omega arith, omega arith, omega arith)
      ]

-- ---- more runs
pub in_front : (K L : List ℕ) (r : ℕ) → In K r → In (K ++ L) r
in_front [] L r h = elim h [ ]
in_front (x ∷ K) L r (inl e) = inl e
in_front (x ∷ K) L r (inr h) = inr (in_front K L r h)

pub in_back : (K L : List ℕ) (r : ℕ) → In L r → In (K ++ L) r
in_back [] L r h = h
in_back (x ∷ K) L r h = inr (in_back K L r h)

pub in_either : (K L : List ℕ) (r : ℕ) → In (K ++ L) r → In K r ⊎ In L r
in_either [] L r h = inr h
in_either (x ∷ K) L r (inl e) = inl (inl e)
in_either (x ∷ K) L r (inr h) = ⊎_elim (λ k. inl (inr k)) inr (in_either K L r h)

module _ (o : Order) (ok : Sound o) where
  more_less : (K L : List ℕ) → Runs o K → (comps o (K ++ L) ≤ comps o L) × (feds o (K ++ L) ≤ feds o L)
  more_less [] L k = (omega arith, omega arith)
  more_less (r ∷ K) L k =
      let a = more_less K L (λ j h. k j (inr h)) in let b = one_less o ok r (K ++ L) (k r (inl refl)) in (omega arith, omega arith)

  module _ (L M : List ℕ) (runs : Runs o M) (sub : (r : ℕ) → In L r → In M r) where
    join_ext : (r : ℕ) → In (M ++ L) r → In M r
    join_ext r h = ⊎_elim (λ k. k) (sub r) (in_either M L r h)

    pub comps_mono : comps o M ≤ comps o L
    comps_mono = omega (arith, (more_less M L runs).0, comps_ext o (M ++ L) M join_ext (in_front M L))

    pub feds_mono : feds o M ≤ feds o L
    feds_mono = omega (arith, (more_less M L runs).1, feds_ext o (M ++ L) M join_ext (in_front M L))

-- ---- supplies are 0 or 1: a piece holds one exactly if its places are joined with one
module _ (o : Order) (bit : (x : ℕ) → o.supply x ≤ 1) (L : List ℕ) where
  pub fed_stocked : {x : ℕ} → Fed o (In L) x → 0 < stocked o L x
  unfolding stock
  fed_stocked {x} f =
      omega (
        arith,
        tally_at (λ y. when (label o L y) (label o L x) (o.supply y)) o.n f.at f.place,
        when_is (label o L f.at) (label o L x) (o.supply f.at) (sym (joined_same o L f.joined)),
        f.supplied,
      )

  pub stocked_fed : (x : ℕ) → 0 < stocked o L x → Fed o (In L) x
  unfolding stock
  stocked_fed x h = let t = tally_some (λ y. when (label o L y) (label o L x) (o.supply y)) o.n h in
      go t.at t.below (whens (label o L t.at) (label o L x) (o.supply t.at)) t.some
    where
      go : (y : ℕ) → y < o.n → {z : ℕ} → When (label o L y) (label o L x) (o.supply y) z → 0 < z → Fed o (In L) x
      go y l (same e f) p = record { at = y; place = l; supplied = omega (arith, bit y); joined = same_joined o L (sym e) }
      go y l (apart e f) p = absurd (omega arith)

  pub fed_dec : (x : ℕ) → Fed o (In L) x ⊎ (Fed o (In L) x → ⊥)
  fed_dec x = elim (dec_lt 0 (stocked o L x)) [ yes l ↦ inl (stocked_fed x l) | no l ↦ inr (λ f. l (fed_stocked f)) ]

  -- where every piece holds a supply, both counts are one
  pub all_fed : ((x : ℕ) → x < o.n → Fed o (In L) x) → feds o L ≡ comps o L
  unfolding pieces fed_pieces
  all_fed f = tally_same _ _ o.n (λ x l. go x (whens (label o L x) x (min 1 (stock o.n o.supply (label o L) x))) (f x l))
    where
      go : (x : ℕ) {z : ℕ} → When (label o L x) x (min 1 (stock o.n o.supply (label o L) x)) z → Fed o (In L) x → z ≡ when (label o L x) x 1
      go x (same e g) h =
          omega (arith, when_is (label o L x) x 1 e, fed_stocked h, ap (stock o.n o.supply (label o L)) e)
      go x (apart e g) h = g ∙ sym (when_not (label o L x) x 1 e)
