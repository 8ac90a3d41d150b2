-- A forest grown over the unstruck runs, from the supplies first: which of its runs are bridges, and which sides hold a supply.
use Rattle.std.specs.Prelude.{ℕ, zero, suc, ◌≤◌, ◌<◌, ◌↔◌, ◌⊎◌, ◌≡◌, refl}
use Rattle.std.proofs.Common.{inl, inr, ⊎_elim, sym, ap, subst, ◌∙◌, arith}
use Rattle.std.proofs.Math.Decide.{ℕ_discrete, dec_lt}
use Rattle.wirings.specs.Joined.{leads_back, joined_trans, joined_sym, joined_mono}
use Rattle.wirings.specs.Limits.{Unstruck}
use Rattle.wirings.specs.Marks.{Others, Bridge, bypassed, supplied, bare}
use Rattle.wirings.specs.Wiring.{Order, Leads, along, back, Joined, here, on, Fed}

-- the run by which x was reached, from a place that came earlier
pub record Reached (o : Order) (rank up via : ℕ → ℕ) (x : ℕ) : Type 0 where
  pub place : up x < o.n
  pub earlier : rank (up x) < rank x
  pub run : Unstruck o (via x)
  pub leads : Leads o (via x) (up x) x

-- each place has a rank of its own; it is a root, or was reached. No run leads from the places before a root to the others, and where a root holds no
-- supply, neither does any place after it
pub record Grown (o : Order) (rank up via : ℕ → ℕ) : Type 0 where
  pub apart : (x y : ℕ) → x < o.n → y < o.n → rank x ≡ rank y → x ≡ y
  pub reached : (x : ℕ) → x < o.n → via x < o.m → Reached o rank up via x
  pub closed : (x : ℕ) → x < o.n → o.m ≤ via x → (r y z : ℕ) → Unstruck o r → Leads o r y z → rank y < rank x → rank z < rank x
  pub fed : (x : ℕ) → x < o.n → o.m ≤ via x → (o.supply x ≡ 1 → ⊥) → (y : ℕ) → y < o.n → o.supply y ≡ 1 → rank y < rank x
  pub inside : (r y z : ℕ) → Unstruck o r → Leads o r y z → z < o.n

-- y is x, or its way to a root leads through x, over places with a rank above k
pub data Under (o : Order) (rank up via : ℕ → ℕ) (k x : ℕ) : ℕ → Type 0 where
  self : Under o rank up via k x x
  more : {y : ℕ} → via y < o.m → k < rank y → Under o rank up via k x (up y) → Under o rank up via k x y

-- a run outside the forest
abbrev pub Outside : Order → (ℕ → ℕ) → ℕ → Type 0
Outside o via r = Unstruck o r × ((y : ℕ) → y < o.n → via y ≡ r → ⊥)

-- y is joined with a root by runs of a set
pub record Root (o : Order) (rank via : ℕ → ℕ) (Q : ℕ → Type 0) (y : ℕ) : Type 0 where
  pub at : ℕ
  pub place : at < o.n
  pub root : o.m ≤ via at
  pub first : rank at ≤ rank y
  pub joined : Joined o Q y at

-- a run has two ends
ends : {o : Order} {r y z p w : ℕ} → Leads o r y z → Leads o r p w → ((y ≡ p) × (z ≡ w)) ⊎ ((y ≡ w) × (z ≡ p))
ends (along a b) (along c d) = inl (sym a ∙ c, sym b ∙ d)
ends (along a b) (back c d) = inr (sym a ∙ d, sym b ∙ c)
ends (back a b) (along c d) = inr (sym a ∙ d, sym b ∙ c)
ends (back a b) (back c d) = inl (sym a ∙ c, sym b ∙ d)

module _ {o : Order} {rank up via : ℕ → ℕ} (g : Grown o rank up via) where
  -- a run of the forest is the way to one place only
  pub via_one : (x y : ℕ) → x < o.n → y < o.n → via x < o.m → via x ≡ via y → x ≡ y
  via_one x y l k m e =
      let a = g.reached x l m in let b = g.reached y k (omega arith) in
      ⊎_elim (λ (p, q). q) (λ (p, q). absurd (omega (arith, a.earlier, b.earlier, ap rank p, ap rank q))) (ends a.leads (subst (λ (r : ℕ). Leads o r (up y) y) (sym e) b.leads))

  -- a run is the way to one of its ends, or outside
  pub outside_run : (r : ℕ) → Unstruck o r → (via (o.u r) ≡ r → ⊥) → (via (o.v r) ≡ r → ⊥) → Outside o via r
  outside_run r h n k = (
    h,
    λ y l e. let q = subst (λ (j : ℕ). Leads o j (up y) y) e (g.reached y l (omega (arith, h.0))).leads in
        ⊎_elim (λ (a, b). k (ap via b ∙ e)) (λ (a, b). n (ap via a ∙ e)) (ends (along refl refl) q),
  )

  pub way_or_outside : (r : ℕ) → Unstruck o r → ((w : ℕ) × (w < o.n) × (via w ≡ r)) ⊎ Outside o via r
  way_or_outside r h = elim (ℕ_discrete (via (o.u r)) r) [
    | yes e ↦ inl (o.u r, g.inside r (o.v r) (o.u r) h (back refl refl), e)
    | no n ↦ elim (ℕ_discrete (via (o.v r)) r) [ yes e ↦ inl (o.v r, g.inside r (o.u r) (o.v r) h (along refl refl), e) | no k ↦ inr (outside_run r h n k) ]
  ]

  -- ---- the way to the root, by runs of a set that has the ways of all places up to it
  module _ (Q : ℕ → Type 0) where
    climb : (k y : ℕ) → y < o.n → rank y ≤ k → ((z : ℕ) → z < o.n → rank z ≤ rank y → via z < o.m → Q (via z)) → Root o rank via Q y
    climb zero y l b all = elim (dec_lt (via y) o.m) [
      | no n ↦ record { at = y; place = l; root = omega arith; first = omega arith; joined = here }
      | yes v ↦ absurd (omega (arith, (g.reached y l v).earlier))
    ]
    climb (suc k) y l b all = elim (dec_lt (via y) o.m) [
      | no n ↦ record { at = y; place = l; root = omega arith; first = omega arith; joined = here }
      | yes v ↦ let a = g.reached y l v in let t = climb k (up y) a.place (omega (arith, a.earlier)) (λ z i j w. all z i (omega (arith, a.earlier)) w) in
          record {
            at = t.at;
            place = t.place;
            root = t.root;
            first = omega (arith, t.first, a.earlier);
            joined = joined_trans (on here (via y) (all y l (omega arith) v) (leads_back a.leads)) t.joined;
          }
    ]

    pub to_root : (y : ℕ) → y < o.n → ((z : ℕ) → z < o.n → rank z ≤ rank y → via z < o.m → Q (via z)) → Root o rank via Q y
    to_root y l all = climb (rank y) y l (omega arith) all

  -- what unstruck runs join lies on one side of a root
  pub side : {x y z : ℕ} → x < o.n → o.m ≤ via x → Joined o (Unstruck o) y z → rank y < rank x → rank z < rank x
  side l m here b = b
  side {x} l m (on {y = y} {z = z} p r h k) b = g.closed x l m r y z h k (side l m p b)

  -- so joined places have one root
  root_one : {x y : ℕ} → x < o.n → o.m ≤ via x → y < o.n → o.m ≤ via y → Joined o (Unstruck o) x y → x ≡ y
  root_one {x} {y} l m k w p = elim (dec_lt (rank x) (rank y)) [
    | yes b ↦ absurd (omega (arith, side k w p b))
    | no b ↦ elim (dec_lt (rank y) (rank x)) [ yes c ↦ absurd (omega (arith, side l m (joined_sym p) c)) | no c ↦ g.apart x y l k (omega arith) ]
  ]

  -- two joined places, each joined with its root by runs of a set, are joined by it
  by_roots : {Q : ℕ → Type 0} → ((r : ℕ) → Q r → Unstruck o r) → {y z : ℕ} → Joined o (Unstruck o) y z → Root o rank via Q y → Root o rank via Q z → Joined o Q y z
  by_roots {Q} f {y} {z} p a b =
      let e = root_one a.place a.root b.place b.root (joined_trans (joined_sym (joined_mono f a.joined)) (joined_trans p (joined_mono f b.joined))) in
      joined_trans (subst (Joined o Q y) e a.joined) (joined_sym b.joined)

  -- ---- a run outside the forest is bypassed
  pub outside_bypassed : (r : ℕ) → Outside o via r → Joined o (Others o r) (o.u r) (o.v r)
  outside_bypassed r (h, n) =
      let way : (y : ℕ) → y < o.n → Root o rank via (Others o r) y = λ y k. to_root (Others o r) y k (λ z i j w. ((g.reached z i w).run.0, (g.reached z i w).run.1, n z i)) in
      by_roots (λ j q. (q.0, q.1)) (on here r h (along refl refl)) (way (o.u r) (g.inside r (o.v r) (o.u r) h (back refl refl))) (way (o.v r) (g.inside r (o.u r) (o.v r) h (along refl refl)))

  module _ (x : ℕ) (l : x < o.n) (nonroot : via x < o.m) where
    a : Reached o rank up via x
    a = g.reached x l nonroot

    -- the way of a place that came before x does not use the run to x
    avoids : (y : ℕ) → y < o.n → rank y < rank x → Root o rank via (Others o (via x)) y
    avoids y k b = to_root (Others o (via x)) y k (λ z i j w. let h = (g.reached z i w).run in (h.0, h.1, λ e. omega (arith, ap rank (via_one z x i l w e))))

    whole : (r : ℕ) → Others o (via x) r → Unstruck o r
    whole r h = (h.0, h.1)

    -- ---- x is bypassed where other runs join it with a place that came before
    pub bypass : {b : ℕ} → b < o.n → rank b < rank x → Joined o (Others o (via x)) x b → Joined o (Others o (via x)) x (up x)
    bypass {b} k c p =
        joined_trans p (by_roots whole (joined_trans (joined_sym (joined_mono whole p)) (on here (via x) a.run (leads_back a.leads))) (avoids b k c) (avoids (up x) a.place a.earlier))

    below_rank : {y : ℕ} → y < o.n → Under o rank up via 0 x y → rank x ≤ rank y
    below_rank k self = omega arith
    below_rank {y} k (more v c h) = let b = g.reached y k v in omega (arith, b.earlier, below_rank b.place h)

    -- what lies under x is joined with it by other runs than that to x
    below_joined : {y : ℕ} → y < o.n → Under o rank up via 0 x y → Joined o (Others o (via x)) x y
    below_joined k self = here
    below_joined {y} k (more v c h) = let b = g.reached y k v in
        on (below_joined b.place h) (via y) (b.run.0, b.run.1, λ e. omega (arith, b.earlier, below_rank b.place h, ap rank (via_one y x k l v e))) b.leads

    -- ---- or it is a bridge, where no run outside the forest leaves what lies under x
    module _ (kept : (r : ℕ) → Outside o via r → Under o rank up via 0 x (o.u r) ↔ Under o rank up via 0 x (o.v r)) where
      -- neither does a run of the forest, but that to x
      up_way : {y : ℕ} → (y ≡ x → ⊥) → Under o rank up via 0 x y → Under o rank up via 0 x (up y)
      up_way n self = absurd (n refl)
      up_way n (more w c h) = h

      down_way : (y : ℕ) → y < o.n → via y < o.m → Under o rank up via 0 x (up y) → Under o rank up via 0 x y
      down_way y k v h = more v (omega (arith, (g.reached y k v).earlier)) h

      other : {r y z : ℕ} → Others o (via x) r → Leads o r y z → Under o rank up via 0 x y → Under o rank up via 0 x z
      other {r} {y} {z} h p u = ⊎_elim
          (λ (w, k, e). let v : via w < o.m = omega (arith, h.0) in let b = g.reached w k v in
          ⊎_elim
          (λ (c, d). subst (λ (j : ℕ). Under o rank up via 0 x j) (sym d) (down_way w k v (subst (λ (j : ℕ). Under o rank up via 0 x j) c u)))
          (λ (c, d). subst (λ (j : ℕ). Under o rank up via 0 x j) (sym d) (up_way (λ q. h.2 (sym e ∙ ap via q)) (subst (λ (j : ℕ). Under o rank up via 0 x j) c u)))
          (ends p (subst (λ (j : ℕ). Leads o j (up w) w) e b.leads)))
          (λ out. over p (kept r out))
          (way_or_outside r (h.0, h.1))
        where
          over : Leads o r y z → Under o rank up via 0 x (o.u r) ↔ Under o rank up via 0 x (o.v r) → Under o rank up via 0 x z
          over (along c d) f = subst (λ (j : ℕ). Under o rank up via 0 x j) d (f.0 (subst (λ (j : ℕ). Under o rank up via 0 x j) (sym c) u))
          over (back c d) f = subst (λ (j : ℕ). Under o rank up via 0 x j) d (f.1 (subst (λ (j : ℕ). Under o rank up via 0 x j) (sym c) u))

      stays : {y z : ℕ} → Joined o (Others o (via x)) y z → Under o rank up via 0 x y → Under o rank up via 0 x z
      stays here u = u
      stays (on p r h k) u = other h k (stays p u)

      cut : Joined o (Others o (via x)) x (up x) → ⊥
      cut p = omega (arith, a.earlier, below_rank a.place (stays p self))

      -- the two sides, whichever end is which
      cut_ends : Leads o (via x) (up x) x → Joined o (Others o (via x)) (o.u (via x)) (o.v (via x)) → ⊥
      cut_ends (along c d) p = cut (joined_sym (subst (λ (j : ℕ). Joined o (Others o (via x)) j x) c (subst (Joined o (Others o (via x)) (o.u (via x))) d p)))
      cut_ends (back c d) p = cut (subst (λ (j : ℕ). Joined o (Others o (via x)) j (up x)) d (subst (Joined o (Others o (via x)) (o.u (via x))) c p))

      pub bridge_fed : (y : ℕ) → y < o.n → o.supply y ≡ 1 → Under o rank up via 0 x y → Bridge o (via x) 1
      bridge_fed y k s u = both a.leads
        where
          low : Fed o (Others o (via x)) x
          low = record { at = y; place = k; supplied = s; joined = below_joined k u }

          high : Fed o (Others o (via x)) (up x)
          high = let t = avoids (up x) a.place a.earlier in record {
            at = t.at;
            place = t.place;
            supplied = elim (ℕ_discrete (o.supply t.at) 1) [ yes e ↦ e | no n ↦ absurd (omega (arith, g.fed t.at t.place t.root n y k s, t.first, a.earlier, below_rank k u)) ];
            joined = t.joined;
          }

          both : Leads o (via x) (up x) x → Bridge o (via x) 1
          both (along c d) = supplied (cut_ends (along c d)) (subst (Fed o (Others o (via x))) (sym c) high) (subst (Fed o (Others o (via x))) (sym d) low) refl
          both (back c d) = supplied (cut_ends (back c d)) (subst (Fed o (Others o (via x))) (sym d) low) (subst (Fed o (Others o (via x))) (sym c) high) refl

      pub bridge_bare : ((y : ℕ) → y < o.n → o.supply y ≡ 1 → Under o rank up via 0 x y → ⊥) → Bridge o (via x) 2
      bridge_bare none = bare (cut_ends a.leads) (one a.leads) refl
        where
          unfed : Fed o (Others o (via x)) x → ⊥
          unfed f = none f.at f.place f.supplied (stays f.joined self)

          one : Leads o (via x) (up x) x → Fed o (Others o (via x)) (o.u (via x)) → Fed o (Others o (via x)) (o.v (via x)) → ⊥
          one (along c d) f h = unfed (subst (Fed o (Others o (via x))) d h)
          one (back c d) f h = unfed (subst (Fed o (Others o (via x))) d f)

    pub bridge_bypassed : Joined o (Others o (via x)) x (up x) → Bridge o (via x) 0
    bridge_bypassed p = bypassed (go a.leads) refl
      where
        go : Leads o (via x) (up x) x → Joined o (Others o (via x)) (o.u (via x)) (o.v (via x))
        go (along c d) = subst (λ (j : ℕ). Joined o (Others o (via x)) j (o.v (via x))) (sym c) (subst (Joined o (Others o (via x)) (up x)) (sym d) (joined_sym p))
        go (back c d) = subst (λ (j : ℕ). Joined o (Others o (via x)) j (o.v (via x))) (sym d) (subst (Joined o (Others o (via x)) x) (sym c) p)
