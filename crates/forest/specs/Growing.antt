-- The growth of the forest, place by place.
use Rattle.std.specs.Prelude.{ℕ, ◌+◌, ◌-◌, ◌*◌, ◌≤◌, ◌<◌, List, ◌⊎◌, ◌≡◌, refl, length, set}
use Rattle.std.proofs.Common.{inl, inr, ⊎_elim, sym, ap, subst, ◌∙◌, length-set, get_or-set_same, get_or-set_other, le_refl, arith}
use Rattle.std.proofs.Math.Decide.{ℕ_discrete, dec_lt}
use Rattle.forest.specs.Grown.{Reached}
use Rattle.forest.specs.Links.{Entry, entry_leads, entry_below, Before, Linked}
use Rattle.pieces.specs.Holds.{at}
use Rattle.wirings.specs.Limits.{Unstruck}
use Rattle.wirings.proofs.Limits.{counts_more, counts_most, counts_less}
use Rattle.wirings.specs.Wiring.{Order, Leads, Counts}

-- ---- the places so far
pub record Placed (o : Order) (order rank up via : List ℕ) (count : ℕ) : Type 0 where
  pub orders : length order ≡ 256
  pub ranks : length rank ≡ 256
  pub ups : length up ≡ 256
  pub vias : length via ≡ 256
  pub counted : Counts (λ y. 0 < at rank y) o.n count
  pub listed : (y : ℕ) → y < o.n → 0 < at rank y → (at order (at rank y - 1) ≡ y) × (at rank y ≤ count)
  pub ordered : (k : ℕ) → k < count → (at order k < o.n) × (at rank (at order k) ≡ k + 1)
  pub reached : (y : ℕ) → y < o.n → 0 < at rank y → at via y < o.m → Reached o (at rank) (at up) (at via) y
  pub parent : (y : ℕ) → y < o.n → 0 < at rank y → at via y < o.m → 0 < at rank (at up y)

-- the run by which a new place is reached leads from one that is there, unless it is a root
pub record Arrives (o : Order) (rank : List ℕ) (z p w : ℕ) : Type 0 where
  pub place : p < o.n
  pub there : 0 < at rank p
  pub run : Unstruck o w
  pub leads : Leads o w p z

module _ {o : Order} {order rank up via : List ℕ} {count : ℕ} (h : Placed o order rank up via count) where
  pub placed_apart : (x y : ℕ) → x < o.n → y < o.n → 0 < at rank x → at rank x ≡ at rank y → x ≡ y
  placed_apart x y l k c e = sym (h.listed x l c).0 ∙ ap (λ (j : ℕ). at order (j - 1)) e ∙ (h.listed y k (omega arith)).0

  pub placed_most : count ≤ o.n
  placed_most = counts_most h.counted

  pub placed_less : {z : ℕ} → z < o.n → at rank z ≡ 0 → count < o.n
  placed_less l e = counts_less h.counted l (λ p. omega arith)

  module _ (few : o.n ≤ 256) {z p w : ℕ} (l : z < o.n) (e : at rank z ≡ 0) (arrives : w < o.m → Arrives o rank z p w) where
    rank' : List ℕ
    rank' = set rank z (count + 1)

    here' : (y : ℕ) → y ≡ z → at (set rank z (count + 1)) y ≡ count + 1
    here' y q = ap (at (set rank z (count + 1))) q ∙ get_or-set_same rank z (count + 1) 0 (omega (arith, h.ranks))

    there' : (y : ℕ) → (y ≡ z → ⊥) → at (set rank z (count + 1)) y ≡ at rank y
    there' y n = get_or-set_other rank z y (count + 1) 0 n

    -- a place that was there is another
    old : (y : ℕ) → 0 < at rank y → y ≡ z → ⊥
    old y c q = omega (arith, ap (at rank) q)

    was : (y : ℕ) → 0 < at (set rank z (count + 1)) y → (y ≡ z → ⊥) → 0 < at rank y
    was y c n = omega (arith, there' y n)

    more_room : count < 256
    more_room = omega (arith, placed_less l e)

    way : (y : ℕ) → y < o.n → 0 < at rank y → at via y < o.m → Reached o (at (set rank z (count + 1))) (at (set up z p)) (at (set via z w)) y
    way y k c v = let a = h.reached y k c v in let n = old y c in
        let u = get_or-set_other up z y p 0 n in let i = get_or-set_other via z y w 0 n in let q = h.parent y k c v in record {
          place = subst (λ (j : ℕ). j < o.n) (sym u) a.place;
          earlier = omega (arith, a.earlier, ap (at (set rank z (count + 1))) u, there' (at up y) (old (at up y) q), there' y n);
          run = subst (Unstruck o) (sym i) a.run;
          leads = subst (λ (j : ℕ). Leads o j (at (set up z p) y) y) (sym i) (subst (λ (j : ℕ). Leads o (at via y) j y) (sym u) a.leads);
        }

    new_way : w < o.m → Reached o (at (set rank z (count + 1))) (at (set up z p)) (at (set via z w)) z
    new_way v = let a = arrives v in let u = get_or-set_same up z p 0 (omega (arith, h.ups)) in let i = get_or-set_same via z w 0 (omega (arith, h.vias)) in record {
      place = subst (λ (j : ℕ). j < o.n) (sym u) a.place;
      earlier = omega (arith, ap (at (set rank z (count + 1))) u, there' p (old p a.there), (h.listed p a.place a.there).1, here' z refl);
      run = subst (Unstruck o) (sym i) a.run;
      leads = subst (λ (j : ℕ). Leads o j (at (set up z p) z) z) (sym i) (subst (λ (j : ℕ). Leads o w j z) (sym u) a.leads);
    }

    pub place_more : Placed o (set order count z) (set rank z (count + 1)) (set up z p) (set via z w) (count + 1)
    place_more = record {
      orders = length-set order count z ∙ h.orders;
      ranks = length-set rank z (count + 1) ∙ h.ranks;
      ups = length-set up z p ∙ h.ups;
      vias = length-set via z w ∙ h.vias;
      counted = subst (Counts _ o.n) (omega arith) (counts_more h.counted l (λ c. omega arith) (omega (arith, here' z refl)) (λ y n c. omega (arith, there' y n)) (λ y n c. omega (arith, there' y n)));
      listed = λ y k c. elim (ℕ_discrete y z) [
        | yes q ↦ (
          ap (at (set order count z)) (omega (arith, here' y q)) ∙ get_or-set_same order count z 0 (omega (arith, h.orders, more_room)) ∙ sym q,
          omega (arith, here' y q),
        )
        | no n ↦ (let b = was y c n in let t = h.listed y k b in (
          ap (at (set order count z)) (ap (λ (j : ℕ). j - 1) (there' y n)) ∙ get_or-set_other order count (at rank y - 1) z 0 (λ i. omega (arith, t.1)) ∙ t.0,
          omega (arith, t.1, there' y n),
        ))
      ];
      ordered = λ k c. elim (ℕ_discrete k count) [
        | yes q ↦ (let s = ap (at (set order count z)) q ∙ get_or-set_same order count z 0 (omega (arith, h.orders, more_room)) in (omega (arith, s), ap (at (set rank z (count + 1))) s ∙ here' z refl ∙ omega arith))
        | no n ↦ (let s = get_or-set_other order count k z 0 n in let t = h.ordered k (omega arith) in
            (omega (arith, s, t.0), ap (at (set rank z (count + 1))) s ∙ there' (at order k) (old (at order k) (omega (arith, t.1))) ∙ t.1))
      ];
      reached = λ y k c v. elim (ℕ_discrete y z) [
        | yes q ↦ subst (Reached o (at (set rank z (count + 1))) (at (set up z p)) (at (set via z w))) (sym q) (new_way (omega (arith, ap (at (set via z w)) q, get_or-set_same via z w 0 (omega (arith, h.vias)))))
        | no n ↦ way y k (was y c n) (omega (arith, get_or-set_other via z y w 0 n))
      ];
      parent = λ y k c v. elim (ℕ_discrete y z) [
        | yes q ↦ (let a = arrives (omega (arith, ap (at (set via z w)) q, get_or-set_same via z w 0 (omega (arith, h.vias)))) in
            omega (arith, a.there, ap (at (set rank z (count + 1))) (ap (at (set up z p)) q ∙ get_or-set_same up z p 0 (omega (arith, h.ups))), there' p (old p a.there)))
        | no n ↦ (let b = was y c n in let q = h.parent y k b (omega (arith, get_or-set_other via z y w 0 n)) in
            omega (arith, q, ap (at (set rank z (count + 1))) (get_or-set_other up z y p 0 n), there' (at up y) (old (at up y) q)))
      ];
    }

    -- a place is as it was, or new and later than all
    pub later_more : {now : ℕ} → now ≤ count → (y : ℕ) → (at (set rank z (count + 1)) y ≡ at rank y) ⊎ ((y ≡ z) × (at rank y ≡ 0) × (now < at (set rank z (count + 1)) y))
    later_more b y = elim (ℕ_discrete y z) [ yes q ↦ inr (q, ap (at rank) q ∙ e, omega (arith, here' y q)) | no n ↦ inl (there' y n) ]

    pub new_rank : at (set rank z (count + 1)) z ≡ count + 1
    new_rank = here' z refl

-- ---- the places whose runs have been gone through: all of rank below now, and of that with rank now, which is x, the entries from c on
pub record Spread (o : Order) (rank : List ℕ) (now x c : ℕ) : Type 0 where
  pub spread : (y : ℕ) → y < o.n → 0 < at rank y → at rank y ≤ now → (e r z : ℕ) → Unstruck o r → Entry o e y r z → (at rank y ≡ now → c ≤ e) → 0 < at rank z
  pub current : 0 < c → (x < o.n) × (at rank x ≡ now) × (0 < now)
  pub entry : 0 < c → (r : ℕ) × (z : ℕ) × Unstruck o r × Entry o (c - 1) x r z

-- what holds of places that are there holds when more are
pub record Later (o : Order) (rank rank' : List ℕ) (now : ℕ) : Type 0 where
  pub either : (y : ℕ) → y < o.n → (at rank' y ≡ at rank y) ⊎ ((at rank y ≡ 0) × (now < at rank' y))

pub later_same : {o : Order} {rank : List ℕ} {now : ℕ} → Later o rank rank now
later_same = record { either = λ y l. inl refl }

module _ {o : Order} {rank rank' : List ℕ} {now : ℕ} (m : Later o rank rank' now) where
  pub stays : (y : ℕ) → y < o.n → 0 < at rank y → at rank' y ≡ at rank y
  stays y l c = ⊎_elim (λ e. e) (λ (e, _). absurd (omega arith)) (m.either y l)

  came : (y : ℕ) → y < o.n → 0 < at rank' y → at rank' y ≤ now → (at rank' y ≡ at rank y) × (0 < at rank y)
  came y l c b = ⊎_elim (λ e. (e, omega arith)) (λ (e, k). absurd (omega arith)) (m.either y l)

module _ {o : Order} {head prev order rank up via : List ℕ} {count now x c : ℕ} (inside : (r y z : ℕ) → Unstruck o r → Leads o r y z → z < o.n)
    (links : Linked o head prev (2 * o.m)) (h : Placed o order rank up via count) (s : Spread o rank now x c) where
  -- the next entry: its run leads to a place that is there, if it was not before
  pub spread_entry : {rank' : List ℕ} → Later o rank rank' now → 0 < c → ((r z : ℕ) → Unstruck o r → Entry o (c - 1) x r z → 0 < at rank' z) → Spread o rank' now x (at prev (c - 1))
  spread_entry {rank'} m p lands = record {
    spread = λ y l b t e r z u q f. let (same, was) = came m y l b t in
        elim (dec_lt e (c - 1)) [
          | yes i ↦ elim (ℕ_discrete (at rank y) now) [
            | yes v ↦ absurd (before.none e r z (f (same ∙ v)) i u (own y l was v q))
            | no v ↦ kept r y z u q (s.spread y l was (omega arith) e r z u q (λ w. absurd (v w)))
          ]
          | no i ↦ elim (ℕ_discrete e (c - 1)) [
            | yes j ↦ elim (ℕ_discrete (at rank y) now) [
              | yes v ↦ lands r z u (subst (λ (k : ℕ). Entry o k x r z) j (own y l was v q))
              | no v ↦ kept r y z u q (s.spread y l was (omega arith) e r z u q (λ w. absurd (v w)))
            ]
            | no j ↦ kept r y z u q (s.spread y l was (omega arith) e r z u q (λ _. omega arith))
          ]
        ];
    current = λ q. let (l, e, b) = s.current p in (l, stays m x l (omega arith) ∙ e, b);
    entry = before.some;
  }
    where
      before : Before o x (c - 1) (at prev (c - 1))
      before = let (r, z, u, q) = s.entry p in links.prevs (c - 1) r x z (entry_below q u.0) u q

      own : (y : ℕ) → y < o.n → 0 < at rank y → at rank y ≡ now → {e r z : ℕ} → Entry o e y r z → Entry o e x r z
      own y l was v {e} {r} {z} q = subst (λ (k : ℕ). Entry o e k r z) (placed_apart h y x l (s.current p).0 was (v ∙ sym (s.current p).1)) q

      kept : (r y z : ℕ) → Unstruck o r → {e : ℕ} → Entry o e y r z → 0 < at rank z → 0 < at rank' z
      kept r y z u q b = omega (arith, b, stays m z (inside r y z u (entry_leads q)) b)

  -- all entries of x are done: the next place begins
  pub spread_next : c ≡ 0 → now < count → Spread o rank (now + 1) (at order now) (at head (at order now))
  spread_next z l = record {
    spread = λ y k b t e r w u q f. elim (ℕ_discrete (at rank y) (now + 1)) [
      | yes v ↦ (let same = placed_apart h y (at order now) k next.0 b (v ∙ sym next.1) in
          absurd (heads.none e r w (f v) (entry_below q u.0) u (subst (λ (j : ℕ). Entry o e j r w) same q)))
      | no v ↦ s.spread y k b (omega arith) e r w u q (λ _. omega arith)
    ];
    current = λ _. (next.0, next.1, omega arith);
    entry = heads.some;
  }
    where
      next : (at order now < o.n) × (at rank (at order now) ≡ now + 1)
      next = h.ordered now l

      heads : Before o (at order now) (2 * o.m) (at head (at order now))
      heads = links.heads (at order now) next.0

  -- a root is there: nothing is under way
  pub spread_root : {rank' : List ℕ} → Later o rank rank' now → c ≡ 0 → Spread o rank' now x c
  spread_root m z = record {
    spread = λ y l b t e r w u q f. let (same, was) = came m y l b t in let k = s.spread y l was (omega arith) e r w u q (λ _. omega arith) in
        omega (arith, k, stays m w (inside r y w u (entry_leads q)) k);
    current = λ p. absurd (omega arith);
    entry = λ p. absurd (omega arith);
  }

-- ---- the roots: supplies are tried first, then every place
pub record Roots (o : Order) (rank via : List ℕ) (i : ℕ) : Type 0 where
  pub closed : (x : ℕ) → x < o.n → 0 < at rank x → o.m ≤ at via x → (r y z : ℕ) → Unstruck o r → Leads o r y z → 0 < at rank y → at rank y < at rank x → (0 < at rank z) × (at rank z < at rank x)
  pub fed : (x : ℕ) → x < o.n → 0 < at rank x → o.m ≤ at via x → (o.supply x ≡ 1 → ⊥) → (y : ℕ) → y < o.n → o.supply y ≡ 1 → (0 < at rank y) × (at rank y < at rank x)
  pub supplies : (y : ℕ) → y < i → y < o.n → o.supply y ≡ 1 → 0 < at rank y
  pub places : (y : ℕ) → o.n + y < i → y < o.n → 0 < at rank y

pub roots_none : {o : Order} {rank via : List ℕ} → ((y : ℕ) → at rank y ≡ 0) → Roots o rank via 0
roots_none h = record {
  closed = λ x l b. absurd (omega (arith, h x));
  fed = λ x l b. absurd (omega (arith, h x));
  supplies = λ y b. absurd (omega arith);
  places = λ y b. absurd (omega arith);
}

-- a candidate is passed over where it is there already, or not yet to be taken
pub roots_pass : {o : Order} {rank via : List ℕ} {i : ℕ} → Roots o rank via i → (i < o.n → o.supply i ≡ 1 → 0 < at rank i) → ((y : ℕ) → o.n + y ≡ i → y < o.n → 0 < at rank y) → Roots o rank via (i + 1)
roots_pass {o} {rank} {i = i} t a b = record {
  closed = t.closed;
  fed = t.fed;
  supplies = λ y k l s. elim (ℕ_discrete y i) [ yes e ↦ subst (λ (j : ℕ). 0 < at rank j) (sym e) (a (omega arith) (ap o.supply (sym e) ∙ s)) | no n ↦ t.supplies y (omega arith) l s ];
  places = λ y k l. elim (ℕ_discrete (o.n + y) i) [ yes e ↦ b y e l | no n ↦ t.places y (omega arith) l ];
}

module _ {o : Order} {order rank up via : List ℕ} {count : ℕ} (inside : (r y z : ℕ) → Unstruck o r → Leads o r y z → z < o.n) (few : o.n ≤ 256) (h : Placed o order rank up via count)
    {z p w : ℕ} (l : z < o.n) (e : at rank z ≡ 0) (arrives : w < o.m → Arrives o rank z p w) where
  -- an old place with an old rank
  same_rank : (y : ℕ) → 0 < at rank y → at (set rank z (count + 1)) y ≡ at rank y
  same_rank y b = ⊎_elim (λ q. q) (λ (_, q, _). absurd (omega arith)) (later_more h few l e arrives (le_refl count) y)

  -- an end of a run with a rank up to count was there
  was_there : (y : ℕ) → 0 < at (set rank z (count + 1)) y → at (set rank z (count + 1)) y ≤ count → 0 < at rank y
  was_there y b c = ⊎_elim (λ q. omega arith) (λ (_, _, q). absurd (omega arith)) (later_more h few l e arrives (le_refl count) y)

  pub roots_more : {i : ℕ} → Roots o rank via i
      → (o.m ≤ w → ((r y v : ℕ) → Unstruck o r → Leads o r y v → 0 < at rank y → 0 < at rank v) × ((o.supply z ≡ 1 → ⊥) → (y : ℕ) → y < o.n → o.supply y ≡ 1 → 0 < at rank y))
      → Roots o (set rank z (count + 1)) (set via z w) i
  roots_more t root = record {
    closed = λ x k b v r y q u d c f. elim (ℕ_discrete x z) [
      | yes g ↦ (let new = ap (at (set rank z (count + 1))) g ∙ new_rank h few l e arrives in
          let old = was_there y c (omega arith) in
          let far = (root (omega (arith, ap (at (set via z w)) g, get_or-set_same via z w 0 (omega (arith, h.vias))))).0 r y q u d old in
          (omega (arith, far, same_rank q far), omega (arith, new, same_rank q far, (h.listed q (inside r y q u d) far).1)))
      | no n ↦ (let there = was_old x k b n in let same = same_rank x there in
          let bound = (h.listed x k there).1 in
          let old = was_there y c (omega arith) in
          let a = t.closed x k there (omega (arith, get_or-set_other via z x w 0 n)) r y q u d old (omega (arith, same_rank y old)) in
          (omega (arith, a.0, same_rank q a.0), omega (arith, a.1, same_rank q a.0, same)))
    ];
    fed = λ x k b v bare y d s. elim (ℕ_discrete x z) [
      | yes g ↦ (let new = ap (at (set rank z (count + 1))) g ∙ new_rank h few l e arrives in
          let far = (root (omega (arith, ap (at (set via z w)) g, get_or-set_same via z w 0 (omega (arith, h.vias))))).1 (λ q. bare (ap o.supply g ∙ q)) y d s in
          (omega (arith, far, same_rank y far), omega (arith, new, same_rank y far, (h.listed y d far).1)))
      | no n ↦ (let there = was_old x k b n in
          let a = t.fed x k there (omega (arith, get_or-set_other via z x w 0 n)) bare y d s in
          (omega (arith, a.0, same_rank y a.0), omega (arith, a.1, same_rank y a.0, same_rank x there)))
    ];
    supplies = λ y b k s. let c = t.supplies y b k s in omega (arith, c, same_rank y c);
    places = λ y b k. let c = t.places y b k in omega (arith, c, same_rank y c);
  }
    where
      was_old : (x : ℕ) → x < o.n → 0 < at (set rank z (count + 1)) x → (x ≡ z → ⊥) → 0 < at rank x
      was_old x k b n = omega (arith, get_or-set_other rank z x (count + 1) 0 n)
