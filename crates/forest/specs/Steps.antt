-- One turn of each loop of the growth.
use Rattle.std.specs.Prelude.{ℕ, ◌+◌, ◌-◌, ◌*◌, ◌/◌, ◌≤◌, ◌<◌, List, ◌≡◌, refl, length, set, replicate, Some, None}
use Rattle.std.proofs.Common.{inl, inr, ⊎_elim, sym, ap, subst, ◌∙◌, get_or-set_same, arith}
use Rattle.std.proofs.lemmas.List.{length-replicate}
use Rattle.std.proofs.Math.Decide.{dec_lt}
use Rattle.forest.specs.Growing.{Placed, Arrives, place_more, later_more, Spread, Later, later_same, spread_entry, spread_next, spread_root, Roots, roots_none, roots_pass, roots_more}
use Rattle.forest.specs.Links.{Entry, at_u, at_v, entry_leads, leads_entry, entry_below, entry_one, Linked, linked_skip, linked_add}
use Rattle.forest.specs.Parts.{order_at, Far, Candidate, supply, place, none, Ranked}
use Rattle.layout.specs.Layout.{sizes, end_u, end_v, Shows}
use Rattle.pieces.specs.Holds.{at, Fits}
use Rattle.pieces.specs.Laws.{zeros}
use Rattle.wirings.specs.Joined.{leads_back}
use Rattle.wirings.specs.Limits.{Unstruck}
use Rattle.wirings.proofs.Limits.{counts_zero, counts_all}
use Rattle.wirings.specs.Wiring.{Order, Leads, along, back}

pub less_one : (n y i : ℕ) → n + y ≡ i → y ≡ i - n
less_one n y i e = omega arith

-- ---- the chains of entries
module _ {places runs : List ℕ} {m : ℕ} (fits : Fits places runs m) (states : List ℕ) {head prev : List ℕ} {r : ℕ} (h : Linked (order_at places runs states m) head prev (2 * r)) (l : r < m) where
  pub link_struck : at states r ≡ 0 → Linked (order_at places runs states m) head prev (2 * (r + 1))
  link_struck e = subst (Linked (order_at places runs states m) head prev) (omega arith) (linked_skip (linked_skip h first) second)
    where
      first : (j y z : ℕ) → Unstruck (order_at places runs states m) j → Entry (order_at places runs states m) (2 * r) y j z → ⊥
      first j y z u (at_u p _ _) = let i : j ≡ r = omega arith in omega (arith, u.1, ap (at states) i)
      first j y z u (at_v p _ _) = omega arith

      second : (j y z : ℕ) → Unstruck (order_at places runs states m) j → Entry (order_at places runs states m) (2 * r + 1) y j z → ⊥
      second j y z u (at_u p _ _) = omega arith
      second j y z u (at_v p _ _) = let i : j ≡ r = omega arith in omega (arith, u.1, ap (at states) i)

  pub link_run : 0 < at states r → m ≤ 1024 → {u v s : ℕ} → Shows sizes runs r u v s
      → Linked (order_at places runs states m) (set (set head u (2 * r + 1)) v (2 * r + 1 + 1)) (set (set prev (2 * r) (at head u)) (2 * r + 1) (at (set head u (2 * r + 1)) v)) (2 * (r + 1))
  link_run b few {u} {v} {s} q =
      let o = order_at places runs states m in
      let one : Entry o (2 * r) u r v = at_u refl (sym q.one) (sym q.other) in
      let two : Entry o (2 * r + 1) v r u = at_v refl (sym q.other) (sym q.one) in
      let bu : u < length places = omega (arith, q.one, fits.one r l) in let bv : v < length places = omega (arith, q.other, fits.other r l) in
      let first = linked_add h (l, b) one bu (omega (arith, fits.small)) (omega arith) in
      subst (Linked o (set (set head u (2 * r + 1)) v (2 * r + 1 + 1)) (set (set prev (2 * r) (at head u)) (2 * r + 1) (at (set head u (2 * r + 1)) v))) (omega arith)
      (linked_add first (l, b) two bv (omega (arith, fits.small)) (omega arith))

-- ---- the growth
pub record Grows (o : Order) (order rank up via : List ℕ) (count now x c i : ℕ) : Type 0 where
  pub placed : Placed o order rank up via count
  pub spread : Spread o rank now x c
  pub roots : Roots o rank via i
  pub begun : now ≤ count

pub inside : {places runs : List ℕ} {m : ℕ} → Fits places runs m → (states : List ℕ) (r y z : ℕ) → Unstruck (order_at places runs states m) r → Leads (order_at places runs states m) r y z → z < length places
inside f states r y z u (along p q) = omega (arith, f.other r u.0)
inside f states r y z u (back p q) = omega (arith, f.one r u.0)

pub grows_none : {o : Order} {up via : List ℕ} → length up ≡ 256 → length via ≡ 256 → Grows o (replicate 256 0) (replicate 256 0) up via 0 0 0 0 0
grows_none {o} a b = record {
  placed = record {
    orders = length-replicate {A = ℕ} 256 0;
    ranks = length-replicate {A = ℕ} 256 0;
    ups = a;
    vias = b;
    counted = counts_zero (λ y l. omega (arith, zeros 256 y)) o.n;
    listed = λ y l p. absurd (omega (arith, zeros 256 y));
    ordered = λ k l. absurd (omega arith);
    reached = λ y l p. absurd (omega (arith, zeros 256 y));
    parent = λ y l p. absurd (omega (arith, zeros 256 y));
  };
  spread = record { spread = λ y l p. absurd (omega (arith, zeros 256 y)); current = λ p. absurd (omega arith); entry = λ p. absurd (omega arith) };
  roots = roots_none (zeros 256);
  begun = omega arith;
}

-- what a candidate that is taken is, and when none is
pub candidate_taken : {places rank : List ℕ} {i z : ℕ} → Candidate places rank i (Some z)
    → (z < length places) × (at rank z ≡ 0) × (i < length places → z ≡ i) × (i < length places → at places z ≡ 1) × (length places ≤ i → length places + z ≡ i)
candidate_taken (supply l s e) = (l, e, λ _. refl, λ _. s, λ n. absurd (omega arith))
candidate_taken (place l i e) = (l, e, λ n. absurd (omega arith), λ n. absurd (omega arith), λ _. i)

pub candidate_none : {places rank : List ℕ} {i : ℕ} → Candidate places rank i None
    → (i < length places → at places i ≡ 1 → 0 < at rank i) × ((y : ℕ) → length places + y ≡ i → y < length places → 0 < at rank y)
candidate_none (none f g) = (f, g)

module _ {places runs : List ℕ} {m : ℕ} (fits : Fits places runs m) (states : List ℕ) {head prev order rank up via : List ℕ} {count now x c i : ℕ}
    (links : Linked (order_at places runs states m) head prev (2 * m)) (k : Grows (order_at places runs states m) order rank up via count now x c i) where
  -- the entry at hand: its run, and its other end
  module _ (p : 0 < c) where
    run_of : (r : ℕ) × (z : ℕ) × Unstruck (order_at places runs states m) r × Entry (order_at places runs states m) (c - 1) x r z
    run_of = k.spread.entry p

    half : {r z : ℕ} → Entry (order_at places runs states m) (c - 1) x r z → r ≡ (c - 1) / 2
    half (at_u e _ _) = omega arith
    half (at_v e _ _) = omega arith

    pub at_hand : Unstruck (order_at places runs states m) ((c - 1) / 2)
    at_hand = let (r, z, u, q) = run_of in subst (Unstruck (order_at places runs states m)) (half q) u

    pub down : at prev (c - 1) < c
    down = let (r, z, u, q) = run_of in omega (arith, (links.prevs (c - 1) r x z (entry_below q u.0) u q).within)

    pub far_end : {u v s z : ℕ} → Shows sizes runs ((c - 1) / 2) u v s → Far (c - 1) u v z → Entry (order_at places runs states m) (c - 1) x ((c - 1) / 2) z
    far_end {u} {v} {s} {z} q f = let (r, w, a, b) = run_of in go (half b) b
      where
        go : {r w : ℕ} → r ≡ (c - 1) / 2 → Entry (order_at places runs states m) (c - 1) x r w → Entry (order_at places runs states m) (c - 1) x ((c - 1) / 2) z
        go e (at_u d a b) = at_u (omega arith) (ap (end_u sizes runs) (sym e) ∙ a) (sym (f.even (omega arith) ∙ q.other))
        go e (at_v d a b) = at_v (omega arith) (ap (end_v sizes runs) (sym e) ∙ a) (sym (f.odd (λ n. omega arith) ∙ q.one))

  -- it leads to a place that is there
  pub grows_seen : 0 < c → ((r z : ℕ) → Unstruck (order_at places runs states m) r → Entry (order_at places runs states m) (c - 1) x r z → 0 < at rank z)
      → Grows (order_at places runs states m) order rank up via count now x (at prev (c - 1)) i
  grows_seen p there = record {
    placed = k.placed;
    spread = spread_entry (inside fits states) links k.placed k.spread later_same p there;
    roots = k.roots;
    begun = k.begun;
  }

  -- to a new one
  pub grows_child : 0 < c → {r z : ℕ} → Unstruck (order_at places runs states m) r → Entry (order_at places runs states m) (c - 1) x r z → at rank z ≡ 0
      → Grows (order_at places runs states m) (set order count z) (set rank z (count + 1)) (set up z x) (set via z r) (count + 1) now x (at prev (c - 1)) i
  grows_child p {r} {z} u q e = record {
    placed = place_more k.placed fits.small l e arrives;
    spread = spread_entry (inside fits states) links k.placed k.spread later p (λ j y v t. lands y (entry_one q t).1);
    roots = roots_more (inside fits states) fits.small k.placed l e arrives k.roots (λ b. absurd (omega (arith, u.0)));
    begun = omega (arith, k.begun);
  }
    where
      l : z < length places
      l = inside fits states r x z u (entry_leads q)

      arrives : r < m → Arrives (order_at places runs states m) rank z x r
      arrives _ = let (b, f, g) = k.spread.current p in record { place = b; there = omega (arith, f); run = u; leads = entry_leads q }

      later : Later (order_at places runs states m) rank (set rank z (count + 1)) now
      later = record { either = λ y b. ⊎_elim inl (λ (_, f, g). inr (f, g)) (later_more k.placed fits.small l e arrives k.begun y) }

      lands : (y : ℕ) → z ≡ y → 0 < at (set rank z (count + 1)) y
      lands y f = subst (λ (j : ℕ). 0 < at (set rank z (count + 1)) j) f (omega (arith, get_or-set_same rank z (count + 1) 0 (omega (arith, l, k.placed.ranks, fits.small))))

  -- the next place begins
  pub grows_next : c ≡ 0 → now < count → Grows (order_at places runs states m) order rank up via count (now + 1) (at order now) (at head (at order now)) i
  grows_next z l = record {
    placed = k.placed;
    spread = spread_next (inside fits states) links k.placed k.spread z l;
    roots = k.roots;
    begun = omega arith;
  }

  -- all entries of a place are done
  pub grows_done : c ≡ 0 → Grows (order_at places runs states m) order rank up via count now 0 0 i
  grows_done z = record {
    placed = k.placed;
    spread = record { spread = λ y l b t e r w u q f. k.spread.spread y l b t e r w u q (λ _. omega arith); current = λ p. absurd (omega arith); entry = λ p. absurd (omega arith) };
    roots = k.roots;
    begun = k.begun;
  }

  -- a candidate is passed over
  pub grows_pass : Candidate places rank i None → Grows (order_at places runs states m) order rank up via count now x c (i + 1)
  grows_pass h = let (f, g) = candidate_none h in record { placed = k.placed; spread = k.spread; roots = roots_pass k.roots f g; begun = k.begun }

  -- or becomes a root
  pub grows_root : c ≡ 0 → count ≤ now → {z w : ℕ} → m ≤ w → Candidate places rank i (Some z)
      → Grows (order_at places runs states m) (set order count z) (set rank z (count + 1)) (set up z z) (set via z w) (count + 1) now x c (i + 1)
  grows_root empty all {z} {w} root taken = record {
    placed = place_more k.placed fits.small t.0 t.1 arrives;
    spread = spread_root (inside fits states) links k.placed k.spread later empty;
    roots = roots_pass more (λ q s. here z (sym (t.2 q))) (λ y q f. here z (omega (arith, t.4 (omega arith))));
    begun = omega (arith, k.begun);
  }
    where
      t : (z < length places) × (at rank z ≡ 0) × (i < length places → z ≡ i) × (i < length places → at places z ≡ 1) × (length places ≤ i → length places + z ≡ i)
      t = candidate_taken taken

      arrives : w < m → Arrives (order_at places runs states m) rank z z w
      arrives q = absurd (omega arith)

      later : Later (order_at places runs states m) rank (set rank z (count + 1)) now
      later = record { either = λ y f. ⊎_elim inl (λ (_, g, h). inr (g, h)) (later_more k.placed fits.small t.0 t.1 arrives k.begun y) }

      here : (y : ℕ) {j : ℕ} → j ≡ z → 0 < at (set rank z (count + 1)) j
      here y f = subst (λ (j : ℕ). 0 < at (set rank z (count + 1)) j) (sym f) (omega (arith, get_or-set_same rank z (count + 1) 0 (omega (arith, t.0, k.placed.ranks, fits.small))))

      -- all that is there has been gone through, and so have the supplies
      more : Roots (order_at places runs states m) (set rank z (count + 1)) (set via z w) i
      more = roots_more (inside fits states) fits.small k.placed t.0 t.1 arrives k.roots (λ _. (
        λ r y v u d p. let (j, q) = leads_entry d in let f = inside fits states r v y u (leads_back d) in
            k.spread.spread y f p (omega (arith, (k.placed.listed y f p).1)) j r v u q (λ _. omega arith),
        λ bare y f s. elim (dec_lt i (length places)) [ yes g ↦ absurd (bare (t.3 g)) | no g ↦ k.roots.supplies y (omega arith) f s ],
      ))

-- when all candidates have been tried the forest is grown, and the places are in order
pub grows_ranked : (places runs states : List ℕ) (m : ℕ) {order rank up via : List ℕ} {count now x c i : ℕ} → Grows (order_at places runs states m) order rank up via count now x c i
    → 2 * length places ≤ i → Ranked (length places) order rank
grows_ranked places runs states m {rank = rank} k l =
    let all : (y : ℕ) → y < length places → 0 < at rank y = λ y b. k.roots.places y (omega arith) b in let e = counts_all k.placed.counted all in
    record { ordered = λ j b. k.placed.ordered j (omega arith); most = λ y b. omega (arith, (k.placed.listed y b (all y b)).1) }
