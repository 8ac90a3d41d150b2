-- One turn of each loop of the routine, and what the parts give together.
use Rattle.std.specs.Prelude.{ℕ, ◌+◌, ◌-◌, ◌≤◌, ◌<◌, Bool, true, false, List, ◌↔◌, ◌≡◌, length, get_or, set, replicate}
use Rattle.std.proofs.Common.{⊎_elim, sym, ap, subst, ◌∙◌, length-set, get_or-set_same, get_or-set_other, arith}
use Rattle.std.proofs.lemmas.List.{length-replicate, get_or-replicate}
use Rattle.std.proofs.Math.ListN.{get_or-eq_default}
use Rattle.std.proofs.Math.Decide.{ℕ_discrete, dec_lt}
use Rattle.bridges.specs.Climbed.{Passed, Marked, Climbed}
use Rattle.forest.specs.Grown.{Grown, Under, Outside, outside_run, way_or_outside, outside_bypassed, via_one, bridge_fed, bridge_bare, bridge_bypassed}
use Rattle.bridges.specs.declared.Kind.{Kind}
use Rattle.bridges.specs.declared.Kind.TheVariants.{Bypassed}
use Rattle.bridges.specs.Kinds.{Kinds, kind_number}
use Rattle.forest.specs.Parts.{order_at}
use Rattle.bridges.specs.Routine.{Crossed, Supplies, Of, Ruled, round, supplied, bare, Told}
use Rattle.bridges.specs.Supplied.{Feeding, feeding_start, feeding_up, feeding_pass}
use Rattle.layout.specs.Layout.{sizes, end_u, end_v, Shows}
use Rattle.pieces.specs.Holds.{at, Fits}
use Rattle.wirings.specs.Alike.{Alike}
use Rattle.wirings.proofs.Alike.{alike_sym, joined_as, fed_as}
use Rattle.wirings.specs.Limits.{Unstruck}
use Rattle.wirings.specs.Marks.{Others, Bridge, bypassed}
use Rattle.wirings.specs.Marks.{supplied as both_fed, bare as one_bare}
use Rattle.wirings.specs.Wiring.{Order, along, Joined, here, on, Fed}

-- a new array holds one value
blank : {A : Type 0} (n : ℕ) (x : A) (i : ℕ) → get_or (replicate n x) i x ≡ x
blank n x i = elim (dec_lt i n) [ yes l ↦ get_or-replicate n i x x l | no l ↦ get_or-eq_default (replicate n x) x {n = i} (omega (arith, length-replicate n x)) ]

pub unmarked : {b : Bool} → b ≡ false → b ≡ true → ⊥
unmarked p q = cc

-- ---- the kinds that the places tell
module _ {via : List ℕ} {passed fed : List Bool} {m : ℕ} where
  pub told_none : Told via passed fed m 0 (replicate 1024 Bypassed)
  told_none = record { size = length-replicate 1024 Bypassed; way = λ x l. absurd (omega arith); rest = λ r _. blank 1024 Bypassed r }

  module _ {i : ℕ} {kinds : List Kind} (t : Told via passed fed m i kinds) where
    pub told_way : {k : Kind} → m ≤ 1024 → at via i < m → Ruled (get_or passed i false) (get_or fed i false) k → Told via passed fed m (i + 1) (set kinds (at via i) k)
    told_way {k} few v h = record {
      size = length-set kinds (at via i) k ∙ t.size;
      way = λ x l w one. elim (ℕ_discrete x i) [
        | yes e ↦ subst (λ (j : ℕ). Ruled (get_or passed j false) (get_or fed j false) (get_or (set kinds (at via i) k) (at via j) Bypassed)) (sym e)
            (subst (Ruled (get_or passed i false) (get_or fed i false)) (sym (get_or-set_same kinds (at via i) k Bypassed (omega (arith, t.size)))) h)
        | no n ↦ subst (Ruled (get_or passed x false) (get_or fed x false)) (sym (get_or-set_other kinds (at via i) (at via x) k Bypassed (λ e. n (sym (one i (omega arith) (sym e))))))
            (t.way x (omega arith) w (λ y b. one y (omega arith)))
      ];
      rest = λ r free. get_or-set_other kinds (at via i) r k Bypassed (λ e. free i (omega arith) (sym e)) ∙ t.rest r (λ x b. free x (omega arith));
    }

    pub told_pass : m ≤ at via i → Told via passed fed m (i + 1) kinds
    told_pass v = record {
      size = t.size;
      way = λ x l w one. elim (ℕ_discrete x i) [ yes e ↦ absurd (omega (arith, ap (at via) e)) | no n ↦ t.way x (omega arith) w (λ y b. one y (omega arith)) ];
      rest = λ r free. t.rest r (λ x b. free x (omega arith));
    }

-- ---- the places passed, once the runs below r have been climbed from
pub record Marking (o : Order) (rank up via : List ℕ) (passed : List Bool) (r : ℕ) : Type 0 where
  pub size : length passed ≡ 256
  pub new : (x : ℕ) → Marked passed x → Passed o (at up) (at via) x
  pub same : (f : ℕ) → f < r → Outside o (at via) f → (x : ℕ) → (Marked passed x → ⊥) → Under o (at rank) (at up) (at via) 0 x (o.u f) ↔ Under o (at rank) (at up) (at via) 0 x (o.v f)

pub marking_none : {o : Order} {rank up via : List ℕ} → Marking o rank up via (replicate 256 false) 0
marking_none = record { size = length-replicate 256 false; new = λ x l. absurd (unmarked (blank 256 false x) l); same = λ f l. absurd (omega arith) }

module _ {o : Order} {rank up via : List ℕ} {passed : List Bool} {r : ℕ} (k : Marking o rank up via passed r) where
  -- a struck run, or one of the forest
  pub marking_skip : (Outside o (at via) r → ⊥) → Marking o rank up via passed (r + 1)
  marking_skip n = record {
    size = k.size;
    new = k.new;
    same = λ f l out x e. elim (ℕ_discrete f r) [ yes q ↦ absurd (n (subst (Outside o (at via)) q out)) | no d ↦ k.same f (omega arith) out x e ];
  }

  pub marking_climb : {after : List Bool} {u v : ℕ} → u ≡ o.u r → v ≡ o.v r → Climbed o (at rank) (at up) (at via) u v passed after → Marking o rank up via after (r + 1)
  marking_climb {after} {u} p q c = record {
    size = c.size ∙ k.size;
    new = λ x l. ⊎_elim (λ b. k.new x b) (λ b. b) (c.new x l);
    same = λ f l out x e. elim (ℕ_discrete f r) [
      | yes d ↦ subst (λ (j : ℕ). Under o (at rank) (at up) (at via) 0 x (o.u j) ↔ Under o (at rank) (at up) (at via) 0 x (o.v j)) (sym d)
          (subst (λ (j : ℕ). Under o (at rank) (at up) (at via) 0 x j ↔ Under o (at rank) (at up) (at via) 0 x (o.v r)) p
          (subst (λ (j : ℕ). Under o (at rank) (at up) (at via) 0 x u ↔ Under o (at rank) (at up) (at via) 0 x j) q (c.same x e)))
      | no d ↦ k.same f (omega arith) out x (λ b. e (c.kept x b))
    ];
  }

-- both ends of a run are places
pub run_ends : {places runs : List ℕ} {m r u v s : ℕ} → Fits places runs m → r < m → Shows sizes runs r u v s → (u < length places) × (v < length places)
run_ends {r = r} fits l q = (omega (arith, q.one, fits.one r l), omega (arith, q.other, fits.other r l))

-- an unstruck run that is the way to none of its ends is outside the forest
pub crossed : {places runs : List ℕ} {m : ℕ} → Fits places runs m → (states rank up via : List ℕ) → Grown (order_at places runs states m) (at rank) (at up) (at via) → {r u v s : ℕ} → r < m → Shows sizes runs r u v s
    → 0 < at states r → (at via u ≡ r → ⊥) → (at via v ≡ r → ⊥) → Crossed rank up u v (order_at places runs states m) (at via)
crossed fits states rank up via g {r} l q b n k = let t = run_ends fits l q in record {
  grown = g;
  few = fits.small;
  one = t.0;
  other = t.1;
  joined = on here r (outside_run g r (l, b) (λ e. n (ap (at via) q.one ∙ e)) (λ e. k (ap (at via) q.other ∙ e))) (along (sym q.one) (sym q.other));
}

-- ---- the supplies below, from the last place back
module _ {places order up via : List ℕ} {m : ℕ} {o : Order} {rank : List ℕ} (f : Of places order up via m o rank) where
  pub feeds_start : {fed : List Bool} → Supplies places (length places) fed → Feeding o (at rank) (at up) (at via) fed (length places)
  feeds_start h = feeding_start f.grown h.size (λ y l. f.ranked.most y (omega (arith, f.as_many))) (λ y l. let t = h.says y (omega (arith, f.as_many)) in (λ p. f.supply y ∙ t.0 p, λ p. t.1 (sym (f.supply y) ∙ p)))

  module _ {fed : List Bool} {k x : ℕ} (h : Feeding o (at rank) (at up) (at via) fed k) (p : 0 < k) (l : k ≤ length places) (e : x ≡ at order (k - 1)) where
    last : (x < o.n) × (at rank x ≡ (k - 1) + 1)
    last = let q = f.ranked.ordered (k - 1) (omega arith) in (omega (arith, e, q.0, f.as_many), ap (at rank) e ∙ q.1)

    at_last : Feeding o (at rank) (at up) (at via) fed ((k - 1) + 1)
    at_last = subst (Feeding o (at rank) (at up) (at via) fed) (omega arith) h

    pub feeds_up : length places ≤ 256 → at via x < m → Marked fed x → Feeding o (at rank) (at up) (at via) (set fed (at up x) true) (k - 1)
    feeds_up few v e = feeding_up f.grown at_last last.0 last.1 (omega (arith, f.as_many)) (omega (arith, f.as_runs)) e

    pub feeds_pass : (at via x < m → Marked fed x → ⊥) → Feeding o (at rank) (at up) (at via) fed (k - 1)
    feeds_pass n = feeding_pass f.grown at_last last.0 last.1 (λ v. n (omega (arith, f.as_runs)))

-- ---- together: the kind of each unstruck run, in the order that the arguments make
module _ (places runs states : List ℕ) (m : ℕ) {rank up via : List ℕ} {passed fed : List Bool} {kinds : List Kind} (g : Grown (order_at places runs states m) (at rank) (at up) (at via))
    (k : Marking (order_at places runs states m) rank up via passed m) (f : Feeding (order_at places runs states m) (at rank) (at up) (at via) fed 0) (t : Told via passed fed m (length places) kinds) where
  told : (r : ℕ) → Unstruck (order_at places runs states m) r → Bridge (order_at places runs states m) r (kind_number (get_or kinds r Bypassed))
  told r u = ⊎_elim
      (λ (w, l, e). let v : at via w < m = omega (arith, u.0) in
      subst (λ (j : ℕ). Bridge (order_at places runs states m) j (kind_number (get_or kinds j Bypassed))) e (rule w l v (t.way w l v (λ y b q. via_one g y w b l (omega arith) q))))
      (λ out. bypassed (outside_bypassed g r out) (ap kind_number (t.rest r out.1)))
      (way_or_outside g r u)
    where
      rule : {k : Kind} (w : ℕ) → w < length places → at via w < m → Ruled (get_or passed w false) (get_or fed w false) k → Bridge (order_at places runs states m) (at via w) (kind_number k)
      rule w l v (round p) = bridge_bypassed g w l v (k.new w p).round
      rule w l v (supplied p q) = let (y, b, s, d) = f.some w l q in bridge_fed g w l v (λ r out. k.same r out.0.0 out w (unmarked p)) y b s d
      rule w l v (bare p q) = bridge_bare g w l v (λ r out. k.same r out.0.0 out w (unmarked p)) (λ y b s d. unmarked q (f.all w y l b s d))

  -- and in any order that they describe
  pub kinds_told : Kinds places runs states m kinds
  kinds_told o d e s r l u = other (told r (l, subst (λ (j : ℕ). 0 < j) (s r (omega arith)) u))
    where
      like : Alike (order_at places runs states m) o
      like = record { n = sym d.n; m = sym e; supply = λ x i. sym d.supply i x; u = λ j i. sym d.u i j; v = λ j i. sym d.v i j }

      to : (j : ℕ) → Others (order_at places runs states m) r j → Others o r j
      to j (a, b, n) = (omega arith, subst (λ (i : ℕ). 0 < i) (sym (s j (omega arith))) b, n)

      from : (j : ℕ) → Others o r j → Others (order_at places runs states m) r j
      from j (a, b, n) = (omega arith, subst (λ (i : ℕ). 0 < i) (s j a) b, n)

      to_ends : Joined (order_at places runs states m) (Others (order_at places runs states m) r) (end_u sizes runs r) (end_v sizes runs r) → Joined o (Others o r) (o.u r) (o.v r)
      to_ends p = subst (λ (j : ℕ). Joined o (Others o r) j (o.v r)) (like.u r) (subst (Joined o (Others o r) (end_u sizes runs r)) (like.v r) (joined_as like to p))

      from_ends : Joined o (Others o r) (o.u r) (o.v r) → Joined (order_at places runs states m) (Others (order_at places runs states m) r) (end_u sizes runs r) (end_v sizes runs r)
      from_ends p = joined_as (alike_sym like) from (subst (λ (j : ℕ). Joined o (Others o r) j (end_v sizes runs r)) (sym (like.u r)) (subst (Joined o (Others o r) (o.u r)) (sym (like.v r)) p))

      other : Bridge (order_at places runs states m) r (kind_number (get_or kinds r Bypassed)) → Bridge o r (kind_number (get_or kinds r Bypassed))
      other (bypassed p e) = bypassed (to_ends p) e
      other (both_fed n x y e) = both_fed (λ q. n (from_ends q)) (subst (Fed o (Others o r)) (like.u r) (fed_as like to x)) (subst (Fed o (Others o r)) (like.v r) (fed_as like to y)) e
      other (one_bare n b e) = one_bare (λ q. n (from_ends q))
          (λ x y. b (fed_as (alike_sym like) from (subst (Fed o (Others o r)) (sym (like.u r)) x)) (fed_as (alike_sym like) from (subst (Fed o (Others o r)) (sym (like.v r)) y))) e
