-- The climb from the ends of a run outside the forest to where their ways meet: the places passed are bypassed, and no other place has one end under it
-- and not the other.
use Rattle.std.specs.Prelude.{ℕ, max, ◌≤◌, ◌<◌, Bool, true, false, List, ◌↔◌, ◌⊎◌, ◌≡◌, refl, length, get_or, set}
use Rattle.std.proofs.Common.{inl, inr, sym, ap, subst, ◌∙◌, length-set, get_or-set_same, get_or-set_other, arith}
use Rattle.std.proofs.Math.Decide.{ℕ_discrete, dec_lt}
use Rattle.forest.specs.Grown.{Reached, Grown, Under, self, more, Outside, via_one, side, bypass}
use Rattle.wirings.specs.Joined.{joined_trans, joined_sym, joined_mono}
use Rattle.wirings.specs.Limits.{Unstruck}
use Rattle.wirings.specs.Marks.{Others}
use Rattle.wirings.specs.Wiring.{Order, Joined, here, on}

-- other runs go round the run to x
pub record Passed (o : Order) (up via : ℕ → ℕ) (x : ℕ) : Type 0 where
  pub place : x < o.n
  pub nonroot : via x < o.m
  pub round : Joined o (Others o (via x)) x (up x)

-- a place is marked
abbrev pub Marked : List Bool → ℕ → Type 0
Marked marks x = get_or marks x false ≡ true

-- runs that are not the way to a place with a rank up to k
abbrev Late : Order → (ℕ → ℕ) → (ℕ → ℕ) → ℕ → ℕ → Type 0
Late o rank via k r = Unstruck o r × ((y : ℕ) → y < o.n → rank y ≤ k → via y ≡ r → ⊥)

-- the climb from a and b has come to c and d, and has marked what it passed
pub record Climb (o : Order) (rank up via : ℕ → ℕ) (a b : ℕ) (before marks : List Bool) (c d : ℕ) : Type 0 where
  pub size : length marks ≡ length before
  pub one : c < o.n
  pub other : d < o.n
  pub joined : Joined o (Late o rank via (max (rank c) (rank d))) c d
  pub kept : (x : ℕ) → Marked before x → Marked marks x
  pub new : (x : ℕ) → Marked marks x → Marked before x ⊎ Passed o up via x
  pub same : (x : ℕ) → (Marked marks x → ⊥) → (Under o rank up via 0 x a ↔ Under o rank up via 0 x c) × (Under o rank up via 0 x b ↔ Under o rank up via 0 x d)

pub climb_start : {o : Order} {rank up via : ℕ → ℕ} {a b : ℕ} {before : List Bool} → a < o.n → b < o.n → Joined o (Outside o via) a b → Climb o rank up via a b before before a b
climb_start l k p = record {
  size = refl;
  one = l;
  other = k;
  joined = joined_mono (λ r h. (h.0, λ y i _. h.1 y i)) p;
  kept = λ x h. h;
  new = λ x h. inl h;
  same = λ x e. ((λ u. u, λ u. u), (λ u. u, λ u. u));
}

pub climb_swap : {o : Order} {rank up via : ℕ → ℕ} {a b c d : ℕ} {before marks : List Bool} → Climb o rank up via a b before marks c d → Climb o rank up via b a before marks d c
climb_swap {o} {rank} {via = via} {c = c} {d} h = record {
  size = h.size;
  one = h.other;
  other = h.one;
  joined = joined_mono (λ r q. (q.0, λ y i j. q.1 y i (omega arith))) (joined_sym h.joined);
  kept = h.kept;
  new = h.new;
  same = λ x e. ((h.same x e).1, (h.same x e).0);
}

module _ {o : Order} {rank up via : ℕ → ℕ} (g : Grown o rank up via) {a b c d : ℕ} {before marks : List Bool} (h : Climb o rank up via a b before marks c d) where
  -- the later of the two is no root
  pub climb_later : rank d < rank c → via c < o.m
  climb_later l = elim (dec_lt (via c) o.m) [ yes v ↦ v | no n ↦ absurd (omega (arith, side g h.one (omega arith) (joined_sym (joined_mono (λ r q. q.0) h.joined)) l)) ]

  pub climb_up : rank d < rank c → c < length marks → Climb o rank up via a b before (set marks c true) (up c) d
  climb_up l k = record {
    size = length-set marks c true ∙ h.size;
    one = w.place;
    other = h.other;
    joined = joined_trans (on here (via c) (w.run, λ y i j e. omega (arith, w.earlier, ap rank (via_one g c y h.one i v (sym e)))) w.leads) (joined_mono (λ r q. (q.0, λ y i j. q.1 y i (omega (arith, w.earlier)))) h.joined);
    kept = λ x p. elim (ℕ_discrete x c) [ yes e ↦ marked x e | no n ↦ other x n ∙ h.kept x p ];
    new = λ x p. elim (ℕ_discrete x c) [ yes e ↦ inr (subst (Passed o up via) (sym e) passed) | no n ↦ h.new x (sym (other x n) ∙ p) ];
    same = λ x e. let n : x ≡ c → ⊥ = λ p. e (marked x p) in let s = h.same x (λ m. e (other x n ∙ m)) in
        ((λ u. above n (s.0.0 u), λ u. s.0.1 (more v (omega (arith, w.earlier)) u)), s.1);
  }
    where
      v : via c < o.m
      v = climb_later l

      w : Reached o rank up via c
      w = g.reached c h.one v

      marked : (x : ℕ) → x ≡ c → Marked (set marks c true) x
      marked x e = ap (λ (j : ℕ). get_or (set marks c true) j false) e ∙ get_or-set_same marks c true false k

      other : (x : ℕ) → (x ≡ c → ⊥) → get_or (set marks c true) x false ≡ get_or marks x false
      other x n = get_or-set_other marks c x true false n

      above : {x : ℕ} → (x ≡ c → ⊥) → Under o rank up via 0 x c → Under o rank up via 0 x (up c)
      above n self = absurd (n refl)
      above n (more _ _ u) = u

      passed : Passed o up via c
      passed = record {
        place = h.one;
        nonroot = v;
        round = bypass g c h.one v h.other l (joined_mono (λ r q. (q.0.0, q.0.1, λ e. q.1 c h.one (omega arith) (sym e))) h.joined);
      }

module _ {o : Order} {rank up via : ℕ → ℕ} (g : Grown o rank up via) {a b c d : ℕ} {before marks : List Bool} (h : Climb o rank up via a b before marks c d) where
  -- where neither is later they have met
  pub climb_other : (c ≡ d → ⊥) → rank c ≤ rank d → rank c < rank d
  climb_other n l = elim (dec_lt (rank c) (rank d)) [ yes k ↦ k | no k ↦ absurd (n (g.apart c d h.one h.other (omega arith))) ]

  pub climb_up' : rank c < rank d → d < length marks → Climb o rank up via a b before (set marks d true) c (up d)
  climb_up' l k = climb_swap (climb_up g (climb_swap h) l k)

-- what the climb from a and b has done at its end
pub record Climbed (o : Order) (rank up via : ℕ → ℕ) (a b : ℕ) (before after : List Bool) : Type 0 where
  pub size : length after ≡ length before
  pub kept : (x : ℕ) → Marked before x → Marked after x
  pub new : (x : ℕ) → Marked after x → Marked before x ⊎ Passed o up via x
  pub same : (x : ℕ) → (Marked after x → ⊥) → Under o rank up via 0 x a ↔ Under o rank up via 0 x b
