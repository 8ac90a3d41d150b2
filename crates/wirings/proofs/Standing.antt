-- What the filter gives stands: a confirmed form is its own confirmation.
use Rattle.std.specs.Prelude.{ℕ, zero, suc, ◌≤◌, ◌<◌, ◌≡◌, refl}
use Rattle.std.proofs.Common.{sym, subst, ◌∙◌, arith}
use Rattle.wirings.specs.Alike.{Alike}
use Rattle.wirings.proofs.Alike.{alike_sym, joined_as, used_as, segments_as, lawful_as}
use Rattle.wirings.specs.Confirmed.{Mark, kept, stays, Highest, SegmentNumber, Confirmed}
use Rattle.wirings.specs.Counted.{Sound}
use Rattle.wirings.proofs.Limits.{counts_one}
use Rattle.wirings.specs.Same.{Marked, never, always, either, Agree, confirmed}
use Rattle.wirings.proofs.Same.{by_wirings, keeps}
use Rattle.wirings.specs.Wiring.{Order, Wiring, Counts, none, skip, Lawful}
use Rattle.wirings.specs.Standing.{Outcome, Gives, Stands}

-- ---- the same wirings
pub alike_trans : {o p q : Order} → Alike o p → Alike p q → Alike o q
alike_trans a b = record { n = a.n ∙ b.n; m = a.m ∙ b.m; supply = λ x. a.supply x ∙ b.supply x; u = λ r. a.u r ∙ b.u r; v = λ r. a.v r ∙ b.v r }

pub agree_trans : {o p q : Order} → Agree o p → Agree p q → Agree o q
agree_trans a b = record { alike = alike_trans a.alike b.alike; to = λ w h. b.to w (a.to w h); from = λ w h. a.from w (b.from w h) }

-- the same places, runs, states and line four, the same wirings
pub agree_same : {o p : Order} → Alike o p → ((r : ℕ) → r < o.m → o.state r ≡ p.state r) → o.low ≡ p.low → o.high ≡ p.high → Agree o p
agree_same {o} {p} e state low high = record {
  alike = e;
  to = λ w h. lawful_as e w h
      (λ r l z. h.fixed r (back r l) (state r (back r l) ∙ z)) (λ r l z. h.struck r (back r l) (state r (back r l) ∙ z))
      (omega (arith, h.enough)) (omega (arith, h.few));
  from = λ w h. lawful_as (alike_sym e) w h
      (λ r l z. h.fixed r (over r l) (sym (state r l) ∙ z)) (λ r l z. h.struck r (over r l) (sym (state r l) ∙ z))
      (omega (arith, h.enough)) (omega (arith, h.few));
}
  where
    back : (r : ℕ) → r < p.m → r < o.m
    back r l = subst (λ (k : ℕ). r < k) (sym e.m) l

    over : (r : ℕ) → r < o.m → r < p.m
    over r l = subst (λ (k : ℕ). r < k) e.m l

-- a confirmation of one order is one of another with the same wirings, with the marks and counts that go with its states
module _ {o p : Order} (a : Agree o p) where
  count_as : (w : Wiring) (h : Lawful o w) (g : Lawful p w) → h.count ≡ g.count
  count_as w h g = counts_one (segments_as a.alike w h.counted) g.counted

  highest_as : {k : ℕ} → Highest o k → Highest p k
  highest_as x = record {
    by = x.by;
    lawful = a.to x.by x.lawful;
    counted = segments_as a.alike x.by x.counted;
    all = λ w h. omega (arith, x.all w (a.from w h), count_as w (a.from w h) h);
  }

  segment_as : {w : Wiring} {x number : ℕ} → SegmentNumber o w x number → SegmentNumber p w x number
  segment_as {w} s = record {
    joined = joined_as a.alike (used_as a.alike w) s.joined;
    smallest = λ y j. s.smallest y (joined_as (alike_sym a.alike) (used_as (alike_sym a.alike) w) j);
  }

  confirmed_as : {state : ℕ → ℕ} {low high : ℕ} {w : Wiring} {segment : ℕ → ℕ} {s t i j : ℕ} → Confirmed o state low high w segment s t
      → ((r : ℕ) → r < p.m → Mark p r (state r)) → Counts (λ r. (p.state r ≡ 1) × (state r ≡ 0)) p.m i
      → Counts (λ r. (p.state r ≡ 1) × (state r ≡ 2)) p.m j
      → Confirmed p state low high w segment i j
  confirmed_as {w = w} c marks struck pinned = record {
    marks = marks;
    lowest = record {
      by = c.lowest.by;
      lawful = a.to c.lowest.by c.lowest.lawful;
      counted = segments_as a.alike c.lowest.by c.lowest.counted;
      all = λ b h. omega (arith, c.lowest.all b (a.from b h), count_as b (a.from b h) h);
    };
    highest = highest_as c.highest;
    first = record {
      count = c.first.count;
      highest = highest_as c.first.highest;
      lawful = a.to w c.first.lawful;
      counted = segments_as a.alike w c.first.counted;
      first = λ b h k i l. c.first.first b (a.from b h) (segments_as (alike_sym a.alike) b k) i (subst (λ (z : ℕ). i < z) (sym a.alike.m) l);
    };
    segments = λ x l. segment_as (c.segments x (subst (λ (z : ℕ). x < z) (sym a.alike.n) l));
    struck_counted = struck;
    pinned_counted = pinned;
  }

nothing : {P : ℕ → Type 0} → ((x : ℕ) → P x → ⊥) → (n : ℕ) → Counts P n 0
nothing f zero = none
nothing f (suc n) = skip (nothing f n) (f n)

-- where p is the confirmation of o: it has the wirings of o, is sound, and is its own confirmation, which counts nothing
module _ (o p : Order) (ok : Sound o) (e : Alike o p) {w : Wiring} {segment : ℕ → ℕ} {s t : ℕ}
    (c : Confirmed o p.state p.low p.high w segment s t) where
  mark : (r : ℕ) → r < p.m → Marked o r (p.state r)
  mark r l = let k = subst (λ (z : ℕ). r < z) (sym e.m) l in by_wirings o r (p.state r) k (ok.mark r k) (c.marks r k)

  pub keeps_wirings : Agree o p
  keeps_wirings = agree_trans (keeps o ok c) (agree_same (record { n = e.n; m = e.m; supply = e.supply; u = e.u; v = e.v }) (λ r l. refl) refl refl)

  pub still_sound : Sound p
  still_sound = record {
    up = λ r l. omega (arith, ok.up r (run r l), e.u r, e.v r);
    inside = λ r l. omega (arith, ok.inside r (run r l), e.v r, e.n);
    fresh = λ r j l k p q. ok.fresh r j (run r l) (run j k) (e.u r ∙ p ∙ sym (e.u j)) (e.v r ∙ q ∙ sym (e.v j));
    bit = λ x. omega (arith, ok.bit x, e.supply x);
    mark = λ r l. small (mark r l);
  }
    where
      run : (r : ℕ) → r < p.m → r < o.m
      run r l = subst (λ (z : ℕ). r < z) (sym e.m) l

      small : {r x : ℕ} → Marked o r x → x ≤ 2
      small (never n e) = omega arith
      small (always n e) = omega arith
      small (either x y e) = omega arith

  pub settled : Confirmed p p.state p.low p.high w segment 0 0
  settled = confirmed_as keeps_wirings c (λ r l. go r (mark r l))
      (nothing (λ r h. omega (arith, h.0, h.1)) p.m) (nothing (λ r h. omega (arith, h.0, h.1)) p.m)
    where
      go : (r : ℕ) → Marked o r (p.state r) → Mark p r (p.state r)
      go r (never n z) = kept (λ q. omega arith) refl
      go r (always n z) = kept (λ q. omega arith) refl
      go r (either x y z) = stays z (x.0, keeps_wirings.to x.0 x.1, x.2) (y.0, keeps_wirings.to y.0 y.1, y.2) z

-- ---- what a filter gives
pub gives_confirmed : (o : Order) {state : ℕ → ℕ} {low high : ℕ} {w : Wiring} {segment : ℕ → ℕ} {s t : ℕ} → Confirmed o state low high w segment s t
    → Gives o (record { form = confirmed o state low high; wiring = w; segment = segment })
gives_confirmed o {s = s} {t = t} c = record {
  alike = record { n = refl; m = refl; supply = λ x. refl; u = λ r. refl; v = λ r. refl };
  struck = s;
  pinned = t;
  confirmed = c;
}

-- it stands, and has the wirings of the order
pub gives_stands : {o : Order} {y : Outcome} → Sound o → Gives o y → Stands y
gives_stands {o} {y} ok g =
    record { sound = still_sound o y.form ok g.alike g.confirmed; confirmed = settled o y.form ok g.alike g.confirmed }

pub gives_agree : {o : Order} {y : Outcome} → Sound o → Gives o y → Agree o y.form
gives_agree {o} {y} ok g = keeps_wirings o y.form ok g.alike g.confirmed
