-- A confirmation goes by the lawful wirings alone: the same wirings, the same confirmation; confirming keeps the wirings; confirming twice changes nothing.
use Rattle.std.specs.Prelude.{ℕ, zero, suc, ◌≤◌, ◌<◌, Bool, true, false, ◌≡◌, refl}
use Rattle.std.proofs.Common.{sym, subst, ◌∙◌, le_antisymm, arith}
use Rattle.std.proofs.Math.Decide.{ℕ_discrete}
use Rattle.wirings.specs.Alike.{Alike}
use Rattle.wirings.proofs.Alike.{alike_sym, joined_as, segments_as, lawful_as}
use Rattle.wirings.specs.Chosen.{true_not_false}
use Rattle.wirings.specs.Confirmed.{Never, Always, Some, Mark, kept, struck, pinned, stays, Lowest, Highest, FirstWiring, SegmentNumber, Confirmed}
use Rattle.wirings.specs.Counted.{Sound}
use Rattle.wirings.proofs.Limits.{counts_one, counts_alike, counts_none}
use Rattle.wirings.specs.Wiring.{Order, Wiring, Used, Segments, Lawful}
use Rattle.wirings.specs.Same.{Marked, always, either, never, Agree, Equal, confirmed}

pub by_wirings : (o : Order) (r state : ℕ) → r < o.m → o.state r ≤ 2 → Mark o r state → Marked o r state
by_wirings o r state l b (kept n e) =
    elim (ℕ_discrete (o.state r) 0)
    [ yes z ↦ never (λ w h. h.struck r l z) (e ∙ z) | no z ↦ let two : o.state r ≡ 2 = omega arith in always (λ w h. h.fixed r l two) (e ∙ two) ]
by_wirings o r state l b (struck p n e) = never n e
by_wirings o r state l b (pinned p a e) = always a e
by_wirings o r state l b (stays p s t e) = either s t e

pub agree_sym : {o p : Order} → Agree o p → Agree p o
agree_sym a = record { alike = alike_sym a.alike; to = a.from; from = a.to }

pub agree_self : (o : Order) → Agree o o
agree_self o = record { alike = record { n = refl; m = refl; supply = λ x. refl; u = λ r. refl; v = λ r. refl }; to = λ w h. h; from = λ w h. h }

module _ {o p : Order} (a : Agree o p) where
  some_to : {r : ℕ} {b : Bool} → Some o r b → Some p r b
  some_to s = (s.0, a.to s.0 s.1, s.2)

  marked_one : {r x y : ℕ} → (w : Wiring) → Lawful o w → Marked o r x → Marked p r y → x ≡ y
  marked_one w h (never n e) (never m f) = e ∙ sym f
  marked_one w h (never n e) (always m f) = absurd (n w h (m w (a.to w h)))
  marked_one w h (never n e) (either s t f) = absurd (n s.0 (a.from s.0 s.1) s.2)
  marked_one w h (always n e) (never m f) = absurd (m w (a.to w h) (n w h))
  marked_one w h (always n e) (always m f) = e ∙ sym f
  marked_one w h (always n e) (either s t f) = absurd (true_not_false (sym (n t.0 (a.from t.0 t.1)) ∙ t.2))
  marked_one w h (either s t e) (never m f) = absurd (m s.0 (a.to s.0 s.1) s.2)
  marked_one w h (either s t e) (always m f) = absurd (true_not_false (sym (m t.0 (a.to t.0 t.1)) ∙ t.2))
  marked_one w h (either s t e) (either s' t' f) = e ∙ sym f

  count_to : (w : Wiring) (h : Lawful o w) (g : Lawful p w) → h.count ≡ g.count
  count_to w h g = counts_one (segments_as a.alike w h.counted) g.counted

  lowest_le : {j k : ℕ} → Lowest o j → Lowest p k → k ≤ j
  lowest_le x y = omega (arith, y.all x.by (a.to x.by x.lawful), count_to x.by x.lawful (a.to x.by x.lawful), counts_one x.counted x.lawful.counted)

  highest_le : {j k : ℕ} → Highest o j → Highest p k → j ≤ k
  highest_le x y = omega (arith, y.all x.by (a.to x.by x.lawful), count_to x.by x.lawful (a.to x.by x.lawful), counts_one x.counted x.lawful.counted)

module _ {o p : Order} (a : Agree o p) where
  pub lowest_one : {j k : ℕ} → Lowest o j → Lowest p k → j ≡ k
  lowest_one x y = le_antisymm (lowest_le (agree_sym a) y x) (lowest_le a x y)

  pub highest_one : {j k : ℕ} → Highest o j → Highest p k → j ≡ k
  highest_one x y = le_antisymm (highest_le a x y) (highest_le (agree_sym a) y x)

  -- two first wirings agree at every run: at the first where they did not, both would use it
  agree_at : (w b : Wiring) (x : FirstWiring o w) (y : FirstWiring p b) (i : ℕ) → i < o.m → ((j : ℕ) → j < i → w j ≡ b j)
      → (c : Bool) → w i ≡ c → (d : Bool) → b i ≡ d → w i ≡ b i
  agree_at w b x y i l before true e true f = e ∙ sym f
  agree_at w b x y i l before false e false f = e ∙ sym f
  agree_at w b x y i l before true e false f =
      absurd (true_not_false (sym (y.first w (a.to w x.lawful) (subst (Segments p w) (highest_one x.highest y.highest) (segments_as a.alike w x.counted)) i
      (subst (λ (k : ℕ). i < k) a.alike.m l) (λ j k. sym (before j k)) (λ q. true_not_false (sym e ∙ sym q ∙ f))) ∙ f))
  agree_at w b x y i l before false e true f =
      absurd (true_not_false (sym (x.first b (a.from b y.lawful) (subst (Segments o b) (sym (highest_one x.highest y.highest)) (segments_as (alike_sym a.alike) b y.counted)) i
      l before (λ q. true_not_false (sym f ∙ sym q ∙ e))) ∙ e))

  pub first_upto : (w b : Wiring) (x : FirstWiring o w) (y : FirstWiring p b) (i : ℕ) → i ≤ o.m → (j : ℕ) → j < i → w j ≡ b j
  first_upto w b x y zero l j k = absurd (omega arith)
  first_upto w b x y (suc i) l j k =
      let before = first_upto w b x y i (omega arith) in
      elim (ℕ_discrete j i) [ yes e ↦ subst (λ (z : ℕ). w z ≡ b z) (sym e) (agree_at w b x y i l before (w i) refl (b i) refl) | no n ↦ before j (omega arith) ]

  -- the same wiring has the same segment numbers
  pub segment_one : (w b : Wiring) → ((r : ℕ) → r < o.m → w r ≡ b r) → {x i j : ℕ} → SegmentNumber o w x i → SegmentNumber p b x j → i ≡ j
  segment_one w b same s t = le_antisymm (s.smallest _ (joined_as (alike_sym a.alike) theirs t.joined)) (t.smallest _ (joined_as a.alike ours s.joined))
    where
      ours : (r : ℕ) → Used o w r → Used p b r
      ours r h = (subst (λ (k : ℕ). r < k) a.alike.m h.0, sym (same r h.0) ∙ h.1)

      theirs : (r : ℕ) → Used p b r → Used o w r
      theirs r h = let l = subst (λ (k : ℕ). r < k) (sym a.alike.m) h.0 in (l, same r l ∙ h.1)

module _ (o p : Order) (ok : Sound o) (ok' : Sound p) (a : Agree o p) where
  pub same_confirmation : {state state' : ℕ → ℕ} {low low' high high' : ℕ} {w w' : Wiring} {segment segment' : ℕ → ℕ} {s s' t t' : ℕ}
      → Confirmed o state low high w segment s t → Confirmed p state' low' high' w' segment' s' t' → Equal o state state' low low' high high' w w' segment segment'
  same_confirmation {state} {state'} {w = w} {w' = w'} c d = record {
    states = λ r l. let k = subst (λ (z : ℕ). r < z) a.alike.m l in
        marked_one a w c.first.lawful (by_wirings o r (state r) l (ok.mark r l) (c.marks r l)) (by_wirings p r (state' r) k (ok'.mark r k) (d.marks r k));
    lows = lowest_one a c.lowest d.lowest;
    highs = highest_one a c.highest d.highest;
    wirings = first_upto a w w' c.first d.first o.m (omega arith);
    segments = λ x l. segment_one a w w' (first_upto a w w' c.first d.first o.m (omega arith)) (c.segments x l) (d.segments x (subst (λ (z : ℕ). x < z) a.alike.n l));
  }

module _ (o : Order) (ok : Sound o) {state : ℕ → ℕ} {low high : ℕ} {w : Wiring} {segment : ℕ → ℕ} {s t : ℕ} (c : Confirmed o state low high w segment s t) where
  same_ends : Alike o (confirmed o state low high)
  same_ends = record { n = refl; m = refl; supply = λ x. refl; u = λ r. refl; v = λ r. refl }

  mark : (r : ℕ) → r < o.m → Marked o r (state r)
  mark r l = by_wirings o r (state r) l (ok.mark r l) (c.marks r l)

  pub keeps : Agree o (confirmed o state low high)
  keeps = record { alike = same_ends; to = to; from = from }
    where
      two : {r x : ℕ} → Marked o r x → x ≡ 2 → Always o r
      two (never n e) f = absurd (omega arith)
      two (always n e) f = n
      two (either x y e) f = absurd (omega arith)

      zero' : {r x : ℕ} → Marked o r x → x ≡ 0 → Never o r
      zero' (never n e) f = n
      zero' (always n e) f = absurd (omega arith)
      zero' (either x y e) f = absurd (omega arith)

      to : (b : Wiring) → Lawful o b → Lawful (confirmed o state low high) b
      to b h = lawful_as same_ends b h (λ r l e. two (mark r l) e b h) (λ r l e. zero' (mark r l) e b h) (c.lowest.all b h) (c.highest.all b h)

      copy : {r x : ℕ} → Mark o r x → (o.state r ≡ 1 → ⊥) → x ≡ o.state r
      copy (kept n e) k = e
      copy (struck p n e) k = absurd (k p)
      copy (pinned p n e) k = absurd (k p)
      copy (stays p x y e) k = absurd (k p)

      from : (b : Wiring) → Lawful (confirmed o state low high) b → Lawful o b
      from b h = lawful_as (alike_sym same_ends) b h
          (λ r l e. h.fixed r l (copy (c.marks r l) (λ q. omega arith) ∙ e))
          (λ r l e. h.struck r l (copy (c.marks r l) (λ q. omega arith) ∙ e))
          (omega (arith, h.enough, c.lowest.lawful.enough, counts_one c.lowest.counted c.lowest.lawful.counted))
          (omega (arith, h.few, c.highest.lawful.few, counts_one c.highest.counted c.highest.lawful.counted))

-- ---- two confirmations of one form are equal, their counts too
pub confirmed_one : (o : Order) → Sound o → {state state' : ℕ → ℕ} {low low' high high' : ℕ} {w w' : Wiring} {segment segment' : ℕ → ℕ} {s s' t t' : ℕ}
    → Confirmed o state low high w segment s t → Confirmed o state' low' high' w' segment' s' t'
    → Equal o state state' low low' high high' w w' segment segment' × (s ≡ s') × (t ≡ t')
confirmed_one o ok {state} {state'} c d =
    let e = same_confirmation o o ok ok (agree_self o) c d in (
      e,
      counts_one (counts_alike (λ r l h. (h.0, sym (e.states r l) ∙ h.1)) (λ r l h. (h.0, e.states r l ∙ h.1)) c.struck_counted) d.struck_counted,
      counts_one (counts_alike (λ r l h. (h.0, sym (e.states r l) ∙ h.1)) (λ r l h. (h.0, e.states r l ∙ h.1)) c.pinned_counted) d.pinned_counted,
    )

-- ---- confirming a confirmed form changes nothing, and counts nothing
module _ (o : Order) (ok : Sound o) {state : ℕ → ℕ} {low high : ℕ} {w : Wiring} {segment : ℕ → ℕ} {s t : ℕ} (c : Confirmed o state low high w segment s t) where
  pub confirmed_sound : Sound (confirmed o state low high)
  confirmed_sound = record { up = ok.up; inside = ok.inside; fresh = ok.fresh; bit = ok.bit; mark = λ r l. small (mark o ok c r l) }
    where
      small : {r x : ℕ} → Marked o r x → x ≤ 2
      small (never n e) = omega arith
      small (always n e) = omega arith
      small (either x y e) = omega arith

  pub again : {state' : ℕ → ℕ} {low' high' : ℕ} {w' : Wiring} {segment' : ℕ → ℕ} {s' t' : ℕ} → Confirmed (confirmed o state low high) state' low' high' w' segment' s' t'
      → Equal o state state' low low' high high' w w' segment segment' × (s' ≡ 0) × (t' ≡ 0)
  again {state'} d =
      let e = same_confirmation o (confirmed o state low high) ok confirmed_sound (keeps o ok c) c d in (
        e,
        counts_none (λ r l h. omega (arith, h.0, h.1, e.states r l)) d.struck_counted,
        counts_none (λ r l h. omega (arith, h.0, h.1, e.states r l)) d.pinned_counted,
      )
