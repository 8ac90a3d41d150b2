-- The confirmed state of a run by numbers: its labels by the fixed runs, their supplies, its kind of bridge, and how tight line four is.
use Rattle.std.specs.Prelude.{ℕ, min, ◌≤◌, ◌<◌, ltb, Bool, true, false, ◌≡◌, refl}
use Rattle.std.proofs.Common.{sym, ◌∙◌, lt-ltb, ltb-true, arith}
use Rattle.std.proofs.Math.Decide.{dec_lt}
use Rattle.wirings.specs.Confirmed.{Always, Some, Mark, kept, struck, pinned, stays}
use Rattle.wirings.specs.Counted.{Sound, stocked}
use Rattle.wirings.specs.Labels.{label}
use Rattle.wirings.specs.Limits.{fixed_runs, least, most}
use Rattle.wirings.specs.Marks.{Bridge, bypassed, supplied, bare}
use Rattle.wirings.proofs.Marks.{never_joined, never_full, some_free, some_spare, free_none, pinned_bare, pinned_fed, free_fed}
use Rattle.wirings.specs.Theorem1.{Meets}
use Rattle.wirings.specs.Wiring.{Order}

-- a run that can be used: its ends have different labels a and b, and, where low is MAX, not both pieces hold a supply
pub record Open (a b : ℕ) (fa fb tight : Bool) : Type 0 where
  pub apart : a ≡ b → ⊥
  pub spare : tight ≡ true → fa ≡ true → fb ≡ true → ⊥

-- the rule, in the order in which it is applied
pub data Ruled (state a b : ℕ) (fa fb : Bool) (kind : ℕ) (tight last : Bool) (mark : ℕ) : Type 0 where
  as_it_was : (state ≡ 1 → ⊥) → mark ≡ state → Ruled state a b fa fb kind tight last mark
  closed : state ≡ 1 → a ≡ b → mark ≡ 0 → Ruled state a b fa fb kind tight last mark
  full : state ≡ 1 → (a ≡ b → ⊥) → tight ≡ true → fa ≡ true → fb ≡ true → mark ≡ 0 → Ruled state a b fa fb kind tight last mark
  unfed : state ≡ 1 → Open a b fa fb tight → kind ≡ 2 → mark ≡ 2 → Ruled state a b fa fb kind tight last mark
  needed : state ≡ 1 → Open a b fa fb tight → kind ≡ 1 → last ≡ true → mark ≡ 2 → Ruled state a b fa fb kind tight last mark
  loose : state ≡ 1 → Open a b fa fb tight → (kind ≡ 2 → ⊥) → (kind ≡ 1 → last ≡ true → ⊥) → mark ≡ 1 → Ruled state a b fa fb kind tight last mark

-- what the numbers of run r are
pub record Numbers (o : Order) (r a b : ℕ) (fa fb : Bool) (kind : ℕ) (tight last : Bool) : Type 0 where
  pub one : a ≡ label o (fixed_runs o) (o.u r)
  pub other : b ≡ label o (fixed_runs o) (o.v r)
  pub one_fed : fa ≡ ltb 0 (stocked o (fixed_runs o) (o.u r))
  pub other_fed : fb ≡ ltb 0 (stocked o (fixed_runs o) (o.v r))
  pub bridge : 0 < o.state r → Bridge o r kind
  pub at_most : tight ≡ true → most o ≤ o.low
  pub not_at_most : tight ≡ false → o.low < most o
  pub at_least : last ≡ true → o.high ≤ least o
  pub not_at_least : last ≡ false → least o < o.high

module _ (o : Order) (ok : Sound o) (line : o.low ≤ o.high) (meets : Meets o) (r : ℕ) (run : r < o.m)
    {a b : ℕ} {fa fb : Bool} {kind : ℕ} {tight last : Bool} (k : Numbers o r a b fa fb kind tight last) where
  -- above 0 where both pieces hold a supply
  abbrev both : ℕ
  both = min (stocked o (fixed_runs o) (o.u r)) (stocked o (fixed_runs o) (o.v r))

  open_run : o.state r ≡ 1 → Open a b fa fb tight → Some o r true
  open_run e p = go tight refl
    where
      differ : label o (fixed_runs o) (o.u r) ≡ label o (fixed_runs o) (o.v r) → ⊥
      differ q = p.apart (k.one ∙ q ∙ sym k.other)

      go : (t : Bool) → tight ≡ t → Some o r true
      go true q = elim (dec_lt 0 both) [
        | yes l ↦ absurd (p.spare q (k.one_fed ∙ lt-ltb 0 _ (omega arith)) (k.other_fed ∙ lt-ltb 0 _ (omega arith)))
        | no l ↦ some_free o ok line meets r run e differ (omega arith)
      ]
      go false q = elim (dec_lt 0 both) [
        | yes l ↦ some_spare o ok line meets r run e differ (omega arith) (omega arith) (k.not_at_most q)
        | no l ↦ some_free o ok line meets r run e differ (omega arith)
      ]

  loose_run : o.state r ≡ 1 → (kind ≡ 2 → ⊥) → (kind ≡ 1 → last ≡ true → ⊥) → Bridge o r kind → Some o r false
  loose_run e n m (bypassed p q) = free_none o ok line meets r run e p
  loose_run e n m (supplied c x y q) = go last refl
    where
      go : (t : Bool) → last ≡ t → Some o r false
      go true z = absurd (m q z)
      go false z = free_fed o ok line meets r run e c x y (k.not_at_least z)
  loose_run e n m (bare c x q) = absurd (n q)

  unfed_run : o.state r ≡ 1 → kind ≡ 2 → Bridge o r kind → Always o r
  unfed_run e q (bypassed p z) = absurd (omega arith)
  unfed_run e q (supplied c x y z) = absurd (omega arith)
  unfed_run e q (bare c x z) = pinned_bare o ok line meets r run e c x

  needed_run : o.state r ≡ 1 → kind ≡ 1 → last ≡ true → Bridge o r kind → Always o r
  needed_run e q t (bypassed p z) = absurd (omega arith)
  needed_run e q t (supplied c x y z) = pinned_fed o ok line meets r run e c (k.at_least t)
  needed_run e q t (bare c x z) = absurd (omega arith)

  pub ruled_mark : {mark : ℕ} → Ruled (o.state r) a b fa fb kind tight last mark → Mark o r mark
  ruled_mark (as_it_was n e) = kept n e
  ruled_mark (closed s p e) = struck s (never_joined o ok line meets r run s (sym k.one ∙ p ∙ k.other)) e
  ruled_mark (full s n t x y e) =
      struck s (never_full o ok line meets r run s (λ q. n (k.one ∙ q ∙ sym k.other)) (ltb-true 0 _ (sym k.one_fed ∙ x)) (ltb-true 0 _ (sym k.other_fed ∙ y)) (k.at_most t)) e
  ruled_mark (unfed s p q e) = pinned s (unfed_run s q (k.bridge (omega arith))) e
  ruled_mark (needed s p q t e) = pinned s (needed_run s q t (k.bridge (omega arith))) e
  ruled_mark (loose s p n m e) = stays s (open_run s p) (loose_run s n m (k.bridge (omega arith))) e
