-- When a possible run is struck or pinned, by theorem 1 for the form with the run fixed, and with it struck.
use Rattle.std.specs.Prelude.{ℕ, min, ◌+◌, ◌≤◌, ◌<◌, Bool, true, false, List, ◌∷◌, ◌≡◌, refl}
use Rattle.std.proofs.Common.{inl, inr, sym, ap, subst, ◌∙◌}
use Rattle.std.proofs.Math.Decide.{ℕ_discrete}
use native.Mathlib.Omega.{arith}
use Rattle.wirings.proofs.Alike.{alike_sym, joined_as, fed_as}
use Rattle.wirings.specs.Amended.{marked, At, same, other}
use Rattle.wirings.proofs.Amended.{at, marked_sound, marked_alike, pinned_lawful, struck_lawful}
use Rattle.wirings.specs.Chosen.{true_not_false}
use Rattle.wirings.specs.Confirmed.{Never, Always, Some}
use Rattle.wirings.specs.Counted.{Sound, Runs, comps, stocked, feds, comps_ext, feds_ext, comps_one, feds_one, comps_mono, feds_mono, same_labels, all_fed}
use Rattle.wirings.specs.Forest.{forest_open}
use Rattle.wirings.specs.Joined.{joined_mono, joined_into, joined_trans, fed_mono}
use Rattle.wirings.specs.Labels.{In, label, joined_same, same_joined}
use Rattle.wirings.specs.Limits.{fixed_runs, unstruck_runs, least, most, used_runs}
use Rattle.wirings.proofs.Limits.{fixed_in, in_fixed, unstruck_in, in_unstruck, in_used, used_in, lawful_more, lawful_less, lawful_fed, lawful_count}
use Rattle.wirings.specs.Loops.{closing_loops}
use Rattle.wirings.specs.Pieces.{pieces_same}
use Rattle.wirings.specs.Theorem1.{Meets}
use Rattle.wirings.proofs.Theorem1.{exists, forest}
use Rattle.wirings.specs.Wiring.{Order, Wiring, Used, Leads, along, back, Joined, here, on, Fed, Lawful}
use Rattle.wirings.specs.Marks.{Others}

module _ (o : Order) (ok : Sound o) (line : o.low ≤ o.high) (meets : Meets o) (e : ℕ) (run : e < o.m) (possible : o.state e ≡ 1) where
  not_fixed : (r : ℕ) → In (fixed_runs o) r → r ≡ e → ⊥
  not_fixed r h p = omega (arith, (in_fixed o r h).1, ap o.state p)

  with_e : Runs o (e ∷ fixed_runs o)
  with_e r (inl p) = subst (λ (k : ℕ). k < o.m) (sym p) run
  with_e r (inr h) = (in_fixed o r h).0

  -- ---- struck
  pub never_joined : label o (fixed_runs o) (o.u e) ≡ label o (fixed_runs o) (o.v e) → Never o e
  never_joined p w h used =
      h.no_loop (closing_loops o (Used o w) (λ r q. ok.up r q.0) (λ i j a b. ok.fresh i j a.0 b.0) e (run, used)
      (joined_mono (λ r q. (in_used o w r (lawful_more o ok w h r q), not_fixed r q)) (same_joined o (fixed_runs o) p)))

  module _ (open' : label o (fixed_runs o) (o.u e) ≡ label o (fixed_runs o) (o.v e) → ⊥) where
    pub never_full : 0 < stocked o (fixed_runs o) (o.u e) → 0 < stocked o (fixed_runs o) (o.v e) → most o ≤ o.low → Never o e
    never_full a b l w h used =
        omega (
          arith,
          feds_one o ok e (fixed_runs o) run open',
          h.enough,
          lawful_count o ok w h,
          all_fed o ok.bit (used_runs o w) (lawful_fed o ok w h),
          feds_mono o ok (e ∷ fixed_runs o) (used_runs o w) (λ r k. (in_used o w r k).0) sub,
        )
      where
        sub : (r : ℕ) → In (e ∷ fixed_runs o) r → In (used_runs o w) r
        sub r (inl p) = used_in o w r (subst (λ (k : ℕ). k < o.m) (sym p) run, ap w p ∙ used)
        sub r (inr k) = lawful_more o ok w h r k

    -- the form with the run fixed
    fixed_e : (r : ℕ) → r < o.m → (marked e 2 o).state r ≡ 2 → In (e ∷ fixed_runs o) r
    fixed_e r l q = go (at o e 2 r) q
      where
        go : {s : ℕ} → At o e 2 r s → s ≡ 2 → In (e ∷ fixed_runs o) r
        go (same p z) y = inl p
        go (other p z) y = inr (fixed_in o r l (sym z ∙ y))

    e_fixed : (r : ℕ) → In (e ∷ fixed_runs o) r → In (fixed_runs (marked e 2 o)) r
    e_fixed r h = go (at o e 2 r) h
      where
        go : At o e 2 r ((marked e 2 o).state r) → In (e ∷ fixed_runs o) r → In (fixed_runs (marked e 2 o)) r
        go (same p z) k = fixed_in (marked e 2 o) r (with_e r k) z
        go (other p z) (inl k) = absurd (p k)
        go (other p z) (inr k) = fixed_in (marked e 2 o) r (in_fixed o r k).0 (z ∙ (in_fixed o r k).1)

    same_unstruck : (r : ℕ) → (0 < o.state r → 0 < (marked e 2 o).state r) × (0 < (marked e 2 o).state r → 0 < o.state r)
    same_unstruck r = go (at o e 2 r)
      where
        go : {s : ℕ} → At o e 2 r s → (0 < o.state r → 0 < s) × (0 < s → 0 < o.state r)
        go (same p z) = (λ _. omega arith, λ _. omega (arith, ap o.state p))
        go (other p z) = (λ h. omega arith, λ h. omega arith)

    fixed_meets : o.low ≤ feds o (e ∷ fixed_runs o) → Meets (marked e 2 o)
    fixed_meets low = record {
      open' = λ r l q p. forest_open o ok (e ∷ fixed_runs o) with_e (open', forest o ok meets) r (fixed_e r l q)
          (joined_as (alike_sym (marked_alike o e 2)) (λ j k. (fixed_e j (omega (arith, k.0)) k.1, λ z. omega (arith, k.0))) p);
      fed = λ x l. fed_as (marked_alike o e 2) (λ r k. (k.0, (same_unstruck r).0 k.1)) (meets.fed x l);
      few = omega (
        arith,
        meets.few,
        comps_ext o (unstruck_runs (marked e 2 o)) (unstruck_runs o)
            (λ r k. let q = in_unstruck (marked e 2 o) r k in unstruck_in o r q.0 ((same_unstruck r).1 q.1))
            (λ r k. let q = in_unstruck o r k in unstruck_in (marked e 2 o) r q.0 ((same_unstruck r).0 q.1)),
      );
      enough = omega (arith, low, feds_ext o (fixed_runs (marked e 2 o)) (e ∷ fixed_runs o) (λ r k. let q = in_fixed (marked e 2 o) r k in fixed_e r q.0 q.1) e_fixed);
    }

    some_fixed : o.low ≤ feds o (e ∷ fixed_runs o) → Some o e true
    some_fixed low =
        let (w, h) = exists (marked e 2 o) (marked_sound o e 2 (omega arith) ok) line (fixed_meets low) in
        let q = pinned_lawful o e w run possible h in (w, q.0, q.1)

    pub some_free : min (stocked o (fixed_runs o) (o.u e)) (stocked o (fixed_runs o) (o.v e)) ≡ 0 → Some o e true
    some_free z = some_fixed (omega (arith, feds_one o ok e (fixed_runs o) run open', meets.enough))

    pub some_spare : 0 < stocked o (fixed_runs o) (o.u e) → 0 < stocked o (fixed_runs o) (o.v e) → o.low < most o → Some o e true
    some_spare a b l = some_fixed (omega (arith, feds_one o ok e (fixed_runs o) run open'))

  -- ---- pinned
  H : List ℕ
  H = unstruck_runs (marked e 0 o)

  in_H : (r : ℕ) → In H r → Others o e r
  unfolding H
  in_H r h = let q = in_unstruck (marked e 0 o) r h in go (at o e 0 r) q.0 q.1
    where
      go : {s : ℕ} → At o e 0 r s → r < o.m → 0 < s → Others o e r
      go (same p z) l y = absurd (omega arith)
      go (other p z) l y = (l, omega arith, p)

  H_in : (r : ℕ) → Others o e r → In H r
  unfolding H
  H_in r h = go (at o e 0 r)
    where
      go : At o e 0 r ((marked e 0 o).state r) → In (unstruck_runs (marked e 0 o)) r
      go (same p z) = absurd (h.2 p)
      go (other p z) = unstruck_in (marked e 0 o) r h.0 (omega (arith, h.1))

  runs_H : Runs o H
  runs_H r h = (in_H r h).0

  -- a lawful wiring that does not use the run uses others alone
  unused_H : (w : Wiring) → Lawful o w → (w e ≡ true → ⊥) → (r : ℕ) → In (used_runs o w) r → In H r
  unused_H w h n r k = let q = in_unstruck o r (lawful_less o ok w h r k) in H_in r (q.0, q.1, λ p. n (ap w (sym p) ∙ (in_used o w r k).1))

  not_true : (b : Bool) → (b ≡ true → ⊥) → b ≡ false
  not_true true n = absurd (n refl)
  not_true false n = refl

  always_if : ((w : Wiring) → Lawful o w → (w e ≡ true → ⊥) → ⊥) → Always o e
  always_if f w h = go (w e) refl
    where
      go : (b : Bool) → w e ≡ b → w e ≡ true
      go true p = p
      go false p = absurd (f w h (λ q. true_not_false (sym q ∙ p)))

  always_bare : (x : ℕ) → x < o.n → (Fed o (In H) x → ⊥) → Always o e
  always_bare x l n = always_if (λ w h k. n (fed_mono (unused_H w h k) (lawful_fed o ok w h x l)))

  always_few : o.high < comps o H → Always o e
  always_few l = always_if (λ w h k. omega (arith, comps_mono o ok (used_runs o w) H runs_H (unused_H w h k), lawful_count o ok w h, h.few))

  -- the form with the run struck
  still : (r : ℕ) → (marked e 0 o).state r ≡ 2 → o.state r ≡ 2
  still r q = go (at o e 0 r) q
    where
      go : {s : ℕ} → At o e 0 r s → s ≡ 2 → o.state r ≡ 2
      go (same p z) y = absurd (omega arith)
      go (other p z) y = sym z ∙ y

  kept : (r : ℕ) → (r ≡ e → ⊥) → o.state r ≡ 2 → (marked e 0 o).state r ≡ 2
  kept r n q = go (at o e 0 r)
    where
      go : {s : ℕ} → At o e 0 r s → s ≡ 2
      go (same p z) = absurd (n p)
      go (other p z) = z ∙ q

  struck_meets : ((x : ℕ) → x < o.n → Fed o (In H) x) → comps o H ≤ o.high → Meets (marked e 0 o)
  unfolding H
  struck_meets fed few = record {
    open' = λ r l q p. meets.open' r l (still r q) (joined_as (alike_sym (marked_alike o e 0)) (λ j k. (k.0, still j k.1)) p);
    fed = λ x l. fed_as (marked_alike o e 0) (λ r k. in_unstruck (marked e 0 o) r k) (fed x l);
    few = few;
    enough = omega (
      arith,
      meets.enough,
      feds_ext o (fixed_runs (marked e 0 o)) (fixed_runs o)
          (λ r k. let q = in_fixed (marked e 0 o) r k in fixed_in o r q.0 (still r q.1))
          (λ r k. let q = in_fixed o r k in fixed_in (marked e 0 o) r q.0 (kept r (not_fixed r k) q.1)),
    );
  }

  some_struck : ((x : ℕ) → x < o.n → Fed o (In H) x) → comps o H ≤ o.high → Some o e false
  some_struck fed few =
      let (w, h) = exists (marked e 0 o) (marked_sound o e 0 (omega arith) ok) line (struck_meets fed few) in
      let q = struck_lawful o e w run possible h in (w, q.0, not_true (w e) q.1)

  -- ---- by the kind of bridge
  in_all : (r : ℕ) → In (e ∷ H) r → In (unstruck_runs o) r
  in_all r (inl p) = unstruck_in o r (subst (λ (k : ℕ). k < o.m) (sym p) run) (omega (arith, ap o.state p))
  in_all r (inr h) = let q = in_H r h in unstruck_in o r q.0 q.1

  all_in : (r : ℕ) → In (unstruck_runs o) r → In (e ∷ H) r
  all_in r h = let q = in_unstruck o r h in elim (ℕ_discrete r e) [ yes p ↦ inl p | no n ↦ inr (H_in r (q.0, q.1, n)) ]

  whole : comps o (e ∷ H) ≡ least o
  whole = comps_ext o (e ∷ H) (unstruck_runs o) in_all all_in

  reached : (x : ℕ) → x < o.n → Fed o (In (e ∷ H)) x
  reached x l = fed_mono (λ r k. all_in r (unstruck_in o r k.0 k.1)) (meets.fed x l)

  -- where other runs join its ends, the run can be left out
  pub free_none : Joined o (Others o e) (o.u e) (o.v e) → Some o e false
  free_none p = some_struck fed (omega (arith, meets.few, whole, pieces_same o.n o.supply (label o (e ∷ H)) (label o H) (λ x l. same_labels o ok e H shut x)))
    where
      shut : label o H (o.u e) ≡ label o H (o.v e)
      shut = joined_same o H (joined_mono H_in p)

      into : (r : ℕ) → In (e ∷ H) r → Joined o (In H) (o.u r) (o.v r)
      into r (inl q) = subst (λ (k : ℕ). Joined o (In H) (o.u k) (o.v k)) (sym q) (joined_mono H_in p)
      into r (inr h) = on here r h (along refl refl)

      fed : (x : ℕ) → x < o.n → Fed o (In H) x
      fed x l = let f = reached x l in record { at = f.at; place = f.place; supplied = f.supplied; joined = joined_into into f.joined }

  module _ (cut : Joined o (Others o e) (o.u e) (o.v e) → ⊥) where
    one_more : comps o H ≡ least o + 1
    one_more = sym (comps_one o ok e H run (λ q. cut (joined_mono in_H (same_joined o H q)))) ∙ ap (λ (k : ℕ). k + 1) whole

    pub pinned_bare : (Fed o (Others o e) (o.u e) → Fed o (Others o e) (o.v e) → ⊥) → Always o e
    pinned_bare n = always_if (λ w h k. n (fed_mono in_H (fed_mono (unused_H w h k) (lawful_fed o ok w h (o.u e) (omega (arith, ok.up e run, ok.inside e run)))))
        (fed_mono in_H (fed_mono (unused_H w h k) (lawful_fed o ok w h (o.v e) (ok.inside e run)))))

    pub pinned_fed : o.high ≤ least o → Always o e
    pinned_fed l = always_few (omega (arith, one_more))

    -- both sides supplied, and one more segment allowed
    pub free_fed : Fed o (Others o e) (o.u e) → Fed o (Others o e) (o.v e) → least o < o.high → Some o e false
    free_fed a b l = some_struck (λ x k. let f = reached x k in walk f.joined (record { at = f.at; place = f.place; supplied = f.supplied; joined = here })) (omega (arith, one_more))
      where
        next : {x y r : ℕ} → In (e ∷ H) r → Leads o r x y → Fed o (In H) y → Fed o (In H) x
        next {r = r} (inr h) d f = record { at = f.at; place = f.place; supplied = f.supplied; joined = joined_trans (on here r h d) f.joined }
        next {x} {y} {r} (inl p) (along q z) f = subst (Fed o (In H)) (sym (ap o.u p) ∙ q) (fed_mono H_in a)
        next {x} {y} {r} (inl p) (back q z) f = subst (Fed o (In H)) (sym (ap o.v p) ∙ q) (fed_mono H_in b)

        walk : {x y : ℕ} → Joined o (In (e ∷ H)) x y → Fed o (In H) y → Fed o (In H) x
        walk here f = f
        walk (on p r h d) f = walk p (next h d f)
