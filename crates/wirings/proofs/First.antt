-- The scan in listed order for the greatest count gives the first wiring.
use Rattle.std.specs.Prelude.{ℕ, ◌≤◌, ◌<◌, Bool, true, false, ◌∷◌, ◌≡◌, refl}
use Rattle.std.proofs.Common.{inl, inr, ⊎_elim, sym, ap, subst, ◌∙◌, arith}
use Rattle.std.proofs.Math.Decide.{ℕ_discrete}
use Rattle.wirings.specs.Chosen.{true_not_false}
use Rattle.wirings.specs.Confirmed.{Lowest, Highest, FirstWiring, SegmentNumber}
use Rattle.wirings.specs.Counted.{Sound, Runs, feds_one, feds_mono, all_fed}
use Rattle.wirings.specs.Joined.{joined_mono}
use Rattle.wirings.specs.Labels.{In, label, label_least, joined_label, same_joined}
use Rattle.wirings.specs.Limits.{used_runs}
use Rattle.wirings.proofs.Limits.{in_fixed, in_unstruck, in_used, used_in, segments_are, lawful_more, lawful_fed, lawful_least, lawful_most}
use Rattle.wirings.specs.Loops.{closing_loops}
use Rattle.wirings.specs.Scan.{Scan, Verdict, closed, full, free, spends, Goes, pass, look, begin, Kept, kept}
use Rattle.wirings.specs.Theorem1.{Meets, Names, Ends, start}
use Rattle.wirings.proofs.Theorem1.{scan_ends, listed, forest, of_count, least_most, to_used, from_used, ends_lawful, ends_segments}
use Rattle.wirings.specs.Wiring.{Order, Wiring, Used, Segments, Lawful}
use Rattle.wirings.specs.First.{top, bottom}

-- ---- what a scan made of run i, and that it stays
verdict_more : {o : Order} {r : ℕ} {s t : Scan} → Verdict o r s t → (j : ℕ) → In s.taken j → In t.taken j
verdict_more (closed p q) j h = subst (λ (x : Scan). In x.taken j) (sym q) h
verdict_more (full d a b z q) j h = subst (λ (x : Scan). In x.taken j) (sym q) h
verdict_more (free d z q) j h = subst (λ (x : Scan). In x.taken j) (sym q) (inr h)
verdict_more (spends d a b l q) j h = subst (λ (x : Scan). In x.taken j) (sym q) (inr h)

record Looked (o : Order) (from : Scan) (i : ℕ) (s : Scan) : Type 0 where
  before : Scan
  after : Scan
  went : Goes o (λ j. j) from i before
  verdict : Verdict o i before after
  stays : (j : ℕ) → In after.taken j → In s.taken j

looked : {o : Order} {from : Scan} {k : ℕ} {s : Scan} → Goes o (λ j. j) from k s → (i : ℕ) → i < k → o.state i ≡ 1 → Looked o from i s
looked begin i l e = absurd (omega arith)
looked {o} (pass {i = k} g n) i l e = looked g i (elim (ℕ_discrete i k) [ yes p ↦ absurd (n (subst (λ (x : ℕ). o.state x ≡ 1) p e)) | no q ↦ omega arith ]) e
looked {o} {from} (look {i = k} {s = s} {t = t} g p v) i l e =
    elim (ℕ_discrete i k) [
      | yes q ↦ subst (λ (x : ℕ). Looked o from x t) (sym q) (record { before = s; after = t; went = g; verdict = v; stays = λ j h. h })
      | no q ↦ let h = looked g i (omega arith) e in record { before = h.before; after = h.after; went = h.went; verdict = h.verdict; stays = λ j m. verdict_more v j (h.stays j m) }
    ]

module _ (o : Order) (ok : Sound o) (line : o.low ≤ o.high) (meets : Meets o) where
  pub lowest : Lowest o (bottom o)
  lowest =
      let (w, h, c) = of_count o ok meets (bottom o) (omega arith) (omega (arith, least_most o ok meets, meets.enough)) (omega arith) (omega (arith, meets.few)) in
      record { by = w; lawful = h; counted = c; all = λ x l. omega (arith, l.enough, lawful_least o ok x l) }

  pub highest : Highest o (top o)
  highest =
      let (w, h, c) = of_count o ok meets (top o) (omega (arith, least_most o ok meets, meets.few)) (omega arith) (omega (arith, meets.enough)) (omega arith) in
      record { by = w; lawful = h; counted = c; all = λ x l. omega (arith, l.few, lawful_most o ok x l) }

  -- ---- the first wiring
  module _ (s : Scan) (g : Goes o (λ j. j) (start o (top o)) o.m s) (w : Wiring) (names : Names o w s.taken) where
    ends : Ends o (top o) s
    ends = scan_ends o ok meets (top o) (omega (arith, least_most o ok meets, meets.few)) (omega arith) (λ j. j) (listed o) g

    lawful : Lawful o w
    lawful = ends_lawful o ok (top o) (omega (arith, meets.enough)) (omega arith) s ends w names

    -- another wiring that agrees before run i and uses it, where the scan passed it over, breaks the rules
    module _ (b : Wiring) (h : Lawful o b) (c : Segments o b (top o)) (i : ℕ) (l : i < o.m) (agree : (j : ℕ) → j < i → w j ≡ b j) (used : b i ≡ true) (unused : w i ≡ true → ⊥) where
      possible : o.state i ≡ 1
      possible = elim (ℕ_discrete (o.state i) 1) [
        | yes e ↦ e
        | no n ↦ elim (ℕ_discrete (o.state i) 0) [ yes e ↦ absurd (h.struck i l e used) | no k ↦ absurd (unused (lawful.fixed i l (omega (arith, ok.mark i l)))) ]
      ]

      seen : Looked o (start o (top o)) i s
      seen = looked g i l possible

      held : Kept o (λ j. j) (start o (top o)) i seen.before
      held = kept o ok (λ j. j) (start o (top o)) (λ r k. (in_fixed o r k).0) (forest o ok meets) (λ j k. omega arith) seen.went

      -- what was taken before, the other uses too
      theirs : (r : ℕ) → In seen.before.taken r → Used o b r × (r ≡ i → ⊥)
      theirs r k = ⊎_elim
          (λ f. (in_used o b r (lawful_more o ok b h r f), λ p. omega (arith, (in_fixed o r f).1, ap o.state p, possible)))
          (λ q. ((held.runs r k, sym (agree r (omega (arith, q.1, q.2))) ∙ names.all r (seen.stays r (verdict_more seen.verdict r k))), λ p. omega (arith, q.1, q.2)))
          (held.only r k)

      -- the scan took the run
      took : In seen.after.taken i → ⊥
      took k = unused (names.all i (seen.stays i k))

      contradiction : ⊥
      contradiction = go seen.verdict
        where
          go : Verdict o i seen.before seen.after → ⊥
          go (closed p q) = h.no_loop (closing_loops o (Used o b) (λ r k. ok.up r k.0) (λ x y p q. ok.fresh x y p.0 q.0) i (l, used)
              (joined_mono theirs (same_joined o seen.before.taken p)))
          go (full d x y z q) = omega (
            arith,
            feds_one o ok i seen.before.taken l d,
            held.spent,
            z,
            segments_are o b c,
            all_fed o ok.bit (used_runs o b) (lawful_fed o ok b h),
            feds_mono o ok (i ∷ seen.before.taken) (used_runs o b) (λ r k. (in_used o b r k).0) (λ r k. ⊎_elim (λ p. used_in o b r (subst (Used o b) (sym p) (l, used))) (λ m. used_in o b r (theirs r m).0) k),
          )
          go (free d z q) = took (subst (λ (x : Scan). In x.taken i) (sym q) (inl refl))
          go (spends d x y z q) = took (subst (λ (x : Scan). In x.taken i) (sym q) (inl refl))

    pub first_wiring : FirstWiring o w
    first_wiring = record {
      count = top o;
      highest = highest;
      lawful = lawful;
      counted = ends_segments o ok (top o) (omega (arith, meets.enough)) (omega arith) s ends w names;
      first = λ b h c i l agree differ. go b h c i l agree differ (w i) refl (b i) refl;
    }
      where
        go : (b : Wiring) → Lawful o b → Segments o b (top o) → (i : ℕ) → i < o.m → ((j : ℕ) → j < i → w j ≡ b j) → (w i ≡ b i → ⊥)
            → (x : Bool) → w i ≡ x → (y : Bool) → b i ≡ y → w i ≡ true
        go b h c i l agree differ true p y q = p
        go b h c i l agree differ false p false q = absurd (differ (p ∙ sym q))
        go b h c i l agree differ false p true q = absurd (contradiction b h c i l agree q (λ k. true_not_false (sym k ∙ p)))

    -- ---- segment numbers: the labels of what the scan took
    pub segment_number : (x : ℕ) → SegmentNumber o w x (label o s.taken x)
    segment_number x = record {
      joined = joined_mono (to_used o w s.taken runs names) (joined_label o s.taken x);
      smallest = λ y p. label_least o s.taken (joined_mono (from_used o w s.taken runs names) p);
    }
      where
        runs : Runs o s.taken
        runs r k = (in_unstruck o r (ends.less r k)).0
