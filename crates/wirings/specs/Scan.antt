-- The scan: possible runs are looked at in some order, and each is taken unless its ends are joined or it would join two supplied pieces when nothing is spare.
use Rattle.std.specs.Prelude.{ℕ, zero, suc, min, ◌+◌, ◌-◌, ◌<◌, List, ◌∷◌, ◌⊎◌, ◌≡◌, refl}
use Rattle.std.proofs.Common.{inl, inr, ⊎_elim, sym, ap, subst, arith}
use Rattle.std.proofs.Math.Decide.{ℕ_discrete, dec_lt}
use Rattle.wirings.specs.Counted.{Sound, Runs, stocked, feds, feds_one, stocked_fed}
use Rattle.wirings.specs.Forest.{Forest}
use Rattle.wirings.specs.Joined.{joined_mono, fed_mono}
use Rattle.wirings.specs.Labels.{In, label, same_joined}
use Rattle.wirings.specs.Wiring.{Order, Joined, Fed}

-- the runs taken so far, and how many more may join two supplied pieces
pub record Scan : Type 0 where
  pub taken : List ℕ
  pub spare : ℕ

-- what looking at run r makes of a scan
pub data Verdict (o : Order) (r : ℕ) (s t : Scan) : Type 0 where
  closed : label o s.taken (o.u r) ≡ label o s.taken (o.v r) → t ≡ s → Verdict o r s t
  full : (label o s.taken (o.u r) ≡ label o s.taken (o.v r) → ⊥) → 0 < stocked o s.taken (o.u r) → 0 < stocked o s.taken (o.v r)
      → s.spare ≡ 0 → t ≡ s → Verdict o r s t
  free : (label o s.taken (o.u r) ≡ label o s.taken (o.v r) → ⊥) → min (stocked o s.taken (o.u r)) (stocked o s.taken (o.v r)) ≡ 0
      → t ≡ record { taken = r ∷ s.taken; spare = s.spare } → Verdict o r s t
  spends : (label o s.taken (o.u r) ≡ label o s.taken (o.v r) → ⊥) → 0 < stocked o s.taken (o.u r) → 0 < stocked o s.taken (o.v r)
      → 0 < s.spare → t ≡ record { taken = r ∷ s.taken; spare = s.spare - 1 } → Verdict o r s t

pub decide : (o : Order) (r : ℕ) (s : Scan) → (t : Scan) × Verdict o r s t
decide o r s =
    elim (ℕ_discrete (label o s.taken (o.u r)) (label o s.taken (o.v r))) [
      | yes e ↦ (s, closed e refl)
      | no d ↦ elim (dec_lt 0 (min (stocked o s.taken (o.u r)) (stocked o s.taken (o.v r)))) [
        | no f ↦ (record { taken = r ∷ s.taken; spare = s.spare }, free d (omega arith) refl)
        | yes f ↦ elim (dec_lt 0 s.spare) [
          | yes l ↦ (record { taken = r ∷ s.taken; spare = s.spare - 1 }, spends d (omega arith) (omega arith) l refl)
          | no l ↦ (s, full d (omega arith) (omega arith) (omega arith) refl)
        ]
      ]
    ]

-- the scan of the first i candidates: those that are not possible are passed by
pub data Goes (o : Order) (c : ℕ → ℕ) (from : Scan) : ℕ → Scan → Type 0 where
  begin : Goes o c from 0 from
  pass : {i : ℕ} {s : Scan} → Goes o c from i s → (o.state (c i) ≡ 1 → ⊥) → Goes o c from (suc i) s
  look : {i : ℕ} {s t : Scan} → Goes o c from i s → o.state (c i) ≡ 1 → Verdict o (c i) s t → Goes o c from (suc i) t

pub goes : (o : Order) (c : ℕ → ℕ) (from : Scan) (i : ℕ) → (s : Scan) × Goes o c from i s
goes o c from zero = (from, begin)
goes o c from (suc i) = let (s, g) = goes o c from i in
    elim (ℕ_discrete (o.state (c i)) 1) [ no n ↦ (s, pass g n) | yes e ↦ let (t, v) = decide o (c i) s in (t, look g e v) ]

-- a run that was looked at is taken, or its ends are joined, or nothing is spare and both its ends are supplied: for good
abbrev pub Passed : Order → Scan → ℕ → Type 0
Passed o s r = In s.taken r ⊎ (Joined o (In s.taken) (o.u r) (o.v r) ⊎ ((s.spare ≡ 0) × Fed o (In s.taken) (o.u r) × Fed o (In s.taken) (o.v r)))

passed_on : (o : Order) (s t : Scan) (r : ℕ) → ((j : ℕ) → In s.taken j → In t.taken j) → (s.spare ≡ 0 → t.spare ≡ 0) → Passed o s r → Passed o t r
passed_on o s t r f g (inl h) = inl (f r h)
passed_on o s t r f g (inr (inl h)) = inr (inl (joined_mono f h))
passed_on o s t r f g (inr (inr (e, h, k))) = inr (inr (g e, fed_mono f h, fed_mono f k))

-- ---- what a scan keeps
pub record Kept (o : Order) (c : ℕ → ℕ) (from : Scan) (i : ℕ) (s : Scan) : Type 0 where
  pub runs : Runs o s.taken
  pub forest : Forest o s.taken
  pub spent : feds o s.taken + from.spare ≡ feds o from.taken + s.spare
  pub more : (r : ℕ) → In from.taken r → In s.taken r
  pub only : (r : ℕ) → In s.taken r → In from.taken r ⊎ ((j : ℕ) × (j < i) × (r ≡ c j) × (o.state r ≡ 1))
  pub passed : (j : ℕ) → j < i → o.state (c j) ≡ 1 → Passed o s (c j)

module _ (o : Order) (ok : Sound o) (c : ℕ → ℕ) (from : Scan) where
  kept_same : {i : ℕ} {s : Scan} → Kept o c from i s → (o.state (c i) ≡ 1 → Passed o s (c i)) → Kept o c from (suc i) s
  kept_same {i} {s} k now = record {
    runs = k.runs;
    forest = k.forest;
    spent = k.spent;
    more = k.more;
    only = λ r h. ⊎_elim inl (λ q. inr (q.0, omega (arith, q.1), q.2, q.3)) (k.only r h);
    passed = λ j l e. elim (ℕ_discrete j i) [ yes p ↦ subst (λ (x : ℕ). Passed o s (c x)) (sym p) (now (subst (λ (x : ℕ). o.state (c x) ≡ 1) p e)) | no n ↦ k.passed j (omega arith) e ];
  }

  kept_take : {i : ℕ} {s : Scan} (spare : ℕ) → Kept o c from i s → c i < o.m → o.state (c i) ≡ 1
      → (label o s.taken (o.u (c i)) ≡ label o s.taken (o.v (c i)) → ⊥) → feds o (c i ∷ s.taken) + s.spare ≡ feds o s.taken + spare → (s.spare ≡ 0 → spare ≡ 0)
      → Kept o c from (suc i) (record { taken = c i ∷ s.taken; spare = spare })
  kept_take {i} {s} spare k run e d fed zero' = record {
    runs = λ r h. ⊎_elim (λ p. subst (λ (x : ℕ). x < o.m) (sym p) run) (k.runs r) h;
    forest = (d, k.forest);
    spent = omega (arith, fed, k.spent);
    more = λ r h. inr (k.more r h);
    only = λ r h. ⊎_elim (λ p. inr (i, omega arith, p, subst (λ (x : ℕ). o.state x ≡ 1) (sym p) e)) (λ q. ⊎_elim inl (λ w. inr (w.0, omega (arith, w.1), w.2, w.3)) (k.only r q)) h;
    passed = λ j l p. elim (ℕ_discrete j i) [
      | yes q ↦ inl (inl (ap c q))
      | no n ↦ passed_on o s (record { taken = c i ∷ s.taken; spare = spare }) (c j) (λ r h. inr h) zero' (k.passed j (omega arith) p)
    ];
  }

  kept_look : {i : ℕ} {s t : Scan} → Kept o c from i s → c i < o.m → o.state (c i) ≡ 1 → Verdict o (c i) s t → Kept o c from (suc i) t
  kept_look {i} {s} k run e (closed p q) = subst (Kept o c from (suc i)) (sym q) (kept_same k (λ _. inr (inl (same_joined o s.taken p))))
  kept_look {i} {s} k run e (full d p q z h) =
      subst (Kept o c from (suc i)) (sym h) (kept_same k (λ _. inr (inr (z, stocked_fed o ok.bit s.taken (o.u (c i)) p, stocked_fed o ok.bit s.taken (o.v (c i)) q))))
  kept_look {i} {s} k run e (free d z h) =
      subst (Kept o c from (suc i)) (sym h) (kept_take s.spare k run e d (omega (arith, feds_one o ok (c i) s.taken run d)) (λ p. p))
  kept_look {i} {s} k run e (spends d p q l h) =
      subst (Kept o c from (suc i)) (sym h) (kept_take (s.spare - 1) k run e d (omega (arith, feds_one o ok (c i) s.taken run d)) (λ w. omega arith))

  pub kept : Runs o from.taken → Forest o from.taken → {i : ℕ} {s : Scan} → ((j : ℕ) → j < i → c j < o.m) → Goes o c from i s → Kept o c from i s
  kept runs forest all begin = record
      { runs = runs; forest = forest; spent = omega arith; more = λ r h. h; only = λ r h. inl h; passed = λ j l. absurd (omega arith) }
  kept runs forest all (pass g n) = kept_same (kept runs forest (λ j l. all j (omega arith)) g) (λ e. absurd (n e))
  kept runs forest all (look {i = i} g e v) = kept_look (kept runs forest (λ j l. all j (omega arith)) g) (all i (omega arith)) e v
