-- A scan ends in one way: so do the runs it takes, and the labels they give.
use Rattle.std.specs.Prelude.{ℕ, ◌≤◌, ◌<◌, List, ◌≡◌, refl, get_or}
use Rattle.std.proofs.Common.{sym, subst, ◌∙◌, ltb-true, lt-ltb, arith}
use Rattle.std.proofs.Math.Decide.{dec_lt}
use Rattle.pieces.specs.Holds.{Holds}
use Rattle.pieces.specs.One.{holds_one}
use Rattle.scan.specs.Scans.{Scanned, Flags}
use Rattle.wirings.specs.Labels.{In, label}
use Rattle.wirings.specs.Scan.{Scan, Verdict, closed, full, free, spends, Goes, begin, pass, look}
use Rattle.wirings.specs.Wiring.{Order}

verdict_one : {o : Order} {r : ℕ} {s t q : Scan} → Verdict o r s t → Verdict o r s q → t ≡ q
verdict_one (closed p a) (closed q b) = a ∙ sym b
verdict_one (closed p a) (full n x y z b) = absurd (n p)
verdict_one (closed p a) (free n x b) = absurd (n p)
verdict_one (closed p a) (spends n x y z b) = absurd (n p)
verdict_one (full n x y z a) (closed q b) = absurd (n q)
verdict_one (full n x y z a) (full m u v w b) = a ∙ sym b
verdict_one (full n x y z a) (free m u b) = absurd (omega arith)
verdict_one (full n x y z a) (spends m u v w b) = absurd (omega arith)
verdict_one (free n x a) (closed q b) = absurd (n q)
verdict_one (free n x a) (full m u v w b) = absurd (omega arith)
verdict_one (free n x a) (free m u b) = a ∙ sym b
verdict_one (free n x a) (spends m u v w b) = absurd (omega arith)
verdict_one (spends n x y z a) (closed q b) = absurd (n q)
verdict_one (spends n x y z a) (full m u v w b) = absurd (omega arith)
verdict_one (spends n x y z a) (free m u b) = absurd (omega arith)
verdict_one (spends n x y z a) (spends m u v w b) = a ∙ sym b

goes_one : {o : Order} {c : ℕ → ℕ} {from : Scan} {i : ℕ} {s t : Scan} → Goes o c from i s → Goes o c from i t → s ≡ t
goes_one begin begin = refl
goes_one (pass g n) (pass h m) = goes_one g h
goes_one (pass g n) (look h e v) = absurd (n e)
goes_one (look g e v) (pass h n) = absurd (n e)
goes_one {o} {c} (look {i = i} g e v) (look {t = t} h f w) = verdict_one v (subst (λ (s : Scan). Verdict o (c i) s t) (sym (goes_one g h)) w)

-- a byte of 0 or 1 is known by whether it flags its run
byte_one : (a b : List ℕ) (r : ℕ) → get_or a r 0 ≤ 1 → get_or b r 0 ≤ 1 → (0 < get_or a r 0 → 0 < get_or b r 0) → (0 < get_or b r 0 → 0 < get_or a r 0) → get_or a r 0 ≡ get_or b r 0
byte_one a b r x y to from =
    elim (dec_lt 0 (get_or a r 0)) [ yes l ↦ omega (arith, to l) | no n ↦ elim (dec_lt 0 (get_or b r 0)) [ yes l ↦ absurd (n (from l)) | no m ↦ omega arith ] ]

pub flags_one : {states : List ℕ} {k : ℕ} {a b : List ℕ} → Flags states k a → Flags states k b → (r : ℕ) → get_or a r 0 ≡ get_or b r 0
flags_one {a = a} {b} f g r = byte_one a b r (f.bits r) (g.bits r) (λ l. let (i, e) = f.only r l in g.all r i e) (λ l. let (i, e) = g.only r l in f.all r i e)

-- of two scans of one order: the bytes of its runs, and every label
pub scans_one : {o : Order} {spare : ℕ} {a b labels others : List ℕ} → Scanned o spare a labels → Scanned o spare b others → ((r : ℕ) → r < o.m → get_or a r 0 ≡ get_or b r 0) × (labels ≡ others)
scans_one {o} {a = a} {b} {labels} {others} x y = let e = goes_one x.goes y.goes in (
  λ r l. byte_one a b r (x.bits r) (y.bits r)
      (λ p. ltb-true 0 (get_or b r 0) (y.names.all r (subst (λ (s : Scan). In s.taken r) e (x.names.only r l (lt-ltb 0 (get_or a r 0) p)))))
      (λ p. ltb-true 0 (get_or a r 0) (x.names.all r (subst (λ (s : Scan). In s.taken r) (sym e) (y.names.only r l (lt-ltb 0 (get_or b r 0) p))))),
  holds_one (subst (λ (s : Scan). Holds (label o s.taken) labels) e x.holds) y.holds,
)
