-- Amendments keyed one by one, filtering after each: which wirings are left, and that lists which the same wirings obey end alike.
use Rattle.std.specs.Prelude.{List, ◌↔◌}
use Rattle.wirings.specs.Alike.{Alike}
use Rattle.wirings.proofs.Alike.{alike_sym}
use Rattle.wirings.specs.Amendments.{Amendment, Obeys, ObeysAll}
use Rattle.wirings.proofs.Amendments.{amended_alike, amended_sound, amendment_cuts, obeys_all_as}
use Rattle.wirings.specs.Same.{Agree}
use Rattle.wirings.proofs.Same.{agree_self, same_confirmation}
use Rattle.wirings.specs.Standing.{Outcome, Stands}
use Rattle.wirings.proofs.Standing.{alike_trans, gives_stands, gives_agree}
use Rattle.wirings.specs.Wiring.{Wiring, Lawful}
use Rattle.wirings.specs.Keyed.{Keys, Keyed, done, then, SameOutcome}

-- ---- the lawful wirings at the end are those at the start that obey all amendments
keys_alike : {x y : Outcome} {a : Amendment} → Keys x a y → Alike x.form y.form
keys_alike {x} {a = a} k = alike_trans (amended_alike x.form a) k.gives.alike

module _ {x y : Outcome} {a : Amendment} (s : Stands x) (k : Keys x a y) where
  keys_stands : Stands y
  keys_stands = gives_stands (amended_sound x.form a s.sound) k.gives

  keys_wirings : (w : Wiring) → Lawful y.form w ↔ (Lawful x.form w × Obeys x.form w a)
  keys_wirings w =
      let c = amendment_cuts x.form w a k.well_formed k.no_clash in
      let g = gives_agree (amended_sound x.form a s.sound) k.gives in (λ h. c.0 (g.from w h), λ p. g.to w (c.1 p))

pub keyed_alike : {x y : Outcome} {L : List Amendment} → Keyed x L y → Alike x.form y.form
keyed_alike (done {x = x}) = (agree_self x.form).alike
keyed_alike (then k r) = alike_trans (keys_alike k) (keyed_alike r)

pub keyed_stands : {x y : Outcome} {L : List Amendment} → Stands x → Keyed x L y → Stands y
keyed_stands s done = s
keyed_stands s (then k r) = keyed_stands (keys_stands s k) r

pub keyed_wirings : {x y : Outcome} {L : List Amendment} → Stands x → Keyed x L y
    → (w : Wiring) → Lawful y.form w ↔ (Lawful x.form w × ObeysAll x.form w L)
keyed_wirings s done w = (λ h. (h, tt), λ p. p.0)
keyed_wirings s (then {L = L} k r) w =
    let c = keys_wirings s k w in let i = keyed_wirings (keys_stands s k) r w in let e = keys_alike k in (
      λ h. let q = c.0 (i.0 h).0 in (q.0, (q.1, obeys_all_as (alike_sym e) w L (i.0 h).1)),
      λ p. i.1 (c.1 (p.0, p.1.0), obeys_all_as e w L p.1.1),
    )

-- ---- where all are accepted, some lawful wiring obeys all
pub stops : {x y : Outcome} {L : List Amendment} → Stands x → Keyed x L y → (w : Wiring) × Lawful x.form w × ObeysAll x.form w L
stops {y = y} s k = let p = (keyed_wirings s k y.wiring).0 (keyed_stands s k).confirmed.first.lawful in (y.wiring, p.0, p.1)

same_outcome : {x y : Outcome} → Stands x → Stands y → Agree x.form y.form → SameOutcome x y
same_outcome {x} {y} s t a = record { agree = a; equal = same_confirmation x.form y.form s.sound t.sound a s.confirmed t.confirmed }

pub keyed_same : {x y z : Outcome} {L K : List Amendment} → Stands x → Keyed x L y → Keyed x K z → ((w : Wiring) → ObeysAll x.form w L ↔ ObeysAll x.form w K) → SameOutcome y z
keyed_same {x} s k j p = same_outcome (keyed_stands s k) (keyed_stands s j) (record {
  alike = alike_trans (alike_sym (keyed_alike k)) (keyed_alike j);
  to = λ w h. let q = (keyed_wirings s k w).0 h in (keyed_wirings s j w).1 (q.0, (p w).0 q.1);
  from = λ w h. let q = (keyed_wirings s j w).0 h in (keyed_wirings s k w).1 (q.0, (p w).1 q.1);
})
