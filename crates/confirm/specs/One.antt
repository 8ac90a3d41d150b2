-- The verdict on a form's fields is one; where it is sound, so are the marks and the wiring of the form's runs, the segment numbers of its places, line
-- four and the counts.
use Rattle.std.specs.Prelude.{◌≡◌, refl, Result, Ok, Err}
use Rattle.std.proofs.Common.{sym, ap, ◌∙◌}
use Rattle.answer.specs.Laws.{not_refused, refusal_one, refused_one, settled_one}
use Rattle.answer.specs.Table.{Clears}
use Rattle.confirm.specs.Concluded.{Confirms}
use Rattle.answer.specs.declared.Refusal.{Refusal}
use Rattle.confirm.specs.declared.Confirmation.{Confirmation}
use Rattle.layout.specs.Layout.{sizes, Fields}
use Rattle.layout.specs.Rows.{sound_rows}
use Rattle.pieces.specs.Holds.{at}
use Rattle.wirings.specs.Chosen.{flagged}
use Rattle.wirings.specs.OfForm.{order_of, order_sound}
use Rattle.wirings.specs.Same.{Equal}
use Rattle.wirings.proofs.Same.{confirmed_one}

-- the verdict on 9 to 11 alone
abbrev pub verdict : Result Confirmation Refusal → Result (Unit {0}) Refusal
verdict (Ok c) = Ok tt
verdict (Err e) = Err e

module _ (f : Fields) (sound : Clears (sound_rows sizes f)) where
  pub verdict_one : (r r' : Result Confirmation Refusal) → Confirms f r → Confirms f r' → verdict r ≡ verdict r'
  verdict_one (Ok c) (Ok d) x y = refl
  verdict_one (Ok c) (Err e) x y = absurd (not_refused (settled_one (λ r s h k. h ∙ sym k) x.settles y.settles))
  verdict_one (Err e) (Ok c) x y = absurd (not_refused (settled_one (λ r s h k. h ∙ sym k) y.settles x.settles))
  verdict_one (Err e) (Err e') x y = let same = refused_one (settled_one (λ r s h k. h ∙ sym k) x.settles y.settles) in ap Err (refusal_one e e' same.0 same.1)

  pub confirms_one : {c c' : Confirmation} → Confirms f (Ok c) → Confirms f (Ok c')
      → Equal (order_of f) (at c.marks) (at c'.marks) c.line.low c'.line.low c.line.high c'.line.high (flagged c.used) (flagged c'.used) (at c.segments) (at c'.segments)
      × (c.counts.struck ≡ c'.counts.struck) × (c.counts.pinned ≡ c'.counts.pinned)
  confirms_one x y = confirmed_one (order_of f) (order_sound f sound) x.confirmed y.confirmed
