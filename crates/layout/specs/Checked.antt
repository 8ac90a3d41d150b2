-- What the check of a form's fields answers, in the paper's terms.
use Rattle.std.specs.Prelude.{◌≡◌, Result}
use Rattle.answer.specs.Reply.{Reply, accepted, refused, replied}
use Rattle.answer.specs.Table.{Settled}
use Rattle.answer.specs.declared.Refusal.{Refusal}
use Rattle.layout.specs.Layout.{sizes, Fields}
use Rattle.layout.specs.Rows.{sound_rows}

-- the paper's number and place for each case
abbrev pub told : Result (Unit {0}) Refusal → Reply (Unit {0})
told = replied (λ t. t)

-- § 2.2: numbers 2 and 4 to 7, in their order
abbrev pub Checks : Fields → Result (Unit {0}) Refusal → Type 0
Checks f r = Settled refused (sound_rows sizes f) (λ s. s ≡ accepted tt) (told r)
