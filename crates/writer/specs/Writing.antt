-- What the writer promises, in the paper's terms: its reply and every byte of the lent buffer.
use Rattle.std.specs.Prelude.{ℕ, List, ◌≡◌, length, Result}
use Rattle.answer.specs.Reply.{Reply, accepted, refused, replied}
use Rattle.answer.specs.declared.Refusal.{Refusal}
use Rattle.answer.specs.Table.{Settled}
use Rattle.layout.specs.Layout.{sizes, Fields, image, over}
use Rattle.layout.specs.Rows.{write_rows}

-- the paper's number and values for each case: the length of a written form
abbrev pub told : Result ℕ Refusal → Reply ℕ
told = replied (λ length. length)

-- what a call leaves: its reply, and the lent buffer
pub record Left : Type 0 where
  pub reply : Reply ℕ
  pub form : List ℕ

-- § 2.4: numbers 2 and 4 to 8 in their order, with the buffer as it was; else the image at its start, and the rest kept
abbrev pub Leaves : Fields → List ℕ → Left → Type 0
Leaves f before =
    Settled
    (λ number k. record { reply = refused number k; form = before })
    (write_rows sizes f (length before))
    (λ left. left ≡ record { reply = accepted (length (image sizes f)); form = over (image sizes f) before })

abbrev pub Writes : Fields → List ℕ → Result ℕ Refusal → List ℕ → Type 0
Writes f before r after = Leaves f before (record { reply = told r; form = after })
