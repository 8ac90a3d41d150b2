-- How the check of the fields, the look at the buffer and the copying settle what the writer leaves; and that nothing else is allowed.
use Rattle.std.specs.Prelude.{ℕ, ◌+◌, ◌*◌, ◌≤◌, List, [], ◌++◌, ◌≡◌, refl, length, Result, Ok, Err}
use Rattle.std.proofs.Common.{sym, ap, ap₂, ◌∙◌}
use Rattle.answer.specs.Laws.{not_refused, replied_one, settled_one, refuses, passes, ends, onward, cleared}
use Rattle.answer.specs.Reply.{Reply, accepted, refused, number_of, place_of}
use Rattle.answer.specs.Table.{Clears}
use Rattle.layout.specs.Checked.{told as checked, Checks}
use Rattle.answer.specs.declared.Refusal.{Refusal}
use Rattle.layout.specs.Layout.{sizes, line_at, runs_in, Fields, length_for, line_four_bytes, image, over, over_at}
use Rattle.layout.proofs.Image.{head, up_to_runs, up_to_line, over_more}
use Rattle.layout.specs.Rows.{sound_rows}
use Rattle.writer.specs.Writing.{told, Left, Leaves, Writes}

-- ---- the three ways out
pub unsound : (f : Fields) (before : List ℕ) {r : Result (Unit {0}) Refusal} {e : Refusal} → Checks f r → r ≡ Err e
    → Leaves f before (record { reply = refused (number_of e) (place_of e); form = before })
unsound f before p e =
    onward p (λ number k h. ap (λ (x : Reply (Unit {0})). left x) (sym (ap checked e) ∙ h)) (λ a. absurd (not_refused (sym a ∙ ap checked e)))
  where
    left : Reply (Unit {0}) → Left
    left (accepted a) = record { reply = accepted 0; form = before }
    left (refused i j) = record { reply = refused i j; form = before }

module _ (f : Fields) (before : List ℕ) {r : Result (Unit {0}) Refusal} (p : Checks f r) (e : r ≡ Ok tt) where
  pub sound : Clears (sound_rows sizes f)
  sound = (cleared p (λ number k h. not_refused (sym (ap checked e) ∙ h))).0

  pub too_short : (length_for sizes f ≤ length before → ⊥) → Leaves f before (record { reply = refused 8 0; form = before })
  too_short h = onward p (λ number k g. absurd (not_refused (sym (ap checked e) ∙ g))) (λ _. refuses h)

  pub written : {left : Left} → length_for sizes f ≤ length before → left ≡ record { reply = accepted (length (image sizes f)); form = over (image sizes f) before } → Leaves f before left
  written fits same = onward p (λ number k g. absurd (not_refused (sym (ap checked e) ∙ g))) (λ _. passes fits (ends same))

-- ---- writing one part after the other
-- the four parts, one after the other, are the image at the start of the buffer
module _ (f : Fields) (wholes : length f.runs ≡ 5 * runs_in sizes f.runs) where
  pub four_parts : (before : List ℕ) {b₁ b₂ b₃ b₄ : List ℕ} (h l : List ℕ) (line : ℕ) → h ≡ head f → l ≡ line_four_bytes f.low f.high
      → line ≡ line_at sizes (length f.places) (runs_in sizes f.runs)
      → b₁ ≡ over_at 0 h before → b₂ ≡ over_at 20 f.places b₁ → b₃ ≡ over_at (20 + length f.places) f.runs b₂ → b₄ ≡ over_at line l b₃
      → b₄ ≡ over (image sizes f) before
  four_parts before {b₁} {b₂} {b₃} {b₄} h l line eh el at e₁ e₂ e₃ e₄ =
      e₄ ∙ ap₂ (λ (x b : List ℕ). over_at line x b) el third
      ∙ over_more (head f ++ f.places ++ f.runs) (line_four_bytes f.low f.high) before line (up_to_line f wholes ∙ sym at)
    where
      first : b₁ ≡ over (head f) before
      first = e₁ ∙ ap (λ (x : List ℕ). over_at 0 x before) eh ∙ over_more [] (head f) before 0 refl

      second : b₂ ≡ over (head f ++ f.places) before
      second = e₂ ∙ ap (λ (b : List ℕ). over_at 20 f.places b) first ∙ over_more (head f) f.places before 20 refl

      third : b₃ ≡ over (head f ++ f.places ++ f.runs) before
      third =
          e₃ ∙ ap (λ (b : List ℕ). over_at (20 + length f.places) f.runs b) second
          ∙ over_more (head f ++ f.places) f.runs before (20 + length f.places) (up_to_runs f)

-- ---- any two outcomes of a call are equal, the reply and every byte
told_one : (a b : Result ℕ Refusal) → told a ≡ told b → a ≡ b
told_one = replied_one (λ x y e. e)

pub writes_one : (f : Fields) (before : List ℕ) (a b : Result ℕ Refusal) (x y : List ℕ) → Writes f before a x → Writes f before b y → (a ≡ b) × (x ≡ y)
writes_one f before a b x y p q =
    let same = settled_one (λ r s h k. h ∙ sym k) p q in
    (told_one a b (ap (λ (l : Left). l.reply) same), ap (λ (l : Left). l.form) same)
