-- What keying a list of amendments is: calls of `amend`, each to the form that the call before it left.
use Rattle.std.specs.Prelude.{ℕ, List, [], ◌∷◌, ◌≡◌, length, take}
use Rattle.amend.specs.Amending.{written, Leaves}
use Rattle.answer.specs.declared.Counts.{Counts}
use Rattle.answer.specs.Reply.{accepted, refused}
use Rattle.answer.specs.Table.{Clears}
use Rattle.filter.specs.Filtered.{Lent, Left, Room}
use Rattle.layout.specs.Layout.{sizes, Fields}
use Rattle.layout.specs.Rows.{fields_of, sound_rows}
use Rattle.wirings.specs.Amendments.{Amendment, pin, strike, narrow}
use Rattle.wirings.specs.Confirmed.{Confirmed}
use Rattle.wirings.specs.OfForm.{order_of}
use Rattle.wirings.specs.Wiring.{Wiring}

-- § 4.1: a confirmed form, filtering it changes nothing and counts nothing
pub record SettledForm (g : Fields) (w : Wiring) (segment : ℕ → ℕ) : Type 0 where
  pub sound : Clears (sound_rows sizes g)
  pub confirmed : Confirmed (order_of g) (order_of g).state g.low g.high w segment 0 0

-- a call with the amendment's three numbers
abbrev pub Call : List ℕ → Amendment → Lent → Left → Type 0
Call s (pin r) lent left = Leaves s 1 r 0 lent left
Call s (strike r) lent left = Leaves s 2 r 0 lent left
Call s (narrow a b) lent left = Leaves s 3 a b lent left

-- a function that meets the contract of `amend` with these buffers, for the forms and the amendments that can be handed to it (of `amend` itself: lists of
-- bytes, and numbers of 16 bits); what it leaves in the form buffer can be handed in again
pub record Amender (lent : Lent) (Can : List ℕ → Type 0) (Said : Amendment → Type 0) (amend : List ℕ → Amendment → Left) : Type 0 where
  pub meets : (s : List ℕ) (a : Amendment) → Can s → Said a → Call s a lent (amend s a)
  pub again : (s : List ℕ) (a : Amendment) → Can s → Said a → Can (take (length s) (amend s a).lent.form)

abbrev pub AllOf : (Amendment → Type 0) → List Amendment → Type 0
AllOf P [] = Unit {0}
AllOf P (a ∷ L) = P a × AllOf P L

-- § 8.5: keyed in this order, each to the form that the call before it left, all are accepted; `left` is what the last call left of its buffers
pub data Accepts : List ℕ → List Amendment → Lent → Left → Type 0 where
  last : {s : List ℕ} (a : Amendment) (lent : Lent) (left : Left) {k : Counts} → Call s a lent left → left.reply ≡ accepted k → Accepts s (a ∷ []) lent left
  before : {s : List ℕ} (a : Amendment) {L : List Amendment} {lent : Lent} (lent' : Lent) {left : Left} (left' : Left) {k : Counts} → Call s a lent' left' → left'.reply ≡ accepted k
      → Accepts (take (length s) left'.lent.form) L lent left → Accepts s (a ∷ L) lent left

-- or one of them is refused, with buffers long enough
pub data MeetsRefusal : List ℕ → List Amendment → Type 0 where
  here : {s : List ℕ} (a : Amendment) {L : List Amendment} (lent : Lent) (left : Left) {i j : ℕ} → Room (fields_of sizes s) lent → Call s a lent left → left.reply ≡ refused i j → MeetsRefusal s (a ∷ L)
  later : {s : List ℕ} (a : Amendment) {L : List Amendment} (lent : Lent) (left : Left) {k : Counts} → Call s a lent left → left.reply ≡ accepted k
      → MeetsRefusal (take (length s) left.lent.form) L → MeetsRefusal s (a ∷ L)

-- § 8.5: all of them written in together
abbrev pub written_all : List Amendment → Fields → Fields
written_all [] g = g
written_all (a ∷ L) g = written_all L (written a g)
