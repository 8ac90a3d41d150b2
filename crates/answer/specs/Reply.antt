-- What a reply says on paper, and the intersection of two count ranges.
use Rattle.std.specs.Prelude.{ℕ, min, max, Result, Ok, Err}
use Rattle.answer.specs.declared.Range.{Range}
use Rattle.answer.specs.declared.Counts.{Counts}
use Rattle.answer.specs.declared.Refusal.{Refusal}
use Rattle.answer.specs.declared.Refusal.TheVariants.{NoContents, WrongNumbers, WrongLayout, BadPlace, BadRun, RepeatedRun, LowAboveHigh, NoRoom, FixedLoop, NoSupply, NoSuchCount, NoAmendment, NarrowedToNone, NoWiring}

-- § 2.1: accepted, with the values that go with it, or refused, with a number and a place
pub data Reply (A : Type 0) : Type 0 where
  accepted : A → Reply A
  refused : ℕ → ℕ → Reply A

-- § 2.2: the number of a row of the table
abbrev pub number_of : Refusal → ℕ
number_of NoContents = 1
number_of WrongNumbers = 2
number_of WrongLayout = 3
number_of (BadPlace place) = 4
number_of (BadRun run) = 5
number_of (RepeatedRun run) = 6
number_of LowAboveHigh = 7
number_of NoRoom = 8
number_of (FixedLoop run) = 9
number_of (NoSupply place) = 10
number_of NoSuchCount = 11
number_of NoAmendment = 12
number_of NarrowedToNone = 13
number_of NoWiring = 14

-- § 2.1: its place, 0 where none is named
abbrev pub place_of : Refusal → ℕ
place_of NoContents = 0
place_of WrongNumbers = 0
place_of WrongLayout = 0
place_of (BadPlace place) = place
place_of (BadRun run) = run
place_of (RepeatedRun run) = run
place_of LowAboveHigh = 0
place_of NoRoom = 0
place_of (FixedLoop run) = run
place_of (NoSupply place) = place
place_of NoSuchCount = 0
place_of NoAmendment = 0
place_of NarrowedToNone = 0
place_of NoWiring = 0

-- the paper's reply for what the code returns: what an acceptance carries, by `says`, or the number and the place
abbrev pub replied : {A B : Type 0} → (A → B) → Result A Refusal → Reply B
replied says (Ok a) = accepted (says a)
replied says (Err e) = refused (number_of e) (place_of e)

-- § 2.1, § 4.5: an answer, which carries how many possible runs the last filtering struck, and pinned
abbrev pub told : Result Counts Refusal → Reply Counts
told = replied (λ c. c)

-- § 7.1: the counts that lie in both ranges
abbrev pub both : Range → Range → Range
both a b = record { low = max a.low b.low; high = min a.high b.high }
