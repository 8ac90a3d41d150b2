-- § 9.1 and § 9.3: what a line says, or which of its words is wrong.
use Rattle.std.specs.Prelude.{ℕ, ◌+◌, true, false, List, ◌≡◌, length, slice_index, codes, Result, Ok, Err}
use Rattle.text.specs.declared.NotANumber.{NotANumber}
use Rattle.text.specs.declared.NotANumber.TheVariants.{NotDigits as NoDecimal, Above as TooLarge}
use Rattle.text.specs.Numbers.{Says}
use Rattle.text.specs.Words.{Word}
use Rattle.items.specs.declared.Fault.{Fault}
use Rattle.items.specs.declared.Fault.TheVariants.{NotAnItem, NoNumber, NotDigits, Above, NoState, NotAState, OneTooMany}
use Rattle.items.specs.declared.Item.{Item}
use Rattle.items.specs.declared.Item.TheVariants.{Nothing, Place, Run, Count}
use Rattle.items.specs.declared.Wrong.{Wrong}

-- ---- how answers are told apart
-- this answer
abbrev pub Only : {R : Type 0} → R → R → Type 0
Only a r = r ≡ a

-- where P holds what A allows, else what B allows
pub data If {R : Type 0} (P : Type 0) (A B : R → Type 0) (r : R) : Type 0 where
  so : P → A r → If P A B r
  otherwise : (P → ⊥) → B r → If P A B r

-- what K allows for the one that W allows
pub record With {A R : Type 0} (W : A → Type 0) (K : A → R → Type 0) (r : R) : Type 0 where
  pub found : A
  pub meets : W found
  pub gives : K found r

-- this fault of word k
abbrev pub wrong : {A : Type 0} → ℕ → Fault → Result A Wrong
wrong k f = Err (record { word = k; fault = f })

-- ---- a word that is to be a number
abbrev pub fault_of : NotANumber → Fault
fault_of TooLarge = Above
fault_of NoDecimal = NotDigits

abbrev pub value_of : Result ℕ NotANumber → Result ℕ Fault
value_of (Ok v) = Ok v
value_of (Err e) = Err (fault_of e)

abbrev pub NumberIn : List ℕ → Result ℕ Fault → Type 0
NumberIn w = If (length w ≡ 0) (Only (Err NoNumber)) (With (Says w) (λ d. Only (value_of d)))

-- ---- a word that is to be a state: its number on file (§ 1.3)
abbrev pub StateIn : List ℕ → Result ℕ Fault → Type 0
StateIn w =
    If (length w ≡ 0) (Only (Err NoState))
    (If (w ≡ codes "struck") (Only (Ok 0))
    (If (w ≡ codes "possible") (Only (Ok 1))
    (If (w ≡ codes "fixed") (Only (Ok 2))
    (Only (Err NotAState)))))

-- ---- the numbers after a line's first word: its second and third
abbrev pub PairWith : ℕ → Result ℕ Fault → Result (ℕ × ℕ) Wrong → Type 0
PairWith a (Ok b) = Only (Ok (a, b))
PairWith a (Err f) = Only (wrong 3 f)

abbrev pub PairFrom : List ℕ → Result ℕ Fault → Result (ℕ × ℕ) Wrong → Type 0
PairFrom s (Ok a) = With (Word s 2) (λ w. With (NumberIn w) (PairWith a))
PairFrom s (Err f) = Only (wrong 2 f)

abbrev pub PairIn : List ℕ → Result (ℕ × ℕ) Wrong → Type 0
PairIn s = With (Word s 1) (λ w. With (NumberIn w) (PairFrom s))

-- ---- an item that takes k words, if the line has no more
abbrev pub Whole : List ℕ → ℕ → Item → Result Item Wrong → Type 0
Whole s k item = With (Word s k) (λ w. If (length w ≡ 0) (Only (Ok item)) (Only (wrong (k + 1) OneTooMany)))

-- ---- a run: its ends, and its state
abbrev pub RunWith : List ℕ → ℕ → ℕ → Result ℕ Fault → Result Item Wrong → Type 0
RunWith s u v (Ok t) = Whole s 4 (Run u v t)
RunWith s u v (Err f) = Only (wrong 4 f)

abbrev pub RunFrom : List ℕ → Result (ℕ × ℕ) Wrong → Result Item Wrong → Type 0
RunFrom s (Ok (u, v)) = With (Word s 3) (λ w. With (StateIn w) (RunWith s u v))
RunFrom s (Err e) = Only (Err e)

abbrev pub RunIn : List ℕ → Result Item Wrong → Type 0
RunIn s = With (PairIn s) (RunFrom s)

-- ---- line four
abbrev pub CountFrom : List ℕ → Result (ℕ × ℕ) Wrong → Result Item Wrong → Type 0
CountFrom s (Ok (low, high)) = Whole s 3 (Count (record { low = low; high = high }))
CountFrom s (Err e) = Only (Err e)

abbrev pub CountIn : List ℕ → Result Item Wrong → Type 0
CountIn s = With (PairIn s) (CountFrom s)

-- ---- a line: by its first word, which begins a comment with #, 35
abbrev pub ItemIn : List ℕ → List ℕ → Result Item Wrong → Type 0
ItemIn s w =
    If (length w ≡ 0) (Only (Ok Nothing))
    (If (slice_index w 0 ≡ 35) (Only (Ok Nothing))
    (If (w ≡ codes "place") (Whole s 1 (Place false))
    (If (w ≡ codes "supply") (Whole s 1 (Place true))
    (If (w ≡ codes "run") (RunIn s)
    (If (w ≡ codes "count") (CountIn s)
    (Only (wrong 1 NotAnItem)))))))

abbrev pub Reads : List ℕ → Result Item Wrong → Type 0
Reads s = With (Word s 0) (ItemIn s)
