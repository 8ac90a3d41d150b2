-- What words say, from one of them on.
use Rattle.std.specs.Prelude.{◌≡◌, ◌≢◌, ℕ, ◌+◌, ◌≤◌, ◌<◌, ◌⊎◌, min, Bool, true, false, List, length, codes, slice_get, Vec}
use Rattle.std.specs.Prelude.{Option, Some, None, IsSomeAnd, Result, Ok, Err}
use Rattle.text.specs.Numbers.{Says}
use Rattle.words.specs.declared.Meaning.{Meaning}
use Rattle.words.specs.declared.Meaning.TheVariants.{Amendment, File}
use Rattle.words.specs.declared.Keying.{Keying}
use Rattle.words.specs.declared.Nonsense.{Nonsense}
use Rattle.words.specs.Length.{words_in}

module _ {Z : Type 0} (words : List (Vec ℕ Z)) where
  -- word k is these bytes
  abbrev pub IsWord : ℕ → List ℕ → Type 0
  IsWord k bytes = IsSomeAnd (slice_get words k) (λ word. word.items ≡ bytes)

  -- word k says this number, in at most 4,096 bytes
  abbrev pub IsNumber : ℕ → ℕ → Type 0
  IsNumber k n = IsSomeAnd (slice_get words k) (λ word. (length word.items ≤ 4096) × Says word.items (Ok n))

  -- the number that word k says, or that it says none
  abbrev pub NumberAt : ℕ → Option ℕ → Type 0
  NumberAt k (Some n) = IsNumber k n
  NumberAt k None = (n : ℕ) → IsNumber k n → ⊥

  -- a kind of amendment and the number of its run in word k, or that word k says none
  abbrev pub RunAt : ℕ → ℕ → Option Meaning → Type 0
  RunAt kind k (Some (Amendment kind' first second)) = (kind' ≡ kind) × IsNumber k first × (second ≡ 0)
  RunAt kind k (Some File) = ⊥
  RunAt kind k None = (n : ℕ) → IsNumber k n → ⊥

  -- a narrowing by the numbers that word k and the word after it say, or that they do not both say one
  abbrev pub NarrowingAt : ℕ → Option Meaning → Type 0
  NarrowingAt k (Some (Amendment kind first second)) = (kind ≡ 3) × IsNumber k first × IsNumber (k + 1) second
  NarrowingAt k (Some File) = ⊥
  NarrowingAt k None = (low high : ℕ) → IsNumber k low → IsNumber (k + 1) high → ⊥

  -- an amendment from word i on: 'pin' or 'strike' and a run, or 'narrow' and two counts
  abbrev pub IsAmendment : ℕ → ℕ → ℕ → ℕ → Type 0
  IsAmendment i kind first second =
      (IsWord i (codes "pin") × (kind ≡ 1) × IsNumber (i + 1) first × (second ≡ 0))
      ⊎ (IsWord i (codes "strike") × (kind ≡ 2) × IsNumber (i + 1) first × (second ≡ 0))
      ⊎ (IsWord i (codes "narrow") × (kind ≡ 3) × IsNumber (i + 1) first × IsNumber (i + 2) second)

  -- '-o' and a file's name
  abbrev pub IsFile : ℕ → Type 0
  IsFile i = IsWord i (codes "-o") × (i + 1 < length words)

  -- what is said from word i on; nothing is said where it is no amendment and no file
  abbrev pub Means : ℕ → Option Meaning → Type 0
  Means i (Some (Amendment kind first second)) = IsAmendment i kind first second
  Means i (Some File) = IsFile i
  Means i None = ((kind first second : ℕ) → IsAmendment i kind first second → ⊥) × (IsFile i → ⊥)

-- What all words ask for, read from left to right: from word i on, where so far something was amended or not, and a file was named or not.
pub data AsksFrom {Z : Type 0} (words : List (Vec ℕ Z)) : ℕ → Bool → Option ℕ → Result Keying Nonsense → Type 0 where
  -- the words end
  ends : {i : ℕ} {amended : Bool} {file : Option ℕ} → length words ≤ i
      → AsksFrom words i amended file (Ok (record { amended = amended; file = file }))
  -- nothing is said here
  says_nothing : {i : ℕ} {amended : Bool} {file : Option ℕ} → i < length words → Means words i None
      → AsksFrom words i amended file (Err (record { word = i }))
  -- a second file is named here
  second_file : {i : ℕ} {amended : Bool} {file : Option ℕ} → i < length words → Means words i (Some File) → file ≢ None
      → AsksFrom words i amended file (Err (record { word = i }))
  -- a file is named here
  names_file : {i : ℕ} {amended : Bool} {asked : Result Keying Nonsense} → i < length words → Means words i (Some File)
      → AsksFrom words (min (i + words_in (Some File)) (length words)) amended (Some (i + 1)) asked → AsksFrom words i amended None asked
  -- something is amended here
  amends : {i : ℕ} {amended : Bool} {file : Option ℕ} {asked : Result Keying Nonsense} (kind first second : ℕ) → i < length words
      → Means words i (Some (Amendment kind first second))
      → AsksFrom words (min (i + words_in (Some (Amendment kind first second))) (length words)) true file asked → AsksFrom words i amended file asked

-- word 0 is the program's own name
abbrev pub Asks : {Z : Type 0} → List (Vec ℕ Z) → Result Keying Nonsense → Type 0
Asks words asked = AsksFrom words 1 false None asked
