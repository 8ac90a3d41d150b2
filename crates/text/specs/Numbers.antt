-- § 9.2: the numbers that words say, in decimal digits.
use Rattle.std.specs.Prelude.{ℕ, zero, suc, ◌+◌, ◌-◌, ◌*◌, ◌≤◌, ◌<◌, List, ◌≡◌, length, slice_index, Result, Ok, Err}
use Rattle.text.specs.declared.NotANumber.{NotANumber}
use Rattle.text.specs.declared.NotANumber.TheVariants.{NotDigits, Above}

-- one digit or more, and nothing else
pub record Digits (s : List ℕ) : Type 0 where
  pub some : 0 < length s
  pub low : (k : ℕ) → k < length s → 48 ≤ slice_index s k
  pub high : (k : ℕ) → k < length s → slice_index s k ≤ 57

-- the number that the first k digits say: the first counts most
unfoldable pub said : List ℕ → ℕ → ℕ
said s zero = 0
said s (suc k) = 10 * said s k + (slice_index s k - 48)

-- a number up to 65,535, one above it, or none
abbrev pub Says : List ℕ → Result ℕ NotANumber → Type 0
Says s (Ok v) = Digits s × (v ≡ said s (length s)) × (v ≤ 65535)
Says s (Err Above) = Digits s × (65535 < said s (length s))
Says s (Err NotDigits) = Digits s → ⊥
