-- § 9.2: the words of a line, largest parts without blanks, counted from 0.
use Rattle.std.specs.Prelude.{ℕ, suc, ◌-◌, ◌≤◌, ◌<◌, Bool, true, false, ◌||◌, ◌==◌, List, ◌≡◌, length, slice_index, take, drop}

-- a space or a tab
abbrev pub is_blank : ℕ → Bool
is_blank b = (b == 32) || (b == 9)

-- r is the first place from `from` on whose byte is no blank (over blanks), or is one (over all but blanks); or the end
pub record Reaches (over : Bool) (s : List ℕ) (from r : ℕ) : Type 0 where
  pub on : from ≤ r
  pub within : r ≤ length s
  pub before : (j : ℕ) → from ≤ j → j < r → is_blank (slice_index s j) ≡ over
  pub found : r < length s → is_blank (slice_index s r) ≡ over → ⊥

-- word k starts at a; where there are fewer words, a is the line's end
pub data Starts (s : List ℕ) : ℕ → ℕ → Type 0 where
  first : {a : ℕ} → Reaches true s 0 a → Starts s 0 a
  next : {k a e b : ℕ} → Starts s k a → Reaches false s a e → Reaches true s e b → Starts s (suc k) b

-- w is word k, from its start up to the next blank; it is empty where there are fewer words
pub record Word (s : List ℕ) (k : ℕ) (w : List ℕ) : Type 0 where
  pub start : ℕ
  pub end : ℕ
  pub starts : Starts s k start
  pub ends : Reaches false s start end
  pub is : w ≡ take (end - start) (drop start s)
