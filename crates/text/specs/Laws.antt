-- Going over a line and over digits, a byte at a time; and that each contract settles what comes out.
use Rattle.std.specs.Prelude.{ℕ, ◌+◌, ◌-◌, ◌*◌, ◌≤◌, ◌<◌, min, true, false, List, ◌≡◌, length, get_or, take, drop}
use Rattle.std.proofs.Math.Path.{refl}
use Rattle.std.proofs.Common.{below_more, add-one, arith}
use Rattle.text.specs.Numbers.{Digits, said}
use Rattle.text.specs.Words.{Reaches, Starts, next, Word}

-- ---- the first k bytes are digits, and v is the number that they say, or 65,536 where that is larger
pub record Saying (s : List ℕ) (k v : ℕ) : Type 0 where
  pub within : k ≤ length s
  pub low : (j : ℕ) → j < k → 48 ≤ get_or s j 0
  pub high : (j : ℕ) → j < k → get_or s j 0 ≤ 57
  pub is : v ≡ min 65536 (said s k)

pub said_more : (s : List ℕ) (k : ℕ) → said s (k + 1) ≡ 10 * said s k + (get_or s k 0 - 48)
unfolding said
said_more s k = rw add-one

module _ {s : List ℕ} where
  pub saying_none : Saying s 0 0
  unfolding said
  saying_none = record { within = omega arith; low = λ j l. absurd (omega arith); high = λ j l. absurd (omega arith); is = refl }

  pub saying_more : {k v w : ℕ} → Saying s k v → k < length s → 48 ≤ get_or s k 0 → get_or s k 0 ≤ 57
      → w ≡ min 65536 (10 * v + (get_or s k 0 - 48)) → Saying s (k + 1) w
  saying_more {k} {v} {w} g l a b e = record {
    within = omega arith;
    low = below_more (λ j. 48 ≤ get_or s j 0) k g.low a;
    high = below_more (λ j. get_or s j 0 ≤ 57) k g.high b;
    is = omega (arith, g.is, said_more s k);
  }

  pub digits : {v : ℕ} → 0 < length s → Saying s (length s) v → Digits s
  digits l g = record { some = l; low = g.low; high = g.high }

  -- at the end of the word, what stands for its number
  pub said_all : {k v : ℕ} → Saying s k v → length s ≤ k → Saying s (length s) v
  said_all {k} g l = let e : k ≡ length s = omega (arith, g.within) in rw e at g

  pub says_above : {k v : ℕ} → 0 < length s → Saying s k v → length s ≤ k → 65535 < v → Digits s × (65535 < said s (length s))
  says_above l g e h = let a = said_all g e in (digits l a, omega (arith, a.is))

  pub says_is : {k v : ℕ} → 0 < length s → Saying s k v → length s ≤ k → v ≤ 65535 → Digits s × (v ≡ said s (length s)) × (v ≤ 65535)
  says_is l g e h = let a = said_all g e in (digits l a, omega (arith, a.is), h)

-- ---- from word to word
pub one_on : {s : List ℕ} {k a e b : ℕ} → Starts s k a → Reaches false s a e → Reaches true s e b → Starts s (k + 1) b
one_on g h l = rw add-one (next g h l)

pub word_at : {s : List ℕ} {i k a e : ℕ} → Starts s i a → i ≤ k → k ≤ i → Reaches false s a e → Word s k (take (e - a) (drop a s))
word_at {s} {i} {k} {a} {e} g h l r = record {
  start = a;
  end = e;
  starts = let same : i ≡ k = omega arith in rw same at g;
  ends = r;
  is = refl;
}
