-- Any two words, and any two numbers, that the contracts allow are equal.
use Rattle.std.specs.Prelude.{ℕ, ◌-◌, ◌<◌, Bool, List, ◌≡◌, refl, take, drop, Result, Ok, Err}
use Rattle.std.proofs.Common.{sym, ap, ap₂, ◌∙◌, arith}
use Rattle.std.proofs.Math.Decide.{dec_lt}
use Rattle.text.specs.declared.NotANumber.{NotANumber}
use Rattle.text.specs.declared.NotANumber.TheVariants.{NotDigits, Above}
use Rattle.text.specs.Numbers.{Says}
use Rattle.text.specs.Words.{Reaches, Starts, first, next, Word}

module _ {over : Bool} {s : List ℕ} {from a b : ℕ} (p : Reaches over s from a) (q : Reaches over s from b) where
  not_before : a < b → ⊥
  not_before l = p.found (omega (arith, q.within)) (q.before a p.on l)

pub reaches_one : {over : Bool} {s : List ℕ} {from a b : ℕ} → Reaches over s from a → Reaches over s from b → a ≡ b
reaches_one {a = a} {b = b} p q =
    elim (dec_lt a b) [
      | yes l ↦ absurd (not_before p q l)
      | no nl ↦ elim (dec_lt b a) [ yes l ↦ absurd (not_before q p l) | no nr ↦ omega arith ]
    ]

-- from the same place one gets to the same place
onward : {over : Bool} {s : List ℕ} {from to a b : ℕ} → from ≡ to → Reaches over s from a → Reaches over s to b → a ≡ b
onward e p q = reaches_one p (rw e q)

pub starts_one : {s : List ℕ} {k a b : ℕ} → Starts s k a → Starts s k b → a ≡ b
starts_one (first p) (first q) = reaches_one p q
starts_one (next g p t) (next h q u) = onward (onward (starts_one g h) p q) t u

pub word_one : {s : List ℕ} {k : ℕ} {v w : List ℕ} → Word s k v → Word s k w → v ≡ w
word_one {s} p q =
    let a = starts_one p.starts q.starts in
    let e = onward a p.ends q.ends in
    p.is ∙ ap₂ (λ (x y : ℕ). take (y - x) (drop x s)) a e ∙ sym q.is

pub says_one : (s : List ℕ) (x y : Result ℕ NotANumber) → Says s x → Says s y → x ≡ y
says_one s (Ok v) (Ok w) p q = ap Ok (p.1 ∙ sym q.1)
says_one s (Ok v) (Err Above) p q = absurd (omega arith)
says_one s (Ok v) (Err NotDigits) p q = absurd (q p.0)
says_one s (Err Above) (Ok w) p q = absurd (omega arith)
says_one s (Err Above) (Err Above) p q = refl
says_one s (Err Above) (Err NotDigits) p q = absurd (q p.0)
says_one s (Err NotDigits) (Ok w) p q = absurd (p q.0)
says_one s (Err NotDigits) (Err Above) p q = absurd (p q.0)
says_one s (Err NotDigits) (Err NotDigits) p q = refl
