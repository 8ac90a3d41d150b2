-- What is said from a word on, and what all words ask for, is one thing only.
use Rattle.std.specs.Prelude.{◌≡◌, ℕ, ◌+◌, Bool, true, List, Vec, Option, Some, None, Result, IsSomeAnd, slice_get, length, get_or, min, refl}
use Rattle.std.proofs.Common.{◌≢◌, sym, ap, ◌∙◌, inl, inr, subst, arith}
use Rattle.words.specs.declared.Meaning.{Meaning}
use Rattle.words.specs.declared.Meaning.TheVariants.{Amendment, File}
use Rattle.words.specs.declared.Keying.{Keying}
use Rattle.words.specs.declared.Nonsense.{Nonsense}
use Rattle.words.specs.Length.{words_in}
use Rattle.words.specs.Said.{IsWord, IsNumber, IsAmendment, IsFile, Means, AsksFrom, Asks}
use Rattle.words.specs.Said.AsksFrom.{ends, says_nothing, second_file, names_file, amends}

-- what two facts of an item say of it together
of_one : {A : Type 0} {P Q : A → Type 0} {R : Type 0} (o : Option A) → ((x : A) → P x → Q x → R) → IsSomeAnd o P → IsSomeAnd o Q → R
of_one None f p q = absurd p
of_one (Some x) f p q = f x p q

amendments_equal : (kind first second kind' first' second' : ℕ) → kind ≡ kind' → first ≡ first' → second ≡ second'
    → Amendment kind first second ≡ Amendment kind' first' second'
amendments_equal k f s k' f' s' a b c = cc

module _ {Z : Type 0} (words : List (Vec ℕ Z)) where
  -- one word has one first byte
  not_both : (k : ℕ) (u v : List ℕ) → get_or u 0 0 ≢ get_or v 0 0 → IsWord words k u → IsWord words k v → ⊥
  not_both k u v differ p q = of_one (slice_get words k) (λ word a b. differ (ap (λ w. get_or w 0 0) (sym a ∙ b))) p q

  number_one : (k m n : ℕ) → IsNumber words k m → IsNumber words k n → m ≡ n
  number_one k m n p q = of_one (slice_get words k) (λ word a b. cc) p q

  amendment_one : (i kind first second kind' first' second' : ℕ) → IsAmendment words i kind first second → IsAmendment words i kind' first' second'
      → Amendment kind first second ≡ Amendment kind' first' second'
  amendment_one i k f s k' f' s' (inl p) (inl q) = amendments_equal k f s k' f' s' (p.1 ∙ sym q.1) (number_one (i + 1) f f' p.2 q.2) (p.3 ∙ sym q.3)
  amendment_one i k f s k' f' s' (inl p) (inr (inl q)) = absurd (not_both i _ _ (omega arith) p.0 q.0)
  amendment_one i k f s k' f' s' (inl p) (inr (inr q)) = absurd (not_both i _ _ (omega arith) p.0 q.0)
  amendment_one i k f s k' f' s' (inr (inl p)) (inl q) = absurd (not_both i _ _ (omega arith) p.0 q.0)
  amendment_one i k f s k' f' s' (inr (inl p)) (inr (inl q)) =
      amendments_equal k f s k' f' s' (p.1 ∙ sym q.1) (number_one (i + 1) f f' p.2 q.2) (p.3 ∙ sym q.3)
  amendment_one i k f s k' f' s' (inr (inl p)) (inr (inr q)) = absurd (not_both i _ _ (omega arith) p.0 q.0)
  amendment_one i k f s k' f' s' (inr (inr p)) (inl q) = absurd (not_both i _ _ (omega arith) p.0 q.0)
  amendment_one i k f s k' f' s' (inr (inr p)) (inr (inl q)) = absurd (not_both i _ _ (omega arith) p.0 q.0)
  amendment_one i k f s k' f' s' (inr (inr p)) (inr (inr q)) =
      amendments_equal k f s k' f' s' (p.1 ∙ sym q.1) (number_one (i + 1) f f' p.2 q.2) (number_one (i + 2) s s' p.3 q.3)

  no_file : (i kind first second : ℕ) → IsAmendment words i kind first second → IsFile words i → ⊥
  no_file i k f s (inl p) q = not_both i _ _ (omega arith) p.0 q.0
  no_file i k f s (inr (inl p)) q = not_both i _ _ (omega arith) p.0 q.0
  no_file i k f s (inr (inr p)) q = not_both i _ _ (omega arith) p.0 q.0

pub means_one : {Z : Type 0} (words : List (Vec ℕ Z)) (i : ℕ) (a b : Option Meaning) → Means words i a → Means words i b → a ≡ b
means_one words i (Some (Amendment k f s)) (Some (Amendment k' f' s')) p q = ap Some (amendment_one words i k f s k' f' s' p q)
means_one words i (Some (Amendment k f s)) (Some File) p q = absurd (no_file words i k f s p q)
means_one words i (Some (Amendment k f s)) None p q = absurd (q.0 k f s p)
means_one words i (Some File) (Some (Amendment k f s)) p q = absurd (no_file words i k f s q p)
means_one words i (Some File) (Some File) p q = refl
means_one words i (Some File) None p q = absurd (q.1 p)
means_one words i None (Some (Amendment k f s)) p q = absurd (p.0 k f s q)
means_one words i None (Some File) p q = absurd (p.1 q)
means_one words i None None p q = refl

module _ {Z : Type 0} (words : List (Vec ℕ Z)) where
  -- two readings of one amendment go on at the same word
  onward : (i : ℕ) (file : Option ℕ) (a b : Option Meaning) (asked : Result Keying Nonsense) → Means words i a → Means words i b
      → AsksFrom words (min (i + words_in b) (length words)) true file asked → AsksFrom words (min (i + words_in a) (length words)) true file asked
  onward i file a b asked p q t =
      subst (λ (m : Option Meaning). AsksFrom words (min (i + words_in m) (length words)) true file asked) (means_one words i b a q p) t

  from_one : {i : ℕ} {amended : Bool} {file : Option ℕ} {a b : Result Keying Nonsense}
      → AsksFrom words i amended file a → AsksFrom words i amended file b → a ≡ b
  from_one (ends l) (ends m) = refl
  from_one (ends l) (says_nothing m q) = absurd (omega arith)
  from_one (ends l) (second_file m q g) = absurd (omega arith)
  from_one (ends l) (names_file m q t) = absurd (omega arith)
  from_one (ends l) (amends k f s m q t) = absurd (omega arith)
  from_one (says_nothing l p) (ends m) = absurd (omega arith)
  from_one (says_nothing l p) (says_nothing m q) = refl
  from_one (says_nothing l p) (second_file m q g) = refl
  from_one (says_nothing l p) (names_file m q t) = absurd (p.1 q)
  from_one (says_nothing l p) (amends k f s m q t) = absurd (p.0 k f s q)
  from_one (second_file l p g) (ends m) = absurd (omega arith)
  from_one (second_file l p g) (says_nothing m q) = refl
  from_one (second_file l p g) (second_file m q h) = refl
  from_one (second_file l p g) (names_file m q t) = absurd (g refl)
  from_one (second_file {i} l p g) (amends k f s m q t) = absurd (no_file words i k f s q p)
  from_one (names_file l p r) (ends m) = absurd (omega arith)
  from_one (names_file l p r) (says_nothing m q) = absurd (q.1 p)
  from_one (names_file l p r) (second_file m q h) = absurd (h refl)
  from_one (names_file l p r) (names_file m q t) = from_one r t
  from_one (names_file {i} l p r) (amends k f s m q t) = absurd (no_file words i k f s q p)
  from_one (amends k f s l p r) (ends m) = absurd (omega arith)
  from_one (amends k f s l p r) (says_nothing m q) = absurd (q.0 k f s p)
  from_one (amends {i} k f s l p r) (second_file m q h) = absurd (no_file words i k f s p q)
  from_one (amends {i} k f s l p r) (names_file m q t) = absurd (no_file words i k f s p q)
  from_one (amends {i} {file = file} k f s l p r) (amends {asked = b} k' f' s' m q t) =
      from_one r (onward i file (Some (Amendment k f s)) (Some (Amendment k' f' s')) b p q t)

pub asks_one : {Z : Type 0} (words : List (Vec ℕ Z)) (a b : Result Keying Nonsense) → Asks words a → Asks words b → a ≡ b
asks_one words a b p q = from_one words p q
