-- Laws of the table of refusals: how code that goes through the rows settles an outcome, and that any two outcomes are equal.
use Rattle.std.specs.Prelude.{ℕ, ◌+◌, ◌≤◌, ◌<◌, eqb, Bool, true, false, cond, List, [], ◌∷◌, ◌++◌, ◌⊎◌, ◌≡◌, refl, Option, Some, None, Result, Ok, Err, IsErrAnd}
use Rattle.std.proofs.lemmas.Bool.{leb-true, leb-false, ltb-true, ltb-false}
use Rattle.std.proofs.Math.Dec.{leb, ltb}
use Rattle.std.proofs.lemmas.Result.{err_from_is_err_and}
use Rattle.std.proofs.Common.{inl, inr, ⊎_elim, sym, ◌∙◌, ap, ap₂, below_more, le_refl, arith}
use Rattle.std.proofs.Math.Decide.{dec_lt}
use Rattle.answer.specs.Reply.{Reply, accepted, refused, number_of, place_of, replied}
use Rattle.answer.specs.declared.Refusal.{Refusal}
use Rattle.answer.specs.declared.Refusal.TheVariants.{NoContents, WrongNumbers, WrongLayout, BadPlace, BadRun, RepeatedRun, LowAboveHigh, NoRoom, FixedLoop, NoSupply, NoSuchCount, NoAmendment, NarrowedToNone, NoWiring}
use Rattle.answer.specs.Table.{First, Finds, Going, Row, each, whole, Clears, Outcome, Refuses, Settled, Decides, holds, fails}

-- ---- an acceptance is no refusal, and a refusal is the same beside values of any kind
pub not_refused : {A : Type 0} {a : A} {n k : ℕ} → ◌≡◌ {A = Reply A} (accepted a) (refused n k) → ⊥
not_refused e = let z : ◌≡◌ {A = ℕ} 0 1 = cc in omega arith

pub accepted_one : {A : Type 0} {a b : A} → ◌≡◌ {A = Reply A} (accepted a) (accepted b) → a ≡ b
accepted_one e = cc

pub as_refused : {A B : Type 0} {i j n k : ℕ} → ◌≡◌ {A = Reply A} (refused i j) (refused n k) → ◌≡◌ {A = Reply B} (refused i j) (refused n k)
as_refused e = cc

-- ---- what a test showed
pub decided : {P : Type 0} {b : Bool} → Decides P b → b ≡ true → P
decided (holds p) e = p
decided (fails n) e = let z : ◌≡◌ {A = ℕ} 0 1 = cc in absurd (omega arith)

pub denied : {P : Type 0} {b : Bool} → Decides P b → b ≡ false → P → ⊥
denied (fails n) e p = n p
denied (holds q) e p = let z : ◌≡◌ {A = ℕ} 0 1 = cc in omega arith

pub decides_one : {P : Type 0} {a b : Bool} → Decides P a → Decides P b → a ≡ b
decides_one (holds p) (holds q) = refl
decides_one (holds p) (fails n) = absurd (n p)
decides_one (fails n) (holds q) = absurd (n q)
decides_one (fails n) (fails m) = refl

-- a comparison decides a fact that holds just where it does
pub decides_le : {P : Type 0} (a b : ℕ) → (a ≤ b → P) → (P → a ≤ b) → Decides P (leb a b)
decides_le {P} a b to from = go (leb a b) refl
  where
    go : (t : Bool) → leb a b ≡ t → Decides P t
    go true e = holds (to (leb-true a b e))
    go false e = fails (λ p. let l = from p in let g = leb-false a b e in absurd (omega arith))

pub decides_lt : {P : Type 0} (a b : ℕ) → (a < b → P) → (P → a < b) → Decides P (ltb a b)
decides_lt {P} a b to from = go (ltb a b) refl
  where
    go : (t : Bool) → ltb a b ≡ t → Decides P t
    go true e = holds (to (ltb-true a b e))
    go false e = fails (λ p. let l = from p in let g = ltb-false a b e in absurd (omega arith))

-- ---- a search: where it starts, goes on, stops and ends
pub going_none : {good : ℕ → Type 0} {n : ℕ} → Going good n 0
going_none = record { within = omega arith; before = λ j l. absurd (omega arith) }

pub going_more : {good : ℕ → Type 0} {n k : ℕ} → Going good n k → k < n → good k → Going good n (k + 1)
going_more {good} {k = k} g l h = record { within = omega arith; before = below_more good k g.before h }

pub found_here : {good : ℕ → Type 0} {n k : ℕ} → Going good n k → (good k → ⊥) → First good n k
found_here g h = record { within = g.within; before = g.before; found = λ _. h }

pub found_none : {good : ℕ → Type 0} {n k : ℕ} → Going good n k → n ≤ k → First good n k
found_none g l = record { within = g.within; before = g.before; found = λ m. absurd (omega arith) }

-- ---- the same search, said otherwise
pub first_alike : {P Q : ℕ → Type 0} {n k : ℕ} → ((j : ℕ) → j < n → P j → Q j) → ((j : ℕ) → j < n → Q j → P j) → First P n k → First Q n k
first_alike {k = k} f g h = record { within = h.within; before = λ j l. f j (omega (arith, h.within)) (h.before j l); found = λ l q. h.found l (g k l q) }

pub finds_alike : {P Q : ℕ → Type 0} {n : ℕ} {r : Option ℕ} → ((j : ℕ) → j < n → P j → Q j) → ((j : ℕ) → j < n → Q j → P j) → Finds P n r → Finds Q n r
finds_alike f g h = record { first = first_alike f g h.first; inside = h.inside }

-- ---- a search has one result
not_before : {good : ℕ → Type 0} {n a b : ℕ} → First good n a → First good n b → a < b → ⊥
not_before {a = a} p q l = p.found (omega (arith, q.within)) (q.before a l)

pub first_one : {good : ℕ → Type 0} {n a b : ℕ} → First good n a → First good n b → a ≡ b
first_one {a = a} {b = b} p q =
    elim (dec_lt a b) [
      | yes l ↦ absurd (not_before p q l)
      | no nl ↦ elim (dec_lt b a) [ yes l ↦ absurd (not_before q p l) | no nr ↦ omega arith ]
    ]

-- what a search returns is one thing, and what it found or did not
finds_same : {good : ℕ → Type 0} {n : ℕ} (a b : Option ℕ) → Finds good n a → Finds good n b → a ≡ b
finds_same None None p q = refl
finds_same None (Some k) p q = absurd (not_before q.first p.first q.inside)
finds_same (Some k) None p q = absurd (not_before p.first q.first p.inside)
finds_same (Some k) (Some j) p q = ap Some (first_one p.first q.first)

pub finds_one : {good : ℕ → Type 0} {n : ℕ} {a b : Option ℕ} → Finds good n a → Finds good n b → a ≡ b
finds_one {a = a} {b} p q = finds_same a b p q

pub found_some : {good : ℕ → Type 0} {n k : ℕ} {r : Option ℕ} → Finds good n r → r ≡ Some k → First good n k × (k < n)
found_some {good} {n} p e = let q = rw e at p in (q.first, q.inside)

pub found_not : {good : ℕ → Type 0} {n : ℕ} {r : Option ℕ} → Finds good n r → r ≡ None → First good n n
found_not p e = let q = rw e at p in q.first

-- ---- the number and the place tell the refusal, and so the paper's reply tells what the code returns
row_of : ℕ → ℕ → Refusal
row_of n k =
    cond (eqb n 1) NoContents (cond (eqb n 2) WrongNumbers (cond (eqb n 3) WrongLayout (cond (eqb n 4) (BadPlace k) (cond (eqb n 5) (BadRun k)
    (cond (eqb n 6) (RepeatedRun k) (cond (eqb n 7) LowAboveHigh (cond (eqb n 8) NoRoom (cond (eqb n 9) (FixedLoop k) (cond (eqb n 10) (NoSupply k)
    (cond (eqb n 11) NoSuchCount (cond (eqb n 12) NoAmendment (cond (eqb n 13) NarrowedToNone NoWiring))))))))))))

row_back : (r : Refusal) → row_of (number_of r) (place_of r) ≡ r
unfolding row_of
row_back NoContents = refl
row_back WrongNumbers = refl
row_back WrongLayout = refl
row_back (BadPlace k) = refl
row_back (BadRun k) = refl
row_back (RepeatedRun k) = refl
row_back LowAboveHigh = refl
row_back NoRoom = refl
row_back (FixedLoop k) = refl
row_back (NoSupply k) = refl
row_back NoSuchCount = refl
row_back NoAmendment = refl
row_back NarrowedToNone = refl
row_back NoWiring = refl

pub refusal_one : (a b : Refusal) → number_of a ≡ number_of b → place_of a ≡ place_of b → a ≡ b
refusal_one a b n k = sym (row_back a) ∙ ap₂ row_of n k ∙ row_back b

pub refused_one : {A : Type 0} {i j n k : ℕ} → ◌≡◌ {A = Reply A} (refused i j) (refused n k) → (i ≡ n) × (j ≡ k)
refused_one e = (cc, cc)

module _ {A B : Type 0} {says : A → B} (one : (a b : A) → says a ≡ says b → a ≡ b) where
  pub replied_one : (a b : Result A Refusal) → replied says a ≡ replied says b → a ≡ b
  replied_one (Ok a) (Ok b) e = ap Ok (one a b (accepted_one e))
  replied_one (Ok a) (Err f) e = absurd (not_refused e)
  replied_one (Err f) (Ok b) e = absurd (not_refused (sym e))
  replied_one (Err f) (Err g) e = ap Err (refusal_one f g (refused_one e).0 (refused_one e).1)

-- what `?` hands on is the refusal that came, and on paper it says the same
pub handed_on : {B : Type 0} {e : Refusal} (r : Result B Refusal) → IsErrAnd r (λ y. y ≡ e) → r ≡ Err e
handed_on r h = let p = err_from_is_err_and r h in p.1 ∙ ap Err p.2

pub refused_as : {A A' B B' : Type 0} (says : A → A') (says' : B → B') {r : Result A Refusal} {s : Result B Refusal} {e : Refusal}
    → r ≡ Err e → s ≡ Err e → (number k : ℕ) → replied says r ≡ refused number k → replied says' s ≡ refused number k
refused_as says says' p q number k h = ap (replied says') q ∙ as_refused (sym (ap (replied says) p) ∙ h)

-- ---- any two outcomes of a table are equal, where the last word allows one only once no row has a fault
module _ {R : Type 0} (refusal : ℕ → ℕ → R) (K : R → Type 0) where
  outcome_one : (rows : List Row) → (Clears rows → (r s : R) → K r → K s → r ≡ s) → (r s : R) → Outcome refusal rows K r → Outcome refusal rows K s → r ≡ s
  outcome_one [] one r s p q = one tt r s p q
  outcome_one (row ∷ rows) one r s (inl (j, f, e)) (inl (k, g, h)) = e ∙ ap (refusal row.number) (first_one f.0 g.0) ∙ sym h
  outcome_one (row ∷ rows) one r s (inl (j, f, e)) (inr (c, q)) = absurd (not_before f.0 c f.1)
  outcome_one (row ∷ rows) one r s (inr (c, p)) (inl (k, g, h)) = absurd (not_before g.0 c g.1)
  outcome_one (row ∷ rows) one r s (inr (c, p)) (inr (d, q)) = outcome_one rows (λ cs. one (c, cs)) r s p q

  -- where no row has a fault, the last word was said
  outcome_last : (rows : List Row) → Clears rows → (r : R) → Outcome refusal rows K r → K r
  outcome_last [] c r p = p
  outcome_last (row ∷ rows) (c, cs) r (inl (k, f, e)) = absurd (not_before f.0 c f.1)
  outcome_last (row ∷ rows) (c, cs) r (inr (d, p)) = outcome_last rows cs r p

module _ {R : Type 0} {refusal : ℕ → ℕ → R} {rows : List Row} {K : R → Type 0} {r : R} where
  pub settled_if : {s : R} → (Clears rows → (r s : R) → K r → K s → r ≡ s) → Settled refusal rows K r → Settled refusal rows K s → r ≡ s
  settled_if {s} one p q = outcome_one refusal K rows one r s p.outcome q.outcome

  pub settled_one : {s : R} → ((r s : R) → K r → K s → r ≡ s) → Settled refusal rows K r → Settled refusal rows K s → r ≡ s
  settled_one one p q = settled_if (λ _. one) p q

  pub settled_last : Clears rows → Settled refusal rows K r → K r
  settled_last c p = outcome_last refusal K rows c r p.outcome

-- ---- a row about the whole form has no fault where its fact holds
pub clear : {P : Type 0} → P → First (λ _. P) 1 1
clear p = record { within = le_refl 1; before = λ j l. p; found = λ l. absurd (omega arith) }

pub fact : {P : Type 0} → First (λ _. P) 1 1 → P
fact c = c.before 0 (omega arith)

-- ---- a row that refuses, a row that is passed, and the end of the table
module _ {R : Type 0} {refusal : ℕ → ℕ → R} {number : ℕ} {rows : List Row} {K : R → Type 0} where
  pub refuses_at : {good : ℕ → Type 0} {n k : ℕ} → First good n k → k < n → Settled refusal (each number n good ∷ rows) K (refusal number k)
  refuses_at {k = k} f l = record { outcome = inl (k, (f, l), refl) }

  pub passes_each : {good : ℕ → Type 0} {n k : ℕ} {r : R} → First good n k → n ≤ k → Settled refusal rows K r → Settled refusal (each number n good ∷ rows) K r
  passes_each {n = n} {k = k} f l q = let e : k ≡ n = omega (arith, f.within) in record { outcome = inr (rw e at f, q.outcome) }

  pub refuses_found : {good : ℕ → Type 0} {n k : ℕ} {found : Option ℕ} → Finds good n found → found ≡ Some k → Settled refusal (each number n good ∷ rows) K (refusal number k)
  refuses_found p e = let f = found_some p e in refuses_at f.0 f.1

  pub passes_found : {good : ℕ → Type 0} {n : ℕ} {found : Option ℕ} {r : R} → Finds good n found → found ≡ None → Settled refusal rows K r → Settled refusal (each number n good ∷ rows) K r
  passes_found p e q = passes_each (found_not p e) (le_refl _) q

  pub refuses : {P : Type 0} → (P → ⊥) → Settled refusal (whole number P ∷ rows) K (refusal number 0)
  refuses n = refuses_at (record { within = omega arith; before = λ j l. absurd (omega arith); found = λ l p. n p }) (omega arith)

  pub passes : {P : Type 0} {r : R} → P → Settled refusal rows K r → Settled refusal (whole number P ∷ rows) K r
  passes p q = passes_each (clear p) (omega arith) q

  pub after : {P : Type 0} {r : R} → P → Settled refusal (whole number P ∷ rows) K r → Settled refusal rows K r
  after p q = record { outcome = ⊎_elim (λ f. absurd (f.1.0.found f.1.1 p)) (λ t. t.1) q.outcome }

pub ends : {R : Type 0} {refusal : ℕ → ℕ → R} {K : R → Type 0} {r : R} → K r → Settled refusal [] K r
ends k = record { outcome = k }

-- ---- one table after another: what the first settled in its own words holds of both together
module _ {R S : Type 0} (refusal : ℕ → ℕ → R) (K : R → Type 0) (r : R) (refusal' : ℕ → ℕ → S) (more : List Row) (K' : S → Type 0) (s : S)
    (same : (number k : ℕ) → r ≡ refusal number k → s ≡ refusal' number k) (go : K r → Settled refusal' more K' s) where
  outcome_onward : (rows : List Row) → Outcome refusal rows K r → Outcome refusal' (rows ++ more) K' s
  outcome_onward [] p = (go p).outcome
  outcome_onward (row ∷ rows) (inl (k, f, e)) = inl (k, f, same row.number k e)
  outcome_onward (row ∷ rows) (inr (c, p)) = inr (c, outcome_onward rows p)

pub onward : {R S : Type 0} {refusal : ℕ → ℕ → R} {rows : List Row} {K : R → Type 0} {r : R}
    {refusal' : ℕ → ℕ → S} {more : List Row} {K' : S → Type 0} {s : S}
    → Settled refusal rows K r → ((number k : ℕ) → r ≡ refusal number k → s ≡ refusal' number k) → (K r → Settled refusal' more K' s)
    → Settled refusal' (rows ++ more) K' s
onward {rows = rows} p same go = record { outcome = outcome_onward _ _ _ _ _ _ _ same go rows p.outcome }

-- ---- two tables without a fault are one
pub clears_join : (rows more : List Row) → Clears rows → Clears more → Clears (rows ++ more)
clears_join [] more c d = d
clears_join (row ∷ rows) more (c, cs) d = (c, clears_join rows more cs d)

pub clears_front : (rows more : List Row) → Clears (rows ++ more) → Clears rows
clears_front [] more d = tt
clears_front (row ∷ rows) more (c, cs) = (c, clears_front rows more cs)

pub clears_back : (rows more : List Row) → Clears (rows ++ more) → Clears more
clears_back [] more c = c
clears_back (row ∷ rows) more (c, cs) = clears_back rows more cs

-- ---- an outcome that no row refused
module _ {R : Type 0} (refusal : ℕ → ℕ → R) (K : R → Type 0) (r : R) where
  outcome_cleared : (rows : List Row) → ((number k : ℕ) → r ≡ refusal number k → ⊥) → Outcome refusal rows K r → Clears rows × K r
  outcome_cleared [] none p = (tt, p)
  outcome_cleared (row ∷ rows) none (inl (k, f, e)) = absurd (none row.number k e)
  outcome_cleared (row ∷ rows) none (inr (c, p)) = let rest = outcome_cleared rows none p in ((c, rest.0), rest.1)

  outcome_clear : (rows : List Row) → Clears rows → K r → Outcome refusal rows K r
  outcome_clear [] c k = k
  outcome_clear (row ∷ rows) (c, cs) k = inr (c, outcome_clear rows cs k)

  outcome_either : (rows : List Row) → Outcome refusal rows K r → ((number : ℕ) × (place : ℕ) × Refuses rows number place × (r ≡ refusal number place)) ⊎ (Clears rows × K r)
  outcome_either [] p = inr (tt, p)
  outcome_either (row ∷ rows) (inl (k, f, e)) = inl (row.number, k, inl (refl, f), e)
  outcome_either (row ∷ rows) (inr (c, p)) = ⊎_elim (λ (i, k, f, e). inl (i, k, inr (c, f), e)) (λ (cs, k). inr ((c, cs), k)) (outcome_either rows p)

  outcome_later : (rows more : List Row) → Clears rows → Outcome refusal more K r → Outcome refusal (rows ++ more) K r
  outcome_later [] more c p = p
  outcome_later (row ∷ rows) more (c, cs) p = inr (c, outcome_later rows more cs p)

  outcome_refusal : (rows : List Row) → (K r → ⊥) → Outcome refusal rows K r → (number : ℕ) × (k : ℕ) × (r ≡ refusal number k)
  outcome_refusal [] n p = absurd (n p)
  outcome_refusal (row ∷ rows) n (inl (k, f, e)) = (row.number, k, e)
  outcome_refusal (row ∷ rows) n (inr (c, p)) = outcome_refusal rows n p

  outcome_as : {P Q : Type 0} (number : ℕ) (rest front : List Row) → (Clears front → P → Q) → (Clears front → Q → P)
      → Outcome refusal (front ++ (whole number P ∷ rest)) K r → Outcome refusal (front ++ (whole number Q ∷ rest)) K r
  outcome_as number rest [] to from (inl (k, f, e)) = inl (k, (first_alike (λ _ _ p. to tt p) (λ _ _ q. from tt q) f.0, f.1), e)
  outcome_as number rest [] to from (inr (c, p)) = inr (first_alike (λ _ _ p. to tt p) (λ _ _ q. from tt q) c, p)
  outcome_as number rest (row ∷ front) to from (inl x) = inl x
  outcome_as number rest (row ∷ front) to from (inr (c, p)) = inr (c, outcome_as number rest front (λ cs. to (c, cs)) (λ cs. from (c, cs)) p)

pub cleared : {R : Type 0} {refusal : ℕ → ℕ → R} {rows : List Row} {K : R → Type 0} {r : R}
    → Settled refusal rows K r → ((number k : ℕ) → r ≡ refusal number k → ⊥) → Clears rows × K r
cleared {rows = rows} p none = outcome_cleared _ _ _ rows none p.outcome

pub all_clear : {R : Type 0} {refusal : ℕ → ℕ → R} {K : R → Type 0} {r : R} (rows : List Row) → Clears rows → K r → Settled refusal rows K r
all_clear rows c k = record { outcome = outcome_clear _ _ _ rows c k }

-- ---- an outcome is a refusal with the first fault of the table, or the last word where it has none
pub either : {R : Type 0} {refusal : ℕ → ℕ → R} {rows : List Row} {K : R → Type 0} {r : R}
    → Settled refusal rows K r → ((number : ℕ) × (place : ℕ) × Refuses rows number place × (r ≡ refusal number place)) ⊎ (Clears rows × K r)
either {rows = rows} p = outcome_either _ _ _ rows p.outcome

-- ---- rows that are passed, an outcome that can only be a refusal, and a row said otherwise
pub later : {R : Type 0} {refusal : ℕ → ℕ → R} {K : R → Type 0} {r : R} (rows more : List Row) → Clears rows → Settled refusal more K r → Settled refusal (rows ++ more) K r
later rows more c p = record { outcome = outcome_later _ _ _ rows more c p.outcome }

pub refusal_of : {R : Type 0} {refusal : ℕ → ℕ → R} {rows : List Row} {K : R → Type 0} {r : R}
    → (K r → ⊥) → Settled refusal rows K r → (number : ℕ) × (k : ℕ) × (r ≡ refusal number k)
refusal_of {rows = rows} n p = outcome_refusal _ _ _ rows n p.outcome

pub settled_as : {R : Type 0} {refusal : ℕ → ℕ → R} {K : R → Type 0} {r : R} {P Q : Type 0} (number : ℕ) (front rest : List Row)
    → (Clears front → P → Q) → (Clears front → Q → P) → Settled refusal (front ++ (whole number P ∷ rest)) K r → Settled refusal (front ++ (whole number Q ∷ rest)) K r
settled_as number front rest to from p = record { outcome = outcome_as _ _ _ number rest front to from p.outcome }
