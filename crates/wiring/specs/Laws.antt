-- Any two outcomes that the library for C allows are equal, and its reply tells the answer.
use Rattle.std.specs.Prelude.{ℕ, List, ◌≡◌, Result, Ok, Err}
use Rattle.std.proofs.Common.{sym, ap, ◌∙◌, arith}
use Rattle.amend.specs.Amending.{Amends}
use Rattle.amend.proofs.Laws.{amends_one}
use Rattle.answer.specs.declared.Counts.{Counts}
use Rattle.answer.specs.declared.Refusal.{Refusal}
use Rattle.answer.specs.declared.Refusal.TheVariants.{NoContents, WrongNumbers, WrongLayout, BadPlace, BadRun, RepeatedRun, LowAboveHigh, NoRoom, FixedLoop, NoSupply, NoSuchCount, NoAmendment, NarrowedToNone, NoWiring}
use Rattle.answer.specs.Laws.{refusal_one}
use Rattle.answer.specs.Reply.{number_of}
use Rattle.filter.specs.One.{filters_one}
use Rattle.filter.specs.Filtered.{Filters}
use Rattle.wiring.specs.declared.Reply.{Reply}
use Rattle.wiring.specs.Encoding.{encoded, FilterReplies, AmendReplies}

-- ---- one outcome only
pub filter_replies_one : (s form wiring segments : List ℕ) (a b : Reply) (f w g f' w' g' : List ℕ)
    → FilterReplies s form wiring segments a f w g → FilterReplies s form wiring segments b f' w' g' → (a ≡ b) × (f ≡ f') × (w ≡ w') × (g ≡ g')
filter_replies_one s form wiring segments a b f w g f' w' g' p q =
    let e = filters_one s form wiring segments p.answer q.answer f w g f' w' g' p.allowed q.allowed in
    (p.reply ∙ ap encoded e.0 ∙ sym q.reply, e.1, e.2, e.3)

pub amend_replies_one : (s : List ℕ) (x y z : ℕ) (form wiring segments : List ℕ) (a b : Reply) (f w g f' w' g' : List ℕ)
    → AmendReplies s x y z form wiring segments a f w g → AmendReplies s x y z form wiring segments b f' w' g' → (a ≡ b) × (f ≡ f') × (w ≡ w') × (g ≡ g')
amend_replies_one s x y z form wiring segments a b f w g f' w' g' p q =
    let e = amends_one s x y z form wiring segments p.answer q.answer f w g f' w' g' p.allowed q.allowed in
    (p.reply ∙ ap encoded e.0 ∙ sym q.reply, e.1, e.2, e.3)

-- ---- the reply tells the answer: a refusal's number is never 0
never_0 : (e : Refusal) → number_of e ≡ 0 → ⊥
never_0 NoContents z = omega arith
never_0 WrongNumbers z = omega arith
never_0 WrongLayout z = omega arith
never_0 (BadPlace k) z = omega arith
never_0 (BadRun k) z = omega arith
never_0 (RepeatedRun k) z = omega arith
never_0 LowAboveHigh z = omega arith
never_0 NoRoom z = omega arith
never_0 (FixedLoop k) z = omega arith
never_0 (NoSupply k) z = omega arith
never_0 NoSuchCount z = omega arith
never_0 NoAmendment z = omega arith
never_0 NarrowedToNone z = omega arith
never_0 NoWiring z = omega arith

-- an answer whose number, where it is a refusal, is not 0
abbrev pub Numbered : Result Counts Refusal → Type 0
Numbered a = (e : Refusal) → a ≡ Err e → number_of e ≡ 0 → ⊥

-- each answer is one
pub numbered : (a : Result Counts Refusal) → Numbered a
numbered a e is = never_0 e

pub filter_numbered : (s form wiring segments : List ℕ) (a : Result Counts Refusal) (f w g : List ℕ) → Filters s form wiring segments a f w g → Numbered a
filter_numbered s form wiring segments a f w g p = numbered a

pub amend_numbered : (s : List ℕ) (x y z : ℕ) (form wiring segments : List ℕ) (a : Result Counts Refusal) (f w g : List ℕ) → Amends s x y z form wiring segments a f w g → Numbered a
amend_numbered s x y z form wiring segments a f w g p = numbered a

-- two answers with the same encoding are the same
pub encoded_one : (a b : Result Counts Refusal) → encoded a ≡ encoded b → a ≡ b
encoded_one (Ok k) (Ok k') e = λ i. Ok (record { struck = (e i).struck; pinned = (e i).pinned })
encoded_one (Ok k) (Err f) e = absurd (never_0 f (λ i. (sym e i).number))
encoded_one (Err f) (Ok k) e = absurd (never_0 f (λ i. (e i).number))
encoded_one (Err f) (Err g) e = ap Err (refusal_one f g (λ i. (e i).number) (λ i. (e i).place))
