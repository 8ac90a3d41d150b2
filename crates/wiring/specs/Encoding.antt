-- What the library for C promises: its reply is the encoding of an answer that the filter, or the amendment, may give.
use Rattle.std.specs.Prelude.{ℕ, List, ◌≡◌, Result, Ok, Err}
use Rattle.amend.specs.Amending.{Amends}
use Rattle.answer.specs.declared.Counts.{Counts}
use Rattle.answer.specs.declared.Refusal.{Refusal}
use Rattle.answer.specs.Reply.{number_of, place_of}
use Rattle.filter.specs.Filtered.{Filters}
use Rattle.wiring.specs.declared.Reply.{Reply}

-- an answer as four numbers: 0 0 and the two counts, or number and place and 0 0
abbrev pub encoded : Result Counts Refusal → Reply
encoded (Ok k) = record { number = 0; place = 0; struck = k.struck; pinned = k.pinned }
encoded (Err e) = record { number = number_of e; place = place_of e; struck = 0; pinned = 0 }

pub record FilterReplies (s form wiring segments : List ℕ) (r : Reply) (form' wiring' segments' : List ℕ) : Type 0 where
  pub answer : Result Counts Refusal
  pub allowed : Filters s form wiring segments answer form' wiring' segments'
  pub reply : r ≡ encoded answer

pub record AmendReplies (s : List ℕ) (x y z : ℕ) (form wiring segments : List ℕ) (r : Reply) (form' wiring' segments' : List ℕ) : Type 0 where
  pub answer : Result Counts Refusal
  pub allowed : Amends s x y z form wiring segments answer form' wiring' segments'
  pub reply : r ≡ encoded answer
