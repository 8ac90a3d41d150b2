-- A verdict on numbers 9 to 11 of the paper's table, and what is known once they are passed.
use Rattle.std.specs.Prelude.{ℕ, ◌≤◌, ◌<◌, List, ◌≡◌, length, get_or, Option, Result, IfOk}
use Rattle.answer.specs.Reply.{accepted, refused, replied}
use Rattle.answer.specs.Table.{Finds, Settled}
use Rattle.answer.specs.declared.Refusal.{Refusal}
use Rattle.confirm.specs.declared.Judged.{Judged}
use Rattle.layout.specs.Layout.{sizes, state_of, Fields}
use Rattle.pieces.specs.Holds.{Holds, Tells}
use Rattle.wirings.specs.Labels.{label}
use Rattle.wirings.specs.Limits.{fixed_runs, least, most}
use Rattle.wirings.specs.OfForm.{order_of}
use Rattle.wirings.specs.Pieces.{stock}
use Rattle.wirings.specs.Theorem1.{Opens, Reached, order_rows}
use Rattle.wirings.specs.Wiring.{Order}

-- the states of the first m runs, and nothing past them
pub record StatesOf (runs : List ℕ) (m : ℕ) (states : List ℕ) : Type 0 where
  pub says : (r : ℕ) → r < m → get_or states r 0 ≡ state_of sizes runs r
  pub rest : (r : ℕ) → m ≤ r → get_or states r 0 ≡ 0

-- 9 to 11 in their order: the refusal, or none
abbrev pub Settles : {A : Type 0} → Order → Result A Refusal → Type 0
Settles o r = Settled refused (order_rows o) (λ a. a ≡ accepted (tt {0})) (replied (λ _. tt {0}) r)

-- the first closing run and the first bare place, with MIN and MAX, settle 9 to 11 for whatever order they are of
abbrev pub Weighs : Option ℕ → Option ℕ → ℕ → ℕ → ℕ → ℕ → Result (Unit {0}) Refusal → Type 0
Weighs closing bare low high low' high' verdict =
    (o : Order) → o.low ≡ low → o.high ≡ high → least o ≡ low' → most o ≡ high'
    → Finds (Opens o) o.m closing → Finds (Reached o) o.n bare → Settles o verdict

-- what judging a form's fields finds: the labels by the fixed runs, which of them hold a supply, MIN and MAX
pub record Finding (f : Fields) (j : Judged) : Type 0 where
  pub labelled : Holds (label (order_of f) (fixed_runs (order_of f))) j.labels
  pub supplied : Tells (stock (length f.places) (λ y. get_or f.places y 0) (label (order_of f) (fixed_runs (order_of f)))) j.fed
  pub lowest : j.least ≡ least (order_of f)
  pub highest : j.most ≡ most (order_of f)

-- what it gives: the verdict on 9 to 11 and, where that refuses nothing, what was found
pub record Judges (f : Fields) (r : Result Judged Refusal) : Type 0 where
  pub settles : Settles (order_of f) r
  pub found : IfOk r (Finding f)
