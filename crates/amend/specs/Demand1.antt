-- Demand 1: what is handed in is refused with the listed number and place of its first fault, in the listed order, and all three buffers hold what they
-- held before; or it has no fault, and is accepted.
use Rattle.std.specs.Prelude.{ℕ, List, ◌++◌, ◌⊎◌, ◌≡◌}
use Rattle.amend.specs.Amending.{amend_rows, Amended, Leaves}
use Rattle.answer.specs.Laws.{either}
use Rattle.answer.specs.Reply.{refused}
use Rattle.answer.specs.Table.{Clears, Refuses}
use Rattle.filter.specs.Filtered.{Lent, Left, Accepted, filter_rows}
use Rattle.filter.specs.Filtered.{Leaves as Filters}
use Rattle.layout.specs.Layout.{sizes}
use Rattle.layout.specs.Rows.{fields_of}

-- a form handed in to the filter: any bytes s, any buffers
pub demand_1_form : (s : List ℕ) (lent : Lent) (left : Left) → Filters s lent left
    → ((number : ℕ) × (place : ℕ) × Refuses (filter_rows s lent) number place × (left ≡ record { reply = refused number place; lent = lent }))
    ⊎ (Clears (filter_rows s lent) × Accepted (fields_of sizes s) lent left)
demand_1_form s lent left p = either p

-- a form and an amendment: any bytes, any three numbers, any buffers
pub demand_1_amendment : (s : List ℕ) (x y z : ℕ) (lent : Lent) (left : Left) → Leaves s x y z lent left
    → ((number : ℕ) × (place : ℕ) × Refuses (filter_rows s lent ++ amend_rows (fields_of sizes s) x y z) number place × (left ≡ record { reply = refused number place; lent = lent }))
    ⊎ (Clears (filter_rows s lent ++ amend_rows (fields_of sizes s) x y z) × Amended (fields_of sizes s) x y z lent left)
demand_1_amendment s x y z lent left p = either p
