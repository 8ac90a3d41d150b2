-- What a call was lent.
use Rattle.std.specs.Prelude.{ℕ, List}
use Rattle.filter.specs.Filtered.{Lent}

-- the buffers as they came
abbrev pub lent : List ℕ → List ℕ → List ℕ → Lent
lent form wiring segments = record { form = form; wiring = wiring; segments = segments }
