-- The counts that a lawful wiring can have, from the least to the greatest.
use Rattle.std.specs.Prelude.{ℕ, min, max}
use Rattle.wirings.specs.Limits.{least, most}
use Rattle.wirings.specs.Wiring.{Order}

-- ---- the least and the greatest count
abbrev pub top : Order → ℕ
top o = min o.high (most o)

abbrev pub bottom : Order → ℕ
bottom o = max o.low (least o)
