-- MIN and MAX of the paper, and what a lawful wiring has to do with them.
use Rattle.std.specs.Prelude.{ℕ, min, ◌<◌, List, ◌≡◌, eqb, ltb}
use Rattle.wirings.specs.Chosen.{chosen}
use Rattle.wirings.specs.Counted.{comps, feds}
use Rattle.wirings.specs.Labels.{label}
use Rattle.wirings.specs.Pieces.{stock}
use Rattle.wirings.specs.Wiring.{Order, Wiring}

-- ---- the fixed runs, and the unstruck ones
abbrev pub fixed_runs : Order → List ℕ
fixed_runs o = chosen (λ r. eqb (o.state r) 2) o.m

abbrev pub unstruck_runs : Order → List ℕ
unstruck_runs o = chosen (λ r. ltb 0 (o.state r)) o.m

-- § 5.1, MIN: the components over unstruck runs. MAX: the components over fixed runs that hold a supply
abbrev pub least : Order → ℕ
least o = comps o (unstruck_runs o)

abbrev pub most : Order → ℕ
most o = feds o (fixed_runs o)

abbrev pub held : Order → List ℕ → ℕ → ℕ
held o L x = min 1 (stock o.n o.supply (label o L) x)

-- ---- § 5.1: MIN and MAX in words, the places that are the smallest of their component over unstruck runs; and those of their component over fixed runs, where
-- that holds a supply
abbrev pub Unstruck : Order → ℕ → Type 0
Unstruck o r = (r < o.m) × (0 < o.state r)

abbrev pub Fixed : Order → ℕ → Type 0
Fixed o r = (r < o.m) × (o.state r ≡ 2)

-- ---- a wiring and the list of the runs that it uses
abbrev pub used_runs : Order → Wiring → List ℕ
used_runs o w = chosen w o.m
