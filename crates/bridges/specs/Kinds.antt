-- What the routine for bridges promises.
use Rattle.std.specs.Prelude.{ℕ, ◌<◌, List, ◌≡◌, get_or}
use Rattle.bridges.specs.declared.Kind.{Kind}
use Rattle.bridges.specs.declared.Kind.TheVariants.{Bypassed, Supplied, Bare}
use Rattle.wirings.specs.Marks.{Bridge}
use Rattle.wirings.specs.OfForm.{Described, States}
use Rattle.wirings.specs.Wiring.{Order}

-- the number of a kind, as in `Bridge`
abbrev pub kind_number : Kind → ℕ
kind_number Bypassed = 0
kind_number Supplied = 1
kind_number Bare = 2

-- for whatever order these places, runs and states describe: the kind of bridge of each unstruck run
abbrev pub Kinds : List ℕ → List ℕ → List ℕ → ℕ → List Kind → Type 0
Kinds places runs states m kinds =
    (o : Order) → Described o places runs → o.m ≡ m → States o states → (r : ℕ) → r < m → 0 < o.state r → Bridge o r (kind_number (get_or kinds r Bypassed))
