-- The kind of an unstruck run is one, whatever order the arguments describe.
use Rattle.std.specs.Prelude.{ℕ, ◌<◌, List, ◌≡◌, refl, get_or}
use Rattle.std.proofs.Common.{sym, ◌∙◌, arith}
use Rattle.bridges.specs.Kinds.{Kinds, kind_number}
use Rattle.bridges.specs.declared.Kind.{Kind}
use Rattle.bridges.specs.declared.Kind.TheVariants.{Bypassed, Supplied, Bare}
use Rattle.wirings.specs.Marks.{Bridge, bypassed, supplied, bare}
use Rattle.wirings.specs.OfForm.{Described, States}
use Rattle.wirings.specs.Wiring.{Order}

bridge_one : {o : Order} {e i j : ℕ} → Bridge o e i → Bridge o e j → i ≡ j
bridge_one (bypassed p a) (bypassed q b) = a ∙ sym b
bridge_one (bypassed p a) (supplied n x y b) = absurd (n p)
bridge_one (bypassed p a) (bare n x b) = absurd (n p)
bridge_one (supplied n x y a) (bypassed p b) = absurd (n p)
bridge_one (supplied n x y a) (supplied m z w b) = a ∙ sym b
bridge_one (supplied n x y a) (bare m z b) = absurd (z x y)
bridge_one (bare n x a) (bypassed p b) = absurd (n p)
bridge_one (bare n x a) (supplied m z w b) = absurd (x z w)
bridge_one (bare n x a) (bare m z b) = a ∙ sym b

-- a number is that of one kind
pub kind_one : (a b : Kind) → kind_number a ≡ kind_number b → a ≡ b
kind_one Bypassed Bypassed e = refl
kind_one Bypassed Supplied e = absurd (omega arith)
kind_one Bypassed Bare e = absurd (omega arith)
kind_one Supplied Bypassed e = absurd (omega arith)
kind_one Supplied Supplied e = refl
kind_one Supplied Bare e = absurd (omega arith)
kind_one Bare Bypassed e = absurd (omega arith)
kind_one Bare Supplied e = absurd (omega arith)
kind_one Bare Bare e = refl

pub kinds_one : (places runs states : List ℕ) (m : ℕ) (a b : List Kind) → Kinds places runs states m a → Kinds places runs states m b
    → (o : Order) → Described o places runs → o.m ≡ m → States o states → (r : ℕ) → r < m → 0 < o.state r → get_or a r Bypassed ≡ get_or b r Bypassed
kinds_one places runs states m a b h k o d e s r l u = kind_one _ _ (bridge_one (h o d e s r l u) (k o d e s r l u))
