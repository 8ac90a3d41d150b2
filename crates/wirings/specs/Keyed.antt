-- Amendments keyed one by one, filtering after each: which wirings are left, and that lists which the same wirings obey end alike.
use Rattle.std.specs.Prelude.{List, [], ◌∷◌}
use Rattle.wirings.specs.Amendments.{Amendment, WellFormed, amended, Clash}
use Rattle.wirings.specs.Same.{Agree, Equal}
use Rattle.wirings.specs.Standing.{Outcome, Gives}

-- keying one amendment on x is accepted, and gives y: it is well formed, does not clash, and filtering the amended form gives y
pub record Keys (x : Outcome) (a : Amendment) (y : Outcome) : Type 0 where
  pub well_formed : WellFormed x.form a
  pub no_clash : Clash x.form a → ⊥
  pub gives : Gives (amended a x.form) y

-- keying a list, one after another: each is accepted
pub data Keyed : Outcome → List Amendment → Outcome → Type 0 where
  done : {x : Outcome} → Keyed x [] x
  then : {x y z : Outcome} {a : Amendment} {L : List Amendment} → Keys x a y → Keyed y L z → Keyed x (a ∷ L) z

-- ---- lists that the same wirings obey give the same form, wiring and segment numbers
pub record SameOutcome (x y : Outcome) : Type 0 where
  pub agree : Agree x.form y.form
  pub equal : Equal x.form x.form.state y.form.state x.form.low y.form.low x.form.high y.form.high
      x.wiring y.wiring x.segment y.segment
