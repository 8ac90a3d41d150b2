-- What the filter gives stands: a confirmed form is its own confirmation.
use Rattle.std.specs.Prelude.{ℕ}
use Rattle.wirings.specs.Alike.{Alike}
use Rattle.wirings.specs.Confirmed.{Confirmed}
use Rattle.wirings.specs.Counted.{Sound}
use Rattle.wirings.specs.Wiring.{Order, Wiring}

-- what the filter gives: the form, its wiring and its segment numbers
pub record Outcome : Type 0 where
  pub form : Order
  pub wiring : Wiring
  pub segment : ℕ → ℕ

-- filtering order o gives y: the same places and runs, and all else is o's confirmation
pub record Gives (o : Order) (y : Outcome) : Type 0 where
  pub alike : Alike o y.form
  pub struck : ℕ
  pub pinned : ℕ
  pub confirmed : Confirmed o y.form.state y.form.low y.form.high y.wiring y.segment struck pinned

-- x is a confirmed form: filtering it again gives x
pub record Stands (x : Outcome) : Type 0 where
  pub sound : Sound x.form
  pub confirmed : Confirmed x.form x.form.state x.form.low x.form.high x.wiring x.segment 0 0
