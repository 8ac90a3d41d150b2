-- The paper's worked forms P1 to P12 and form E, each with its outcome, and that every outcome is right by the definitions.
use Rattle.std.specs.Prelude.{ℕ, List, [], ◌∷◌, ◌≡◌, length, get_or}
use Rattle.std.proofs.Math.Dec.{eqb}
use Rattle.answer.specs.Reply.{Reply, accepted, refused}
use Rattle.answer.specs.Table.{Settled}
use Rattle.wirings.specs.Amendments.{Amendment, pin, strike, written_in}
use Rattle.wirings.specs.Confirmed.{Confirmed}
use Rattle.wirings.specs.Theorem1.{order_rows}
use Rattle.wirings.specs.Wiring.{Order}

-- ---- an entry: a form by lists, and its outcome
-- what an accepted form is confirmed to; the wiring has 1 for each run that it uses
pub record Confirmation : Type 0 where
  pub states : List ℕ
  pub low : ℕ
  pub high : ℕ
  pub wiring : List ℕ
  pub segments : List ℕ
  pub struck : ℕ
  pub pinned : ℕ

-- supplies has 1 for each place with a supply; ends and states go by run; the amendments are written in
pub record Entry : Type 0 where
  pub supplies : List ℕ
  pub ends : List (ℕ × ℕ)
  pub states : List ℕ
  pub low : ℕ
  pub high : ℕ
  pub amendments : List Amendment
  pub outcome : Reply Confirmation

-- the form before its amendments
abbrev pub order_in : Entry → Order
order_in e = record {
  n = length e.supplies;
  m = length e.ends;
  supply = λ x. get_or e.supplies x 0;
  u = λ r. (get_or e.ends r (0, 0)).0;
  v = λ r. (get_or e.ends r (0, 0)).1;
  state = λ r. get_or e.states r 0;
  low = e.low;
  high = e.high;
}

-- a refused form is refused by the rows 9 to 11, an accepted one is confirmed as it says
abbrev pub RightFor : Order → Reply Confirmation → Type 0
RightFor o (refused number place) = Settled {R = Reply (Unit {0})} refused (order_rows o) (λ a. a ≡ accepted tt) (refused number place)
RightFor o (accepted c) =
    Confirmed o (λ r. get_or c.states r 0) c.low c.high (λ r. eqb (get_or c.wiring r 0) 1) (λ x. get_or c.segments x 0) c.struck c.pinned

abbrev pub Right : Entry → Type 0
Right e = RightFor (written_in e.amendments (order_in e)) e.outcome

abbrev pub All : (Entry → Type 0) → List Entry → Type 0
All P [] = Unit {0}
All P (e ∷ es) = P e × All P es

-- ---- the worked forms
abbrev given : List ℕ → List (ℕ × ℕ) → List ℕ → ℕ → ℕ → Reply Confirmation → Entry
given supplies ends states low high outcome = record { supplies = supplies; ends = ends; states = states; low = low; high = high; amendments = []; outcome = outcome }

abbrev pub confirmation : List ℕ → ℕ → ℕ → List ℕ → List ℕ → ℕ → ℕ → Confirmation
confirmation states low high wiring segments struck pinned = record { states = states; low = low; high = high; wiring = wiring; segments = segments; struck = struck; pinned = pinned }

abbrev confirmed : List ℕ → ℕ → ℕ → List ℕ → List ℕ → ℕ → ℕ → Reply Confirmation
confirmed states low high wiring segments struck pinned = accepted (confirmation states low high wiring segments struck pinned)

-- form E with these states and line four, and amendments written in
abbrev entry_e : List ℕ → ℕ → ℕ → List Amendment → Confirmation → Entry
entry_e states low high amendments outcome = record {
  supplies = 1 ∷ 0 ∷ 0 ∷ 0 ∷ 1 ∷ [];
  ends = (0, 1) ∷ (1, 2) ∷ (0, 2) ∷ (2, 3) ∷ (3, 4) ∷ [];
  states = states;
  low = low;
  high = high;
  amendments = amendments;
  outcome = accepted outcome;
}

-- form E as it was confirmed, an amendment keyed to it, and what that gives
abbrev keyed : Confirmation → Amendment → Confirmation → Entry
keyed c a outcome = entry_e c.states c.low c.high (a ∷ []) outcome

-- form E confirmed; then with run 3 struck, or run 1 pinned; then with both, in either order
abbrev as_sent : Confirmation
as_sent = confirmation (2 ∷ 1 ∷ 1 ∷ 1 ∷ 1 ∷ []) 1 2 (1 ∷ 1 ∷ 0 ∷ 1 ∷ 0 ∷ []) (0 ∷ 0 ∷ 0 ∷ 0 ∷ 4 ∷ []) 0 0

abbrev struck3 : Confirmation
struck3 = confirmation (2 ∷ 1 ∷ 1 ∷ 0 ∷ 2 ∷ []) 2 2 (1 ∷ 1 ∷ 0 ∷ 0 ∷ 1 ∷ []) (0 ∷ 0 ∷ 0 ∷ 3 ∷ 3 ∷ []) 0 1

abbrev pinned1 : Confirmation
pinned1 = confirmation (2 ∷ 2 ∷ 0 ∷ 1 ∷ 1 ∷ []) 1 2 (1 ∷ 1 ∷ 0 ∷ 1 ∷ 0 ∷ []) (0 ∷ 0 ∷ 0 ∷ 0 ∷ 4 ∷ []) 1 0

abbrev both : ℕ → ℕ → Confirmation
both struck pinned = confirmation (2 ∷ 2 ∷ 0 ∷ 0 ∷ 2 ∷ []) 2 2 (1 ∷ 1 ∷ 0 ∷ 0 ∷ 1 ∷ []) (0 ∷ 0 ∷ 0 ∷ 3 ∷ 3 ∷ []) struck pinned

abbrev pub worked : List Entry
worked =
    -- P1, P2, P3: one place
    given (1 ∷ []) [] [] 1 1 (confirmed [] 1 1 [] (0 ∷ []) 0 0)
    ∷ given (0 ∷ []) [] [] 1 1 (refused 10 0)
    ∷ given (1 ∷ []) [] [] 0 0 (refused 11 0)
    -- P4, P5, P6: two supplies and a run
    ∷ given (1 ∷ 1 ∷ []) ((0, 1) ∷ []) (1 ∷ []) 2 2 (confirmed (0 ∷ []) 2 2 (0 ∷ []) (0 ∷ 1 ∷ []) 1 0)
    ∷ given (1 ∷ 1 ∷ []) ((0, 1) ∷ []) (1 ∷ []) 1 1 (confirmed (2 ∷ []) 1 1 (1 ∷ []) (0 ∷ 0 ∷ []) 0 1)
    ∷ given (1 ∷ 1 ∷ []) ((0, 1) ∷ []) (2 ∷ []) 2 2 (refused 11 0)
    -- P7, and P7 with the run struck: one supply and a run
    ∷ given (1 ∷ 0 ∷ []) ((0, 1) ∷ []) (1 ∷ []) 1 5 (confirmed (2 ∷ []) 1 1 (1 ∷ []) (0 ∷ 0 ∷ []) 0 1)
    ∷ given (1 ∷ 0 ∷ []) ((0, 1) ∷ []) (0 ∷ []) 1 5 (refused 10 1)
    -- P8, P9, and P9 without a supply: two fixed runs, and the one that would close a loop
    ∷ given (1 ∷ 0 ∷ 0 ∷ []) ((0, 1) ∷ (1, 2) ∷ (0, 2) ∷ []) (2 ∷ 2 ∷ 1 ∷ []) 1 1 (confirmed (2 ∷ 2 ∷ 0 ∷ []) 1 1 (1 ∷ 1 ∷ 0 ∷ []) (0 ∷ 0 ∷ 0 ∷ []) 1 0)
    ∷ given (1 ∷ 0 ∷ 0 ∷ []) ((0, 1) ∷ (1, 2) ∷ (0, 2) ∷ []) (2 ∷ 2 ∷ 2 ∷ []) 1 1 (refused 9 2)
    ∷ given (0 ∷ 0 ∷ 0 ∷ []) ((0, 1) ∷ (1, 2) ∷ (0, 2) ∷ []) (2 ∷ 2 ∷ 2 ∷ []) 1 1 (refused 9 2)
    -- P10: one supply, and any two of three runs
    ∷ given (1 ∷ 0 ∷ 0 ∷ []) ((0, 1) ∷ (0, 2) ∷ (1, 2) ∷ []) (1 ∷ 1 ∷ 1 ∷ []) 0 9 (confirmed (1 ∷ 1 ∷ 1 ∷ []) 1 1 (1 ∷ 1 ∷ 0 ∷ []) (0 ∷ 0 ∷ 0 ∷ []) 0 0)
    -- P11, and P11 with 2..2: three supplies
    ∷ given (1 ∷ 1 ∷ 1 ∷ []) ((0, 1) ∷ (0, 2) ∷ (1, 2) ∷ []) (1 ∷ 1 ∷ 1 ∷ []) 3 3 (confirmed (0 ∷ 0 ∷ 0 ∷ []) 3 3 (0 ∷ 0 ∷ 0 ∷ []) (0 ∷ 1 ∷ 2 ∷ []) 3 0)
    ∷ given (1 ∷ 1 ∷ 1 ∷ []) ((0, 1) ∷ (0, 2) ∷ (1, 2) ∷ []) (1 ∷ 1 ∷ 1 ∷ []) 2 2 (confirmed (1 ∷ 1 ∷ 1 ∷ []) 2 2 (1 ∷ 0 ∷ 0 ∷ []) (0 ∷ 0 ∷ 2 ∷ []) 0 0)
    -- form E
    ∷ entry_e (2 ∷ 1 ∷ 1 ∷ 1 ∷ 1 ∷ []) 1 9 [] as_sent
    -- P12: strike 3, then pin 1; and pin 1, then strike 3
    ∷ keyed as_sent (strike 3) struck3
    ∷ keyed struck3 (pin 1) (both 1 0)
    ∷ keyed as_sent (pin 1) pinned1
    ∷ keyed pinned1 (strike 3) (both 0 1)
    ∷ []
