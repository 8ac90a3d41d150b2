-- A form that has passed numbers 9 to 11, with all that its marks are worked out from.
use Rattle.std.specs.Prelude.{ℕ, ◌+◌, ◌≤◌, ◌<◌, Bool, List, ◌≡◌, leb, ltb, length, get_or, set}
use Rattle.std.proofs.Common.{sym, ap, subst, ◌∙◌, leb-true, leb-false, get_or-set_same, get_or-set_other, arith}
use Rattle.std.proofs.Math.Path.{subst₃}
use Rattle.std.proofs.Math.Decide.{ℕ_discrete}
use Rattle.answer.specs.Table.{Clears}
use Rattle.bridges.specs.declared.Kind.{Kind}
use Rattle.bridges.specs.declared.Kind.TheVariants.{Bypassed}
use Rattle.bridges.specs.Kinds.{kind_number}
use Rattle.confirm.specs.Judged.{StatesOf}
use Rattle.confirm.specs.Marked.{Ruled, Numbers, ruled_mark}
use Rattle.layout.specs.Layout.{sizes, runs_in, end_u, end_v, Fields}
use Rattle.layout.specs.Rows.{sound_rows}
use Rattle.pieces.specs.Holds.{at, Holds, has, Tells}
use Rattle.wirings.specs.Confirmed.{Mark}
use Rattle.wirings.specs.Counted.{stocked}
use Rattle.wirings.specs.Labels.{label, label_le}
use Rattle.wirings.specs.Limits.{fixed_runs, least, most}
use Rattle.wirings.specs.Marks.{Bridge}
use Rattle.wirings.specs.OfForm.{order_of, order_sound, order_line}
use Rattle.wirings.specs.Pieces.{stock}
use Rattle.wirings.specs.Theorem1.{Meets}
use Rattle.wirings.specs.Wiring.{Order}

pub record Ready (f : Fields) (states labels : List ℕ) (fed : List Bool) (kinds : List Kind) (low high : ℕ) : Type 0 where
  pub sound : Clears (sound_rows sizes f)
  pub small : length f.places ≤ 256
  pub meets : Meets (order_of f)
  pub stated : StatesOf f.runs (runs_in sizes f.runs) states
  pub labelled : Holds (label (order_of f) (fixed_runs (order_of f))) labels
  pub supplied : Tells (stock (length f.places) (λ y. get_or f.places y 0) (label (order_of f) (fixed_runs (order_of f)))) fed
  pub bridged : (r : ℕ) → r < runs_in sizes f.runs → 0 < (order_of f).state r → Bridge (order_of f) r (kind_number (get_or kinds r Bypassed))
  pub lowest : low ≡ least (order_of f)
  pub highest : high ≡ most (order_of f)

-- the marks of the runs below k are right, whatever the places, if they are those of a form that is ready
abbrev pub MarkedTo : List ℕ → ℕ → ℕ → List ℕ → List ℕ → List Bool → List Kind → ℕ → ℕ → ℕ → List ℕ → Type 0
MarkedTo runs low high states labels fed kinds low' high' k marks =
    (places : List ℕ) → Ready (record { places = places; runs = runs; low = low; high = high }) states labels fed kinds low' high'
    → (r : ℕ) → r < k → r < runs_in sizes runs → Mark (order_of (record { places = places; runs = runs; low = low; high = high })) r (get_or marks r 0)

module _ (f : Fields) (states labels : List ℕ) (fed : List Bool) (kinds : List Kind) (low high : ℕ) (k : Ready f states labels fed kinds low high) (r : ℕ) (run : r < runs_in sizes f.runs) where
  end_below : (end_u sizes f.runs r < 256) × (end_v sizes f.runs r < 256)
  end_below = let ok = order_sound f k.sound in (omega (arith, ok.up r run, ok.inside r run, k.small), omega (arith, ok.inside r run, k.small))

  fed_at : (x : ℕ) → x < 256 → has fed (at labels x) ≡ ltb 0 (stocked (order_of f) (fixed_runs (order_of f)) x)
  fed_at x l =
      ap (has fed) (k.labelled.says x l) ∙ k.supplied.says (label (order_of f) (fixed_runs (order_of f)) x) (omega (arith, label_le (order_of f) (fixed_runs (order_of f)) x))

  numbers : Numbers (order_of f) r (at labels (end_u sizes f.runs r)) (at labels (end_v sizes f.runs r))
      (has fed (at labels (end_u sizes f.runs r))) (has fed (at labels (end_v sizes f.runs r))) (kind_number (get_or kinds r Bypassed)) (leb high f.low) (leb f.high low)
  numbers = record {
    one = k.labelled.says _ end_below.0;
    other = k.labelled.says _ end_below.1;
    one_fed = fed_at _ end_below.0;
    other_fed = fed_at _ end_below.1;
    bridge = k.bridged r run;
    at_most = λ e. omega (arith, leb-true high f.low e, k.highest);
    not_at_most = λ e. omega (arith, leb-false high f.low e, k.highest);
    at_least = λ e. omega (arith, leb-true f.high low e, k.lowest);
    not_at_least = λ e. omega (arith, leb-false f.high low e, k.lowest);
  }

  pub ready_mark : {u v mark : ℕ} → u ≡ end_u sizes f.runs r → v ≡ end_v sizes f.runs r
      → Ruled (get_or states r 0) (at labels u) (at labels v) (has fed (at labels u)) (has fed (at labels v)) (kind_number (get_or kinds r Bypassed)) (leb high f.low) (leb f.high low) mark
      → Mark (order_of f) r mark
  ready_mark {mark = mark} eu ev rule =
      ruled_mark (order_of f) (order_sound f k.sound) (order_line f k.sound) k.meets r run numbers
      (subst₃ (λ (s x y : ℕ). Ruled s (at labels x) (at labels y) (has fed (at labels x)) (has fed (at labels y)) (kind_number (get_or kinds r Bypassed)) (leb high f.low) (leb f.high low) mark)
      (k.stated.says r run) eu ev rule)

-- one more run is marked
pub marked_more : (runs : List ℕ) (low high : ℕ) (states labels : List ℕ) (fed : List Bool) (kinds : List Kind) (low' high' r : ℕ) (marks : List ℕ) {u v mark : ℕ} → r < length marks
    → u ≡ end_u sizes runs r → v ≡ end_v sizes runs r
    → Ruled (get_or states r 0) (at labels u) (at labels v) (has fed (at labels u)) (has fed (at labels v)) (kind_number (get_or kinds r Bypassed)) (leb high' low) (leb high low') mark
    → MarkedTo runs low high states labels fed kinds low' high' r marks → MarkedTo runs low high states labels fed kinds low' high' (r + 1) (set marks r mark)
marked_more runs low high states labels fed kinds low' high' r marks {u} {v} {mark} l eu ev rule before places ready j lj run =
    elim (ℕ_discrete j r) [
      | yes e ↦ subst (λ (i : ℕ). Mark o i (get_or (set marks r mark) i 0)) (sym e)
          (subst (Mark o r) (sym (get_or-set_same marks r mark 0 l)) (ready_mark f states labels fed kinds low' high' ready r (subst (λ (i : ℕ). i < runs_in sizes runs) e run) eu ev rule))
      | no n ↦ subst (Mark o j) (sym (get_or-set_other marks r j mark 0 n)) (before places ready j (omega arith) run)
    ]
  where
    f : Fields
    f = record { places = places; runs = runs; low = low; high = high }

    o : Order
    o = order_of f
