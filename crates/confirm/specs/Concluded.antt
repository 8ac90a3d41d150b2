-- From the parts to the confirmation.
use Rattle.std.specs.Prelude.{ℕ, zero, suc, min, max, ◌-◌, ◌≤◌, List, ◌≡◌, refl, get_or, Result, Ok, Err, IfOk}
use Rattle.std.proofs.Common.{sym, subst, ◌∙◌, arith}
use Rattle.answer.specs.Laws.{not_refused, cleared, fact}
use Rattle.answer.specs.Table.{Settled, Clears}
use Rattle.confirm.specs.Judged.{StatesOf, Settles, Judges}
use Rattle.confirm.specs.Judging.{fields_fit}
use Rattle.confirm.specs.Ready.{Ready, MarkedTo}
use Rattle.answer.specs.Reply.{accepted, refused}
use Rattle.answer.specs.declared.Refusal.{Refusal}
use Rattle.bridges.specs.declared.Kind.{Kind}
use Rattle.confirm.specs.declared.Confirmation.{Confirmation}
use Rattle.confirm.specs.declared.Judged.{Judged}
use Rattle.layout.specs.Layout.{sizes, runs_in, Fields}
use Rattle.layout.specs.Rows.{sound_rows}
use Rattle.bridges.specs.Kinds.{Kinds}
use Rattle.pieces.specs.Holds.{at}
use Rattle.scan.specs.Scans.{Scanned, Scans}
use Rattle.wirings.specs.Chosen.{flagged}
use Rattle.wirings.specs.Confirmed.{Confirmed, Lowest, Highest, SegmentNumber}
use Rattle.wirings.specs.First.{top}
use Rattle.wirings.proofs.First.{lowest, highest, first_wiring, segment_number}
use Rattle.wirings.specs.Limits.{fixed_runs}
use Rattle.wirings.proofs.Limits.{counts_alike}
use Rattle.wirings.specs.OfForm.{order_of, order_sound, order_line, Described}
use Rattle.wirings.specs.Pieces.{pieces, stock, fed_pieces}
use Rattle.wirings.specs.Scan.{Goes}
use Rattle.wirings.specs.Tally.{When, same, apart, whens, tally, tally_le}
use Rattle.wirings.specs.Theorem1.{Meets, start, order_rows}
use Rattle.wirings.specs.Wiring.{Order, Counts}

-- what the call gives: the first of 9 to 11 that refuses, or the confirmation
pub record Confirms (f : Fields) (r : Result Confirmation Refusal) : Type 0 where
  pub settles : Settles (order_of f) r
  pub confirmed : IfOk r (λ c. Confirmed (order_of f) (at c.marks) c.line.low c.line.high (flagged c.used) (at c.segments) c.counts.struck c.counts.pinned)
  pub bits : IfOk r (λ c. (i : ℕ) → get_or c.used i 0 ≤ 1)

-- where one of 9 to 11 refuses, that is all there is to say
pub refused_so : (f : Fields) {r : Result Judged Refusal} {refusal : Refusal} → Settles (order_of f) r → r ≡ Err refusal → Confirms f (Err refusal)
refused_so f {r} p e = record { settles = subst (λ (r : Result Judged Refusal). Settles (order_of f) r) e p; confirmed = tt; bits = tt }

-- 9 to 11 passed are the three conditions
pub meets : (f : Fields) → Settled refused (order_rows (order_of f)) (λ a. a ≡ accepted (tt {0})) (accepted (tt {0})) → Meets (order_of f)
meets f p =
    let c = (cleared p (λ number k g. not_refused g)).0 in let m = fact c.1.1.0 in
    record { open' = c.0.before; fed = c.1.0.before; few = m.few; enough = m.enough }

-- at most as many pieces as places hold a supply
ones : (n : ℕ) → tally (λ _. 1) n ≡ n
unfolding tally
ones zero = refl
ones (suc n) = omega (arith, ones n)

pub fed_few : (n : ℕ) (supply lab : ℕ → ℕ) → fed_pieces n supply lab ≤ n
unfolding fed_pieces
fed_few n supply lab = omega (arith, ones n, tally_le _ (λ _. 1) n (λ x l. go (stock n supply lab x) (whens (lab x) x (min 1 (stock n supply lab x)))))
  where
    go : {p q z : ℕ} (k : ℕ) → When p q (min 1 k) z → z ≤ 1
    go k (same e f) = omega arith
    go k (apart e f) = omega arith

pub pieces_few : (n : ℕ) (lab : ℕ → ℕ) → pieces n lab ≤ n
unfolding pieces
pieces_few n lab = omega (arith, ones n, tally_le _ (λ _. 1) n (λ x l. go (whens (lab x) x 1)))
  where
    go : {p q z : ℕ} → When p q 1 z → z ≤ 1
    go (same e f) = omega arith
    go (apart e f) = omega arith

module _ (f : Fields) (sound : Clears (sound_rows sizes f)) (states : List ℕ) (stated : StatesOf f.runs (runs_in sizes f.runs) states)
    (j : Judged) (judged : Judges f (Ok j)) where
  described : Described (order_of f) f.places f.runs
  described = record { n = refl; supply = refl; u = refl; v = refl }

  met : Meets (order_of f)
  met = meets f judged.settles

  ready : (kinds : List Kind) → Kinds f.places f.runs states (runs_in sizes f.runs) kinds → Ready f states j.labels j.fed kinds j.least j.most
  ready kinds k = record {
    sound = sound;
    small = (fields_fit f sound).small;
    meets = met;
    stated = stated;
    labelled = judged.found.labelled;
    supplied = judged.found.supplied;
    bridged = λ r l p. k (order_of f) described refl (λ i h. sym (stated.says i h)) r l p;
    lowest = judged.found.lowest;
    highest = judged.found.highest;
  }

  -- line four of the confirmed form: the larger low and the smaller high
  pub concluded : (kinds : List Kind) (marks used segments : List ℕ) (struck pinned : ℕ) → Kinds f.places f.runs states (runs_in sizes f.runs) kinds
      → MarkedTo f.runs f.low f.high states j.labels j.fed kinds j.least j.most (runs_in sizes f.runs) marks
      → Scans f.places f.runs states (runs_in sizes f.runs) (j.most - min f.high j.most) used segments
      → Counts (λ j. (get_or states j 0 ≡ 1) × (get_or marks j 0 ≡ 0)) (runs_in sizes f.runs) struck
      → Counts (λ j. (get_or states j 0 ≡ 1) × (get_or marks j 0 ≡ 2)) (runs_in sizes f.runs) pinned
      → Confirmed (order_of f) (at marks) (max f.low j.least) (min f.high j.most) (flagged used) (at segments) struck pinned
  concluded kinds marks used segments struck pinned k marked scans cs cp = record {
    marks = λ r l. marked f.places (ready kinds k) r l l;
    lowest = subst (λ (x : ℕ). Lowest o (max f.low x)) (sym judged.found.lowest) (lowest o ok (order_line f sound) met);
    highest = subst (λ (x : ℕ). Highest o (min f.high x)) (sym judged.found.highest) (highest o ok (order_line f sound) met);
    first = first_wiring o ok (order_line f sound) met s.end goes (flagged used) s.names;
    segments = λ x l. subst (SegmentNumber o (flagged used) x) (sym (s.holds.says x (omega (arith, (fields_fit f sound).small)))) (segment_number o ok (order_line f sound) met s.end goes (flagged used) s.names x);
    struck_counted = counts_alike (λ r l h. (sym (stated.says r l) ∙ h.0, h.1)) (λ r l h. (stated.says r l ∙ h.0, h.1)) cs;
    pinned_counted = counts_alike (λ r l h. (sym (stated.says r l) ∙ h.0, h.1)) (λ r l h. (stated.says r l ∙ h.0, h.1)) cp;
  }
    where
      o : Order
      o = order_of f

      ok : Rattle.wirings.specs.Counted.Sound o
      ok = order_sound f sound

      s : Scanned o (j.most - min f.high j.most) used segments
      s = scans o described refl (λ i h. sym (stated.says i h))

      goes : Goes o (λ j. j) (start o (top o)) o.m s.end
      goes = subst (λ (x : ℕ). Goes o (λ j. j) (record { taken = fixed_runs o; spare = x - min f.high x }) o.m s.end) judged.found.highest s.goes
