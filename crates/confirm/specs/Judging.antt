-- From what the piece finder found by the fixed runs and by the unstruck ones to numbers 9 to 11.
use Rattle.std.specs.Prelude.{ℕ, ◌≤◌, ◌<◌, Bool, true, List, ◌≡◌, eqb, ltb, length, get_or, take, Option}
use Rattle.std.proofs.Common.{sym, ap, subst, ◌∙◌, lt-ltb, le-ltb, ltb-true, eq-eqb, ne_eqb, eqb-true, get_or-take, arith}
use Rattle.std.proofs.Math.Decide.{ℕ_discrete, dec_lt}
use Rattle.answer.specs.Laws.{finds_alike}
use Rattle.answer.specs.Table.{Finds, Clears}
use Rattle.confirm.specs.Judged.{StatesOf}
use Rattle.layout.specs.Layout.{sizes, runs_in, end_u, end_v, Fields}
use Rattle.layout.proofs.Laws.{whole_runs, counts}
use Rattle.layout.specs.Rows.{sound_rows}
use Rattle.pieces.specs.Holds as holds
use Rattle.pieces.specs.Holds.{at, Holds, has, Tells, labels_of, Fits}
use Rattle.scan.specs.Scans.{Flags}
use Rattle.wirings.specs.Chosen.{chosen, flagged, chosen_used, used_chosen}
use Rattle.wirings.specs.Counted.{stocked, fed_stocked, stocked_fed}
use Rattle.wirings.specs.Joined.{joined_mono, fed_mono}
use Rattle.wirings.specs.Labels.{labels, label, label_le, joined_same, same_joined}
use Rattle.wirings.specs.Limits.{fixed_runs, unstruck_runs}
use Rattle.wirings.proofs.Limits.{unstruck_in, in_unstruck}
use Rattle.wirings.specs.OfForm.{order_of, order_sound, chosen_same}
use Rattle.wirings.specs.Pieces.{pieces, stock, fed_pieces, pieces_same, stock_same, fed_same}
use Rattle.wirings.specs.Theorem1.{Opens, Reached}

-- ---- sound fields fit the piece finder
module _ (f : Fields) (sound : Clears (sound_rows sizes f)) where
  pub fields_fit : Fits f.places f.runs (runs_in sizes f.runs)
  fields_fit =
      let ok = order_sound f sound in let c = counts sizes (omega arith) f sound in
      record {
        few = c.runs;
        small = c.places;
        bit = ok.bit;
        there = omega (arith, whole_runs sizes (omega arith) f sound);
        one = λ r l. omega (arith, ok.up r l, ok.inside r l);
        other = λ r l. ok.inside r l;
      }

-- ---- the chosen runs
module _ (f : Fields) (states flags : List ℕ) (stated : StatesOf f.runs (runs_in sizes f.runs) states) where
  -- the flags of the states choose the unstruck runs
  states_choose : (k : ℕ) → k ≤ runs_in sizes f.runs → chosen (flagged (take (runs_in sizes f.runs) states)) k ≡ chosen (λ r. ltb 0 ((order_of f).state r)) k
  states_choose k l = chosen_same _ _ k (λ r h. ap (ltb 0) (get_or-take (runs_in sizes f.runs) states r 0 (omega arith) ∙ stated.says r (omega arith)))

  -- the flags of the fixed runs choose these
  fixed_choose : Flags states (runs_in sizes f.runs) flags → (k : ℕ) → k ≤ runs_in sizes f.runs → chosen (flagged (take (runs_in sizes f.runs) flags)) k ≡ chosen (λ r. eqb ((order_of f).state r) 2) k
  fixed_choose g k l = chosen_same _ _ k (λ r h. go r (omega arith))
    where
      go : (r : ℕ) → r < runs_in sizes f.runs → flagged (take (runs_in sizes f.runs) flags) r ≡ eqb ((order_of f).state r) 2
      go r h = elim (ℕ_discrete ((order_of f).state r) 2) [
        | yes e ↦ lt-ltb 0 _ (subst (λ (x : ℕ). 0 < x) (sym (get_or-take (runs_in sizes f.runs) flags r 0 h)) (g.all r h (stated.says r h ∙ e))) ∙ sym (eq-eqb _ 2 e)
        | no n ↦ le-ltb 0 (get_or (take (runs_in sizes f.runs) flags) r 0) (omega (arith, get_or-take (runs_in sizes f.runs) flags r 0 h, zero r h n)) ∙ sym (ne_eqb _ 2 n)
      ]
        where
          zero : (r : ℕ) → r < runs_in sizes f.runs → ((order_of f).state r ≡ 2 → ⊥) → get_or flags r 0 ≡ 0
          zero r h n = elim (dec_lt 0 (get_or flags r 0)) [ yes p ↦ absurd (n (sym (stated.says r h) ∙ (g.only r p).1)) | no p ↦ omega arith ]

  -- so the labels found are those by the fixed runs, and by the unstruck ones
  pub fixed_labels : Flags states (runs_in sizes f.runs) flags → (x : ℕ) → labels_of f.runs (take (runs_in sizes f.runs) flags) (runs_in sizes f.runs) x ≡ label (order_of f) (fixed_runs (order_of f)) x
  fixed_labels g x = ap (λ (L : List ℕ). labels (end_u sizes f.runs) (end_v sizes f.runs) L x) (fixed_choose g (runs_in sizes f.runs) (omega arith))

  pub unstruck_labels : (x : ℕ) → labels_of f.runs (take (runs_in sizes f.runs) states) (runs_in sizes f.runs) x ≡ label (order_of f) (unstruck_runs (order_of f)) x
  unstruck_labels x = ap (λ (L : List ℕ). labels (end_u sizes f.runs) (end_v sizes f.runs) L x) (states_choose (runs_in sizes f.runs) (omega arith))

  -- 9: the first flagged run whose ends earlier ones join is the first fixed run that closes a loop
  pub closing_first : Flags states (runs_in sizes f.runs) flags → {closing : Option ℕ}
      → Finds (holds.Opens f.runs (take (runs_in sizes f.runs) flags)) (runs_in sizes f.runs) closing → Finds (Opens (order_of f)) (runs_in sizes f.runs) closing
  closing_first g h = finds_alike to from h
    where
      earlier : (r : ℕ) → r < runs_in sizes f.runs → (x : ℕ) → labels_of f.runs (take (runs_in sizes f.runs) flags) r x ≡ label (order_of f) (chosen (λ j. eqb ((order_of f).state j) 2) r) x
      earlier r l x = ap (λ (L : List ℕ). labels (end_u sizes f.runs) (end_v sizes f.runs) L x) (fixed_choose g r (omega arith))

      to : (r : ℕ) → r < runs_in sizes f.runs → holds.Opens f.runs (take (runs_in sizes f.runs) flags) r → Opens (order_of f) r
      to r l p e j =
          p (subst (λ (x : ℕ). 0 < x) (sym (get_or-take (runs_in sizes f.runs) flags r 0 l)) (g.all r l (stated.says r l ∙ e)))
          (earlier r l (end_u sizes f.runs r)
          ∙ joined_same (order_of f) (chosen (λ i. eqb ((order_of f).state i) 2) r) (joined_mono (λ i q. used_chosen (λ i. eqb ((order_of f).state i) 2) r i q.0 (eq-eqb _ 2 q.1)) j)
          ∙ sym (earlier r l (end_v sizes f.runs r)))

      from : (r : ℕ) → r < runs_in sizes f.runs → Opens (order_of f) r → holds.Opens f.runs (take (runs_in sizes f.runs) flags) r
      from r l p e j =
          p (sym (stated.says r l) ∙ (g.only r (subst (λ (x : ℕ). 0 < x) (get_or-take (runs_in sizes f.runs) flags r 0 l) e)).1)
          (joined_mono (λ i q. let z = chosen_used (λ i. eqb ((order_of f).state i) 2) r i q in (z.0, eqb-true _ 2 z.1))
          (same_joined (order_of f) (chosen (λ i. eqb ((order_of f).state i) 2) r) (sym (earlier r l (end_u sizes f.runs r)) ∙ j ∙ earlier r l (end_v sizes f.runs r))))

-- a label is below 256 where its place is
pub labels_below : (f : Fields) (L found : List ℕ) → Holds (label (order_of f) L) found → (x : ℕ) → x < 256 → at found x < 256
labels_below f L found h x l = omega (arith, h.says x l, label_le (order_of f) L x)

-- ---- supplies: what is known of an array of labels is known of the labels
module _ (f : Fields) (sound : Clears (sound_rows sizes f)) (L found : List ℕ) (fed : List Bool) (labelled : Holds (label (order_of f) L) found)
    (supplied : Tells (stock (length f.places) (at f.places) (at found)) fed) where
  small : length f.places ≤ 256
  small = (fields_fit f sound).small

  below : (x : ℕ) → x < length f.places → at found x ≡ label (order_of f) L x
  below x l = labelled.says x (omega (arith, small))

  pub supplied_as : Tells (stock (length f.places) (λ y. get_or f.places y 0) (label (order_of f) L)) fed
  supplied_as = record { size = supplied.size; says = λ x l. supplied.says x l ∙ ap (ltb 0) (stock_same (length f.places) (at f.places) (at found) (label (order_of f) L) below x) }

  pub counted_as : pieces (length f.places) (at found) ≡ pieces (length f.places) (label (order_of f) L)
  counted_as = pieces_same (length f.places) (at f.places) (at found) (label (order_of f) L) below

  pub fed_as : fed_pieces (length f.places) (at f.places) (at found) ≡ fed_pieces (length f.places) (λ y. get_or f.places y 0) (label (order_of f) L)
  fed_as = fed_same (length f.places) (at f.places) (at found) (label (order_of f) L) below

  at_label : (x : ℕ) → x < length f.places → has fed (at found x) ≡ ltb 0 (stocked (order_of f) L x)
  at_label x l = ap (has fed) (below x l) ∙ supplied_as.says (label (order_of f) L x) (omega (arith, label_le (order_of f) L x, small))

-- 10: the first place whose label by the unstruck runs holds no supply is the first that these do not join with one
pub bare_first : (f : Fields) (sound : Clears (sound_rows sizes f)) (found : List ℕ) (fed : List Bool) → (labelled : Holds (label (order_of f) (unstruck_runs (order_of f))) found)
    → (supplied : Tells (stock (length f.places) (at f.places) (at found)) fed) → {bare : Option ℕ}
    → Finds (λ x. has fed (at found x) ≡ true) (length f.places) bare → Finds (Reached (order_of f)) (length f.places) bare
bare_first f sound found fed labelled supplied h =
    finds_alike
    (λ x l p. fed_mono (in_unstruck (order_of f)) (stocked_fed (order_of f) (order_sound f sound).bit G x (ltb-true 0 _ (sym (at_label f sound G found fed labelled supplied x l) ∙ p))))
    (λ x l p. at_label f sound G found fed labelled supplied x l ∙ lt-ltb 0 _ (fed_stocked (order_of f) (order_sound f sound).bit G (fed_mono (λ r q. unstruck_in (order_of f) r q.0 q.1) p)))
    h
  where
    G : List ℕ
    G = unstruck_runs (order_of f)
