-- Laws of what the scan's loops have done so far.
use Rattle.std.specs.Int.{from_bool}
use Rattle.std.specs.Prelude.{ℕ, min, ◌+◌, ◌-◌, ◌≤◌, ◌<◌, Bool, true, false, cond, ltb, List, [], ◌∷◌, ◌≡◌, refl, eqb, length, get_or, take, set, replicate}
use Rattle.std.proofs.Math.Logic.{inl, inr}
use Rattle.std.proofs.Common.{⊎_elim, sym, ap, subst, subst₂, ◌∙◌, eq-eqb, ne_eqb, lt-ltb, le-ltb, ltb-true, ltb-false, get_or-take, length-take-le, add-one, arith}
use Rattle.std.proofs.lemmas.Grind.{common_steps, get_or-set_at}
use Rattle.std.proofs.Math.ListN.{length-set}
use Rattle.std.proofs.Math.Seq.{get_or-set_other}
use Rattle.std.proofs.Math.Decide.{ℕ_discrete, dec_lt}
use Rattle.layout.specs.Layout.{sizes, end_u, end_v, Shows}
use Rattle.pieces.specs.Holds.{at, Holds, has, Tells, labels_of, Fits}
use Rattle.pieces.specs.Laws.{holds_same, tells_same, zeros}
use Rattle.wirings.specs.Chosen.{chosen, flagged}
use Rattle.wirings.specs.Counted.{stocked}
use Rattle.wirings.specs.Labels.{In, moved, labels, label, label_le, label_root}
use Rattle.wirings.specs.Limits.{fixed_runs}
use Rattle.wirings.proofs.Limits.{fixed_in, in_fixed}
use Rattle.wirings.specs.OfForm.{Described, States, chosen_same}
use Rattle.wirings.specs.Pieces.{stock, stock_same, stock_low, stock_kept, stock_gone}
use Rattle.wirings.specs.Scan.{Scan, Verdict, closed, full, free, spends, Goes, begin, pass, look}
use Rattle.wirings.specs.Wiring.{Order}
use Rattle.scan.specs.Scans.{Scanned, Flags, Gets, Merges}

-- before any run no flag is set
pub flags_none : {states : List ℕ} → Flags states 0 (replicate 1024 0)
flags_none =
    record {
      bits = λ r. omega (arith, zeros 1024 r);
      only = λ r l. absurd (omega (arith, zeros 1024 r));
      all = λ r l. absurd (omega arith);
    }

-- a join costs 1 where both pieces hold a supply
both_fed : (k l : Bool) (x y : ℕ) → k ≡ ltb 0 x → l ≡ ltb 0 y → from_bool (cond k l false) ≡ min (min 1 x) (min 1 y)
both_fed true true x y e f = omega (arith, ltb-true 0 x (sym e), ltb-true 0 y (sym f))
both_fed true false x y e f = omega (arith, ltb-false 0 y (sym f))
both_fed false l x y e f = omega (arith, ltb-false 0 x (sym e))

-- ---- what `scan` has done after r runs
abbrev pub start : Order → ℕ → Scan
start o spare = record { taken = fixed_runs o; spare = spare }

-- the supplies of each label's piece, by a list of runs
abbrev pub stocks : Order → List ℕ → ℕ → ℕ
stocks o L = stock o.n o.supply (label o L)

pub record Going (o : Order) (spare : ℕ) (used labels : List ℕ) (fed : List Bool) (left r : ℕ) : Type 0 where
  pub end : Scan
  pub goes : Goes o (λ j. j) (start o spare) r end
  pub rest : end.spare ≡ left
  pub holds : Holds (label o end.taken) labels
  pub feeds : Tells (stocks o end.taken) fed
  pub size : length used ≡ 1024
  pub bits : (j : ℕ) → get_or used j 0 ≤ 1
  pub only : (j : ℕ) → j < o.m → 0 < get_or used j 0 → In end.taken j
  pub all : (j : ℕ) → In end.taken j → 0 < get_or used j 0

-- labels are places
pub going_le : {o : Order} {spare : ℕ} {used labels : List ℕ} {fed : List Bool} {left r : ℕ} → Going o spare used labels fed left r → (x : ℕ) → x < 256 → at labels x ≤ x
going_le {o} g x l = omega (arith, g.holds.says x l, label_le o g.end.taken x)

-- one more run taken
abbrev taking : ℕ → Scan → ℕ → Scan
taking r s left = record { taken = r ∷ s.taken; spare = left }

-- one more run gives the smaller of its ends' labels what both had
label_gets : (o : Order) (r : ℕ) (L : List ℕ) → o.u r < o.n → o.v r < o.n → (label o L (o.u r) ≡ label o L (o.v r) → ⊥)
    → Gets (label o L (o.u r)) (label o L (o.v r)) (stocks o L) (stocks o (r ∷ L))
unfolding labels
label_gets o r L lu lv two =
    record {
      low = stock_low o.n o.supply (label o L) _ _ root_u root_v two below_u below_v;
      high = stock_gone o.n o.supply (label o L) _ _ root_u root_v two below_u below_v;
      other = stock_kept o.n o.supply (label o L) _ _ root_u root_v two below_u below_v;
    }
  where
    root_u : label o L (label o L (o.u r)) ≡ label o L (o.u r)
    root_u = label_root o L (o.u r)

    root_v : label o L (label o L (o.v r)) ≡ label o L (o.v r)
    root_v = label_root o L (o.v r)

    below_u : label o L (o.u r) < o.n
    below_u = omega (arith, label_le o L (o.u r))

    below_v : label o L (o.v r) < o.n
    below_v = omega (arith, label_le o L (o.v r))

-- an order that these places, runs and states describe
pub record Of (places runs states : List ℕ) (m : ℕ) (o : Order) : Type 0 where
  pub fits : Fits places runs m
  pub drawn : Described o places runs
  pub many : o.m ≡ m
  pub marks : States o states

-- there is one
pub some : List ℕ → List ℕ → List ℕ → ℕ → Order
some places runs states m = record { n = length places; m = m; supply = at places; u = end_u sizes runs; v = end_v sizes runs; state = at states; low = 0; high = 0 }

pub some_of : (states : List ℕ) {places runs : List ℕ} {m : ℕ} → Fits places runs m → Of places runs states m (some places runs states m)
unfolding some
some_of states f = record { fits = f; drawn = record { n = refl; supply = refl; u = refl; v = refl }; many = refl; marks = λ r l. refl }

pub labels_of_le : (runs flags : List ℕ) (k x : ℕ) → labels_of runs flags k x ≤ x
unfolding some
labels_of_le runs flags k x = label_le (some [] runs [] 0) (chosen (flagged flags) k) x

module _ {places runs states : List ℕ} {m : ℕ} {o : Order} (of : Of places runs states m o) where
  module _ {used : List ℕ} (f : Flags states m used) (size : length used ≡ 1024) where
    fixed_flagged : (r : ℕ) → r < m → flagged (take m used) r ≡ eqb (o.state r) 2
    fixed_flagged r l = let k = get_or-take m used r 0 l in let e = of.marks r (omega (arith, of.many)) in elim (dec_lt 0 (get_or used r 0)) [
      | yes q ↦ lt-ltb 0 (get_or (take m used) r 0) (omega arith) ∙ sym (eq-eqb (o.state r) 2 (e ∙ (f.only r q).1))
      | no q ↦ le-ltb 0 (get_or (take m used) r 0) (omega arith) ∙ sym (ne_eqb (o.state r) 2 (λ p. q (f.all r l (sym e ∙ p))))
    ]

    fixed_chosen : chosen (flagged (take m used)) (length (take m used)) ≡ fixed_runs o
    fixed_chosen =
        ap (chosen (flagged (take m used))) (length-take-le m used (omega (arith, of.fits.few)))
        ∙ chosen_same (flagged (take m used)) (λ r. eqb (o.state r) 2) m fixed_flagged
        ∙ ap (chosen (λ r. eqb (o.state r) 2)) (sym of.many)

    fixed_label : (x : ℕ) → labels_of runs (take m used) (length (take m used)) x ≡ label o (fixed_runs o) x
    fixed_label x = cc (fixed_chosen, of.drawn.u, of.drawn.v)

    pub going_none : (spare : ℕ) {labels : List ℕ} {fed : List Bool} → Holds (labels_of runs (take m used) (length (take m used))) labels
        → Tells (stock (length places) (at places) (at labels)) fed → Going o spare used labels fed spare 0
    going_none spare {labels} {fed} h k =
        record {
          end = start o spare;
          goes = begin;
          rest = refl;
          holds = holds;
          feeds = tells_same k (λ x l. same x);
          size = size;
          bits = f.bits;
          only = λ j l q. fixed_in o j l (of.marks j l ∙ (f.only j q).1);
          all = λ j q. let w = in_fixed o j q in f.all j (omega (arith, w.0, of.many)) (sym (of.marks j w.0) ∙ w.1);
        }
      where
        holds : Holds (label o (fixed_runs o)) labels
        holds = holds_same h (λ x l. fixed_label x)

        same : (x : ℕ) → stock (length places) (at places) (at labels) x ≡ stocks o (fixed_runs o) x
        same x =
            stock_same (length places) (at places) (at labels) (label o (fixed_runs o)) (λ y l. holds.says y (omega (arith, of.fits.small))) x
            ∙ cc (of.drawn.n, of.drawn.supply)

  module _ {spare : ℕ} {used labels : List ℕ} {fed : List Bool} {left r : ℕ} (g : Going o spare used labels fed left r) where
    pub going_all : r ≡ m → Scanned o spare used labels
    going_all p =
        record {
          end = g.end;
          goes = subst (λ (k : ℕ). Goes o (λ j. j) (start o spare) k g.end) (p ∙ sym of.many) g.goes;
          names = record { only = λ j l q. g.only j l (ltb-true 0 (get_or used j 0) q); all = λ j q. lt-ltb 0 (get_or used j 0) (g.all j q) };
          bits = g.bits;
          holds = g.holds;
        }

    -- a turn that takes nothing
    kept : Goes o (λ j. j) (start o spare) (r + 1) g.end → Going o spare used labels fed left (r + 1)
    kept goes = record { end = g.end; goes = goes; rest = g.rest; holds = g.holds; feeds = g.feeds; size = g.size; bits = g.bits; only = g.only; all = g.all }

    module _ (l : r < m) where
      state : o.state r ≡ get_or states r 0
      state = of.marks r (omega (arith, of.many))

      pub going_pass : (get_or states r 0 ≡ 1 → ⊥) → Going o spare used labels fed left (r + 1)
      going_pass n = kept (rw add-one (pass g.goes (λ p. n (sym state ∙ p))))

      -- run r is possible, and its ends are u and v, with labels a and b
      module _ {u v mark a b : ℕ} (possible : get_or states r 0 ≡ 1) (shows : Shows sizes runs r u v mark) (is_a : a ≡ at labels u) (is_b : b ≡ at labels v) where
        looked : {t : Scan} → Verdict o r g.end t → Goes o (λ j. j) (start o spare) (r + 1) t
        looked w = rw add-one (look g.goes (state ∙ possible) w)

        end_u_below : o.u r < o.n
        end_u_below = omega (arith, of.fits.one r l, of.drawn.n, ap (λ (f : ℕ → ℕ). f r) of.drawn.u)

        end_v_below : o.v r < o.n
        end_v_below = omega (arith, of.fits.other r l, of.drawn.n, ap (λ (f : ℕ → ℕ). f r) of.drawn.v)

        at_u : a ≡ label o g.end.taken (o.u r)
        at_u = let e : u ≡ o.u r = cc (shows.one, of.drawn.u) in
            is_a ∙ g.holds.says u (omega (arith, end_u_below, of.drawn.n, of.fits.small)) ∙ ap (label o g.end.taken) e

        at_v : b ≡ label o g.end.taken (o.v r)
        at_v = let e : v ≡ o.v r = cc (shows.other, of.drawn.v) in
            is_b ∙ g.holds.says v (omega (arith, end_v_below, of.drawn.n, of.fits.small)) ∙ ap (label o g.end.taken) e

        pub going_closed : a ≡ b → Going o spare used labels fed left (r + 1)
        going_closed p = kept (looked (closed (sym at_u ∙ p ∙ at_v) refl))

        -- they are two pieces; the cost is 1 where both hold a supply
        module _ {cost : ℕ} (two : a ≡ b → ⊥) (cost_is : cost ≡ from_bool (cond (has fed a) (has fed b) false)) where
          apart : label o g.end.taken (o.u r) ≡ label o g.end.taken (o.v r) → ⊥
          apart p = two (at_u ∙ p ∙ sym at_v)

          fed_u : has fed a ≡ ltb 0 (stocked o g.end.taken (o.u r))
          fed_u = ap (has fed) at_u ∙ g.feeds.says _ (omega (arith, label_le o g.end.taken (o.u r), end_u_below))

          fed_v : has fed b ≡ ltb 0 (stocked o g.end.taken (o.v r))
          fed_v = ap (has fed) at_v ∙ g.feeds.says _ (omega (arith, label_le o g.end.taken (o.v r), end_v_below))

          costs : cost ≡ min (min 1 (stocked o g.end.taken (o.u r))) (min 1 (stocked o g.end.taken (o.v r)))
          costs = cost_is ∙ both_fed _ _ _ _ fed_u fed_v

          pub going_full : left < cost → Going o spare used labels fed left (r + 1)
          going_full k =
              kept (looked (full apart (omega (arith, costs)) (omega (arith, costs)) (omega (arith, costs, g.rest)) refl))

          module _ (enough : cost ≤ left) where
            takes : Verdict o r g.end (taking r g.end (left - cost))
            takes = elim (dec_lt 0 cost) [
              | yes k ↦ let p : left - cost ≡ g.end.spare - 1 = omega (arith, costs, g.rest) in
                  spends apart (omega (arith, costs)) (omega (arith, costs)) (omega (arith, g.rest)) (ap (taking r g.end) p)
              | no k ↦ let p : left - cost ≡ g.end.spare = omega (arith, g.rest) in free apart (omega (arith, costs)) (ap (taking r g.end) p)
            ]

            gets : Gets a b (stocks o g.end.taken) (stocks o (r ∷ g.end.taken))
            gets =
                subst₂ (λ (a b : ℕ). Gets a b (stocks o g.end.taken) (stocks o (r ∷ g.end.taken))) (sym at_u) (sym at_v)
                (label_gets o r g.end.taken end_u_below end_v_below apart)

            room : r < length used
            room = omega (arith, g.size, of.fits.few)

            pub going_take : {new : List ℕ} {merged : List Bool} → Holds (λ x. moved (at labels u) (at labels v) (at labels x)) new → Merges fed a b merged
                → Going o spare (set used r 1) new merged (left - cost) (r + 1)
            unfolding labels
            going_take {new} {merged} h k =
                record {
                  end = taking r g.end (left - cost);
                  goes = looked takes;
                  rest = refl;
                  holds = holds_same h (λ x q. cc (is_a, is_b, at_u, at_v, g.holds.says x q));
                  feeds = k _ _ gets g.feeds;
                  size = length-set used r 1 ∙ g.size;
                  bits = λ j. grind (arith, common_steps, g.bits j, room);
                  only = λ j q w. elim (ℕ_discrete j r) [ yes p ↦ inl p | no p ↦ inr (g.only j q (omega (arith, get_or-set_other used r j 1 0 p))) ];
                  all = λ j w. elim (ℕ_discrete j r) [
                    | yes p ↦ omega (arith, get_or-set_at used r j 1 0 p room)
                    | no p ↦ omega (arith, get_or-set_other used r j 1 0 p, g.all j (⊎_elim (λ q. absurd (p q)) (λ q. q) w))
                  ];
                }
