-- The paper's worked forms P1 to P12 and form E, each with its outcome, and that every outcome is right by the definitions.
use Rattle.std.specs.Prelude.{ℕ, ◌≤◌, ◌<◌, Bool, true, false, ◌&&◌, List, [], ◌∷◌, ◌≡◌, refl, leb, length, get_or}
use Rattle.std.specs.Bool.{beq}
use Rattle.std.proofs.Common.{sym, ap, ◌∙◌, leb-true, arith}
use Rattle.std.proofs.Math.Path.{subst}
use Rattle.std.proofs.Math.Dec.{eqb}
use Rattle.std.proofs.Math.ListN.{get_or-eq_default}
use Rattle.std.proofs.Math.Decide.{ℕ_discrete, dec_lt}
use Rattle.answer.specs.Laws.{not_refused, cleared, fact, decided}
use Rattle.answer.specs.Reply.{Reply, accepted, refused}
use Rattle.answer.specs.Table.{Settled, Decides, holds, fails}
use Rattle.wirings.specs.Amended.{put}
use Rattle.wirings.specs.Amendments.{written_in}
use Rattle.wirings.proofs.Amendments.{written_sound}
use Rattle.wirings.specs.Chosen.{chosen, true_not_false}
use Rattle.wirings.specs.Confirmed.{Mark, Lowest, Highest, SegmentNumber}
use Rattle.wirings.specs.Counted.{Sound}
use Rattle.wirings.specs.First.{top, bottom}
use Rattle.wirings.proofs.First.{lowest, highest, first_wiring, segment_number}
use Rattle.wirings.specs.Labels.{moved, labels, label}
use Rattle.wirings.proofs.Limits.{in_unstruck}
use Rattle.wirings.specs.Pieces.{pieces, stock, fed_pieces}
use Rattle.wirings.specs.Scan.{Scan, Goes}
use Rattle.wirings.proofs.Solved.{decides_equal, decides_most, decides_both, decides_below, all_below, first_bad, count_of, counts_of, sound_by, sound_by_lem, judged, judged_settles, mark_of, mark_right, scanned, scanned_goes}
use Rattle.wirings.specs.Tally.{when, tally}
use Rattle.wirings.specs.Theorem1.{Meets, Names, Ends, start, order_rows}
use Rattle.wirings.proofs.Theorem1.{member, member_in, in_member, scan_ends, listed, least_most}
use Rattle.wirings.specs.Wiring.{Order, Wiring, Counts}
use Rattle.wirings.specs.Worked.{Confirmation, Entry, order_in, RightFor, Right, All, worked}

-- ---- a test of an entry
-- where the scan in listed order for the greatest count ends
abbrev pub scan_end : Order → Scan
scan_end o = scanned o (start o (top o)) o.m

-- the confirmation is the one that the marks, the limits and the scan give
unfoldable pub confirmed_by : Order → Confirmation → Bool
confirmed_by o c = let L = (scan_end o).taken in
    all_below (λ r. eqb (get_or c.states r 0) (mark_of o r)) o.m
    && (eqb c.low (bottom o) && eqb c.high (top o))
    && (all_below (λ r. beq (eqb (get_or c.wiring r 0) 1) (member L r)) o.m && all_below (λ x. eqb (get_or c.segments x 0) (label o L x)) o.n)
    && (eqb c.struck (count_of (λ r. eqb (o.state r) 1 && eqb (get_or c.states r 0) 0) o.m)
    && eqb c.pinned (count_of (λ r. eqb (o.state r) 1 && eqb (get_or c.states r 0) 2) o.m))

both_true : (a b : Bool) → (a && b) ≡ true → (a ≡ true) × (b ≡ true)
both_true true b e = (refl, e)
both_true false b e = absurd (true_not_false (sym e))

decides_same : (a b : Bool) → Decides (a ≡ b) (beq a b)
decides_same true true = holds refl
decides_same true false = fails true_not_false
decides_same false true = fails (λ e. true_not_false (sym e))
decides_same false false = holds refl

module _ (o : Order) (ok : Sound o) (line : o.low ≤ o.high) (meets : Meets o) where
  end_goes : Goes o (λ j. j) (start o (top o)) o.m (scan_end o)
  end_goes = scanned_goes o (start o (top o)) o.m

  ends : Ends o (top o) (scan_end o)
  ends = scan_ends o ok meets (top o) (omega (arith, least_most o ok meets, meets.few)) (omega arith) (λ j. j) (listed o) end_goes

  named : (w : Wiring) → ((r : ℕ) → r < o.m → w r ≡ member (scan_end o).taken r) → Names o w (scan_end o).taken
  named w same = record {
    only = λ r l e. member_in (scan_end o).taken r (sym (same r l) ∙ e);
    all = λ r h. same r (in_unstruck o r (ends.less r h)).0 ∙ in_member (scan_end o).taken r h;
  }

  confirmed_by_lem : (c : Confirmation) → confirmed_by o c ≡ true → RightFor o (accepted c)
  unfolding confirmed_by
  confirmed_by_lem c e =
      let w : Wiring = λ r. eqb (get_or c.wiring r 0) 1 in
      let states = decides_below _ o.m (λ r. decides_equal (get_or c.states r 0) (mark_of o r)) in
      let line-four = decides_both (decides_equal c.low (bottom o)) (decides_equal c.high (top o)) in
      let wiring = decides_below _ o.m (λ r. decides_same (w r) (member (scan_end o).taken r)) in
      let numbers = decides_below _ o.n (λ x. decides_equal (get_or c.segments x 0) (label o (scan_end o).taken x)) in
      let counts = decides_both (decides_equal c.struck _) (decides_equal c.pinned _) in
      let (h, amounts) = decided (decides_both (decides_both (decides_both states line-four) (decides_both wiring numbers)) counts) e in
      let (form, used) = h in
      let (marks, lines) = form in
      let names = named w used.0 in
      record {
        marks = λ r l. subst (Mark o r) (sym (marks r l)) (mark_right o ok line meets r l);
        lowest = subst (Lowest o) (sym lines.0) (lowest o ok line meets);
        highest = subst (Highest o) (sym lines.1) (highest o ok line meets);
        first = first_wiring o ok line meets (scan_end o) end_goes w names;
        segments = λ x l. subst (SegmentNumber o w x) (sym (used.1 x l)) (segment_number o ok line meets (scan_end o) end_goes w names x);
        struck_counted = subst (Counts _ o.m) (sym amounts.0) (counted 0);
        pinned_counted = subst (Counts _ o.m) (sym amounts.1) (counted 2);
      }
    where
      counted : (k : ℕ) → Counts (λ r. (o.state r ≡ 1) × (get_or c.states r 0 ≡ k)) o.m
          (count_of (λ r. eqb (o.state r) 1 && eqb (get_or c.states r 0) k) o.m)
      counted k = counts_of _ o.m (λ r. decides_both (decides_equal (o.state r) 1) (decides_equal (get_or c.states r 0) k))

-- 9 to 11 passed are the three conditions
passed_meets : (o : Order) → Sound o → judged o ≡ accepted tt → Meets o
passed_meets o ok e =
    let c = (cleared (judged_settles o ok) (λ number k g. not_refused (sym e ∙ g))).0 in let m = fact c.1.1.0 in
    record { open' = c.0.before; fed = c.1.0.before; few = m.few; enough = m.enough }

-- by the judgement on 9 to 11: a refusal with its number and place, or a confirmation
abbrev pub outcome_by : Order → Reply (Unit {0}) → Reply Confirmation → Bool
outcome_by o (refused i j) (refused number place) = eqb i number && eqb j place
outcome_by o (refused i j) (accepted c) = false
outcome_by o (accepted a) (refused number place) = false
outcome_by o (accepted a) (accepted c) = leb o.low o.high && confirmed_by o c

pub outcome_right : (o : Order) → Sound o → (a : Reply (Unit {0})) → judged o ≡ a → (b : Reply Confirmation) → outcome_by o a b ≡ true → RightFor o b
outcome_right o ok (refused i j) p (refused number place) e =
    let h = decided (decides_both (decides_equal i number) (decides_equal j place)) e in
    subst (Settled refused (order_rows o) (λ a. a ≡ accepted tt)) (p ∙ ap (λ (k : ℕ). refused k j) h.0 ∙ ap (refused number) h.1) (judged_settles o ok)
outcome_right o ok (refused i j) p (accepted c) e = absurd (true_not_false (sym e))
outcome_right o ok (accepted a) p (refused number place) e = absurd (true_not_false (sym e))
outcome_right o ok (accepted a) p (accepted c) e = let h = both_true (leb o.low o.high) (confirmed_by o c) e in
    confirmed_by_lem o ok (leb-true o.low o.high h.0) (passed_meets o ok p) c h.1

unfoldable pub right_by : Entry → Bool
right_by e = let o = order_in e in
    let amended = written_in e.amendments o in
    all_below (λ x. leb (get_or e.supplies x 0) 1) (length e.supplies) && sound_by o && outcome_by amended (judged amended) e.outcome

pub right_by_lem : (e : Entry) → right_by e ≡ true → Right e
unfolding right_by
right_by_lem e t =
    let o = order_in e in
    let amended = written_in e.amendments o in
    let h = both_true _ (outcome_by amended (judged amended) e.outcome) t in let k = both_true _ (sound_by o) h.0 in
    let bits = decided (decides_below _ (length e.supplies) (λ x. decides_most (get_or e.supplies x 0) 1)) k.0 in
    outcome_right amended (written_sound e.amendments o (sound_by_lem o (bit bits) k.1)) (judged amended) refl e.outcome h.1
  where
    bit : ((x : ℕ) → x < length e.supplies → get_or e.supplies x 0 ≤ 1) → (x : ℕ) → get_or e.supplies x 0 ≤ 1
    bit f x = elim (dec_lt x (length e.supplies)) [ yes l ↦ f x l | no l ↦ omega (arith, get_or-eq_default e.supplies 0 {n = x} (omega arith)) ]

unfoldable pub all_by : List Entry → Bool
all_by [] = true
all_by (e ∷ es) = right_by e && all_by es

all_by_lem : (es : List Entry) → all_by es ≡ true → All Right es
unfolding all_by
all_by_lem [] t = tt
all_by_lem (e ∷ es) t = let h = both_true (right_by e) (all_by es) t in (right_by_lem e h.0, all_by_lem es h.1)

-- ---- every outcome of the table is right
pub all_right : All Right worked
unfolding all_by right_by confirmed_by sound_by judged mark_of scanned all_below first_bad count_of member chosen labels moved pieces stock fed_pieces when tally put ℕ_discrete
all_right = all_by_lem worked refl
