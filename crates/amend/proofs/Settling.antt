-- The ways out of an amendment, each as an outcome of the whole table.
use Rattle.std.specs.Prelude.{ℕ, min, List, ◌≡◌, refl, length}
use Rattle.std.proofs.Common.{sym, ap, subst, ◌∙◌, arith}
use Rattle.amend.specs.Amending.{Says, pins, strikes, narrows, Run, Named, Ordered, Obeyed, amend_rows, written, Amended, Leaves}
use Rattle.amend.specs.Fields.{written_alike, written_states, written_low, written_high, written_sound, written_wholes}
use Rattle.answer.specs.Laws.{not_refused, cleared, clears_front, clears_back, onward, refuses, passes, ends, later, refusal_of, settled_as, fact}
use Rattle.answer.specs.declared.Counts.{Counts}
use Rattle.answer.specs.Reply.{Reply, accepted, refused}
use Rattle.answer.specs.Table.{Clears, Settled}
use Rattle.filter.specs.Demand2.{lawful_confirmed}
use Rattle.filter.specs.Filtered.{Lent, Left, Room, Accepted, confirmed_fields, later_rows, filter_rows}
use Rattle.filter.specs.Filtered.{Leaves as Filters}
use Rattle.filter.specs.Restated.{still_sound, same_wirings}
use Rattle.layout.proofs.Image.{fields_whole, read_back}
use Rattle.layout.specs.Layout.{sizes, runs_in, Fields, image}
use Rattle.layout.proofs.Laws.{fields_sound, whole_runs, counts}
use Rattle.layout.specs.Rows.{fields_of, read_rows, sound_rows}
use Rattle.wirings.specs.Amendments.{Amendment, pin, strike, narrow, WellFormed, Obeys, Clash, amended}
use Rattle.wirings.proofs.Amendments.{amended_alike, amendment_cuts, clash_none, well_formed_as, obeys_as}
use Rattle.wirings.specs.Confirmed.{Confirmed}
use Rattle.wirings.specs.OfForm.{order_of}
use Rattle.wirings.specs.Same.{Agree}
use Rattle.wirings.proofs.Same.{agree_sym}
use Rattle.wirings.proofs.Standing.{alike_trans, agree_same}
use Rattle.wirings.specs.Theorem1.{order_rows}
use Rattle.wirings.specs.Wiring.{Order, Wiring, Lawful}

abbrev pub turned : Lent → Reply Counts → Left
turned lent r = record { reply = r; lent = lent }

-- ---- the first filtering, into buffers no longer than any form needs
pub record Shorter (lent small : Lent) : Type 0 where
  pub form : length small.form ≡ min (length lent.form) 5400
  pub wiring : length small.wiring ≡ min (length lent.wiring) 1024
  pub segments : length small.segments ≡ min (length lent.segments) 256

module _ (s : List ℕ) where
  module _ {lent small : Lent} (short : Shorter lent small) where
    room_to : Clears (read_rows sizes s) → Room (fields_of sizes s) small → Room (fields_of sizes s) lent
    room_to read room = record {
      form = omega (arith, room.form, short.form);
      wiring = omega (arith, room.wiring, short.wiring);
      segments = omega (arith, room.segments, short.segments);
    }

    room_from : Clears (read_rows sizes s) → Room (fields_of sizes s) lent → Room (fields_of sizes s) small
    room_from read room = let c = counts sizes (omega arith) (fields_of sizes s) (fields_sound sizes (omega arith) s read) in record {
      form = omega (arith, room.form, short.form, c.places, c.runs);
      wiring = omega (arith, room.wiring, short.wiring, c.runs);
      segments = omega (arith, room.segments, short.segments, c.places);
    }

    as_lent : {left : Left} → Filters s small left → Settled (λ number k. turned small (refused number k)) (filter_rows s lent) (Accepted (fields_of sizes s) small) left
    as_lent p = settled_as 8 (read_rows sizes s) (order_rows (order_of (fields_of sizes s))) room_to room_from p

    -- refused: 1 to 11
    pub stopped : (x y z : ℕ) {left : Left} {i j : ℕ} → Filters s small left → left.reply ≡ refused i j → Leaves s x y z lent (turned lent (refused i j))
    stopped x y z p e =
        onward (as_lent p) (λ number k g. ap (turned lent) (sym e ∙ ap (λ (l : Left). l.reply) g)) (λ a. absurd (not_refused (sym a.reply ∙ e)))

    -- accepted: no number up to 11, and the confirmed form
    pub started : {left : Left} {c : Counts} → Filters s small left → left.reply ≡ accepted c → Clears (filter_rows s lent) × Accepted (fields_of sizes s) small left
    started p e = cleared (as_lent p) (λ number k g. not_refused (sym e ∙ ap (λ (l : Left). l.reply) g))

-- ---- what three numbers say is one thing, and well formed if 12 and 13 do not refuse it
pub says_one : {x y z : ℕ} {a b : Amendment} → Says x y z a → Says x y z b → a ≡ b
says_one (pins e f) (pins g h) = refl
says_one (pins e f) (strikes g h) = absurd (omega arith)
says_one (pins e f) (narrows g) = absurd (omega arith)
says_one (strikes e f) (pins g h) = absurd (omega arith)
says_one (strikes e f) (strikes g h) = refl
says_one (strikes e f) (narrows g) = absurd (omega arith)
says_one (narrows e) (pins g h) = absurd (omega arith)
says_one (narrows e) (strikes g h) = absurd (omega arith)
says_one (narrows e) (narrows g) = refl

pub well_named : {x y z : ℕ} {a : Amendment} (o : Order) → Says x y z a → WellFormed o a → Named o.m x y z
well_named o (pins e f) l = (pin _, pins e f, l)
well_named o (strikes e f) l = (strike _, strikes e f, l)
well_named o (narrows e) l = (narrow _ _, narrows e, tt)

pub well_ordered : {x y z : ℕ} {a : Amendment} (o : Order) → Says x y z a → WellFormed o a → Ordered x y z
well_ordered o (pins e f) l g = absurd (omega arith)
well_ordered o (strikes e f) l g = absurd (omega arith)
well_ordered o (narrows e) l g = l

pub well_formed : {x y z : ℕ} {a : Amendment} (o : Order) → Says x y z a → Named o.m x y z → Ordered x y z → WellFormed o a
well_formed o (pins e f) (b, s, l) h = subst (Run o.m) (says_one s (pins e f)) l
well_formed o (strikes e f) (b, s, l) h = subst (Run o.m) (says_one s (strikes e f)) l
well_formed o (narrows e) n h = h e

-- ---- past the first filtering
module _ (f : Fields) (sound : Clears (sound_rows sizes f)) {state : ℕ → ℕ} {low high : ℕ} {w : Wiring} {segment : ℕ → ℕ} {struck pinned : ℕ}
    (c : Confirmed (order_of f) state low high w segment struck pinned) where
  same : Agree (order_of f) (order_of (confirmed_fields f state low high))
  same = same_wirings f sound c

  module _ (a : Amendment) (well : WellFormed (order_of (confirmed_fields f state low high)) a) (free : Clash (order_of (confirmed_fields f state low high)) a → ⊥) where
    -- the order of the form with the amendment written in is the amended order
    in_writing : Agree (amended a (order_of (confirmed_fields f state low high))) (order_of (written a (confirmed_fields f state low high)))
    in_writing = let g = confirmed_fields f state low high in
        agree_same (written_alike g a) (λ r l. written_states g (whole_runs sizes (omega arith) g (still_sound f sound c)) a well r) (written_low g a) (written_high g a)

    -- its wirings are those of the form that obey
    pub obeying : (b : Wiring) → Lawful (order_of f) b → Obeys (order_of f) b a → Lawful (order_of (written a (confirmed_fields f state low high))) b
    obeying b h o = in_writing.to b ((amendment_cuts _ b a well free).1 (same.to b h, obeys_as same.alike b a o))

    pub obeyed : (b : Wiring) → Lawful (order_of (written a (confirmed_fields f state low high))) b → Lawful (order_of f) b × Obeys (order_of f) b a
    obeyed b h = let q = (amendment_cuts _ b a well free).0 (in_writing.from b h) in (same.from b q.0, obeys_as (agree_sym same).alike b a q.1)

    -- where a wiring is left, it has no fault
    pub sound_still : (b : Wiring) → Lawful (order_of (written a (confirmed_fields f state low high))) b → Clears (sound_rows sizes (written a (confirmed_fields f state low high)))
    sound_still b h = written_sound (confirmed_fields f state low high) (still_sound f sound c) a well (omega (arith, h.enough, h.few))

-- forms with as many places and runs need the same room
pub room_as : (g k : Fields) {lent : Lent} → length g.places ≡ length k.places → runs_in sizes g.runs ≡ runs_in sizes k.runs → Room g lent → Room k lent
room_as g k n m r = record { form = omega (arith, r.form, n, m); wiring = omega (arith, r.wiring, m); segments = omega (arith, r.segments, n) }

-- ---- the ways out once 1 to 11 are passed
module _ (s : List ℕ) (x y z : ℕ) (lent : Lent) (clears : Clears (filter_rows s lent)) where
  read : Clears (read_rows sizes s)
  read = clears_front (read_rows sizes s) (later_rows (fields_of sizes s) lent) clears

  sound : Clears (sound_rows sizes (fields_of sizes s))
  sound = fields_sound sizes (omega arith) s read

  room : Room (fields_of sizes s) lent
  room = fact (clears_back (read_rows sizes s) (later_rows (fields_of sizes s) lent) clears).0

  past : {left : Left} → Settled (λ number k. turned lent (refused number k)) (amend_rows (fields_of sizes s) x y z) (Amended (fields_of sizes s) x y z lent) left → Leaves s x y z lent left
  past p = later (filter_rows s lent) (amend_rows (fields_of sizes s) x y z) clears p

  -- 12
  pub not_named : (Named (runs_in sizes (fields_of sizes s).runs) x y z → ⊥) → Leaves s x y z lent (turned lent (refused 12 0))
  not_named n = past (refuses n)

  -- 13
  pub not_ordered : Named (runs_in sizes (fields_of sizes s).runs) x y z → (Ordered x y z → ⊥) → Leaves s x y z lent (turned lent (refused 13 0))
  not_ordered p n = past (passes p (refuses n))

  module _ {state : ℕ → ℕ} {low high : ℕ} {w : Wiring} {segment : ℕ → ℕ} {struck pinned : ℕ} (c : Confirmed (order_of (fields_of sizes s)) state low high w segment struck pinned)
      (a : Amendment) (says : Says x y z a) (well : WellFormed (order_of (confirmed_fields (fields_of sizes s) state low high)) a) where
    back : WellFormed (order_of (fields_of sizes s)) a
    back = well_formed_as (agree_sym (same_wirings (fields_of sizes s) sound c)).alike a well

    none_obeys : {left : Left} → left ≡ turned lent (refused 14 0) → (Obeyed (order_of (fields_of sizes s)) x y z → ⊥) → Leaves s x y z lent left
    none_obeys e n = past (passes (well_named (order_of (fields_of sizes s)) says back) (passes (well_ordered (order_of (fields_of sizes s)) says back) (subst (Settled _ _ _) (sym e) (refuses n))))

    -- 14: the confirmed form has the other state
    pub clashes : Clash (order_of (confirmed_fields (fields_of sizes s) state low high)) a → Leaves s x y z lent (turned lent (refused 14 0))
    clashes q = none_obeys refl (λ (b, t, v, h, o). let e = says_one t says in
        clash_none _ v a well q ((same_wirings (fields_of sizes s) sound c).to v h) (obeys_as (same_wirings (fields_of sizes s) sound c).alike v a (subst (Obeys (order_of (fields_of sizes s)) v) e o)))

    module _ (free : Clash (order_of (confirmed_fields (fields_of sizes s) state low high)) a → ⊥) {left : Left}
        (p : Filters (image sizes (written a (confirmed_fields (fields_of sizes s) state low high))) lent left) where
      as_written : fields_of sizes (image sizes (written a (confirmed_fields (fields_of sizes s) state low high))) ≡ written a (confirmed_fields (fields_of sizes s) state low high)
      as_written = fields_whole (written a (confirmed_fields (fields_of sizes s) state low high))
          (written_wholes (confirmed_fields (fields_of sizes s) state low high) (whole_runs sizes (omega arith) (confirmed_fields (fields_of sizes s) state low high) (still_sound (fields_of sizes s) sound c)) a)

      room_there : Room (written a (confirmed_fields (fields_of sizes s) state low high)) lent
      room_there = let e = (same_wirings (fields_of sizes s) sound c).alike in let g = confirmed_fields (fields_of sizes s) state low high in
          let h = alike_trans (amended_alike (order_of g) a) (written_alike g a) in
          room_as (fields_of sizes s) (written a g) (e.n ∙ h.n) (e.m ∙ h.m) room

      -- 14: the second filtering refused
      pub unlawful : {i j : ℕ} → left.reply ≡ refused i j → Leaves s x y z lent (turned left.lent (refused 14 0))
      unlawful e = none_obeys (ap (λ (l : Left). turned l.lent (refused 14 0)) kept)
          (λ (b, t, v, h, o). not_refused (sym (lawful v h (subst (Obeys (order_of (fields_of sizes s)) v) (says_one t says) o)).reply ∙ e))
        where
          kept : left ≡ turned lent left.reply
          kept = let t = image sizes (written a (confirmed_fields (fields_of sizes s) state low high)) in
              let g = refusal_of (λ k. not_refused (sym k.reply ∙ e)) p in
              g.2 ∙ ap (λ (l : Left). turned lent l.reply) (sym g.2)

          lawful : (v : Wiring) → Lawful (order_of (fields_of sizes s)) v → Obeys (order_of (fields_of sizes s)) v a → Accepted (fields_of sizes (image sizes (written a (confirmed_fields (fields_of sizes s) state low high)))) lent left
          lawful v h o = let l = obeying (fields_of sizes s) sound c a well free v h o in
              lawful_confirmed (image sizes (written a (confirmed_fields (fields_of sizes s) state low high))) lent left (read_back (written a (confirmed_fields (fields_of sizes s) state low high)) (sound_still (fields_of sizes s) sound c a well free v l)) (subst (λ (g : Fields). Room g lent) (sym as_written) room_there) v
              (subst (λ (g : Fields). Lawful (order_of g) v) (sym as_written) l) p

      -- accepted
      pub finished : {k : Counts} → left.reply ≡ accepted k → Leaves s x y z lent left
      finished {k} e = past (passes (well_named (order_of (fields_of sizes s)) says back) (passes (well_ordered (order_of (fields_of sizes s)) says back) (passes (let q = obeyed (fields_of sizes s) sound c a well free last.wiring last.confirmed.first.lawful in (a, says, last.wiring, q.0, q.1)) (ends
          (record { amendment = a; says = says; state = state; low = low; high = high; wiring = w; segment = segment; struck = struck; pinned = pinned; confirmed = c; last = last })))))
        where
          last : Accepted (written a (confirmed_fields (fields_of sizes s) state low high)) lent left
          last = subst (λ (g : Fields). Accepted g lent left) as_written (cleared p (λ number j g. not_refused (sym e ∙ ap (λ (l : Left). l.reply) g))).1
