-- `filter` settles numbers 1 to 11: 1 to 7 by the reader, 9 to 11 by the confirmation; and writes only where none refuses.
use Rattle.std.proofs.Common.{◌≤◌, ◌≡◌, ℕ, List, length, take, length-take, refl, subst, rules, arith}
use Rattle.std.specs.Prelude.{Result, Ok}
use Rattle.answer.specs.declared.Refusal.{Refusal}
use Rattle.answer.specs.Laws.{handed_on, decided, denied}
use Rattle.confirm.specs.declared.Confirmation.{Confirmation}
use Rattle.confirm.specs.Concluded.{Confirms}
use Rattle.confirm.specs.Judged.{Settles}
use Rattle.filter.specs.Filtered.{Room}
use Rattle.filter.specs.Laws.{written_put}
use Rattle.filter.specs.Settling.{not_read, no_room, no_wiring, accepts, taken_sound, room_as, as_room, accepted_so, settles_taken}
use Rattle.layout.proofs.Image.{Bytes}
use Rattle.layout.specs.Layout.{sizes}
use Rattle.layout.specs.Rows.{fields_of}
use Rattle.reader.specs.Laws.{Valid, valid}
use Rattle.wirings.specs.OfForm.{order_of}
use Rattle.filter.proofs.Came.{lent}
use Rattle.filter.proofs.filter.Goals as goal
use Rattle.filter.proofs.filter.Goals.{Else-not-room, In_ok-n}

-- past the reading: the image is bytes, and is read as a form
small : (c : In_ok-n) → Bytes c.args.image.now
small c i = omega (arith, c.type_inv.image i)

read : (c : In_ok-n) → Valid c.args.image.now c.in_ok-n.field-0.places c.in_ok-n.field-0.runs c.in_ok-n.field-0.line.low c.in_ok-n.field-0.line.high
read c = valid c.read.ensures c.in_ok-n.was

-- past the look at the buffers: there is room
roomy : (c : Else-not-room) → Room (fields_of sizes c.args.image.now) (lent c.args.form.now c.args.wiring.now c.args.segments.now)
roomy c = room_as (lent c.args.form.now c.args.wiring.now c.args.segments.now) (λ i. omega (arith, c.type_inv.image i)) (valid c.read.ensures c.in_ok-n.was) (decided c.room.ensures c.if-not-room.false)

-- the front of an array goes where there is room for it
front : (k : ℕ) (values before : List ℕ) → k ≤ length before → length (take k values) ≤ length before
front k values before room = omega (arith, length-take k values)

pub returns-in_err-n : goal.returns-in_err-n
returns-in_err-n c =
    rw (handed_on c.from_residual.result c.from_residual.ensures.1)
    (not_read c.args.image.now (lent c.args.form.now c.args.wiring.now c.args.segments.now) c.read.ensures c.in_err-n.was)

pub room-requires : goal.room-requires
room-requires c = (read (goal.at.room-requires c).In_ok-n).numbers

pub returns-then-not-room : goal.returns-then-not-room
returns-then-not-room c =
    let k = (goal.at.returns-then-not-room c).In_ok-n in
    no_room _ (lent c.args.form.now c.args.wiring.now c.args.segments.now) c.read.ensures c.in_ok-n.was
    (λ room. denied c.room.ensures c.if-not-room.true (as_room (lent c.args.form.now c.args.wiring.now c.args.segments.now) (small k) (read k) room))

pub slice_bounds-confirm-end : goal.slice_bounds-confirm-end
slice_bounds-confirm-end c = let v = read (goal.at.slice_bounds-confirm-end c).In_ok-n in omega arith

pub slice_bounds-confirm-end-2 : goal.slice_bounds-confirm-end-2
slice_bounds-confirm-end-2 c = let v = read (goal.at.slice_bounds-confirm-end-2 c).In_ok-n in omega arith

pub invariant_of-confirm : goal.invariant_of-confirm
invariant_of-confirm c = record { clears = taken_sound (read (goal.at.invariant_of-confirm c).In_ok-n) }

pub returns-in_err-confirmed : goal.returns-in_err-confirmed
returns-in_err-confirmed c =
    let at = goal.at.returns-in_err-confirmed c in
    let settles = settles_taken (read at.In_ok-n) c.confirm.ensures in
    rw (handed_on c.from_residual-in_err-confirmed.result c.from_residual-in_err-confirmed.ensures.1)
    (no_wiring _ (lent c.args.form.now c.args.wiring.now c.args.segments.now) c.read.ensures c.in_ok-n.was (roomy at.Else-not-room) _
    (subst (λ (r : Result Confirmation Refusal). Settles (order_of (fields_of sizes c.args.image.now)) r) c.in_err-confirmed.was settles))

pub write_form-requires-clause-form : goal.write_form-requires-clause-form
write_form-requires-clause-form c = record { low = _; high = _; valid = read (goal.at.write_form-requires-clause-form c).In_ok-n }

pub write_form-requires-clause-room : goal.write_form-requires-clause-room
write_form-requires-clause-room c = let v = read (goal.at.write_form-requires-clause-room c).In_ok-n in let d = decided c.room.ensures c.if-not-room.false in omega (arith, v.total)

pub shared_ref_as_front-put : goal.shared_ref_as_front-put
shared_ref_as_front-put c = let v = read (goal.at.shared_ref_as_front-put c).In_ok-n in omega (arith, v.numbers.runs)

pub put-requires : goal.put-requires
put-requires c = let v = read (goal.at.put-requires c).In_ok-n in let d = decided c.room.ensures c.if-not-room.false in
    omega (arith, front c.in_ok-n.field-0.runs c.in_ok-confirmed.confirmed.used c.args.wiring.now d.1)

pub shared_ref_as_front-put-2 : goal.shared_ref_as_front-put-2
shared_ref_as_front-put-2 c = let v = read (goal.at.shared_ref_as_front-put-2 c).In_ok-n in omega (arith, v.numbers.places)

pub put-requires-2 : goal.put-requires-2
put-requires-2 c = let v = read (goal.at.put-requires-2 c).In_ok-n in let d = decided c.room.ensures c.if-not-room.false in
    omega (arith, front c.in_ok-n.field-0.places c.in_ok-confirmed.confirmed.segments c.args.segments.now d.2)

pub returns : goal.returns
returns c =
    let at = goal.at.returns c in let k = at.In_ok-n in let v = read k in
    let lent = lent c.args.form.now c.args.wiring.now c.args.segments.now in
    let used : length c.in_ok-confirmed.confirmed.used ≡ 1024 = search rules in
    let segments : length c.in_ok-confirmed.confirmed.segments ≡ 256 = search rules in
    let confirms : Confirms _ (Ok c.in_ok-confirmed.confirmed) = rw c.in_ok-confirmed.was at c.confirm.ensures in
    accepts _ lent c.read.ensures c.in_ok-n.was (roomy at.Else-not-room) c.in_ok-confirmed.confirmed (settles_taken v confirms)
    (accepted_so lent (small k) v confirms c.write_form.ensures
    (written_put c.in_ok-n.field-0.runs c.in_ok-confirmed.confirmed.used c.args.wiring.now (omega (arith, v.numbers)) (omega (arith, decided c.room.ensures c.if-not-room.false)) (λ j l. refl) c.put.ensures)
    (written_put c.in_ok-n.field-0.places c.in_ok-confirmed.confirmed.segments c.args.segments.now (omega (arith, v.numbers)) (omega (arith, decided c.room.ensures c.if-not-room.false)) (λ j l. refl) c.put-2.ensures))
