-- `amend` filters, writes the amendment in and filters again; each return is one way out of the table.
use Rattle.std.proofs.Common.{List, ℕ, sym, refl, ap, ◌∙◌, ◌≡◌, min, take, length, length-take-le, arith, rules}
use Rattle.amend.proofs.Ending.{Begun, draft_on_file, draft_long, draft_room, not_written, second_long, second_room, ended}
use Rattle.amend.proofs.Settling.{Shorter, stopped}
use Rattle.answer.specs.Laws.{handed_on}
use Rattle.answer.specs.Reply.{told}
use Rattle.filter.proofs.Came.{lent}
use Rattle.amend.proofs.amend.Goals as goal
use Rattle.amend.proofs.amend.Goals.{In_ok-confirmed}

-- the first filtering has the fronts of three arrays
fronts : {form wiring segments : List ℕ} (draft used labels : List ℕ) {f w s : ℕ} → length draft ≡ 5400 → length used ≡ 1024 → length labels ≡ 256
    → f ≡ min (length form) 5400 → w ≡ min (length wiring) 1024 → s ≡ min (length segments) 256
    → Shorter (lent form wiring segments) (lent (take f draft) (take w used) (take s labels))
fronts draft used labels d u l f w s = record {
  form = length-take-le _ draft (omega arith) ∙ f;
  wiring = length-take-le _ used (omega arith) ∙ w;
  segments = length-take-le _ labels (omega arith) ∙ s;
}

-- past it
begun : (c : In_ok-confirmed)
    → Begun c.args.image.now (lent c.args.form.now c.args.wiring.now c.args.segments.now) (record { reply = told c.filter-confirmed.result; lent = lent c.filter-confirmed.new.form c.filter-confirmed.new.wiring c.filter-confirmed.new.segments })
begun c = record {
  small = _;
  short = fronts _ _ _ refl refl refl c.min-f.ensures c.min-w.ensures c.min-s.ensures;
  counts = _;
  filters = c.filter-confirmed.ensures;
  reply = ap told c.in_ok-confirmed.was;
}

pub returns-in_err-confirmed : goal.returns-in_err-confirmed
returns-in_err-confirmed c =
    rw (handed_on c.from_residual.result c.from_residual.ensures.1)
    (stopped _ (fronts _ _ _ refl refl refl c.min-f.ensures c.min-w.ensures c.min-s.ensures) c.args.kind c.args.first c.args.second c.filter-confirmed.ensures (ap told c.in_err-confirmed.was))

pub slice_bounds-draft-end-2 : goal.slice_bounds-draft-end-2
slice_bounds-draft-end-2 c = draft_room (begun c) _

pub slice_bounds-write_in-end : goal.slice_bounds-write_in-end
slice_bounds-write_in-end c = sym (draft_long (begun (goal.at.slice_bounds-write_in-end c).In_ok-confirmed) _)

pub write_in-requires : goal.write_in-requires
write_in-requires c = draft_on_file (begun (goal.at.write_in-requires c).In_ok-confirmed) _

pub returns-in_err-write_in : goal.returns-in_err-write_in
returns-in_err-write_in c =
    rw (handed_on c.from_residual-in_err-write_in.result c.from_residual-in_err-write_in.ensures.1)
    (not_written (begun (goal.at.returns-in_err-write_in c).In_ok-confirmed) _ c.write_in.ensures c.in_err-write_in.was)

pub slice_bounds-draft-end-3 : goal.slice_bounds-draft-end-3
slice_bounds-draft-end-3 c = second_room (begun (goal.at.slice_bounds-draft-end-3 c).In_ok-confirmed) _ c.write_in.ensures c.in_ok-write_in.was _

pub slice_bounds-filter-end-4 : goal.slice_bounds-filter-end-4
slice_bounds-filter-end-4 c = sym (second_long (begun (goal.at.slice_bounds-filter-end-4 c).In_ok-confirmed) _ c.write_in.ensures c.in_ok-write_in.was _)

pub returns : goal.returns
returns c =
    ended (begun (goal.at.returns c).In_ok-confirmed) _ c.write_in.ensures c.in_ok-write_in.was _ c.filter-amended.ensures c.filter-amended.result c.map_err.result refl
    (λ e f. search rules) c.map_err.ensures.cases
