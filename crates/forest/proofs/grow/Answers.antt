use Rattle.std.proofs.Common.{ℕ, ◌-◌, ◌/◌, ◌<◌, ◌≡◌, refl, subst, length, arith}
use Rattle.std.proofs.lemmas.List.{length-replicate}
use Rattle.forest.specs.Growing.{placed_most, placed_less}
use Rattle.forest.specs.Links.{Entry, entry_leads, entry_one}
use Rattle.forest.specs.Parts.{order_at}
use Rattle.forest.specs.Steps.{inside, grows_none, at_hand, down, far_end, grows_seen, grows_child, grows_next, grows_done, grows_pass, grows_root, candidate_taken, grows_ranked}
use Rattle.pieces.specs.Holds.{at}
use Rattle.forest.proofs.grow.Goals as goal
use Rattle.forest.proofs.grow.Goals.{In-Some, In-loop-now, After-far-z, in-Some, in_default, then-forest-z-eq0, else-forest-z-eq0}

pub loop-i-init : goal.loop-i-init
loop-i-init c = (grows_none (length-replicate {A = ℕ} 256 0) (length-replicate {A = ℕ} 256 1024), omega arith)

-- a new root is a place, and there is room for it
at_root : (c : In-Some) → (c.in-Some.z < length c.args.places.now) × (c.loop-i.count < length c.args.places.now)
at_root c = let t = candidate_taken c.in-Some.ensures in (t.0, placed_less c.loop-i.invariant.0.placed t.0 t.1)

pub put-requires : goal.put-requires
put-requires c = let t = at_root (goal.at.put-requires c).In-Some in let small = c.requires.small in (omega arith, omega arith, omega arith, omega arith)

pub overflow_add-count : goal.overflow_add-count
overflow_add-count c = let t = at_root (goal.at.overflow_add-count c).In-Some in let small = c.requires.small in omega arith

pub loop-now-init : goal.loop-now-init
loop-now-init c = let g = c.loop-i.invariant in let l = c.link-chains.ensures c.args.places.now c.requires in elim c.match-candidate.branch [
  | in-Some w ↦ rw (w.forest-is, w.count-is, w.put.ensures) (grows_root c.requires c.args.states.now l g.0 refl g.1 c.requires.few w.in-Some.ensures)
  | in_default w ↦ rw (w.forest-is, w.count-is) (grows_pass c.requires c.args.states.now l g.0 w.in_default.ensures)
]

-- the next place in the order of growth is within it
at_next : (c : In-loop-now) → c.loop-now.now < length c.args.places.now
at_next c = omega (arith, placed_most c.loop-now.invariant.placed)

pub offset_bounds-forest-now : goal.offset_bounds-forest-now
offset_bounds-forest-now c = let l = at_next (goal.at.offset_bounds-forest-now c).In-loop-now in let small = c.requires.small in omega arith

pub bounds-forest-now : goal.bounds-forest-now
bounds-forest-now c = let l = at_next (goal.at.bounds-forest-now c).In-loop-now in let small = c.requires.small in omega arith

pub loop-c-init : goal.loop-c-init
loop-c-init c = rw (c.from-c.ensures, c.from-x.ensures) (grows_next c.requires c.args.states.now (c.link-chains.ensures c.args.places.now c.requires) c.loop-now.invariant refl c.loop-now-test.true)

-- the run that was read at an entry, and its other end
the_entry : (c : After-far-z) → Entry (order_at c.args.places.now c.args.runs.now c.args.states.now c.args.m) (c.loop-c.c - 1) c.from-x.result ((c.loop-c.c - 1) / 2) c.far-z.result
the_entry c = far_end c.requires c.args.states.now (c.link-chains.ensures c.args.places.now c.requires) c.loop-c.invariant c.loop-c-test.true c.run_at-u.ensures c.far-z.ensures

-- a new place is one, and there is room for it
at_place : (c : After-far-z) → at c.loop-c.forest.rank c.far-z.result ≡ 0 → (c.far-z.result < length c.args.places.now) × (c.loop-c.count < length c.args.places.now)
at_place c new =
    let l = inside c.requires c.args.states.now _ _ _ (at_hand c.requires c.args.states.now (c.link-chains.ensures c.args.places.now c.requires) c.loop-c.invariant c.loop-c-test.true) (entry_leads (the_entry c)) in
    (l, placed_less c.loop-c.invariant.placed l new)

pub put-requires-then-forest-z-eq0 : goal.put-requires-then-forest-z-eq0
put-requires-then-forest-z-eq0 c = let t = at_place (goal.at.put-requires-then-forest-z-eq0 c).After-far-z c.if-forest-z-eq0.true in let small = c.requires.small in
    let x = (c.loop-c.invariant.spread.current c.loop-c-test.true).0 in
    let r = at_hand c.requires c.args.states.now (c.link-chains.ensures c.args.places.now c.requires) c.loop-c.invariant c.loop-c-test.true in
    (omega arith, omega arith, omega arith, omega (arith, r.0, c.requires.few))

pub overflow_add-count-then-forest-z-eq0 : goal.overflow_add-count-then-forest-z-eq0
overflow_add-count-then-forest-z-eq0 c = let t = at_place (goal.at.overflow_add-count-then-forest-z-eq0 c).After-far-z c.if-forest-z-eq0.true in let small = c.requires.small in omega arith

pub loop-c-smaller : goal.loop-c-smaller
loop-c-smaller c = omega (arith, c.from-c-in-loop-c.ensures, down c.requires c.args.states.now (c.link-chains.ensures c.args.places.now c.requires) c.loop-c.invariant c.loop-c-test.true)

pub loop-c-preserved : goal.loop-c-preserved
loop-c-preserved c = let l = c.link-chains.ensures c.args.places.now c.requires in let e = the_entry (goal.at.loop-c-preserved c).After-far-z in
    rw c.from-c-in-loop-c.ensures elim c.if-forest-z-eq0.branch [
      | then-forest-z-eq0 w ↦ rw (w.forest-is, w.count-is, w.put-then-forest-z-eq0.ensures)
          (grows_child c.requires c.args.states.now l c.loop-c.invariant c.loop-c-test.true (at_hand c.requires c.args.states.now l c.loop-c.invariant c.loop-c-test.true) e w.if-forest-z-eq0.true)
      | else-forest-z-eq0 w ↦ rw (w.forest-is, w.count-is) (grows_seen c.requires c.args.states.now l c.loop-c.invariant c.loop-c-test.true
          (λ r y u p. subst (λ (j : ℕ). 0 < at c.loop-c.forest.rank j) (entry_one e p).1 (omega (arith, w.if-forest-z-eq0.false))))
    ]

pub loop-now-smaller : goal.loop-now-smaller
loop-now-smaller c = let l = at_next (goal.at.loop-now-smaller c).In-loop-now in omega arith

pub loop-now-preserved : goal.loop-now-preserved
loop-now-preserved c = grows_done c.requires c.args.states.now (c.link-chains.ensures c.args.places.now c.requires) c.loop-c.invariant (omega arith)

pub returns-clause-ranked : goal.returns-clause-ranked
returns-clause-ranked c = grows_ranked _ _ _ _ c.loop-i.invariant.0 (omega arith)
