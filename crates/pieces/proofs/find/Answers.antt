use Rattle.pieces.specs.Laws.{searched_none, searched_pass, searched_closed, searched_join}
use Rattle.pieces.proofs.find.Goals as goal
use Rattle.pieces.proofs.find.Goals.{then-flag-gt0+then-labels-u, then-flag-gt0+else-labels-u, else-flag-gt0}

pub loop-r-init : goal.loop-r-init
loop-r-init c = searched_none c.alone-labels.ensures

pub loop-r-preserved : goal.loop-r-preserved
loop-r-preserved c = let s = c.loop-r.invariant in let l = c.loop-r-test.true in let ended = c.requires in
    elim c.if-flag-gt0.branch [
      | then-flag-gt0+then-labels-u w ↦ rw w.labels-is (rw w.closing-is (rw w.or-closing.ensures (searched_closed s ended l w.if-flag-gt0.true w.run_at-u.ensures w.if-labels-u.true)))
      | then-flag-gt0+else-labels-u w ↦ rw w.labels-is (rw w.closing-is (searched_join s ended l w.if-flag-gt0.true w.run_at-u.ensures w.if-labels-u.false w.join-labels.ensures))
      | else-flag-gt0 w ↦ rw w.labels-is (rw w.closing-is (searched_pass s w.if-flag-gt0.false))
    ]
