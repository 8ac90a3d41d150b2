use Rattle.std.proofs.Common.{ℕ, arith}
use Rattle.std.proofs.lemmas.List.{length-replicate}
use Rattle.forest.specs.Links.{linked_none}
use Rattle.forest.specs.Steps.{link_struck, link_run}
use Rattle.pieces.specs.Laws.{zeros}
use Rattle.forest.proofs.link.Goals as goal
use Rattle.forest.proofs.link.Goals.{then-states-r-gt0, else-states-r-gt0}

pub loop-r-init : goal.loop-r-init
loop-r-init c = λ places f. linked_none (length-replicate {A = ℕ} 256 0) (length-replicate {A = ℕ} 2048 0) (zeros 256)

pub loop-r-preserved : goal.loop-r-preserved
loop-r-preserved c = λ places f. elim c.if-states-r-gt0.branch [
  | then-states-r-gt0 w ↦ rw (w.chains-is, w.put-then-states-r-gt0.ensures, w.put.ensures) (link_run f c.args.states.now (c.loop-r.invariant places f) c.loop-r-test.true w.if-states-r-gt0.true f.few w.run_at-u.ensures)
  | else-states-r-gt0 w ↦ rw w.chains-is (link_struck f c.args.states.now (c.loop-r.invariant places f) c.loop-r-test.true (omega (arith, w.if-states-r-gt0.false)))
]
