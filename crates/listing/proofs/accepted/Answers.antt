-- `accepted` writes the first line, the runs and the places, one after the other.
use Rattle.std.proofs.Common.{◌≡◌, min, arith}
use Rattle.std.proofs.lemmas.Result.{on_ok_weaker}
use Rattle.layout.specs.Layout.{word}
use Rattle.listing.proofs.Parts.{listed}
use Rattle.listing.proofs.accepted.Goals as goal

pub returns : goal.returns
returns g c =
    let n : c.min-n.result ≡ min (word c.args.lent.now.form 6) 256 = grind arith in
    let m : c.min-m.result ≡ min (word c.args.lent.now.form 12) 1024 = grind arith in
    on_ok_weaker c.places.result
    (λ last. listed _ _ _ _ c.args.counts.struck c.args.counts.pinned c.args.lent.now.form c.args.lent.now.wiring c.args.lent.now.segments
    n m (rw (← n, ← m) c.word-low.ensures) (rw (← n, ← m) (grind (arith, c.word-high.ensures)))
    c.in_ok-first.ensures c.in_ok-runs.ensures last)
    c.places.ensures
