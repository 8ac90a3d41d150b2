use Rattle.std.proofs.Common.{◌≡◌, ◌+◌, suc, set, ap, ap₂, ◌∙◌, arith}
use Rattle.std.proofs.Math.Seq.{paste, paste-suc}
use Rattle.layout.proofs.put.Goals as goal

pub loop-i-preserved : goal.loop-i-preserved
loop-i-preserved g c =
    let next : suc c.loop-i.i ≡ c.loop-i.i + 1 = omega arith in
    ap₂ (λ b v. set b (c.args.at + c.loop-i.i) v) c.loop-i.invariant c.index-src-i.is
    ∙ paste-suc c.args.buffer.now c.args.at c.args.src.now c.loop-i.i c.index-src-i.result (omega arith) (omega arith)
    ∙ ap (paste c.args.buffer.now c.args.at c.args.src.now) next
