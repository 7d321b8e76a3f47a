-- `digest::md5::round` meets its contract: a step more. Assumes nothing.
use Rattle.std.proofs.Common.{arith}
use Rattle.digest.proofs.Steps.{steps_more}
use Rattle.digest.proofs.md5.round.Goals as goal

pub loop-i-preserved : goal.loop-i-preserved
loop-i-preserved g c = λ s begun.
    rw c.step-t.ensures (steps_more c.args.p.now s c.loop-i.t g.row.R c.loop-i.i (omega arith) (c.loop-i.invariant s begun))
