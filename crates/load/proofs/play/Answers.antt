-- `load::play` counts its calls down. The stores are arrays, so that their lengths are known. Assumes nothing.
use Rattle.std.proofs.Common.{arith, rules}
use Rattle.load.proofs.play.Goals as goal

pub loop-left-init : goal.loop-left-init
loop-left-init c = tt

pub overflow_sub-left : goal.overflow_sub-left
overflow_sub-left c = omega (arith, c.loop-left-test.true)

pub loop-left-smaller : goal.loop-left-smaller
loop-left-smaller c = omega (arith, c.loop-left-test.true)

pub loop-left-preserved : goal.loop-left-preserved
loop-left-preserved c = tt
