-- `load::play` counts its calls down. The stores are arrays, so that their lengths are known. Assumes nothing.
use Rattle.std.proofs.Common.{arith, rules}
use Rattle.load.proofs.play.Given as goal

abbrev pub invariant-loop-left : goal.invariant-loop-left
invariant-loop-left l = Unit {0}

abbrev pub decreases-loop-left : goal.decreases-loop-left
decreases-loop-left l = l.left
