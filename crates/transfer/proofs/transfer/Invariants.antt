-- `transfer::transfer` meets its contract: the turns are counted down. Assumes nothing.
use Rattle.transfer.proofs.transfer.Given as goal

abbrev pub decreases-loop-left : goal.decreases-loop-left
decreases-loop-left g l = l.left
