-- `receiver::turn::receive` meets its contract: each turn adds one to the run. Assumes nothing.
use Rattle.receiver.proofs.Turning.{begun, turned-adds}
use Rattle.receiver.proofs.turn.receive.Goals as goal

pub loop-left-init : goal.loop-left-init
loop-left-init g c = begun _ _ _ c.requires

pub loop-left-preserved : goal.loop-left-preserved
loop-left-preserved g c = turned-adds _ _ _ _ _ _ _ c.loop-left.invariant c.turn-s.ensures
