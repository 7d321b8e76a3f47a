-- `receiver::turn::hear` meets its contract: no record waited, and the call of what was heard was made. Assumes nothing.
use Rattle.receiver.proofs.Turning.{free-turn}
use Rattle.receiver.proofs.turn.hear.Goals as goal

pub returns : goal.returns
returns g c = free-turn _ _ _ _ _ _ _ c.heard-answer.result _ c.after.ensures.took c.call-took.ensures c.requires
