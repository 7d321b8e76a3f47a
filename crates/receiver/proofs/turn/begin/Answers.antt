-- `receiver::turn::begin` meets its contract: what the start returned hands nothing over. Assumes nothing.
use Rattle.receiver.proofs.Turning.{started_none}
use Rattle.receiver.proofs.turn.begin.Goals as goal

pub receive-requires : goal.receive-requires
receive-requires g c = started_none _ _ _ _ _ _ c.start-took.ensures
