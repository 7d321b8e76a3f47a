-- `receiver::turn::send` meets its contract: no record waited, and the call was made, or none. Assumes nothing.
use Rattle.std.proofs.Common.{refl}
use Rattle.receiver.proofs.Turning.{sent-turn}
use Rattle.receiver.specs.Turning.{quiet}
use Rattle.receiver.proofs.turn.send.Goals as goal

pub returns-in-Make : goal.returns-in-Make
returns-in-Make g c = sent-turn _ _ _ _ _ _ _ _ _ c.after.ensures.took c.call-took.ensures _ c.in-Make.is c.requires

pub returns-in-Leave : goal.returns-in-Leave
returns-in-Leave g c = quiet c.leave.ensures refl refl
