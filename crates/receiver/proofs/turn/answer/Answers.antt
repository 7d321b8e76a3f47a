-- `receiver::turn::answer` meets its contract: the call of what was decided on the request was made, or none. Assumes nothing.
use Rattle.std.proofs.Common.{refl}
use Rattle.receiver.proofs.Turning.{answered-turn}
use Rattle.receiver.specs.Turning.{quiet}
use Rattle.receiver.proofs.turn.answer.Goals as goal

pub returns-in-Make : goal.returns-in-Make
returns-in-Make g c =
    answered-turn _ _ _ _ _ _ _ _ _ c.after.ensures.took c.call-took.ensures _ _ _ c.requires c.after.ensures.tried c.decide-d.ensures c.in-Make.is

pub returns-in-Leave : goal.returns-in-Leave
returns-in-Leave g c = quiet c.leave.ensures refl refl
