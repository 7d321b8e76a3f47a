-- `receiver::turn::turn` meets its contract: the outcome says which of the three is made. After the end there is none. Assumes nothing.
use Rattle.std.proofs.Common.{refl}
use Rattle.receiver.proofs.Turning.{wants-none, reply-none}
use Rattle.receiver.specs.Turning.{quiet}
use Rattle.receiver.proofs.turn.turn.Goals as goal

pub hear-requires : goal.hear-requires
hear-requires g c = wants-none _ _ c.in-WantsBytes.is

pub send-requires : goal.send-requires
send-requires g c = reply-none _ _ _ c.in-Reply.is

pub returns-in_default : goal.returns-in_default
returns-in_default g c = quiet refl refl refl
