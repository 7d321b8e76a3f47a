-- `packet::action::permissions` meets its contract: the mask is the remainder. Assumes nothing.
use lib.Bits.{and_mask}
use Rattle.packet.proofs.action.permissions.Goals as goal

pub returns : goal.returns
returns c = and_mask c.args.n 24
