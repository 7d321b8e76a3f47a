-- `packet::tlv::last_value` meets its contract: it is `last_under`, as `last_value` says. Assumes nothing.
use Rattle.packet.specs.Tags.{last_value}
use Rattle.packet.proofs.tlv.last_value.Goals as goal

pub returns : goal.returns
unfolding last_value
returns c = c.last_under.ensures
