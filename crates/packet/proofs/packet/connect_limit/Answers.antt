-- `packet::packet::connect_limit` meets its contract: it is the number of the two bytes. Assumes nothing.
use Rattle.packet.specs.Packet.{connect_limit}
use Rattle.packet.proofs.packet.connect_limit.Goals as goal

pub returns : goal.returns
unfolding connect_limit
returns c = rw (c.wide-2.ensures.0, c.byte_at-2.ensures, c.wide.ensures.0, c.byte_at.ensures)
