-- `connection::reply::put_reply_code` meets its contract. It is a packet of nothing but its prefix. Assumes nothing.
use Rattle.packet.specs.Packet.{packet_bytes}
use Rattle.connection.proofs.reply.put_reply_code.Goals as goal

pub returns : goal.returns
unfolding packet_bytes
returns c = c.put_prefix.ensures
