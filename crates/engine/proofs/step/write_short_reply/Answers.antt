-- `engine::step::write_short_reply` meets its contract. The arms of the code are those of the definition.
use Rattle.packet.specs.Packet.{packet_bytes}
use Rattle.engine.proofs.step.write_short_reply.Goals as goal

pub returns-in-Byte : goal.returns-in-Byte
returns-in-Byte c = rw c.in-Byte.is c.put_reply_code.ensures

pub returns-in-Grant : goal.returns-in-Grant
returns-in-Grant c = rw c.in-Grant.is c.put_continue.ensures.1

pub returns-in-Fields : goal.returns-in-Fields
unfolding packet_bytes
returns-in-Fields c = rw c.in-Fields.is c.put_connect_prefix.ensures
