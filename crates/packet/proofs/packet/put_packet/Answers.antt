-- `packet::packet::put_packet` meets its contract: prefix, fields and headers, one behind the other, are the packet. Assumes nothing.
use Rattle.packet.proofs.PacketWrites.{packet-laid}
use Rattle.packet.proofs.packet.put_packet.Goals as goal

pub returns : goal.returns
returns c =
    let x = c.args in
    packet-laid x.store.now _ _ _ x.fields.now x.headers.now x.byte c.requires.0 c.put_prefix.ensures c.copy_into.ensures c.copy_into-2.ensures
