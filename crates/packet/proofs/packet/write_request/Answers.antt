-- `packet::packet::write_request` meets its contract: the fields that it takes are those of the opcode. Assumes nothing.
use mathlib.Core.Path.{◌∙◌, sym}
use Rattle.packet.proofs.PacketWrites.{fields_length, writes-front}
use Rattle.packet.proofs.packet.write_request.Goals as goal

pub returns : goal.returns
returns c =
    let x = c.args in
    c.write_packet.ensures
    ∙ writes-front _ _ _ _ _ _ _ c.to_byte-byte.ensures c.field_bytes-bytes.ensures (c.fields_len.ensures.0 ∙ sym (fields_length x.opcode x.fields))
