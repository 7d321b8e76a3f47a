-- `packet::packet::write_response` meets its contract: the fields that it takes are Connect's, where there are any. Assumes nothing.
use mathlib.Core.Path.{◌∙◌}
use Rattle.packet.proofs.PacketWrites.{writes-front}
use Rattle.packet.proofs.packet.write_response.Goals as goal

pub returns : goal.returns
returns c =
    c.write_packet.ensures
    ∙ writes-front _ _ _ _ _ _ _ c.to_byte-byte.ensures c.parameter_bytes-bytes.ensures c.parameters_len.ensures.0
