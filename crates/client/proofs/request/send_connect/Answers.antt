-- `client::request::send_connect` meets its contract. Connect's fields stand in front of the headers. Assumes nothing.
use native.Mathlib.Omega.{arith}
use mathlib.Core.Path.{refl}
use mathlib.Core.Bool.{true}
use Rattle.packet.specs.FirstByte.{byte_of}
use Rattle.packet.specs.Packet.{packet_bytes}
use Rattle.packet.specs.declared.opcode.Opcode.TheVariants as op
use Rattle.connection.specs.Reply.{fields_of}
use Rattle.client_model.specs.declared.Operation.TheVariants.{Connecting}
use Rattle.client.proofs.Packets.{sent-call, connect_front, connect_length_lem}
use Rattle.client.proofs.request.send_connect.Goals as goal

pub returns : goal.returns
returns c =
    let args = c.args in
    let b = byte_of op.Connect true in
    let m = args.c.settings.max_packet_length in
    let hs = args.header_bytes.now in
    sent-call args.c Connecting (packet_bytes b (fields_of m) hs) args.request.now _ _ _ c.sends.ensures (connect_length_lem b m _ hs refl)
    (connect_front _ b m _ hs args.request.now _ _ c.to_byte.ensures refl c.put_connect_prefix.ensures
    c.copy_into.ensures (omega arith))
