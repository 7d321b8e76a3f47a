-- `client::request::send_disconnect` meets its contract. The ConnectionID stands in front of the headers. Assumes nothing.
use native.Mathlib.Omega.{arith}
use mathlib.Core.Path.{refl}
use mathlib.Core.Bool.{true}
use mathlib.Core.List.{[], ◌++◌}
use Rattle.packet.specs.FirstByte.{byte_of}
use Rattle.packet.specs.Packet.{packet_bytes}
use Rattle.packet.specs.declared.opcode.Opcode.TheVariants as op
use lib.ListN.{length}
use Prim.Native.Nat.{◌+◌, ◌≤◌}
use Rattle.client_model.specs.Request.{id_bytes}
use Rattle.client_model.specs.declared.Operation.TheVariants.{Disconnecting}
use Rattle.client.proofs.Packets.{sent-call, disconnect_front, disconnect_length}
use Rattle.client.proofs.request.send_disconnect.Goals as goal

pub returns : goal.returns
returns c =
    let args = c.args in
    let begin-packet-says = c.begin_packet-at.ensures in
    let t = byte_of op.Disconnect true in
    let hs = args.header_bytes.now in
    let id = id_bytes args.c.connection_id in
    let r : 3 + length id + length hs ≤ length args.request.now = omega (arith, begin-packet-says.0, begin-packet-says.1) in
    sent-call args.c Disconnecting (packet_bytes t [] (id ++ hs)) args.request.now _ _ _ c.sends.ensures
    (disconnect_length t _ _ id hs begin-packet-says.0 refl)
    (disconnect_front _ t _ _ id hs args.request.now _ _ c.to_byte.ensures begin-packet-says.0 refl begin-packet-says.2
    c.copy_into.ensures r)
