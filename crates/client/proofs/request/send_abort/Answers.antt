-- `client::request::send_abort` meets its contract. The packet holds the ConnectionID alone. Assumes nothing.
use mathlib.Core.Bool.{true}
use mathlib.Core.List.{[]}
use Rattle.packet.specs.FirstByte.{byte_of}
use Rattle.packet.specs.Packet.{packet_bytes}
use Rattle.packet.specs.declared.opcode.Opcode.TheVariants as op
use Rattle.client_model.specs.Request.{id_bytes}
use Rattle.client_model.specs.declared.Operation.TheVariants.{Aborting}
use Rattle.client.proofs.Packets.{sent-call, abort_call, abort_front, abort_length}
use Rattle.client.proofs.request.send_abort.Goals as goal

pub returns : goal.returns
returns c =
    λ s.
    let args = c.args in
    let begin-packet-says = c.begin_packet-n.ensures in
    let t = byte_of op.Abort true in
    let id = id_bytes args.c.connection_id in
    abort_call args.c args.request.now _ _ s
    (sent-call args.c Aborting (packet_bytes t [] id) args.request.now c.sends.result _ _ c.sends.ensures
    (abort_length t _ id begin-packet-says.0) (abort_front _ t id args.request.now _ c.to_byte.ensures begin-packet-says.2)
    s)
