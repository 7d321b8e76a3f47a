-- `client::request::ask_part` meets its contract. The packet has no headers. Assumes nothing.
use mathlib.Core.Bool.{true}
use mathlib.Core.List.{[]}
use Rattle.packet.specs.FirstByte.{byte_of}
use Rattle.packet.specs.Packet.{packet_bytes}
use Rattle.packet.specs.declared.opcode.Opcode.TheVariants as op
use Rattle.client.proofs.Packets.{sent-call, ask_front, ask_length}
use Rattle.client.proofs.request.ask_part.Goals as goal

pub returns : goal.returns
returns c =
    let args = c.args in
    let t = byte_of op.Get true in
    sent-call args.c args.c.operation (packet_bytes t [] []) args.request.now _ _ _ c.sends.ensures (ask_length t)
    (ask_front _ t args.request.now _ c.to_byte.ensures c.put_reply_code.ensures)
