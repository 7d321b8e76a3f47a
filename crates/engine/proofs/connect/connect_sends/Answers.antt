-- `engine::connect::connect_sends` meets its contract: what was sent, of the packet's headers, is handed back by its plan. Assumes nothing.
use mathlib.Core.Path.{refl}
use Rattle.engine.proofs.Accepts.{accepted-sent}
use Rattle.engine.proofs.LastPacket.{last_finds}
use Rattle.engine.proofs.connect.connect_sends.Goals as goal

pub connect_reply-sent-requires : goal.connect_reply-sent-requires
connect_reply-sent-requires c =
    let p = c.requires in
    (p.0, p.1, p.2, p.3, (last_finds _ _ p.4).again)

pub returns : goal.returns
returns c =
    let k = c.args in
    accepted-sent k.e k.peer k.code k.front k.packet.now k.header_bytes.now k.reply.now _ _ _ _ _ _ _
    c.connect_reply-sent.ensures refl (last_finds _ _ c.requires.4).headers c.srm_asked.ensures c.sent_plan.ensures
    c.took.ensures
