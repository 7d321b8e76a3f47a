-- `engine::request::last_from` meets its contract. The reader of what stands before the headers gives the place.
use lib.ListN.{get_or}
use mathlib.Core.Path.{sym, ◌∙◌}
use Rattle.packet.specs.FirstByte.{first_byte}
use Rattle.packet.specs.PacketRead.{packet_head}
use Rattle.engine.specs.Request.{last_from}
use Rattle.engine.proofs.LastPacket.{from-head, from_headless}
use Rattle.engine.proofs.request.last_from.Goals as goal

pub returns-in-None : goal.returns-in-None
unfolding last_from packet_head
returns-in-None c =
    let q = c.args.q.now in
    from_headless (first_byte (get_or q 0 0)) q (sym c.packet_head.ensures ∙ c.in-None.is)

pub returns-in-Some : goal.returns-in-Some
unfolding last_from packet_head
returns-in-Some c =
    let q = c.args.q.now in
    from-head (first_byte (get_or q 0 0)) q c.in-Some.head (sym c.packet_head.ensures ∙ c.in-Some.is)
