-- `connection::reply::put_continue` meets its contract. Its five bytes, or three, are those of the definition. Assumes nothing.
use Rattle.std.proofs.Common.{refl}
use Rattle.connection.proofs.Replies.{prefix-two}
use Rattle.packet.specs.Packet.{packet_bytes}
use Rattle.connection.proofs.reply.put_continue.Goals as goal

pub returns-then-not-grant : goal.returns-then-not-grant
unfolding packet_bytes
returns-then-not-grant c =
    let g = c in
    rw c.if-not-grant.true (refl, c.put_prefix.ensures)

pub returns : goal.returns
unfolding packet_bytes
returns c =
    let g = c in
    rw (c.if-not-grant.false, c.put_prefix-2.ensures)
    (refl, prefix-two c.args.reply.now 0x90 0x97 0x01 c.requires)
