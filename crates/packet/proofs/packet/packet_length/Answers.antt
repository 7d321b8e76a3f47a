-- `packet::packet::packet_length` meets its contract: its test is that of `packet_length`. Assumes nothing.
use borrow.Author.Tests.{lt-ltb, le-ltb}
use Rattle.packet.specs.PacketRead.{packet_length}
use Rattle.packet.proofs.packet.packet_length.Goals as goal

pub returns-then-buf-lt-PACKET_PREFIX_LENGTH : goal.returns-then-buf-lt-PACKET_PREFIX_LENGTH
unfolding packet_length
returns-then-buf-lt-PACKET_PREFIX_LENGTH c = simp (lt-ltb _ _ c.if-buf-lt-PACKET_PREFIX_LENGTH.true)

pub returns : goal.returns
unfolding packet_length
returns c = simp (le-ltb _ _ c.if-buf-lt-PACKET_PREFIX_LENGTH.false, c.be16_at.ensures.value)
