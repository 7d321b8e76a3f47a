-- `packet::packet::set_path_flags` meets its contract: the masks read the two low bits. Assumes nothing.
use Rattle.packet.specs.Packet.{backup, no_create_of}
use Rattle.packet.proofs.LowBits.{bit_0, bit_1}
use borrow.Author.Rules.{rules}
use Rattle.packet.proofs.packet.set_path_flags.Goals as goal

pub returns : goal.returns
unfolding backup no_create_of
returns c =
    let b = c.byte_at-flags.result in
    rw (bit_0 b (search rules), bit_1 b (search rules), c.byte_at-flags.ensures)
