-- `packet::flags::flag_bits` meets its contract: at each `return` both flags are known. Assumes nothing.
use Rattle.packet.specs.Flags.{flag_bits}
use Rattle.packet.proofs.flags.flag_bits.Goals as goal

pub returns-then-bit_1 : goal.returns-then-bit_1
unfolding flag_bits
returns-then-bit_1 c = rw (c.if-bit_0.true, c.if-bit_1.true)

pub returns-then-bit_0 : goal.returns-then-bit_0
unfolding flag_bits
returns-then-bit_0 c = rw (c.if-bit_0.true, c.if-bit_1.false)

pub returns-then-bit_1-2 : goal.returns-then-bit_1-2
unfolding flag_bits
returns-then-bit_1-2 c = rw (c.if-bit_0.false, c.if-bit_1-2.true)

pub returns : goal.returns
unfolding flag_bits
returns c = rw (c.if-bit_0.false, c.if-bit_1-2.false)
