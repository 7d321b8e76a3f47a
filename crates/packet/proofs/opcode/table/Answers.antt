-- `packet::opcode::table` meets its contract: the definition's table is computed, and is the code's, entry for entry. Assumes nothing.
use mathlib.Core.Path.{refl}
use Rattle.packet.specs.FirstByte.{named, first_byte, numbers_from, first_byte_table}
use Rattle.packet.proofs.opcode.table.Goals as goal

pub returns : goal.returns
unfolding named first_byte numbers_from first_byte_table
returns c = refl
