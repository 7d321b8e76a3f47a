-- `packet::opcode::from_byte` meets its contract: the entry that it reads is that of the definition's table, which says what the byte says.
-- Assumes nothing.
use mathlib.Core.Path.{ap, ◌∙◌}
use mathlib.Core.List.{List}
use Prim.Native.Nat.{ℕ}
use native.Mathlib.Omega.{arith}
use lib.ListN.{get_or}
use Rattle.packet.specs.FirstByte.{entry_says}
use Rattle.packet.proofs.FirstBytes.{entry-says}
use Rattle.packet.proofs.opcode.from_byte.Goals as goal

pub returns : goal.returns
returns c =
    let b = c.args.byte in
    c.from_entry.ensures
    ∙ ap (λ (t : List ℕ). entry_says (get_or t b 0)) c.table-entries.ensures
    ∙ entry-says b (omega arith)
