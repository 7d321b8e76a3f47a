-- `packet::opcode::from_entry` meets its contract: the opcode with the entry's number decides, as in the definition. Assumes nothing.
use Prim.Native.Nat.{◌%◌}
use mathlib.Core.Path.{sym, ap, ◌∙◌}
use lib.Dec.{leb}
use Rattle.std.specs.Result.{result_ok}
use Rattle.packet.proofs.OpcodeLaws.{told, entry-told}
use Rattle.packet.proofs.opcode.from_entry.Goals as goal

pub returns-in_err-opcode : goal.returns-in_err-opcode
returns-in_err-opcode c =
    let n = c.args.entry in
    c.from_residual.ensures
    ∙ sym (entry-told n ∙ ap (told (leb 0x80 n)) (ap result_ok (sym c.try_from.ensures) ∙ sym c.in_err-opcode.ensures.value))

pub returns : goal.returns
returns c =
    let n = c.args.entry in
    sym (entry-told n ∙ ap (told (leb 0x80 n)) (ap result_ok (sym c.try_from.ensures) ∙ sym c.in_ok-opcode.ensures.value))
