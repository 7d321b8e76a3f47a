-- `filing::note::write_digits` meets its contract. The invariant: the digits that are left to write, and those that stand already, are all digits.
-- Assumes nothing.
use mathlib.Core.Path.{◌≡◌, refl, sym, ◌∙◌}
use Prim.Native.Nat.{suc, ◌+◌, ◌-◌, ◌%◌}
use native.Mathlib.Omega.{arith}
use lib.ListN.{length-set}
use Rattle.filing.proofs.NoteText.{digits_all, digits_next, digits_done}
use Rattle.filing.proofs.note.write_digits.Goals as goal

pub loop-i-init : goal.loop-i-init
loop-i-init c = (omega arith, refl, digits_all c.args.text.now c.args.x)

pub loop-i-preserved : goal.loop-i-preserved
loop-i-preserved c =
    let l = c.loop-i in
    let e : l.i ≡ suc (l.i - 1) = omega arith in (
      omega arith,
      omega (arith, length-set l.text (l.i - 1) (0x30 + l.left % 10)),
      l.invariant.2 ∙ digits_next l.text l.i (l.i - 1) l.left e (omega arith),
    )

pub returns : goal.returns
returns c =
    let l = c.loop-i in
    sym (l.invariant.2 ∙ digits_done l.text l.i l.left (omega arith))
