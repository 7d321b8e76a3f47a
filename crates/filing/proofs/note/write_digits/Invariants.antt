-- `filing::note::write_digits` meets its contract. The invariant: the digits that are left to write, and those that stand already, are all digits.
-- Assumes nothing.
use mathlib.Core.Path.{◌≡◌}
use mathlib.Core.List.{◌++◌}
use Prim.Native.Nat.{◌≤◌}
use lib.ListN.{length, drop}
use Rattle.calendar.specs.Time.{decimal}
use Rattle.filing.proofs.note.write_digits.Given as goal

abbrev pub invariant-loop-i : goal.invariant-loop-i
invariant-loop-i l = (l.i ≤ length l.initial.text) × (length l.text ≡ length l.initial.text) × (decimal (length l.initial.text) l.x ≡ decimal l.i l.left ++ drop l.i l.text)

abbrev pub decreases-loop-i : goal.decreases-loop-i
decreases-loop-i l = l.i
