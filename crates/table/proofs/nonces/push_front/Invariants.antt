-- `table::nonces::push_front` meets its contract: each turn moves one number on (`Moved`). Assumes nothing.
use mathlib.Core.Path.{◌≡◌}
use lib.ListN.{length}
use Rattle.table.proofs.Pushing.{Moved}
use Rattle.table.proofs.nonces.push_front.Given as goal

abbrev pub invariant-loop-i : goal.invariant-loop-i
invariant-loop-i l = (length l.s ≡ length l.initial.s) × Moved l.initial.s l.x l.i l.s l.carry
