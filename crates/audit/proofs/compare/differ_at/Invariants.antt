-- `audit::compare::differ_at` meets its contract. The invariant: the two are alike up to the place, so they differ first where what is left of them
-- does. Assumes nothing.
use Rattle.std.proofs.Common.{◌≡◌, ◌+◌, ◌-◌, ◌≤◌, length, drop}
use Rattle.audit.specs.Compare.{differ_at}
use Rattle.audit.proofs.compare.differ_at.Given as goal

abbrev pub invariant-loop-i : goal.invariant-loop-i
invariant-loop-i l = (l.i ≤ length l.a) × (l.i ≤ length l.b) × (differ_at l.a l.b ≡ l.i + differ_at (drop l.i l.a) (drop l.i l.b))

abbrev pub decreases-loop-i : goal.decreases-loop-i
decreases-loop-i l = length l.a - l.i
