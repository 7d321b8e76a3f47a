-- `receiver::checks::has_open` meets its contract: as long as the loop goes on, the letters have an open one exactly if the rest of them has. Assumes
-- nothing.
use Rattle.std.proofs.Common.{◌≡◌, ◌-◌, ◌≤◌, length, drop}
use Rattle.receiver.specs.Checks.{has_open}
use Rattle.receiver.proofs.checks.has_open.Given as goal

abbrev pub invariant-loop-i : goal.invariant-loop-i
invariant-loop-i l = (l.i ≤ length l.letters) × (has_open l.letters ≡ has_open (drop l.i l.letters))

abbrev pub decreases-loop-i : goal.decreases-loop-i
decreases-loop-i l = length l.letters - l.i
