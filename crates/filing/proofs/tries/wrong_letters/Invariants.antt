-- `filing::tries::wrong_letters` meets its contract. The invariant: the count and the wrong letters that are left are all wrong ones. Assumes
-- nothing.
use mathlib.Core.Path.{◌≡◌}
use Prim.Native.Nat.{◌+◌, ◌-◌, ◌≤◌}
use lib.ListN.{length, drop}
use Rattle.journal.specs.Checks.{wrongs}
use Rattle.filing.specs.Tries.{history_of}
use Rattle.filing.proofs.tries.wrong_letters.Given as goal

abbrev pub invariant-loop-i : goal.invariant-loop-i
invariant-loop-i l = (l.i ≤ length l.letters) × (l.count ≤ l.i) × (wrongs (history_of l.letters) ≡ l.count + wrongs (history_of (drop l.i l.letters)))

abbrev pub decreases-loop-i : goal.decreases-loop-i
decreases-loop-i l = length l.letters - l.i
