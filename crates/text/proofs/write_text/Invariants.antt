-- The loop of `text::write_text`. The invariant: n bytes of the text stand in the store, and those of the pieces from the place on are to
-- come.
use Prim.Native.Nat.{◌-◌, ◌≤◌}
use lib.ListN.{length}
use Rattle.text.specs.Text.{recoded}
use Rattle.text.proofs.TextRoom.{rest, Half}
use Rattle.text.proofs.write_text.Given as goal

abbrev pub invariant-loop-p : goal.invariant-loop-p
invariant-loop-p l = (l.at ≤ length l.s) × Half (recoded l.from l.to l.s) (rest l.from l.to l.s l.at) l.fn.d l.d l.n

abbrev pub decreases-loop-p : goal.decreases-loop-p
decreases-loop-p l = length l.s - l.at
