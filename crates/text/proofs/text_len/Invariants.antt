-- The loop of `text::text_len`. The invariant: the text has `n` bytes, and those of the pieces from the place on, as far as a number says.
use mathlib.Core.Path.{◌≡◌}
use Prim.Native.Nat.{◌+◌, ◌-◌, ◌≤◌, ◌^◌, min}
use lib.ListN.{length}
use Rattle.text.specs.Text.{recoded}
use Rattle.text.proofs.TextRoom.{rest}
use Rattle.text.proofs.text_len.Given as goal

abbrev pub invariant-loop-p : goal.invariant-loop-p
invariant-loop-p l =
    (l.at ≤ length l.s) × (l.n ≤ 2 ^ 64 - 1)
    × (min (length (recoded l.from l.to l.s)) (2 ^ 64 - 1) ≡ min (l.n + length (rest l.from l.to l.s l.at)) (2 ^ 64 - 1))

abbrev pub decreases-loop-p : goal.decreases-loop-p
decreases-loop-p l = length l.s - l.at
