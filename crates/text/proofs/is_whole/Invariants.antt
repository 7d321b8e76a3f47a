-- The loop of `text::is_whole`. The invariant: the bytes are whole where those from the place on are.
use mathlib.Core.Path.{◌≡◌}
use Prim.Native.Nat.{◌-◌, ◌≤◌}
use lib.ListN.{length}
use Rattle.text.specs.Unicode.{whole}
use Rattle.text.specs.Text.{pieces_of}
use Rattle.text.proofs.TextWhole.{whole_at}
use Rattle.text.proofs.is_whole.Given as goal

abbrev pub invariant-loop-p : goal.invariant-loop-p
invariant-loop-p l = (l.at ≤ length l.s) × (whole (pieces_of l.form l.s) (length l.s) ≡ whole_at l.form l.s l.at)

abbrev pub decreases-loop-p : goal.decreases-loop-p
decreases-loop-p l = length l.s - l.at
