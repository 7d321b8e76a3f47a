-- `lines::word::line_number` meets its contract. Each turn passes a line, and what is left says the number (`Places`). Assumes nothing.
use mathlib.Core.Path.{◌≡◌}
use Prim.Native.Nat.{ℕ, ◌≤◌, ◌-◌}
use lib.ListN.{length}
use Rattle.lines.specs.Word.{line_from, line_number}
use Rattle.lines.proofs.word.line_number.Given as goal

abbrev pub invariant-loop-at : goal.invariant-loop-at
invariant-loop-at l = (l.k ≤ l.at) × (l.k ≤ length l.text) × ((f : ℕ) × ((length l.text - l.at ≤ f) × (line_number l.text l.w ≡ line_from f l.text l.w l.at l.k)))

abbrev pub decreases-loop-at : goal.decreases-loop-at
decreases-loop-at l = length l.text - l.at
