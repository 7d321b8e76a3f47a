-- `lines::word::unhex` meets its contract. Each turn passes a sign, and what is left says the bytes (`Copies`). Assumes nothing.
use mathlib.Core.Path.{◌≡◌}
use Prim.Native.Nat.{ℕ, ◌-◌, ◌≤◌}
use lib.ListN.{length}
use Rattle.lines.specs.Word.{scanned_from, scan}
use Rattle.lines.proofs.word.unhex.Given as goal

abbrev pub invariant-loop-p : goal.invariant-loop-p
invariant-loop-p l = (length l.out ≡ length l.initial.out)
    × ((f : ℕ) × ((length l.s - l.p.at ≤ f) × (scanned_from (length l.s) l.s (scan 0 0 0) l.initial.out ≡ scanned_from f l.s l.p l.out)))

abbrev pub decreases-loop-p : goal.decreases-loop-p
decreases-loop-p l = length l.s - l.p.at
