-- `base::copy_into`: the store is the paste of the first i bytes.
use Rattle.std.proofs.Common.{length, ◌≡◌}
use Rattle.std.proofs.Math.Seq.{paste}
use Rattle.base.proofs.copy_into.Given as goal

abbrev pub invariant-loop-i : goal.invariant-loop-i
invariant-loop-i l = (l.dst ≡ paste l.initial.dst l.at l.src l.i) × (length l.dst ≡ length l.initial.dst)
