-- `n` bytes went back, and the rest is what goes back from `at` on.
use Rattle.std.proofs.Common.{◌-◌, ◌≤◌, length}
use Rattle.outgoing.proofs.Walking.{Gone}
use Rattle.outgoing.proofs.queue.back_len.Given as goal

abbrev pub invariant-loop-from : goal.invariant-loop-from
invariant-loop-from l = record { gone : Gone l.part l.packet l.at l.n; in_range : l.at ≤ length l.packet }

abbrev pub decreases-loop-from : goal.decreases-loop-from
decreases-loop-from l = length l.packet - l.at
