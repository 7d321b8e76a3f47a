-- The bytes that went back stand at the front of the store, and the rest is what goes back from `at` on.
use Rattle.std.proofs.Common.{◌-◌, ◌≤◌, length}
use Rattle.outgoing.proofs.Walking.{Laying}
use Rattle.outgoing.proofs.queue.put_back.Given as goal

abbrev pub invariant-loop-from : goal.invariant-loop-from
invariant-loop-from l =
    record { laying : Laying l.part l.packet l.initial.store l.at l.n l.store; in_range : l.at ≤ length l.packet }

abbrev pub decreases-loop-from : goal.decreases-loop-from
decreases-loop-from l = length l.packet - l.at
