-- The end is that of what is left.
use Rattle.std.proofs.Common.{◌≡◌, ◌-◌, ◌≤◌, length}
use Rattle.outgoing.specs.Queue.{lead_end}
use Rattle.outgoing.proofs.queue.lead_end.Given as goal

abbrev pub invariant-loop-id : goal.invariant-loop-id
invariant-loop-id l = record { the_same : lead_end l.s 0 ≡ lead_end l.s l.at; in_range : l.at ≤ length l.s }

abbrev pub decreases-loop-id : goal.decreases-loop-id
decreases-loop-id l = length l.s - l.at
