-- The whole fill is what is left of it.
use Rattle.std.proofs.Common.{suc, ◌+◌, ◌-◌, ◌≤◌, length}
use Rattle.outgoing.specs.Object.{fill}
use Rattle.outgoing.proofs.Fitting.{Left}
use Rattle.outgoing.proofs.object.fill.Given as goal

abbrev pub invariant-loop-end : goal.invariant-loop-end
invariant-loop-end l =
    record {
      room : l.at ≤ l.capacity + 3;
      left : Left l.capacity l.headers (fill (suc (length l.headers)) l.capacity l.headers l.from l.start l.initial.reply) l.sent l.at l.reply;
    }

abbrev pub decreases-loop-end : goal.decreases-loop-end
decreases-loop-end l = length l.headers - l.sent
