-- The bytes that are left, put one by one behind those that stand, give what all bytes give.
use Rattle.std.proofs.Common.{◌≡◌, ◌-◌, ◌≤◌, ◌<◌, length, drop}
use Rattle.incoming.specs.Frame.{framed}
use Rattle.incoming.proofs.frame.read_on.Given as goal

abbrev pub invariant-loop-i : goal.invariant-loop-i
invariant-loop-i l =
    record {
      in_range : l.i ≤ length l.input;
      open_yet : l.at < 65535;
      the_same : framed l.fn.packet l.fn.begun 0 l.input ≡ framed l.packet l.at l.i (drop l.i l.input);
    }

abbrev pub decreases-loop-i : goal.decreases-loop-i
decreases-loop-i l = length l.initial.input - l.i
