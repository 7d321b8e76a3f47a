-- The loop of `packet::header::is_readable`. The invariant: the answer is that of what is left.
use Prim.Native.Nat.{◌-◌}
use mathlib.Core.Path.{◌≡◌}
use lib.ListN.{length}
use Rattle.packet.specs.HeaderList.{readable_from}
use Rattle.packet.proofs.header.is_readable.Given as goal

abbrev pub invariant-loop-end : goal.invariant-loop-end
invariant-loop-end l = readable_from l.s l.from ≡ readable_from l.s l.at

abbrev pub decreases-loop-end : goal.decreases-loop-end
decreases-loop-end l = length l.s - l.at
