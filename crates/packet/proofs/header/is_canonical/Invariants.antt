-- The loop of `packet::header::is_canonical`. The invariant: the answer is that of what is left.
use Prim.Native.Nat.{◌-◌}
use mathlib.Core.Path.{◌≡◌}
use lib.ListN.{length}
use Rattle.packet.specs.Canonical.{canonical}
use Rattle.packet.specs.Header.{read_headers}
use Rattle.packet.proofs.CanonicalLaws.{all_written}
use Rattle.packet.proofs.header.is_canonical.Given as goal

abbrev pub invariant-loop-id : goal.invariant-loop-id
invariant-loop-id l = canonical l.s ≡ all_written (read_headers l.s l.at)

abbrev pub decreases-loop-id : goal.decreases-loop-id
decreases-loop-id l = length l.s - l.at
