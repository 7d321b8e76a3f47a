-- The loop of `walk::len`. The invariant: what is counted and what is left make the whole, a byte at least to a header.
use Prim.Native.Nat.{◌+◌, ◌-◌, ◌≤◌}
use mathlib.Core.Path.{◌≡◌}
use lib.ListN.{length}
use Rattle.packet.specs.Header.{read_headers}
use Rattle.walk.specs.Walk.{count_from, count_of}
use Rattle.walk.proofs.len.Given as goal

abbrev pub invariant-loop-end : goal.invariant-loop-end
invariant-loop-end l =
    (count_of (read_headers l.packet l.from) ≡ count_from l.n (read_headers l.packet l.at)) × (l.n + l.from ≤ l.at)

abbrev pub decreases-loop-end : goal.decreases-loop-end
decreases-loop-end l = length l.packet - l.at
