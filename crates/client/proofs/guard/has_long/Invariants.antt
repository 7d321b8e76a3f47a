-- `client::guard::has_long` meets its contract. The invariant: the answer is that of the headers that are left. Assumes nothing.
use Prim.Native.Nat.{◌-◌}
use lib.ListN.{length}
use lib.Dec.{ltb}
use Rattle.packet.specs.Header.{Header, bytes_of}
use Rattle.client_model.specs.Guard.{too_long_of}
use Rattle.client.proofs.Walks.{Left}
use Rattle.client.proofs.guard.has_long.Given as goal

abbrev pub invariant-loop-end : goal.invariant-loop-end
invariant-loop-end l = Left (λ (h : Header). ltb l.capacity (length (bytes_of h))) l.s l.at (too_long_of l.capacity l.s)

abbrev pub decreases-loop-end : goal.decreases-loop-end
decreases-loop-end l = length l.s - l.at
