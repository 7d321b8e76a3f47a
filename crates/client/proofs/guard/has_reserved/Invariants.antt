-- `client::guard::has_reserved` meets its contract. The invariant: the answer is that of the headers that are left. Assumes nothing.
use Prim.Native.Nat.{◌-◌}
use lib.ListN.{length}
use Rattle.packet.specs.Header.{read_headers}
use Rattle.journal.specs.Journal.{list_of}
use Rattle.client_model.specs.Guard.{any_of, is_reserved}
use Rattle.client.proofs.Walks.{Left}
use Rattle.client.proofs.guard.has_reserved.Given as goal

abbrev pub invariant-loop-id : goal.invariant-loop-id
invariant-loop-id l = Left is_reserved l.s l.at (any_of is_reserved (list_of (read_headers l.s 0)))

abbrev pub decreases-loop-id : goal.decreases-loop-id
decreases-loop-id l = length l.s - l.at
