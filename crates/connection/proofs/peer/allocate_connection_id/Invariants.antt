-- `connection::peer::allocate_connection_id` meets its contract. All candidates passed over are different and are open or reserved, so that
-- there are at most 65 (`enough`), and the search from the one looked at yields what the search from the counter does. Assumes nothing.
use Rattle.std.proofs.Common.{◌≡◌, ℕ, ◌+◌, ◌-◌, ◌%◌, ◌^◌, ◌<◌, ◌≤◌, true, take}
use Rattle.journal.specs.Ids.{taken, first_free}
use Rattle.connection.proofs.Open.{looked}
use Rattle.connection.proofs.peer.allocate_connection_id.Given as goal

abbrev pub invariant-loop-at : goal.invariant-loop-at
invariant-loop-at l = (looked l.counter l.at ≤ 65) × (l.at ≡ (l.counter + looked l.counter l.at) % 2 ^ 32)
    × ((i : ℕ) → i < looked l.counter l.at → taken (take l.count l.ids) ((l.counter + i) % 2 ^ 32) ≡ true)
    × (first_free 66 (take l.count l.ids) l.counter ≡ first_free (66 - looked l.counter l.at) (take l.count l.ids) l.at)

abbrev pub decreases-loop-at : goal.decreases-loop-at
decreases-loop-at l = 66 - looked l.counter l.at
