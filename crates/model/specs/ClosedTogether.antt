-- Connections that are closed together (docs/PROTOCOL.md#closing-several): whatever the state, if the call is not refused, the open ids
-- afterwards are those that are left by closing each alone, in any order. Of the call only what its contract says is known.
use Rattle.std.specs.Prelude.{ℕ, ◌≡◌, List, [], ◌∷◌}
use Rattle.journal.specs.Ids.{without_all, Reordered}
use Rattle.journal.specs.Calls.{connections_closed_of, goes}
use Rattle.connection.specs.Peer.{ids_of, cleared_peer}
use Rattle.model.specs.Refusals.{verdict_of}
use Rattle.model.specs.Step.{Called}
use Rattle.model.specs.Runs.{State, state_of, Says}

-- The open ids of a state.
abbrev pub open_in : State → List ℕ
open_in s = ids_of s.engine.peer s.tables

-- What holds of a call in the state `s` that closed the ids `l` and left the state `n`.
pub record ClosedTogether (s : State) (l : List ℕ) (n : State) : Type 0 where
  -- The open ids are those that are left by closing each alone, in the order of `l` or in any other.
  pub remain : (m : List ℕ) → Reordered l m → open_in n ≡ without_all m (open_in s)
  -- If some were closed and none is left, the peer is cleared as by its last Disconnect.
  pub cleared : (y : ℕ) (k : List ℕ) → l ≡ y ∷ k → open_in n ≡ [] → n.engine.peer ≡ cleared_peer s.engine.peer
  -- If there was none to close, nothing changes, even if none is open.
  pub none : l ≡ [] → n ≡ s
  -- The settings, the operation, what is awaited and the packet that has begun stay.
  pub settings : n.engine.settings ≡ s.engine.settings
  pub operation : n.engine.operation ≡ s.engine.operation
  pub awaits : n.engine.awaits ≡ s.engine.awaits
  pub begun : n.engine.begun ≡ s.engine.begun

-- The claim, for every call that closes connections and is not refused.
abbrev pub ClosesTogether : Type 0
ClosesTogether =
    (s : State) (l : List ℕ) (m : Called) → Says s (connections_closed_of l) m → verdict_of m.took.outcome ≡ goes → ClosedTogether s l (state_of m)
