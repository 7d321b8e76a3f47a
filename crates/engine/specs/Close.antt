-- Connections that the host closes together, by numbers: the design level between model/specs/Close and the code.
-- `proofs/Closes.antt` says so.
use Rattle.std.specs.Prelude.{ℕ, List, ◌&&◌, not, length, ltb, eqb}
use Rattle.base.specs.Pick.{pick}
use Rattle.packet.specs.Limits.{max_connections}
use Rattle.table.specs.Places.{table_length}
use Rattle.journal.specs.Ids.{all_open, repeats}
use Rattle.connection.specs.Peer.{left_peer}
use Rattle.connection.specs.declared.peer.Peer.{Peer}
use Rattle.model.specs.Guard.{sound, same_await}
use Rattle.model.specs.Dispatch.{busy}
use Rattle.server.specs.declared.Await.TheVariants as await
use Rattle.server.specs.declared.Refusal.TheVariants as refusal
use Rattle.server.specs.declared.Engine.{Engine}
use Rattle.engine.specs.Guard.{Verdict, proceed, refuses}

-- The guard of the call, by the length `n` of the table store: bytes must be awaited, and no operation may be open.
unfoldable pub guarded_close : Engine → ℕ → Verdict
guarded_close e n =
    pick (ltb n table_length) (refuses refusal.StoreTooShort)
    (pick (sound e && (same_await e.awaits await.Bytes && not (busy e.operation))) proceed (refuses refusal.WrongMoment))

-- Whether the ids `l` may be closed of those that are open.
unfoldable pub judged_close : List ℕ → List ℕ → Verdict
judged_close l ids =
    pick (ltb max_connections (length l)) (refuses refusal.TooManyIds)
    (pick (not (all_open l ids)) (refuses refusal.IdNotOpen)
    (pick (repeats l) (refuses refusal.IdRepeated) proceed))

-- The peer once `k` ids were closed and `n` are left.
abbrev pub closed_by : Peer → ℕ → ℕ → Peer
closed_by p k n = pick (eqb k 0) p (left_peer p n)
