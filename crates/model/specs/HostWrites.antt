-- What a host may write into the packet store itself, to spare a copy: bytes behind those of an unfinished packet, while bytes are awaited
-- (docs/EMBEDDING.md#reading-straight-into-the-packet-store). `Runs` has it before every call. Here stands what that comes to. Every packet
-- store that is as long as the one that the last call left, and that has the same bytes in front, is one that a host has written
-- (`AnyBehind`). A call depends on the bytes in front alone (`FrontAlone`): while bytes are awaited these are the bytes of an unfinished packet.
-- So bytes that the host has put there and reports as placed are taken as if they were offered beside the store (`PlacedAsOffered`).
use Rattle.std.specs.Prelude.{ℕ, ◌+◌, ◌≤◌, ◌≡◌, List, ◌++◌, length, take, drop}
use Rattle.base.specs.Pick.{pick}
use Rattle.incoming.specs.Frame.{coming}
use Rattle.journal.specs.Calls.{Call, bytes_offered_of}
use Rattle.server.specs.declared.Await.TheVariants as await
use Rattle.server.specs.declared.Engine.{Engine}
use Rattle.model.specs.Step.{Called}
use Rattle.model.specs.Guard.{same_await}
use Rattle.model.specs.Calls.{with_packet}
use Rattle.model.specs.Runs.{State, step_of, state_of, writing, Writes}

-- The packet store `q` is one that a host has written.
abbrev pub AnyBehind : Type 0
AnyBehind =
    (s : State) (q : List ℕ)
    → let p = s.stores.packet in
    let b = s.engine.begun in
    length q ≡ length p → take b q ≡ take b p → (writing s (drop b q)).stores.packet ≡ q

-- How many bytes in front of the packet store count between two calls: those of an unfinished packet while bytes are awaited, none once the
-- engine has ended, and else those of the last packet, from which an answer is made.
abbrev pub counting : Engine → ℕ
counting e = pick (same_await e.awaits await.Bytes) e.begun (pick (same_await e.awaits await.Nothing) 0 e.length)

-- Two states are the same, but for bytes of the packet store that do not count.
pub record SameBut (s u : State) : Type 0 where
  pub engine : u.engine ≡ s.engine
  pub tables : u.tables ≡ s.tables
  pub stores : u.stores ≡ with_packet s.stores u.stores.packet
  pub front : take (counting s.engine) u.stores.packet ≡ take (counting s.engine) s.stores.packet
  pub long : length u.stores.packet ≡ length s.stores.packet

-- Two calls came to the same: they return the same, and leave states that are the same but for such bytes.
pub record SameCall (m n : Called) : Type 0 where
  pub took : n.took ≡ m.took
  pub after : SameBut (state_of m) (state_of n)

-- A call depends on the bytes that count, and on no other of the packet store.
abbrev pub FrontAlone : Type 0
FrontAlone = (s u : State) → SameBut s u → (c : Call) → SameCall (step_of s c) (step_of u c)

-- What the host writes does not count.
abbrev pub WritesBehind : Type 0
WritesBehind = (s : State) (w : List ℕ) → Writes s w → SameBut s (writing s w)

-- A call comes to the same with the bytes `i` in the packet store and `k` beside it as with all of them beside it, whether it takes them or not.
abbrev pub PlacedAsOffered : Type 0
PlacedAsOffered =
    (s : State) (i k : List ℕ)
    → let b = s.engine.begun in
    let y = writing s i in
    s.engine.awaits ≡ await.Bytes → b + length i ≤ length s.stores.packet
    → SameCall (step_of s (bytes_offered_of (i ++ k))) (step_of y (bytes_offered_of (coming y.stores.packet b (length i) k)))
