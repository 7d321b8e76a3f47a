-- Connections that the host closes together, all or none (docs/PROTOCOL.md#closing-several): what is left, and why ids are refused. The
-- source has no such call.
use Rattle.std.specs.Prelude.{ℕ, List, [], ◌∷◌, not, length, take, ltb}
use Rattle.base.specs.Pick.{pick}
use Rattle.packet.specs.Limits.{max_connections}
use Rattle.journal.specs.Ids.{without, all_open, repeats}
use Rattle.connection.specs.Peer.{ids_of, left_peer, closed_tables}
use Rattle.connection.specs.declared.peer.Peer.{Peer}
use Rattle.server.specs.declared.Engine.{Engine}
use Rattle.server.specs.declared.Outcome.TheVariants as outcome
use Rattle.server.specs.declared.Refusal.{Refusal}
use Rattle.server.specs.declared.Refusal.TheVariants as refusal
use Rattle.server.specs.declared.CallResult.{CallResult}
use Rattle.model.specs.Step.{engine_with}

-- How many ids are open, and the table store in which they stand.
pub record Remaining : Type 0 where
  pub count : ℕ
  pub tables : List ℕ

-- Makes a `Remaining`.
abbrev pub remaining : ℕ → List ℕ → Remaining
remaining n t = record { count = n; tables = t }

-- The ids of a list are closed one after the other, of the first `n` numbers of the table store `t`.
unfoldable pub closed_all : List ℕ → ℕ → List ℕ → Remaining
closed_all [] n t = remaining n t
closed_all (x ∷ l) n t = closed_all l (length (without x (take n t))) (closed_tables x n t)

-- The peer once the ids of a list were closed and `n` are left. If none was to be closed, nothing changes, even if none is open.
abbrev pub closed_peer : Peer → List ℕ → ℕ → Peer
closed_peer p [] n = p
closed_peer p (x ∷ l) n = left_peer p n

-- What a call returns that is lent the table store alone, and the table store afterwards.
pub record Closed : Type 0 where
  pub took : CallResult
  pub tables : List ℕ

-- Makes a `Closed`.
abbrev pub closed : CallResult → List ℕ → Closed
closed r t = record { took = r; tables = t }

-- The call is refused, and changes nothing.
abbrev pub refuse_closing : Refusal → Engine → List ℕ → Closed
refuse_closing r e t = closed (record { engine = e; taken = 0; outcome = outcome.Refused r }) t

-- The engine with this peer wants bytes as before, and a packet that has begun goes on.
abbrev pub goes_on_with : Engine → Peer → CallResult
goes_on_with e p =
    record {
      engine = engine_with e.settings p e.operation e.awaits e.begun e.length e.target;
      taken = 0;
      outcome = outcome.WantsBytes;
    }

-- The ids of the list were closed, and `x` is left.
abbrev pub closes : Engine → List ℕ → Remaining → Closed
closes e l x = closed (goes_on_with e (closed_peer e.peer l x.count)) x.tables

-- The ids are closed unless they are over 64, one of them is not open, or one occurs twice; an id that is not open comes before one that
-- occurs twice.
unfoldable pub close_checked : Engine → List ℕ → List ℕ → Closed
close_checked e l t =
    pick (ltb max_connections (length l)) (refuse_closing refusal.TooManyIds e t)
    (pick (not (all_open l (ids_of e.peer t))) (refuse_closing refusal.IdNotOpen e t)
    (pick (repeats l) (refuse_closing refusal.IdRepeated e t)
    (closes e l (closed_all l e.peer.count t))))
