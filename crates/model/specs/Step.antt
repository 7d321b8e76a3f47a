-- What a step of the engine leads to, as values: the stores that the host lends, the state with changed fields, and the outcome.
use Rattle.std.specs.Prelude.{ℕ, ◌-◌, List, [], ◌∷◌, Bool, true, false, length}
use Rattle.std.proofs.Math.Option.{Option, none, some}
use Rattle.packet.specs.Codes.{sent_code}
use Rattle.packet.specs.Packet.{packet_bytes}
use Rattle.incoming.specs.Gather.{Gathering}
use Rattle.table.specs.declared.targets.Target.{Target}
use Rattle.connection.specs.Reply.{fields_of, send_bytes, front}
use Rattle.connection.specs.declared.peer.Peer.{Peer}
use Rattle.server.specs.declared.Settings.{Settings}
use Rattle.server.specs.declared.Operation.{Operation}
use Rattle.server.specs.declared.Operation.TheVariants.{Nothing}
use Rattle.server.specs.declared.Await.{Await}
use Rattle.server.specs.declared.Await.TheVariants as await
use Rattle.server.specs.declared.End.{End}
use Rattle.server.specs.declared.End.TheVariants as end
use Rattle.server.specs.declared.Engine.{Engine}
use Rattle.server.specs.declared.HostRequest.{HostRequest}
use Rattle.server.specs.declared.Outcome.{Outcome}
use Rattle.server.specs.declared.Outcome.TheVariants as outcome
use Rattle.server.specs.declared.CallResult.{CallResult}

-- The four stores that the host lends in each call (docs/PROTOCOL.md#stores).
pub record Stores : Type 0 where
  pub packet : List ℕ
  pub headers : List ℕ
  pub body : List ℕ
  pub reply : List ℕ

-- Makes `Stores`.
abbrev pub stores : List ℕ → List ℕ → List ℕ → List ℕ → Stores
stores p h b y = record { packet = p; headers = h; body = b; reply = y }

-- The stores with another reply store.
abbrev pub with_reply : Stores → List ℕ → Stores
with_reply s y = stores s.packet s.headers s.body y

-- The stores with another header store.
abbrev pub with_headers : Stores → List ℕ → Stores
with_headers s h = stores s.packet h s.body s.reply

-- The stores with what was gathered in the header store and the body store.
abbrev pub with_gathered : Stores → Gathering → Stores
with_gathered s g = stores s.packet g.headers g.body s.reply

-- The state with these fields. This is the one place that lists them all.
unfoldable pub engine_with : Settings → Peer → Operation → Await → ℕ → ℕ → Target → Engine
engine_with st p o a b n g = record { settings = st; peer = p; operation = o; awaits = a; begun = b; length = n; target = g }

-- What a step leads to: the state, what the call answers, and the stores afterwards.
pub record Done : Type 0 where
  pub engine : Engine
  pub outcome : Outcome
  pub stores : Stores

-- Makes a `Done`.
abbrev pub done : Engine → Outcome → Stores → Done
done e o s = record { engine = e; outcome = o; stores = s }

-- The same for a step that may write the table store, in which the open ids stand.
pub record DoneTabled : Type 0 where
  pub done : Done
  pub tables : List ℕ

-- Makes a `DoneTabled`.
abbrev pub done_tabled : Done → List ℕ → DoneTabled
done_tabled d t = record { done = d; tables = t }

-- The engine wants bytes, inside an operation or not.
abbrev pub wants : Engine → Peer → Operation → Stores → Done
wants e p o s = done (engine_with e.settings p o await.Bytes 0 e.length e.target) outcome.WantsBytes s

-- The engine asks the host and waits for the answer.
abbrev pub asks : Engine → Peer → Operation → Await → HostRequest → Stores → Done
asks e p o a r s = done (engine_with e.settings p o a 0 e.length e.target) (outcome.Request r) s

-- The engine ends, and awaits nothing any more.
abbrev pub ends : Engine → Peer → End → Stores → Done
ends e p x s = done (engine_with e.settings p Nothing await.Nothing 0 e.length e.target) (outcome.End x) s

-- The engine makes a reply, which stands at the front of the reply store until the host has sent it.
abbrev pub replies : Engine → Peer → Operation → Await → List ℕ → Stores → Done
replies e p o a q s =
    done (engine_with e.settings p o a 0 e.length e.target) (outcome.Reply (length q)) (with_reply s (front q s.reply))

-- A reply of a code and no headers.
abbrev pub replies_code : Engine → Peer → Operation → ℕ → Stores → Done
replies_code e p o code s = replies e p o await.Taken (packet_bytes (sent_code code) [] []) s

-- The bytes of a Continue, with a SingleResponseMode header if Single Response Mode (SRM) is granted.
abbrev pub continue_bytes : Bool → List ℕ
continue_bytes false = packet_bytes 0x90 [] []
continue_bytes true = packet_bytes 0x90 [] (0x97 ∷ 0x01 ∷ [])

-- The engine replies with a Continue, and `o` stays open.
abbrev pub continues : Engine → Operation → Bool → Stores → Done
continues e o grant s = replies e e.peer o await.Taken (continue_bytes grant) s

-- A reply from a code, Connect's fields or none, and headers. A reply of over 65,535 bytes ends the engine (docs/PROTOCOL.md#reply-limit).
abbrev pub sent : Engine → Peer → Option (List ℕ) → Stores → Done
sent e p none s = ends e p end.ReplyTooLarge s
sent e p (some q) s = replies e p Nothing await.Taken q s

-- A reply without fields.
unfoldable pub sends : Engine → Peer → ℕ → List ℕ → Stores → Done
sends e p code hs s = sent e p (send_bytes p.remote_max_packet_length code [] hs) s

-- A reply with Connect's fields.
unfoldable pub sends_connect : Engine → Peer → ℕ → List ℕ → Stores → Done
sends_connect e p code hs s =
    sent e p (send_bytes p.remote_max_packet_length code (fields_of e.settings.max_packet_length) hs) s

-- The Put limit.
abbrev pub limit_of : Engine → ℕ
limit_of e = e.settings.max_object_size

-- How many bytes a packet to the client may hold after its first three.
abbrev pub capacity_of : Engine → ℕ
capacity_of e = e.peer.remote_max_packet_length - 3

-- What a call returns, and the stores afterwards.
pub record Stepped : Type 0 where
  pub took : CallResult
  pub stores : Stores

-- Makes a `Stepped`.
abbrev pub stepped : CallResult → Stores → Stepped
stepped r s = record { took = r; stores = s }

-- What a call returns, the four stores and the table store afterwards.
pub record Called : Type 0 where
  pub took : CallResult
  pub stores : Stores
  pub tables : List ℕ

-- Makes a `Called`.
abbrev pub called : Stepped → List ℕ → Called
called m t = record { took = m.took; stores = m.stores; tables = t }

-- A step as a call: `t` of the offered bytes were taken.
abbrev pub after : ℕ → Done → Stepped
after t d = stepped (record { engine = d.engine; taken = t; outcome = d.outcome }) d.stores
