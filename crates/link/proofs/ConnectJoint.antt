-- Client and server in a Connect or a Disconnect: what holds of both and of the two queues between any two moves, by phases, from the call to
-- its end. The longest packet that the server sends and the ConnectionID are followed, since both are set here and nowhere else.
use mathlib.Core.Path.{◌≡◌}
use mathlib.Core.List.{List, []}
use mathlib.Core.Bool.{Bool, true, false}
use mathlib.Core.Option.{Option, none, some}
use Prim.Native.Nat.{ℕ, ◌^◌, ◌≤◌, ◌<◌}
use lib.ListN.{length, take}
use Rattle.std.specs.Prelude.{Some, None}
use Rattle.base.specs.Bytes.{bytes32}
use Rattle.text.specs.Unicode.{Octets}
use Rattle.packet.specs.HeaderIds as header_id
use Rattle.packet.specs.Codes.{is_code, is_success}
use Rattle.packet.specs.Header.{Header, read_headers, first}
use Rattle.packet.specs.Packet.{request_of, connect_limit}
use Rattle.packet.specs.ResponsePacket.{ResponsePacket, response_packet}
use Rattle.packet.specs.declared.opcode.Opcode.{Opcode}
use Rattle.packet.specs.declared.opcode.Opcode.TheVariants as op
use Rattle.journal.specs.Ids.{member}
use Rattle.journal.specs.Journal.{is_enable, list_of}
use Rattle.incoming.proofs.Queued.{IsWhole, Half}
use Rattle.connection.specs.Peer.{at_least255, ids_of, id_in, ConnectionId}
use Rattle.connection.specs.Pieces.{id_given}
use Rattle.connection.specs.declared.peer.Peer.{Peer}
use Rattle.server.specs.declared.Operation.TheVariants as server_op
use Rattle.server.specs.declared.Await.TheVariants as waits
use Rattle.server.specs.declared.End.{End}
use Rattle.server.specs.declared.HostRequest.{HostRequest}
use Rattle.server.specs.declared.Outcome.{Outcome as ServerOutcome}
use Rattle.server.specs.declared.Outcome.TheVariants as told
use Rattle.model.specs.Request.{last_headers}
use Rattle.model.specs.Dispatch.{busy}
use Rattle.model.specs.Runs.{State}
use Rattle.client_model.specs.Guard.{short}
use Rattle.client_model.specs.declared.Settings.{Settings}
use Rattle.client_model.specs.declared.Operation.{Operation}
use Rattle.client_model.specs.declared.Operation.TheVariants.{Connecting, Disconnecting}
use Rattle.client_model.specs.declared.Await.TheVariants as await
use Rattle.client_model.specs.declared.Outcome.TheVariants as said
use Rattle.client_model.proofs.Only.{NoSrm}
use Rattle.link.specs.Link.{Link, Move}
use Rattle.link.specs.Claims.{named_in, named_by}
use Rattle.link.proofs.Moves.{is_end}
use Rattle.link.proofs.Joint.{Serves, Ready, AtRest}

-- ---- the two operations

pub data Kind : Type 0 where
  connecting disconnecting : Kind

abbrev pub operation_of : Kind → Operation
operation_of connecting = Connecting
operation_of disconnecting = Disconnecting

abbrev pub opcode_for : Kind → Opcode
opcode_for connecting = op.Connect
opcode_for disconnecting = op.Disconnect

-- the ConnectionID that the server must have open all the while: a Disconnect gives it up
abbrev pub held_id : Kind → ConnectionId → ConnectionId
held_id connecting i = i
held_id disconnecting i = None

-- ---- what was before: whether the client is connected, and the ConnectionID that the server gave

pub record Past : Type 0 where
  pub connected : Bool
  pub named : ConnectionId

-- after one move more, as far as the ConnectionID goes
abbrev pub named_past : Past → Link → Move → Past
named_past g l m = record { connected = g.connected; named = named_by g.named l m }

-- ---- the server's peer

-- the longest packet that it sends
abbrev pub limit_for : State → ℕ
limit_for s = s.engine.peer.remote_max_packet_length

-- the ConnectionID is open, if it is one
abbrev pub open_at : ConnectionId → Peer → List ℕ → Bool
open_at None p t = true
open_at (Some i) p t = member i (ids_of p t)

pub record Ids (id : ConnectionId) (p : Peer) (t : List ℕ) : Type 0 where
  pub next : p.next_connection_id < 2 ^ 32
  pub is_open : open_at id p t ≡ true

-- a Connect has told the server the client's limit
abbrev pub Settled : Kind → Settings → ℕ → Type 0
Settled connecting cs n = n ≡ at_least255 cs.max_packet_length
Settled disconnecting cs n = Unit {0}

-- what is known of the server besides `Serves`
pub record Follows (id : ConnectionId) (s : State) : Type 0 where
  pub most : s.engine.settings.max_packet_length ≤ 65535
  pub ids : Ids id s.engine.peer s.tables

-- the header that names the ConnectionID in a reply, by what goes in front of the host's headers and the first that these name
abbrev pub fronted : Option ℕ → Option (List ℕ) → Option (List ℕ)
fronted none v = v
fronted (some i) v = some (bytes32 i)

-- what the server has asked its host in a Connect
pub data AskedConnect (s : State) : Type 0 where
  host_connect : s.engine.awaits ≡ waits.Connect → s.engine.operation ≡ server_op.Nothing → AskedConnect s
  host-password : s.engine.awaits ≡ waits.Password → s.engine.operation ≡ server_op.Nothing → AskedConnect s
  host-nonce : s.engine.awaits ≡ waits.Nonce → s.engine.operation ≡ server_op.Nothing → AskedConnect s
  host-credentials : (code : ℕ) (f : ConnectionId) (n : ℕ) → s.engine.awaits ≡ waits.Credentials
      → s.engine.operation ≡ server_op.Connecting code f n
      → is_code code ≡ true
      → (Ids (id_in (fronted (id_given f) (first header_id.connection_id (list_of (read_headers (take n s.stores.headers) 0)))))
      s.engine.peer s.tables)
      → AskedConnect s

abbrev pub Asked : Kind → State → Type 0
Asked connecting s = AskedConnect s × (is_enable (first header_id.single_response_mode (last_headers s.engine s.stores)) ≡ false)
Asked disconnecting s = (s.engine.awaits ≡ waits.Disconnect) × (s.engine.operation ≡ server_op.Nothing)

-- ---- a packet, and its reply

abbrev pub Limits : Kind → Settings → List ℕ → Type 0
Limits connecting cs q = connect_limit q ≡ cs.max_packet_length
Limits disconnecting cs q = Unit {0}

-- the client's packet
pub record Packs (k : Kind) (cs : Settings) (q : List ℕ) : Type 0 where
  pub whole-packet : IsWhole q
  pub octets : Octets q
  pub headers : List Header
  pub reads : request_of q ≡ some (record { opcode = opcode_for k; final = true; bytes = q; headers = headers })
  pub plain : NoSrm headers
  pub limit : Limits k cs q

abbrev pub is_connect : Kind → Bool
is_connect connecting = true
is_connect disconnecting = false

-- the limit that a reply gives the client, and the ConnectionID
abbrev pub Gives : Kind → ResponsePacket → Peer → List ℕ → Type 0
Gives connecting r p t =
    (connect_limit r.bytes ≤ 65535)
    × (is_success r.code ≡ true → Ids (id_in (first header_id.connection_id r.headers)) p t)
Gives disconnecting r p t = Unit {0}

-- a reply that the client can read
pub record Replies (k : Kind) (p : Peer) (t y : List ℕ) : Type 0 where
  pub whole-packet : IsWhole y
  pub response : ResponsePacket
  pub reads : response_packet (is_connect k) y ≡ some response
  pub gives : Gives k response p t

-- ---- what a call of the server leads to

pub data Did (k : Kind) (cs : Settings) (id : ConnectionId) (s : State) (o : ServerOutcome) : Type 0 where
  asks : (r : HostRequest) → o ≡ told.Request r → Serves (limit_for s) s → Asked k s → Follows id s → Settled k cs (limit_for s)
      → Did k cs id s o
  replies : (y : List ℕ) → o ≡ told.Reply (length y) → Serves (limit_for s) s → s.engine.awaits ≡ waits.Taken → s.engine.begun ≡ 0
      → busy s.engine.operation ≡ false → take (length y) s.stores.reply ≡ y → Replies k s.engine.peer s.tables y
      → Follows id s → Settled k cs (limit_for s) → Did k cs id s o
  stops : (x : End) → o ≡ told.End x → s.engine.awaits ≡ waits.Nothing → Did k cs id s o

-- ---- the client

pub record Calls (k : Kind) (cs : Settings) (l : Link) : Type 0 where
  pub room : short l.stores ≡ false
  pub begun : l.client.begun < 65535
  pub latest : l.client.length ≤ 65535
  pub least : 255 ≤ l.client.remote_max_packet_length
  pub most : l.client.remote_max_packet_length ≤ 65535
  pub operation : l.client.operation ≡ operation_of k
  pub settings : l.client.settings ≡ cs
  pub stays : l.client.aborting ≡ false

-- a response is due
pub record Awaits (k : Kind) (cs : Settings) (l : Link) : Type 0 where
  pub calls : Calls k cs l
  pub awaits : l.client.awaits ≡ await.Bytes
  pub said : l.said ≡ said.WantsBytes

-- the client's ConnectionID is the one that the server gave, before the response and by it
abbrev pub NamesNow : Kind → ConnectionId → ConnectionId → Type 0
NamesNow connecting i held = held ≡ i
NamesNow disconnecting i held = i ≡ None

abbrev pub NamesThen : Kind → ConnectionId → ConnectionId → ResponsePacket → Type 0
NamesThen connecting i held r = named_in (some r) held ≡ i
NamesThen disconnecting i held r = i ≡ None

-- if the client is connected, the server knows its limit; a Disconnect ends that
abbrev pub Bound : Kind → Settings → Bool → ℕ → Type 0
Bound connecting cs b n = b ≡ true → n ≡ at_least255 cs.max_packet_length
Bound disconnecting cs b n = b ≡ false

-- ---- the phases

pub data Phase (k : Kind) (cs : Settings) (g : Past) (l : Link) : Type 0 where
  -- the packet waits to be sent
  turn : (q : List ℕ) → Calls k cs l → Packs k cs q → l.client.awaits ≡ await.Sent → l.said ≡ said.Send (length q)
      → take (length q) l.stores.request ≡ q → Ready (limit_for l.server) l → busy l.server.engine.operation ≡ false → l.down ≡ []
      → Follows (held_id k l.client.connection_id) l.server → NamesNow k g.named l.client.connection_id
      → Bound k cs g.connected (limit_for l.server)
      → Phase k cs g l
  -- the packet is under way to the server
  under_way : (q : List ℕ) → Awaits k cs l → Packs k cs q → l.client.begun ≡ 0 → Serves (limit_for l.server) l.server
      → l.server.engine.awaits ≡ waits.Bytes → l.told ≡ told.WantsBytes → busy l.server.engine.operation ≡ false
      → Half q l.server.stores.packet l.up l.server.engine.begun → l.down ≡ []
      → Follows (held_id k l.client.connection_id) l.server → NamesNow k g.named l.client.connection_id
      → Bound k cs g.connected (limit_for l.server)
      → Octets l.up → Phase k cs g l
  -- the host is to answer
  at_host : (r : HostRequest) → Awaits k cs l → l.client.begun ≡ 0 → Serves (limit_for l.server) l.server → l.told ≡ told.Request r
      → l.up ≡ [] → l.down ≡ [] → Asked k l.server → Follows (held_id k l.client.connection_id) l.server
      → Settled k cs (limit_for l.server) → NamesNow k g.named l.client.connection_id
      → Bound k cs g.connected (limit_for l.server) → Phase k cs g l
  -- a reply waits to be sent
  replied : (y : List ℕ) → Awaits k cs l → l.client.begun ≡ 0 → Serves (limit_for l.server) l.server → l.server.engine.awaits ≡ waits.Taken
      → l.server.engine.begun ≡ 0 → busy l.server.engine.operation ≡ false → l.told ≡ told.Reply (length y)
      → take (length y) l.server.stores.reply ≡ y → l.up ≡ [] → l.down ≡ [] → Replies k l.server.engine.peer l.server.tables y
      → Follows (held_id k l.client.connection_id) l.server → Settled k cs (limit_for l.server)
      → NamesNow k g.named l.client.connection_id → Bound k cs g.connected (limit_for l.server) → Phase k cs g l
  -- a reply is under way to the client
  coming : (y : List ℕ) → Awaits k cs l → Ready (limit_for l.server) l → busy l.server.engine.operation ≡ false
      → Half y l.stores.packet l.down l.client.begun → (a : Replies k l.server.engine.peer l.server.tables y)
      → Follows (held_id k l.client.connection_id) l.server → Settled k cs (limit_for l.server)
      → NamesThen k g.named l.client.connection_id a.response → Bound k cs g.connected (limit_for l.server)
      → Phase k cs g l
  -- the server has ended
  ended : (x : End) → Awaits k cs l → l.client.begun ≡ 0 → l.server.engine.awaits ≡ waits.Nothing → l.told ≡ told.End x → l.up ≡ []
      → l.down ≡ []
      → Phase k cs g l

-- ---- nothing is open

-- what is known then
pub record Standing (cs : Settings) (g : Past) (l : Link) : Type 0 where
  pub settings : l.client.settings ≡ cs
  pub most : l.server.engine.settings.max_packet_length ≤ 65535
  pub limit : g.connected ≡ true → limit_for l.server ≡ at_least255 cs.max_packet_length
  pub names : l.client.connection_id ≡ g.named
  pub ids : Ids l.client.connection_id l.server.engine.peer l.server.tables

-- a Connect that is over may have connected the client, a Disconnect has not
abbrev pub MayConnect : Kind → Bool → Type 0
MayConnect connecting b = Unit {0}
MayConnect disconnecting b = b ≡ false

-- a move leads on, or to the end
pub data Next (k : Kind) (cs : Settings) (g : Past) (l : Link) : Type 0 where
  goes : Phase k cs g l → Next k cs g l
  over : AtRest (limit_for l.server) l → ((b : Bool) → MayConnect k b → Standing cs (record { connected = b; named = g.named }) l)
      → Next k cs g l
  gone : is_end l.said ≡ true → Next k cs g l
