-- Which way a packet goes (the source's handle_next, dispatch, reject and next_request).
use Rattle.std.specs.Prelude.{ℕ, List, [], Bool, true, false, ◌&&◌, ◌||◌, not, get_or, take}
use Rattle.std.specs.Prelude.{Option as Maybe, Some, None}
use Rattle.std.proofs.Math.Option.{Option, none, some}
use Rattle.base.specs.Pick.{pick}
use Rattle.packet.specs.HeaderIds as header_id
use Rattle.packet.specs.ResponseCodes as response
use Rattle.packet.specs.FirstByte.{first_byte, same_opcode}
use Rattle.packet.specs.Codes.{sent_code}
use Rattle.packet.specs.Header.{first}
use Rattle.packet.specs.Packet.{Request as Packet, request_of, backup, no_create_of, packet_bytes}
use Rattle.packet.specs.declared.opcode.Opcode.{Opcode}
use Rattle.packet.specs.declared.opcode.Opcode.TheVariants as op
use Rattle.packet.specs.declared.opcode.FirstByte.{FirstByte}
use Rattle.journal.specs.Ids.{member}
use Rattle.incoming.specs.Survey.{present, survey_of}
use Rattle.incoming.specs.declared.survey.Survey.{Survey}
use Rattle.table.specs.Targets.{unnamed, place_of, target_at}
use Rattle.table.specs.declared.targets.Target.{Target}
use Rattle.connection.specs.Peer.{ids_of}
use Rattle.server.specs.declared.Operation.{Operation}
use Rattle.server.specs.declared.Operation.TheVariants.{Nothing, Trailing, Putting, Getting, Sending, Gathering as GatheringOp, Connecting, Draining}
use Rattle.server.specs.declared.Await.TheVariants as await
use Rattle.server.specs.declared.End.TheVariants as end
use Rattle.server.specs.declared.Engine.{Engine}
use Rattle.server.specs.declared.HostRequest.TheVariants as request
use Rattle.model.specs.Step.{Stores, engine_with, Done, wants, asks, ends, replies, replies_code}
use Rattle.model.specs.Operation.{nothing_gathered, put_packet, get_packet, headers_packet}
use Rattle.model.specs.Object.{sends_next}
use Rattle.model.specs.Connect.{connect_packet, srm_asked}

-- Whether the engine admits a packet, or the code with which it turns the packet away.
pub data Rejection : Type 0 where
  admits : Rejection
  rejects : ℕ → Rejection

-- Whether the packet names a ConnectionID that is open: one of the ids in the table store `t`.
abbrev pub known_in : Engine → List ℕ → Survey → Bool
known_in e t v = v.has_id && member v.id (ids_of e.peer t)

-- The code that refuses a packet before it reaches the host: 0x41 if a password is required and not given, but for a Disconnect, which may
-- not be refused; then 0x53 if the first ConnectionID is not open (docs/PROTOCOL.md#admission).
unfoldable pub rejection : Engine → Opcode → Survey → Bool → Rejection
rejection e o v known =
    pick (e.settings.authentication && (not e.peer.authenticated && not (same_opcode o op.Disconnect))) (rejects response.unauthorized)
    (pick (v.has_id && not known) (rejects response.service_unavailable) admits)

-- The operations that are drained if they are turned away under Single Response Mode (SRM).
abbrev pub drains : Opcode → Bool
drains o = same_opcode o op.Put || same_opcode o op.Get

-- A packet that is turned away. Under SRM the client keeps sending without waiting, so the engine reads the rest of a Put or Get before it
-- replies (docs/PROTOCOL.md#drain).
abbrev pub rejected : Engine → Packet → ℕ → Stores → Done
rejected e r code s =
    pick (e.peer.srm_enabled && (drains r.opcode && not r.final)) (wants e e.peer (Draining code) s)
    (replies_code e e.peer Nothing code s)

-- Whether SRM is granted for this operation with its first Continue.
abbrev pub confirms : Engine → Survey → Bool
confirms e v = not e.peer.srm_enabled && srm_asked e v

-- An admitted packet, by its opcode.
abbrev pub dispatches : Opcode → Engine → Packet → Survey → Stores → Done
dispatches op.Connect e r v s = connect_packet e s
dispatches op.Abort e r v s = asks e e.peer Nothing await.Acknowledgement (request.Abort e.length) s
dispatches op.Disconnect e r v s = asks e e.peer Nothing await.Disconnect (request.Disconnect e.length) s
dispatches op.SetPath e r v s =
    asks e e.peer Nothing await.Reply (request.SetPath e.length (backup r.bytes) (no_create_of r.bytes)) s
dispatches op.Put e r v s = put_packet e r v e.peer.srm_enabled (confirms e v) nothing_gathered s
dispatches op.Get e r v s = get_packet e r v e.peer.srm_enabled (confirms e v) nothing_gathered s
dispatches op.Action e r v s = headers_packet e r op.Action nothing_gathered s
dispatches op.Session e r v s = headers_packet e r op.Session nothing_gathered s
dispatches (op.UserDefined x) e r v s = headers_packet e r (op.UserDefined x) nothing_gathered s

-- The engine dispatches a packet that it admits, and turns any other away with the code.
abbrev pub admitted_as : Rejection → Engine → Packet → Survey → Stores → Done
admitted_as admits e r v s = dispatches r.opcode e r v s
admitted_as (rejects code) e r v s = rejected e r code s

-- A packet while nothing is open. A Connect is never turned away.
unfoldable pub dispatch : Engine → Packet → Survey → Bool → Stores → Done
dispatch e r v known s =
    pick (same_opcode r.opcode op.Connect) (connect_packet e s) (admitted_as (rejection e r.opcode v known) e r v s)

-- A packet of another opcode inside an operation gets 0x40; the engine ends once that reply is taken (docs/PROTOCOL.md#other-operation).
abbrev pub interrupts : Engine → Stores → Done
interrupts e s = replies e e.peer Nothing await.Last (packet_bytes (sent_code response.bad_request) [] []) s

-- Whether a packet may trail a Put that was too long: a Put packet without a Name, which begins nothing new (docs/PROTOCOL.md#trailing).
unfoldable pub trails : Packet → Bool
trails r = same_opcode r.opcode op.Put && not (present (first header_id.name r.headers))

-- A packet that trails a Put that was too long gets 0x4D as that Put did. The final one is the last of them.
abbrev pub trailed : Engine → Packet → Stores → Done
trailed e r s = replies_code e e.peer (pick r.final Nothing Trailing) response.requested_entity_too_large s

-- A packet by what is open; `known` says that it names an open ConnectionID.
abbrev pub inside : Operation → Engine → Packet → Survey → Bool → Stores → Done
inside Nothing e r v known s = dispatch e r v known s
inside Trailing e r v known s = pick (trails r) (trailed e r s) (dispatch e r v known s)
inside (Putting g srm) e r v known s = pick (same_opcode r.opcode op.Put) (put_packet e r v srm false g s) (interrupts e s)
inside (Getting g srm confirm wait) e r v known s =
    pick (same_opcode r.opcode op.Get) (get_packet e r v srm confirm g s) (interrupts e s)
inside (Sending o c srm wait) e r v known s = pick (same_opcode r.opcode op.Get) (sends_next e o srm v.wait s) (interrupts e s)
inside (GatheringOp o g) e r v known s = pick (same_opcode r.opcode o) (headers_packet e r o g s) (interrupts e s)
inside (Connecting c f n) e r v known s = interrupts e s
inside (Draining code) e r v known s = pick r.final (replies_code e e.peer Nothing code s) (wants e e.peer (Draining code) s)

-- Whether a first byte names no opcode.
abbrev pub unknown_byte : Maybe FirstByte → Bool
unknown_byte None = true
unknown_byte (Some b) = false

-- Whether an operation is open.
abbrev pub busy : Operation → Bool
busy Nothing = false
busy Trailing = false
busy (Putting g srm) = true
busy (Getting g srm confirm wait) = true
busy (Sending o c srm wait) = true
busy (GatheringOp o g) = true
busy (Connecting c f n) = true
busy (Draining code) = true

-- A packet that cannot be read ends the engine inside an operation. Otherwise it gets 0x51 for an unknown opcode or 0x40, and what trails a
-- Put that was too long is refused as before (docs/PROTOCOL.md#unreadable).
abbrev pub unreadable : Engine → List ℕ → Stores → Done
unreadable e q s =
    pick (busy e.operation) (ends e e.peer end.Unreadable s)
    (replies_code e e.peer e.operation (pick (unknown_byte (first_byte (get_or q 0 0))) response.not_implemented response.bad_request) s)

-- A packet that can be read or not. An Abort goes before all else.
abbrev pub read_as : Option Packet → Engine → List ℕ → Stores → List ℕ → Done
read_as none e q s t = unreadable e q s
read_as (some r) e q s t =
    let v = survey_of (some r.headers) in
    pick (same_opcode r.opcode op.Abort) (asks e e.peer Nothing await.Acknowledgement (request.Abort e.length) s)
    (inside e.operation e r v (known_in e t v) s)

-- The operations that go under the mark wherever they come: Connect and Abort.
abbrev pub is_marked : Opcode → Bool
is_marked o = same_opcode o op.Connect || same_opcode o op.Abort

-- The Target of the ConnectionID that the packet names, if it is open; else the mark.
abbrev pub target_for : Engine → List ℕ → Survey → Target
target_for e t v = pick (known_in e t v) (target_at t (place_of v.id (ids_of e.peer t))) unnamed

-- The Target under which a packet goes (docs/PROTOCOL.md#targets). Inside an operation that of its first packet stays, and a packet that
-- cannot be read changes nothing.
unfoldable pub packet_target : Option Packet → Engine → List ℕ → Target
packet_target none e t = e.target
packet_target (some r) e t =
    pick (is_marked r.opcode) unnamed (pick (busy e.operation) e.target (target_for e t (survey_of (some r.headers))))

-- The state after a whole packet of `n` bytes has arrived, which goes under the Target `g`.
abbrev pub arrived : Engine → ℕ → Target → Engine
arrived e n g = engine_with e.settings e.peer e.operation e.awaits 0 n g

-- What follows a whole packet of `n` bytes at the front of the packet store. The table store `t` says which ConnectionIDs are open.
unfoldable pub packet_done : Engine → ℕ → Stores → List ℕ → Done
packet_done e n s t =
    let q = take n s.packet in read_as (request_of q) (arrived e n (packet_target (request_of q) e t)) q s t
