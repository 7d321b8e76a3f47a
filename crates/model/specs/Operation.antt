-- A Put, a Get's request and the operations of headers alone, packet by packet (the source's handle_put, handle_get, handle_headers_only).
use Rattle.std.specs.Prelude.{ℕ, List, Bool, true, false, Some, None}
use Rattle.base.specs.Pick.{pick}
use Rattle.packet.specs.ResponseCodes as response
use Rattle.packet.specs.Header.{Header}
use Rattle.packet.specs.Packet.{Request as Packet}
use Rattle.packet.specs.declared.opcode.Opcode.{Opcode}
use Rattle.packet.specs.declared.opcode.Opcode.TheVariants as op
use Rattle.incoming.specs.Gather.{Gathering, gathering, gather_all, Body}
use Rattle.incoming.specs.declared.survey.Survey.{Survey}
use Rattle.incoming.specs.declared.gather.Keep.{Keep}
use Rattle.incoming.specs.declared.gather.Keep.TheVariants as keep
use Rattle.incoming.specs.declared.gather.Gathered.{Gathered}
use Rattle.server.specs.declared.Settings.{Settings}
use Rattle.server.specs.declared.Operation.{Operation}
use Rattle.server.specs.declared.Operation.TheVariants.{Nothing, Trailing, Putting, Getting, Gathering as GatheringOp}
use Rattle.server.specs.declared.Await.TheVariants as await
use Rattle.server.specs.declared.End.TheVariants as end
use Rattle.server.specs.declared.Engine.{Engine}
use Rattle.server.specs.declared.HostRequest.{HostRequest}
use Rattle.server.specs.declared.HostRequest.TheVariants as request
use Rattle.model.specs.Step.{Stores, with_gathered, Done, wants, asks, ends, replies_code, continues, limit_of}

-- What is gathered before the first packet of an operation.
abbrev pub nothing_gathered : Gathered
nothing_gathered = record { kept = 0; body = 0; came = false; over = false; full = false }

-- The headers of a packet, gathered into the header and body store.
abbrev pub gathers : Engine → Keep → List Header → Gathered → Stores → Gathering
gathers e k hs g s = gather_all k (limit_of e) hs (gathering g s.headers s.body)

-- The body of a Put: missing if no body header came.
abbrev pub put_body : Gathered → Body
put_body g = pick g.came (Some g.body) None

-- What is open once a Put was refused before its final packet: if the setting is on, the packets that trail it are refused with it
-- (docs/PROTOCOL.md#trailing).
abbrev pub overrun : Settings → Operation
overrun st = pick st.refuse_trailing Trailing Nothing

-- After a Put packet that is not final. Under Single Response Mode (SRM) the engine says Continue only if the client asks for it. Without
-- SRM the client waits, so a body past the limit is refused right away (docs/PROTOCOL.md#put-limit).
abbrev pub put_continues : Engine → Gathered → Bool → Bool → Bool → Stores → Done
put_continues e g true confirm additional s =
    pick additional (continues e (Putting g true) false s) (wants e e.peer (Putting g true) s)
put_continues e g false confirm additional s =
    pick g.over (replies_code e e.peer (overrun e.settings) response.requested_entity_too_large s) (continues e (Putting g confirm) confirm s)

-- After the final packet of a Put: 0x4D if the body is past the limit, otherwise the host gets the record.
abbrev pub put_final : Engine → Gathered → Stores → Done
put_final e g s =
    pick g.over (replies_code e e.peer Nothing response.requested_entity_too_large s)
    (asks e e.peer Nothing await.Reply (request.Put g.kept (put_body g)) s)

-- A Put packet. Kept headers over 65,535 bytes end the engine before the limit is looked at (docs/PROTOCOL.md#put).
abbrev pub put_gathered : Engine → Packet → Survey → Bool → Bool → Gathering → Stores → Done
put_gathered e r v srm confirm g s =
    pick g.got.full (ends e e.peer end.HeadersTooLarge (with_gathered s g))
    (pick r.final (put_final e g.got (with_gathered s g))
    (put_continues e g.got srm confirm v.additional (with_gathered s g)))

-- A Put packet, whose headers are gathered behind `g`. `srm` says that SRM is on, `confirm` that it is still to be granted.
unfoldable pub put_packet : Engine → Packet → Survey → Bool → Bool → Gathered → Stores → Done
put_packet e r v srm confirm g s = put_gathered e r v srm confirm (gathers e keep.Put r.headers g s) s

-- After a packet of a Get's request that is not final: under SRM the client sends on without a Continue.
abbrev pub get_continues : Engine → Gathered → Bool → Bool → Bool → Stores → Done
get_continues e g true confirm wait s = wants e e.peer (Getting g true confirm wait) s
get_continues e g false confirm wait s = continues e (Getting g confirm false wait) confirm s

-- A packet of a Get's request. Kept headers over 65,535 bytes end the engine first (docs/PROTOCOL.md#get).
abbrev pub get_gathered : Engine → Packet → Survey → Bool → Bool → Gathering → Stores → Done
get_gathered e r v srm confirm g s =
    pick g.got.full (ends e e.peer end.HeadersTooLarge (with_gathered s g))
    (pick r.final
    (asks e e.peer (Getting g.got srm confirm v.wait) await.Get (request.Get g.got.kept) (with_gathered s g))
    (get_continues e g.got srm confirm v.wait (with_gathered s g)))

-- A packet of a Get's request, whose headers are gathered behind `g`. `srm` says that SRM is on, `confirm` that it is still to be granted.
unfoldable pub get_packet : Engine → Packet → Survey → Bool → Bool → Gathered → Stores → Done
get_packet e r v srm confirm g s = get_gathered e r v srm confirm (gathers e keep.Get r.headers g s) s

-- The host request of an Action, a Session or a user-defined operation (docs/PROTOCOL.md#headers-only).
abbrev pub headers_request : Opcode → ℕ → HostRequest
headers_request op.Action n = request.Action n
headers_request op.Session n = request.Session n
headers_request (op.UserDefined x) n = request.UserDefined x n
headers_request op.Connect n = request.UserDefined 0x00 n
headers_request op.Disconnect n = request.UserDefined 0x01 n
headers_request op.Put n = request.UserDefined 0x02 n
headers_request op.Get n = request.UserDefined 0x03 n
headers_request op.SetPath n = request.UserDefined 0x05 n
headers_request op.Abort n = request.UserDefined 0x7F n

-- A packet of an Action, a Session or a user-defined operation. Kept headers over 65,535 bytes end the engine first; the host gets the
-- headers with the final packet (docs/PROTOCOL.md#headers-only).
abbrev pub headers_gathered : Engine → Packet → Opcode → Gathering → Stores → Done
headers_gathered e r o g s =
    pick g.got.full (ends e e.peer end.HeadersTooLarge (with_gathered s g))
    (pick r.final (asks e e.peer Nothing await.Reply (headers_request o g.got.kept) (with_gathered s g))
    (continues e (GatheringOp o g.got) false (with_gathered s g)))

-- A packet of an operation of headers alone, with the opcode `o`. All its headers are gathered behind `g`.
unfoldable pub headers_packet : Engine → Packet → Opcode → Gathered → Stores → Done
headers_packet e r o g s = headers_gathered e r o (gathers e keep.All r.headers g s) s
