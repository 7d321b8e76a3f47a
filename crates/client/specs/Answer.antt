-- What a response leads to, decided without the stores and then carried out.
use Rattle.std.specs.Prelude.{ℕ, List, Bool, true, false, ◌&&◌, ◌||◌, not, eqb, Some, None}
use Rattle.base.specs.Pick.{pick}
use Rattle.packet.specs.Limits.{max_packet}
use Rattle.packet.specs.HeaderIds as header_id
use Rattle.packet.specs.ResponseCodes as response
use Rattle.packet.specs.Codes.{is_success}
use Rattle.packet.specs.Header.{Header, first, read_headers}
use Rattle.packet.specs.Packet.{connect_limit}
use Rattle.journal.specs.Journal.{is_enable, list_of}
use Rattle.incoming.specs.Gather.{gathering, gather_all}
use Rattle.incoming.specs.declared.gather.Gathered.{Gathered}
use Rattle.incoming.specs.declared.gather.Keep.TheVariants as keep
use Rattle.incoming.specs.declared.survey.Survey.{Survey}
use Rattle.outgoing.specs.declared.object.Outgoing.{Outgoing}
use Rattle.connection.specs.Peer.{at_least255, id_in, ConnectionId}
use Rattle.client_model.specs.declared.Kind.{Kind}
use Rattle.client_model.specs.declared.Kind.TheVariants as kind
use Rattle.client_model.specs.declared.Operation.{Operation}
use Rattle.client_model.specs.declared.Operation.TheVariants.{Nothing, Connecting, Disconnecting, Requesting, Receiving, Aborting}
use Rattle.client_model.specs.declared.Await.TheVariants as await
use Rattle.client_model.specs.declared.Client.{Client}
use Rattle.client_model.specs.declared.End.TheVariants as end
use Rattle.client_model.specs.declared.Outcome.{Outcome}
use Rattle.client_model.specs.declared.Outcome.TheVariants as outcome
use Rattle.client_model.specs.declared.CallResult.{CallResult}
use Rattle.client_model.specs.Step.{Stores, Stepped, stepped, after, client_with, goes}
use Rattle.client_model.specs.Request.{requests_next, sends_abort}
use Rattle.client_model.specs.Answer.{part_body, parts, disconnected}
use Rattle.client.specs.Step.{took_by}
use Rattle.client.specs.declared.answer.Heading.{Heading}
use Rattle.client.specs.declared.answer.Way.{Way}
use Rattle.client.specs.declared.answer.Way.TheVariants as way

-- The first ConnectionID that a survey found.
abbrev pub id_found : Survey → ConnectionId
id_found v = pick v.has_id (Some v.id) None

-- The heading of a response with the headers `hs`.
abbrev pub heading_of : ℕ → List ℕ → List Header → Heading
heading_of code p hs =
    record {
      id = id_in (first header_id.connection_id hs);
      limit = at_least255 (connect_limit p);
      code = code;
      enable = is_enable (first header_id.single_response_mode hs);
    }

-- The heading of the response `p`, whose headers start at `from`.
unfoldable pub heading_from : ℕ → List ℕ → ℕ → Heading
heading_from code p from = heading_of code p (list_of (read_headers p from))

-- ---- the object of a Get

-- The operation ends with a code.
abbrev pub ended_by : Client → ℕ → Outcome
ended_by c code = pick c.aborting (outcome.Aborted code c.length) (outcome.Done code c.length)

-- The operation is over.
abbrev pub over_way : Client → Outcome → Way
over_way c o = way.Tell (took_by (goes c Nothing await.Call false) o)

-- A Continue while an object comes.
unfoldable pub more_way : Client → Bool → Way
more_way c srm =
    pick c.aborting (pick srm (way.Tell (took_by (goes c (Receiving true false 0) await.Bytes true) outcome.WantsBytes)) way.Abort)
    (way.Part srm false)

-- A final code while an object comes.
unfoldable pub last_way : Client → Bool → ℕ → Way
last_way c srm code = pick (not (is_success code) || c.aborting) (over_way c (ended_by c code)) (way.Part srm true)

-- A response while an object comes.
unfoldable pub received_way : Client → Bool → ℕ → Way
received_way c srm code = pick (eqb code response.continue) (more_way c srm) (last_way c srm code)

-- ---- a request's packets

-- The response grants Single Response Mode (SRM).
abbrev pub grants_by : Client → Bool → Bool → Bool
grants_by c initial enable = c.settings.srm_wanted && (initial && enable)

-- A Continue to a packet that is not the last.
unfoldable pub continued_way : Kind → Client → Outgoing → Bool → Way
continued_way k c o srm = pick c.aborting way.Abort (way.Next k o srm)

-- A response to a packet of a Put.
unfoldable pub put_way : Client → Outgoing → Bool → Bool → ℕ → Way
put_way c o srm last code =
    pick last (over_way c (outcome.Done code c.length))
    (pick (eqb code response.continue) (continued_way kind.Put c o srm) (over_way c (outcome.Stopped code c.length)))

-- A response to a packet of a Get's request.
unfoldable pub get_way : Client → Outgoing → Bool → Bool → Bool → ℕ → Way
get_way c o srm granted last code =
    pick last (received_way c granted code) (pick (eqb code response.continue) (continued_way kind.Get c o granted) (last_way c srm code))

-- A response to a packet of a request.
abbrev pub request_way : Kind → Client → Outgoing → Bool → Bool → Bool → Heading → Way
request_way kind.Put c o srm initial last h = put_way c o (srm || grants_by c initial h.enable) last h.code
request_way kind.Get c o srm initial last h = get_way c o srm (srm || grants_by c initial h.enable) last h.code

-- ---- Connect, and any response

-- The state after a response to a Connect.
unfoldable pub connected_by : Client → Heading → Client
connected_by c h =
    pick (is_success h.code) (client_with c.settings h.limit h.id Nothing await.Call false 0 c.length) (goes c Nothing await.Call false)

-- A response by the operation that it answers.
abbrev pub way_of : Operation → Client → Heading → Way
way_of Connecting c h = way.Tell (took_by (connected_by c h) (outcome.Done h.code c.length))
way_of Disconnecting c h = way.Tell (took_by (disconnected c) (outcome.Done h.code c.length))
way_of (Requesting k o x srm initial last) c h = request_way k c o srm initial last h
way_of (Receiving srm last code) c h = received_way c srm h.code
way_of Aborting c h = over_way c (outcome.Aborted h.code c.length)
way_of Nothing c h = way.Tell (took_by (goes c Nothing await.Nothing false) (outcome.End end.Unreadable))

-- ---- carried out

-- Before a response is looked at.
abbrev pub nothing_gathered : Gathered
nothing_gathered = record { kept = 0; body = 0; came = false; over = false; full = false }

-- A part waits for the user.
abbrev pub part_took : Client → Bool → Bool → ℕ → Gathered → CallResult
part_took c srm last code g = took_by (goes c (Receiving srm last code) await.Taken false) (outcome.Part g.kept (part_body g))

-- The client goes the way of a response with the headers `hs`.
abbrev pub acts_way : Way → Client → ℕ → List Header → Stores → Stepped
acts_way (way.Tell r) c code hs s = stepped r s
acts_way way.Abort c code hs s = after 0 (sends_abort c s)
acts_way (way.Next k o srm) c code hs s = after 0 (requests_next c k srm false o s)
acts_way (way.Part srm last) c code hs s =
    after 0 (parts c srm last code (gather_all keep.Put max_packet hs (gathering nothing_gathered s.headers s.body)) s)
