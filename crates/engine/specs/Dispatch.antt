-- Which way a packet goes, decided without the stores, and what acting on it does: the design level between model/specs/Dispatch and the
-- code.
use Rattle.std.specs.Prelude.{ℕ, List, Bool, true, false, is_none, ◌&&◌, not, get_or, Result, Ok, Err}
use Rattle.std.proofs.Math.Option.{Option, none, some}
use Rattle.base.specs.Pick.{pick}
use Rattle.packet.specs.HeaderIds as header_id
use Rattle.packet.specs.ResponseCodes as response
use Rattle.packet.specs.FirstByte.{first_byte, same_opcode}
use Rattle.packet.specs.Codes.{sent_code}
use Rattle.packet.specs.Header.{first_place}
use Rattle.packet.specs.Packet.{Request as Packet, request_of, backup, no_create_of}
use Rattle.packet.specs.declared.opcode.Opcode.{Opcode}
use Rattle.packet.specs.declared.opcode.Opcode.TheVariants as op
use Rattle.incoming.specs.Survey.{survey_of}
use Rattle.incoming.specs.declared.survey.Survey.{Survey}
use Rattle.table.specs.Targets.{unnamed}
use Rattle.table.specs.declared.targets.Target.{Target}
use Rattle.incoming.specs.declared.gather.Gathered.{Gathered}
use Rattle.outgoing.specs.declared.object.Outgoing.{Outgoing}
use Rattle.journal.specs.Journal.{headers_of as headersIn}
use Rattle.model.specs.Step.{Stores, Done, engine_with}
use Rattle.model.specs.Operation.{nothing_gathered, gathers}
use Rattle.model.specs.Object.{sends_next}
use Rattle.model.specs.Dispatch.{Rejection, admits, rejects, rejection, known_in, drains, confirms, trails, unknown_byte, busy, is_marked, target_for}
use Rattle.engine.specs.Step.{planned, wants_plan, asks_plan, ends_plan, code_plan, code_keeping_plan}
use Rattle.server.specs.declared.Operation.{Operation}
use Rattle.server.specs.declared.Operation.TheVariants.{Nothing, Trailing, Putting, Getting, Sending, Gathering as GatheringOp, Connecting, Draining}
use Rattle.server.specs.declared.Await.{Await}
use Rattle.server.specs.declared.Await.TheVariants as await
use Rattle.server.specs.declared.End.TheVariants as end
use Rattle.server.specs.declared.Engine.{Engine}
use Rattle.server.specs.declared.HostRequest.{HostRequest}
use Rattle.server.specs.declared.HostRequest.TheVariants as request
use Rattle.engine.specs.declared.step.Plan.{Plan}
use Rattle.engine.specs.declared.dispatch.Heading.{Heading}
use Rattle.engine.specs.declared.operation.GatherKind.{GatherKind}
use Rattle.engine.specs.declared.operation.GatherKind.TheVariants as kind
use Rattle.engine.specs.declared.dispatch.Simple.{Simple}
use Rattle.engine.specs.declared.dispatch.Simple.TheVariants as brief
use Rattle.engine.specs.declared.dispatch.Route.{Route}
use Rattle.engine.specs.declared.dispatch.Route.TheVariants.{Plain, Connect, Gather, Send}
use Rattle.engine.specs.declared.dispatch.Routed.{Routed}
use Rattle.engine.specs.Operation.{keep_of, acts_gathered}
use Rattle.engine.specs.Connect.{connect_plan}
use Rattle.server.specs.declared.Outcome.TheVariants as outcome
use Rattle.server.specs.declared.CallResult.{CallResult}

-- The parts of a request that decide its way; `known` says that it names an open ConnectionID, `trails` that it is refused with the Put that
-- it trails.
abbrev pub heading_of : Packet → Bool → Bool → Heading
heading_of r known trails =
    record {
      survey = survey_of (some r.headers);
      opcode = r.opcode;
      backup = backup r.bytes;
      no_create = no_create_of r.bytes;
      is_final = r.final;
      known = known;
      trails = trails;
    }

-- The engine asks the host.
abbrev pub ask_route : Await → HostRequest → Route
ask_route a r = Plain (brief.Ask a r)

-- The engine replies with a code alone.
abbrev pub code_route : ℕ → Route
code_route code = Plain (brief.Code await.Taken (sent_code code))

-- The engine replies with a code alone, and what is open stays.
abbrev pub keep_route : ℕ → Route
keep_route code = Plain (brief.Keep (sent_code code))

-- The engine turns a packet away if a password is required and not given. A Disconnect may not be refused.
abbrev pub unauthorized_for : Engine → Opcode → Bool
unauthorized_for e o = e.settings.authentication && (not e.peer.authenticated && not (same_opcode o op.Disconnect))

-- Whether the engine admits a packet, or the code with which it turns the packet away.
abbrev pub Admission : Type 0
Admission = Result (Unit {0}) ℕ

-- The model's rejection, as the code has it.
abbrev pub admission_of : Rejection → Admission
admission_of admits = Ok tt
admission_of (rejects code) = Err code

-- Under Single Response Mode (SRM) the engine reads a Put or Get that it turns away to its end before it replies.
abbrev pub drained_by : Engine → Heading → Bool
drained_by e h = e.peer.srm_enabled && (drains h.opcode && not h.is_final)

-- The engine turns a packet away with `code`, after a drain or at once.
abbrev pub rejected_route : Engine → Heading → ℕ → Route
rejected_route e h code = pick (drained_by e h) (Plain (brief.Drain code)) (code_route code)

-- What the packet asks for: an additional Continue for a Put under SRM, a wait for a Get's request.
abbrev pub asked_by : GatherKind → Heading → Bool
asked_by kind.Put h = h.survey.additional
asked_by kind.Get h = h.survey.wait
asked_by (kind.Headers o) h = false

-- The engine gathers a packet of an operation of this kind.
abbrev pub gather_route : Heading → GatherKind → Gathered → Bool → Bool → Route
gather_route h k g srm confirm =
    Gather (record { is_final = h.is_final; asked = asked_by k h; srm = srm; confirm_srm = confirm }) k g

-- The engine gathers a packet of a Put; under SRM the packet may ask for an additional Continue.
abbrev pub put_route : Heading → Gathered → Bool → Bool → Route
put_route h g srm confirm = gather_route h kind.Put g srm confirm

-- The engine gathers a packet of a Get's request; the packet may ask the engine to wait.
abbrev pub get_route : Heading → Gathered → Bool → Bool → Route
get_route h g srm confirm = gather_route h kind.Get g srm confirm

-- The engine sends the next packet of a Get's object.
abbrev pub send_route : Heading → Outgoing → Bool → Route
send_route h o srm = Send o srm h.survey.wait

-- The engine gathers a packet of an operation of headers alone, for which there is no SRM.
abbrev pub headers_route : Heading → Opcode → Gathered → Route
headers_route h o g = gather_route h (kind.Headers o) g false false

-- The engine dispatches an admitted packet by its opcode.
abbrev pub dispatch_route : Opcode → Engine → Heading → Route
dispatch_route op.Connect e h = Connect
dispatch_route op.Abort e h = ask_route await.Acknowledgement (request.Abort e.length)
dispatch_route op.Disconnect e h = ask_route await.Disconnect (request.Disconnect e.length)
dispatch_route op.SetPath e h = ask_route await.Reply (request.SetPath e.length h.backup h.no_create)
dispatch_route op.Put e h = put_route h nothing_gathered e.peer.srm_enabled (confirms e h.survey)
dispatch_route op.Get e h = get_route h nothing_gathered e.peer.srm_enabled (confirms e h.survey)
dispatch_route op.Action e h = headers_route h op.Action nothing_gathered
dispatch_route op.Session e h = headers_route h op.Session nothing_gathered
dispatch_route (op.UserDefined x) e h = headers_route h (op.UserDefined x) nothing_gathered

-- The engine admits a packet or turns it away.
abbrev pub admitted_route : Admission → Engine → Heading → Route
admitted_route (Ok x) e h = dispatch_route h.opcode e h
admitted_route (Err code) e h = rejected_route e h code

-- If nothing is open, the engine tests admission first, but never turns a Connect away.
unfoldable pub open_route : Engine → Heading → Route
open_route e h =
    pick (same_opcode h.opcode op.Connect) Connect (admitted_route (admission_of (rejection e h.opcode h.survey h.known)) e h)

-- Another opcode inside an operation gets 0x40, and the engine ends once the host has sent that reply.
abbrev pub interrupts_route : Route
interrupts_route = Plain (brief.Code await.Last (sent_code response.bad_request))

-- A packet of the open operation's opcode `o` goes on with it.
abbrev pub continued_route : Heading → Opcode → Route → Route
continued_route h o r = pick (same_opcode h.opcode o) r interrupts_route

-- The engine reads an operation that it has turned away up to its final packet.
abbrev pub draining_route : Heading → ℕ → Route
draining_route h code = pick h.is_final (code_route code) (Plain (brief.Drain code))

-- What trails a Put that was too long gets 0x4D, and a final packet is the last of it.
abbrev pub trailed_route : Bool → Route
trailed_route final = pick final (code_route response.requested_entity_too_large) (keep_route response.requested_entity_too_large)

-- The engine refuses what trails a Put that was too long.
abbrev pub is_trailing : Operation → Bool
is_trailing Trailing = true
is_trailing Nothing = false
is_trailing (Putting g srm) = false
is_trailing (Getting g srm confirm wait) = false
is_trailing (Sending o c srm wait) = false
is_trailing (GatheringOp o g) = false
is_trailing (Connecting c f n) = false
is_trailing (Draining code) = false

-- The engine refuses what trails a Put, and packet `q` of this opcode does: it is a Put packet, whose headers start at place 3, without a
-- Name.
abbrev pub trailed_by : Operation → Opcode → List ℕ → Bool
trailed_by o c q = is_trailing o && (same_opcode c op.Put && is_none (first_place header_id.name q 3))

-- The engine decides by the operation that is open. While it refuses what trails a Put, any other packet goes its way as with nothing open.
abbrev pub inside_route : Operation → Engine → Heading → Route
inside_route Nothing e h = open_route e h
inside_route Trailing e h = open_route e h
inside_route (Putting g srm) e h = continued_route h op.Put (put_route h g srm false)
inside_route (Getting g srm confirm wait) e h = continued_route h op.Get (get_route h g srm confirm)
inside_route (Sending o c srm wait) e h = continued_route h op.Get (send_route h o srm)
inside_route (GatheringOp o g) e h = continued_route h o (headers_route h o g)
inside_route (Connecting c f n) e h = interrupts_route
inside_route (Draining code) e h = draining_route h code

-- An Abort goes before all else, and what trails a Put before what is open.
unfoldable pub heading_route : Engine → Heading → Route
heading_route e h =
    pick (same_opcode h.opcode op.Abort) (ask_route await.Acknowledgement (request.Abort e.length))
    (pick h.trails (trailed_route h.is_final) (inside_route e.operation e h))

-- An unreadable packet ends the engine inside an operation. Otherwise it gets 0x51 if its first byte is `unknown`, else 0x40, and what is
-- open stays.
abbrev pub unreadable_route : Operation → Bool → Route
unreadable_route o unknown = pick (busy o) (Plain (brief.End end.Unreadable)) (keep_route (pick unknown response.not_implemented response.bad_request))

-- The engine decides by whether packet `q` reads as a request.
abbrev pub route_as : Option Packet → Engine → List ℕ → List ℕ → Route
route_as none e q t = unreadable_route e.operation (unknown_byte (first_byte (get_or q 0 0)))
route_as (some r) e q t = heading_route e (heading_of r (known_in e t (survey_of (some r.headers))) (is_trailing e.operation && trails r))

-- This is the way of a whole packet, if the open ids stand in the table store `t`.
unfoldable pub packet_route : Engine → List ℕ → List ℕ → Route
packet_route e q t = route_as (request_of q) e q t

-- A packet's way, and the Target under which it goes.
abbrev pub routed : Route → Target → Routed
routed r g = record { route = r; target = g }

-- The Target of a packet that can be read, by its opcode and its survey.
abbrev pub target_under : Engine → List ℕ → Opcode → Survey → Target
target_under e t o v = pick (is_marked o) unnamed (pick (busy e.operation) e.target (target_for e t v))

-- The state with the Target `g`.
abbrev pub targeted : Engine → Target → Engine
targeted e g = engine_with e.settings e.peer e.operation e.awaits e.begun e.length g

-- The engine takes a step that needs no more of the packet than its heading.
unfoldable pub simple_plan : Engine → Simple → Plan
simple_plan e (brief.Ask a r) = asks_plan e e.peer Nothing a r
simple_plan e (brief.Code a b) = code_plan e e.peer a b
simple_plan e (brief.Keep b) = code_keeping_plan e e.operation b
simple_plan e (brief.Drain code) = wants_plan e e.peer (Draining code)
simple_plan e (brief.End n) = ends_plan e e.peer n

-- The engine acts on a packet by its way.
abbrev pub acts : Route → Engine → List ℕ → Stores → Done
acts (Plain b) e q s = planned (simple_plan e b) s
acts Connect e q s = planned (connect_plan e q) s
acts (Gather f k g) e q s = acts_gathered e k f (gathers e (keep_of k) (headersIn (request_of q)) g s) s
acts (Send o srm wait) e q s = sends_next e o srm wait s

-- The result says that `t` of the offered bytes were taken.
abbrev pub with_taken : CallResult → ℕ → CallResult
with_taken r t = record { engine = r.engine; taken = t; outcome = r.outcome }

-- The engine wants more bytes of a packet of which `b` have come.
abbrev pub more_took : Engine → ℕ → ℕ → CallResult
more_took e b t =
    record {
      engine = engine_with e.settings e.peer e.operation e.awaits b e.length e.target;
      taken = t;
      outcome = outcome.WantsBytes;
    }
