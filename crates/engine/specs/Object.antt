-- The packets of an object, and what follows a reply that is taken: the design level between model/specs/Object and the code.
use Rattle.std.specs.Prelude.{ℕ, List, Bool, false, ◌&&◌, not}
use Rattle.base.specs.Pick.{pick}
use Rattle.outgoing.specs.Object.{Made}
use Rattle.outgoing.specs.declared.object.NextPacket.{NextPacket}
use Rattle.outgoing.specs.declared.object.Next.{Next}
use Rattle.outgoing.specs.declared.object.Next.TheVariants as next
use Rattle.model.specs.Step.{Stores, engine_with, Done, wants, ends}
use Rattle.engine.specs.Step.{plan, asks_plan, code_plan, Written, carried}
use Rattle.server.specs.declared.Operation.{Operation}
use Rattle.server.specs.declared.Operation.TheVariants.{Nothing, Trailing, Sending, Putting, Getting, Gathering as GatheringOp, Connecting, Draining}
use Rattle.server.specs.declared.Await.TheVariants as await
use Rattle.server.specs.declared.End.TheVariants as end
use Rattle.server.specs.declared.Engine.{Engine}
use Rattle.server.specs.declared.HostRequest.TheVariants as request
use Rattle.server.specs.declared.Outcome.TheVariants as outcome
use Rattle.engine.specs.declared.step.Plan.{Plan}
use Rattle.engine.specs.declared.step.ShortReply.TheVariants.{Silent}
use Rattle.outgoing.specs.declared.object.Outgoing.{Outgoing}
use Rattle.model.specs.Guard.{same_await}
use Rattle.model.specs.Object.{sends_next}
use Rattle.engine.specs.declared.object.Turn.{Turn}
use Rattle.engine.specs.declared.object.Turn.TheVariants.{Send, Wait, End}

-- The engine goes on sending after a packet of an object that is not its last.
abbrev pub sending_on : NextPacket → Bool → Bool → Bool → Operation
sending_on k last srm wait = pick last Nothing (Sending k.outgoing k.chunk srm wait)

-- The engine sends a packet of the object, asks for the body bytes that it needs, or replies with 0x50 if a header is too long for any
-- packet.
abbrev pub made_plan : Next → Engine → Bool → Bool → NextPacket → Plan
made_plan (next.Send n last) e srm wait k =
    plan (engine_with e.settings e.peer (sending_on k last srm wait) await.Taken 0 e.length e.target) (outcome.Reply n) Silent
made_plan next.Read e srm wait k =
    asks_plan e e.peer (sending_on k false srm wait) await.Body (request.Read k.chunk.room)
made_plan next.TooLarge e srm wait k = code_plan e e.peer await.Taken 0xD0

-- The engine decides by what comes next of the object.
unfoldable pub packet_plan : Engine → Bool → Bool → NextPacket → Plan
packet_plan e srm wait k = made_plan k.next e srm wait k

-- A plan with the bytes of the reply store before it is carried out.
pub record PlanMade : Type 0 where
  pub plan : Plan
  pub reply : List ℕ

-- Makes a `PlanMade`.
abbrev pub plan_made : Plan → List ℕ → PlanMade
plan_made p y = record { plan = p; reply = y }

-- The plan for the next packet of an object stands beside the bytes of that packet.
abbrev pub object_plan : Engine → Bool → Bool → Made → PlanMade
object_plan e srm wait m = plan_made (packet_plan e srm wait m.packet) m.reply

-- The engine carries the plan out after it has written the packet's bytes.
abbrev pub packet_sent : Engine → Bool → Bool → Made → Written
packet_sent e srm wait m = carried (packet_plan e srm wait m.packet) m.reply

-- Under Single Response Mode (SRM) and without a wait the next packet of an object follows at once.
abbrev pub follows_turn : Outgoing → Bool → Bool → Turn
follows_turn o srm wait = pick (srm && not wait) (Send o srm wait) Wait

-- After a reply that is not the last the operation goes on.
abbrev pub goes_turn : Operation → Turn
goes_turn (Sending o c srm wait) = follows_turn o srm wait
goes_turn Nothing = Wait
goes_turn Trailing = Wait
goes_turn (Putting g srm) = Wait
goes_turn (Getting g srm confirm wait) = Wait
goes_turn (GatheringOp o g) = Wait
goes_turn (Connecting c f n) = Wait
goes_turn (Draining code) = Wait

-- The engine goes on, or ends, once the host has sent the reply.
abbrev pub turn_of : Engine → Turn
turn_of e = pick (same_await e.awaits await.Taken) (goes_turn e.operation) End

-- The engine carries out what follows a reply that is taken.
abbrev pub turn_acts : Turn → Engine → Stores → Done
turn_acts (Send o srm wait) e s = sends_next e o srm wait s
turn_acts Wait e s = wants e e.peer e.operation s
turn_acts End e s = ends e e.peer end.OtherOperation s
