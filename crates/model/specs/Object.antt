-- The object of a Get, sent packet by packet (the source's response phase of handle_get).
use Rattle.std.specs.Prelude.{ℕ, Bool, true, false, ◌&&◌, not}
use Rattle.packet.specs.ResponseCodes as response
use Rattle.base.specs.Pick.{pick}
use Rattle.outgoing.specs.Object.{Made, next_packet}
use Rattle.outgoing.specs.declared.object.Outgoing.{Outgoing}
use Rattle.outgoing.specs.declared.object.Next.{Next}
use Rattle.outgoing.specs.declared.object.Next.TheVariants as next
use Rattle.server.specs.declared.Operation.{Operation}
use Rattle.server.specs.declared.Operation.TheVariants.{Nothing, Trailing, Putting, Getting, Sending, Gathering as GatheringOp, Connecting, Draining}
use Rattle.server.specs.declared.Await.TheVariants as await
use Rattle.server.specs.declared.Engine.{Engine}
use Rattle.server.specs.declared.HostRequest.TheVariants as request
use Rattle.server.specs.declared.Outcome.TheVariants as outcome
use Rattle.model.specs.Step.{Stores, with_reply, engine_with, Done, done, wants, asks, replies_code, capacity_of}

-- A packet of the object, or the body read that it needs first. A header that is longer than any packet makes the reply 0x50 and ends the
-- Get (docs/PROTOCOL.md#objects).
abbrev pub sends_made : Engine → Bool → Bool → Next → Made → Stores → Done
sends_made e srm wait (next.Send n true) m s =
    done (engine_with e.settings e.peer Nothing await.Taken 0 e.length e.target) (outcome.Reply n) (with_reply s m.reply)
sends_made e srm wait (next.Send n false) m s =
    done
    (engine_with e.settings e.peer (Sending m.packet.outgoing m.packet.chunk srm wait) await.Taken 0 e.length e.target)
    (outcome.Reply n)
    (with_reply s m.reply)
sends_made e srm wait next.Read m s =
    asks e e.peer (Sending m.packet.outgoing m.packet.chunk srm wait) await.Body (request.Read m.packet.chunk.room)
    (with_reply s m.reply)
sends_made e srm wait next.TooLarge m s = replies_code e e.peer Nothing response.internal_server_error (with_reply s m.reply)

-- What follows `m`, which was made of the object and says what comes next.
abbrev pub sends_packet : Engine → Bool → Bool → Made → Stores → Done
sends_packet e srm wait m s = sends_made e srm wait m.packet.next m s

-- The next packet of an object.
unfoldable pub sends_next : Engine → Outgoing → Bool → Bool → Stores → Done
sends_next e o srm wait s = sends_packet e srm wait (next_packet (capacity_of e) o s.headers s.reply) s

-- What follows a reply that is taken. Under Single Response Mode (SRM) the next packet of an object follows at once, unless the last
-- request asked to wait.
abbrev pub goes_on_of : Operation → Engine → Stores → Done
goes_on_of (Sending o c srm wait) e s = pick (srm && not wait) (sends_next e o srm wait s) (wants e e.peer e.operation s)
goes_on_of Nothing e s = wants e e.peer e.operation s
goes_on_of Trailing e s = wants e e.peer e.operation s
goes_on_of (Putting g srm) e s = wants e e.peer e.operation s
goes_on_of (Getting g srm confirm wait) e s = wants e e.peer e.operation s
goes_on_of (GatheringOp o g) e s = wants e e.peer e.operation s
goes_on_of (Connecting code f n) e s = wants e e.peer e.operation s
goes_on_of (Draining code) e s = wants e e.peer e.operation s

-- An object of `n` header bytes before its first packet. `lead` puts the grant of SRM in front of them.
abbrev pub object_of : ℕ → Bool → Bool → Outgoing
object_of n lead has = record { total = n; sent = 0; lead = lead; has_body = has; has_pending = false; pending = 0 }
