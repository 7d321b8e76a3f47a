-- The packets of a request, and what follows them, decided without the stores.
use Rattle.std.specs.Prelude.{ℕ, List, Bool, false, ◌&&◌, not, set, Option, None, Some}
use Rattle.base.specs.Pick.{pick}
use Rattle.packet.specs.FirstByte.{byte_of}
use Rattle.outgoing.specs.declared.object.NextPacket.{NextPacket}
use Rattle.outgoing.specs.declared.object.Outgoing.{Outgoing}
use Rattle.outgoing.specs.declared.object.Next.{Next}
use Rattle.outgoing.specs.declared.object.Next.TheVariants as next
use Rattle.client_model.specs.declared.Kind.{Kind}
use Rattle.client_model.specs.declared.Operation.{Operation}
use Rattle.client_model.specs.declared.Operation.TheVariants.{Nothing, Connecting, Disconnecting, Requesting, Receiving, Aborting}
use Rattle.client_model.specs.declared.Await.TheVariants as await
use Rattle.client_model.specs.declared.Client.{Client}
use Rattle.client_model.specs.declared.End.TheVariants as end
use Rattle.client_model.specs.declared.Outcome.TheVariants as outcome
use Rattle.client_model.specs.declared.CallResult.{CallResult}
use Rattle.client_model.specs.Step.{goes}
use Rattle.client_model.specs.Request.{opcode_of}
use Rattle.client.specs.Step.{took_by}
use Rattle.client.specs.declared.request.Turn.{Turn}

-- What follows a packet that was made or begun.
abbrev pub requested_by : Next → Client → Kind → Bool → Bool → NextPacket → CallResult
requested_by (next.Send n last) c k srm first m =
    took_by (goes c (Requesting k m.outgoing m.chunk srm first last) await.Sent false) (outcome.Send n)
requested_by next.Read c k srm first m =
    took_by (goes c (Requesting k m.outgoing m.chunk srm first false) await.Body false) (outcome.Read m.chunk.room)
requested_by next.TooLarge c k srm first m = took_by (goes c Nothing await.Nothing false) (outcome.End end.HeadersChanged)

-- A packet that is whole gets its first byte.
abbrev pub first_put : Next → Kind → List ℕ → List ℕ
first_put (next.Send n last) k y = set y 0 (byte_of (opcode_of k) last)
first_put next.Read k y = y
first_put next.TooLarge k y = y

-- The next packet of a request follows.
abbrev pub goes_next : Kind → Outgoing → Bool → Bool → Option Turn
goes_next k o srm first = Some (record { kind = k; outgoing = o; srm = srm; first = first })

-- What follows a packet that was sent, by the operation that is open.
abbrev pub turn_of : Operation → Option Turn
turn_of (Requesting k o h srm first last) = pick (srm && not last) (goes_next k o srm first) None
turn_of Nothing = None
turn_of Connecting = None
turn_of Disconnecting = None
turn_of (Receiving srm last code) = None
turn_of Aborting = None
