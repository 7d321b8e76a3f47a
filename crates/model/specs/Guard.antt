-- Which calls are refused: a store that is too short, a wrong moment, an answer that no host may give.
use Rattle.std.specs.Prelude.{ℕ, ◌+◌, List, Bool, true, false, ◌&&◌, ◌||◌, not, length, ltb, leb, eqb}
use Rattle.std.proofs.Math.Option.{Option, none, some}
use Rattle.base.specs.Pick.{pick}
use Rattle.packet.specs.Limits.{max_packet, min_packet, max_capacity, max_connections, max_realm}
use Rattle.table.specs.Places.{max_nonces, table_length}
use Rattle.packet.specs.Codes.{is_code}
use Rattle.packet.specs.Canonical.{canonical}
use Rattle.journal.specs.Calls.{Credentials}
use Rattle.incoming.specs.declared.gather.Gathered.{Gathered}
use Rattle.outgoing.specs.declared.object.Outgoing.{Outgoing}
use Rattle.outgoing.specs.declared.object.Chunk.{Chunk}
use Rattle.server.specs.Numbers.{await_number}
use Rattle.server.specs.declared.Settings.{Settings}
use Rattle.server.specs.declared.Operation.{Operation}
use Rattle.server.specs.declared.Operation.TheVariants.{Nothing, Trailing, Putting, Getting, Sending, Gathering as GatheringOp, Connecting, Draining}
use Rattle.server.specs.declared.Await.{Await}
use Rattle.server.specs.declared.Await.TheVariants as await
use Rattle.server.specs.declared.CallKind.{CallKind}
use Rattle.server.specs.declared.CallKind.TheVariants as kind
use Rattle.server.specs.declared.Refusal.{Refusal}
use Rattle.server.specs.declared.Refusal.TheVariants as refusal
use Rattle.server.specs.declared.Engine.{Engine}
use Rattle.server.specs.declared.Outcome.TheVariants as outcome
use Rattle.model.specs.Step.{Stores, Done, limit_of, Stepped, stepped, Called, called, after}

-- Whether one of the four stores is too short.
unfoldable pub short : ℕ → Stores → Bool
short limit s =
    ltb (length s.packet) max_packet
    || (ltb (length s.headers) max_packet || (ltb (length s.reply) max_packet || ltb (length s.body) limit))

-- The kept headers and the body bytes lie in their stores.
abbrev pub sound_gathered : ℕ → Gathered → Bool
sound_gathered limit g = leb g.kept max_packet && leb g.body limit

-- The headers that are still to be sent lie in the header store, and the packet that is being made in the reply store.
abbrev pub sound_outgoing : Outgoing → Chunk → Bool
sound_outgoing o c =
    leb o.total max_packet
    && (leb o.sent o.total && (leb (c.at + c.got) max_capacity && leb (c.at + c.got + c.room) (max_capacity + 1)))

-- The counts of an operation lie in their stores.
abbrev pub sound_operation : ℕ → Operation → Bool
sound_operation limit Nothing = true
sound_operation limit Trailing = true
sound_operation limit (Putting g srm) = sound_gathered limit g
sound_operation limit (Getting g srm confirm wait) = sound_gathered limit g
sound_operation limit (Sending o c srm wait) = sound_outgoing o c
sound_operation limit (GatheringOp o g) = sound_gathered limit g
sound_operation limit (Connecting code f n) = leb n max_packet
sound_operation limit (Draining code) = true

-- Whether the counts of a state are ones that a call can leave. Any other state is refused as after the end, so that a call is defined for
-- every state.
unfoldable pub sound : Engine → Bool
sound e =
    ltb e.begun max_packet && (leb e.length max_packet && (leb e.peer.count max_connections
    && (leb min_packet e.peer.remote_max_packet_length
    && (leb e.peer.nonces max_nonces && sound_operation (limit_of e) e.operation))))

-- Whether the table store, which holds the open ids and the nonces taken last, is too short. Only the calls that look at it are lent it.
unfoldable pub short_tables : List ℕ → Bool
short_tables t = ltb (length t) table_length

-- Whether the realm of the server's challenges is over 254 bytes: its tag's value has 255 at most, and the charset is the first of them.
-- Without a realm in the settings the bytes that are lent do not count.
unfoldable pub long_realm : Settings → List ℕ → Bool
long_realm st l = st.has_realm && ltb max_realm (length l)

-- Two things awaited are the same.
abbrev pub same_await : Await → Await → Bool
same_await a b = eqb (await_number a) (await_number b)

-- The moments at which a call may come. A Get may be answered by a reply or by an object.
abbrev pub fits : CallKind → Await → Bool
fits kind.FromPeer a = same_await a await.Bytes
fits kind.ReplyTaken a = same_await a await.Taken || same_await a await.Last
fits kind.ReplyGiven a = same_await a await.Connect || (same_await a await.Disconnect || (same_await a await.Get || same_await a await.Reply))
fits kind.ObjectGiven a = same_await a await.Get
fits kind.AbortAcknowledged a = same_await a await.Acknowledgement
fits kind.PasswordGiven a = same_await a await.Password
fits kind.NonceGiven a = same_await a await.Nonce
fits kind.CredentialsGiven a = same_await a await.Credentials
fits kind.FromBody a = same_await a await.Body

-- A call that is refused changes nothing.
abbrev pub refuse : Refusal → Engine → Stores → Stepped
refuse r e s = stepped (record { engine = e; taken = 0; outcome = outcome.Refused r }) s

-- A call goes on if every store is long enough, the state is sound and the call is awaited. A short store comes before a wrong moment
-- (docs/PROTOCOL.md#refusals).
abbrev pub guarded : CallKind → Engine → Stores → Stepped → Stepped
guarded k e s go =
    pick (short (limit_of e) s) (refuse refusal.StoreTooShort e s)
    (pick (sound e && fits k e.awaits) go (refuse refusal.WrongMoment e s))

-- The same for a call that is lent the table store `t` too.
abbrev pub guarded_tables : CallKind → Engine → Stores → List ℕ → Stepped → Stepped
guarded_tables k e s t go =
    pick (short_tables t || short (limit_of e) s) (refuse refusal.StoreTooShort e s)
    (pick (sound e && fits k e.awaits) go (refuse refusal.WrongMoment e s))

-- The same for a call that may write it.
abbrev pub guarded_called : CallKind → Engine → Stores → List ℕ → Called → Called
guarded_called k e s t go =
    pick (short_tables t || short (limit_of e) s) (called (refuse refusal.StoreTooShort e s) t)
    (pick (sound e && fits k e.awaits) go (called (refuse refusal.WrongMoment e s) t))

-- Whether header bytes are none that a host may give: over 65,535, or not what the writer gives for what the reader reads.
unfoldable pub bad_headers : List ℕ → Bool
bad_headers hs = ltb max_packet (length hs) || not (canonical hs)

-- Whether a reply is none that a host may give, by its code or its headers.
unfoldable pub bad_reply : ℕ → List ℕ → Bool
bad_reply code hs = not (is_code code) || bad_headers hs

-- An answer that no host may give is refused.
abbrev pub checked : Bool → Engine → Stores → Done → Stepped
checked bad e s d = pick bad (refuse refusal.BadAnswer e s) (after 0 d)

-- Whether a user id is over 255 bytes, the most that its length field can say.
abbrev pub long_id : Option (List ℕ) → Bool
long_id none = false
long_id (some u) = ltb 255 (length u)

-- Whether the user id of credentials is too long.
abbrev pub long_user : Option Credentials → Bool
long_user none = false
long_user (some c) = long_id c.user
