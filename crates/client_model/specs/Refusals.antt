-- What a user sees of a call on the client, and what follows from that alone: which calls are due to be refused, and with which number
-- (docs/PROTOCOL.md#client). A call is due to be refused by the lengths of the stores that it is lent (10), by what waits since the last call
-- that was not refused (9), by the user's headers (8), and by the server's limit and ConnectionID as the responses told them (24). The client's
-- state is in the type of nothing here.
use Rattle.std.specs.Prelude.{ℕ, ◌-◌, ◌≡◌, List, [], ◌∷◌, ◌++◌, map, Bool, true, false, ◌&&◌, ◌||◌, not, length, get_or, take, eqb, ltb, leb, None}
use Rattle.std.proofs.Math.Option.{Option, none, some}
use Rattle.base.specs.Pick.{pick}
use Rattle.text.specs.Unicode.{Octets}
use Rattle.packet.specs.Limits.{min_packet}
use Rattle.packet.specs.HeaderIds as header_id
use Rattle.packet.specs.ResponseCodes as response
use Rattle.packet.specs.Codes.{is_success}
use Rattle.packet.specs.FirstByte.{byte_of}
use Rattle.packet.specs.Header.{first}
use Rattle.packet.specs.Packet.{connect_limit}
use Rattle.packet.specs.ResponsePacket.{ResponsePacket, code_in, response_packet}
use Rattle.packet.specs.declared.opcode.Opcode.TheVariants as op
use Rattle.journal.specs.Calls.{Verdict, goes, refused}
use Rattle.connection.specs.Peer.{at_least255, id_in, ConnectionId}
use Rattle.client_model.specs.declared.Settings.{Settings}
use Rattle.client_model.specs.declared.Client.{Client}
use Rattle.client_model.specs.declared.Refusal.TheVariants as refusal
use Rattle.client_model.specs.declared.Outcome.{Outcome}
use Rattle.client_model.specs.declared.Outcome.TheVariants as outcome
use Rattle.client_model.specs.Numbers.{refusal_number}
use Rattle.client_model.specs.Step.{Stores, Stepped}
use Rattle.client_model.specs.Request.{id_bytes}
use Rattle.client_model.specs.Guard.{short, bad_headers, too_long_of, max_connect_headers}
use Rattle.client_model.specs.Calls.{connect_step, disconnect_step, put_step, get_step, request_sent_step, body_given_step, part_taken_step, abort_step, bytes_offered_step, stream_ended_step, started}

-- ---- calls

-- A call on the client, by its arguments other than state and stores.
pub data ClientCall : Type 0 where
  connect disconnect get body_given_of bytes_offered_of : List ℕ → ClientCall
  put : List ℕ → Bool → ClientCall
  requestSent partTaken abort stream_ended_of : ClientCall

-- A call is the model's step.
abbrev pub client_step : Client → Stores → ClientCall → Stepped
client_step c s (connect hs) = connect_step c hs s
client_step c s (disconnect hs) = disconnect_step c hs s
client_step c s (put hs has) = put_step c hs has s
client_step c s (get hs) = get_step c hs s
client_step c s requestSent = request_sent_step c s
client_step c s (body_given_of d) = body_given_step c d s
client_step c s partTaken = part_taken_step c s
client_step c s abort = abort_step c s
client_step c s (bytes_offered_of i) = bytes_offered_step c i s
client_step c s stream_ended_of = stream_ended_step c s

-- What a user sees of a call: the call, whether a store that it lent was too short, what the call answered, and the response and request
-- stores afterwards.
pub record Seen : Type 0 where
  pub call : ClientCall
  pub short : Bool
  pub outcome : Outcome
  pub packet : List ℕ
  pub request : List ℕ

-- The verdict that an outcome tells.
abbrev pub verdict_of : Outcome → Verdict
verdict_of (outcome.Refused r) = refused (refusal_number r)
verdict_of outcome.Ready = goes
verdict_of (outcome.Send n) = goes
verdict_of outcome.WantsBytes = goes
verdict_of (outcome.Read n) = goes
verdict_of (outcome.Part k b) = goes
verdict_of (outcome.Done c n) = goes
verdict_of (outcome.Stopped c n) = goes
verdict_of (outcome.Aborted c n) = goes
verdict_of (outcome.End x) = goes

-- ---- what is known from the calls and their results alone

-- What the user must do next: call an operation, send the packet that waits, offer bytes, give body bytes, take a part, or nothing, since the
-- client has ended.
pub data Waits : Type 0 where
  operation sending answer part nothing : Waits
  -- body bytes, at most so many
  reading : ℕ → Waits

-- The operation that is open.
pub data Open : Type 0 where
  closed connecting disconnecting putting getting aborting : Open

-- What is known: what waits, the operation, whether the user has aborted it, whether its final packet was made (of a Put) or its last part has
-- come (of a Get), and the server's limit and ConnectionID.
pub record Known : Type 0 where
  pub waits : Waits
  pub opened : Open
  pub aborted : Bool
  pub last : Bool
  pub limit : ℕ
  pub id : ConnectionId

abbrev pub known : Waits → Open → Bool → Bool → ℕ → ConnectionId → Known
known w o a l n i = record { waits = w; opened = o; aborted = a; last = l; limit = n; id = i }

-- At an accepted start.
abbrev pub at_start : Known
at_start = known operation closed false false min_packet None

-- The operation that a call opens, or the one that was open.
abbrev pub opens : ClientCall → Open → Open
opens (connect hs) o = connecting
opens (disconnect hs) o = disconnecting
opens (put hs has) o = putting
opens (get hs) o = getting
opens requestSent o = o
opens (body_given_of d) o = o
opens partTaken o = o
opens abort o = o
opens (bytes_offered_of i) o = o
opens stream_ended_of o = o

-- The call is an Abort.
abbrev pub is_abort : ClientCall → Bool
is_abort abort = true
is_abort (connect hs) = false
is_abort (disconnect hs) = false
is_abort (put hs has) = false
is_abort (get hs) = false
is_abort requestSent = false
is_abort (body_given_of d) = false
is_abort partTaken = false
is_abort (bytes_offered_of i) = false
is_abort stream_ended_of = false

-- The operation once a packet with this first byte waits: an Abort takes its place.
abbrev pub sent_as : ℕ → Open → Open
sent_as b o = pick (eqb b (byte_of op.Abort true)) aborting o

-- What a response to a Connect tells: on success the limit, at least 255, and the id.
abbrev pub told : Option ResponsePacket → Known → Known
told none k = k
told (some r) k =
    pick (is_success r.code)
    (known operation closed false false (at_least255 (connect_limit r.bytes)) (id_in (first header_id.connection_id r.headers))) k

-- What is known once an operation is over, by the response.
abbrev pub over_as : Open → List ℕ → Known → Known
over_as connecting p k = told (response_packet true p) k
over_as disconnecting p k = known operation closed false false min_packet None
over_as closed p k = k
over_as putting p k = k
over_as getting p k = k
over_as aborting p k = k

-- The operation is over.
abbrev pub after : Known → Known
after k = known operation closed false false k.limit k.id

-- What is known after a call, by what it returned and by the two stores. A part is the last unless its response is a Continue, whose code is
-- read without the Final bit, as the reader has it.
abbrev pub learns_by : Outcome → Known → ClientCall → List ℕ → List ℕ → Known
learns_by (outcome.Refused r) k c p q = k
learns_by outcome.Ready k c p q = at_start
learns_by (outcome.Send n) k c p q =
    known sending (sent_as (get_or q 0 0) (opens c k.opened)) false (eqb (get_or q 0 0) (byte_of op.Put true)) k.limit k.id
learns_by outcome.WantsBytes k c p q = known answer k.opened (k.aborted || is_abort c) k.last k.limit k.id
learns_by (outcome.Read n) k c p q = known (reading n) (opens c k.opened) false false k.limit k.id
learns_by (outcome.Part n b) k c p q = known part k.opened false (not (eqb (code_in p) response.continue)) k.limit k.id
learns_by (outcome.Done code n) k c p q = over_as k.opened (take n p) (after k)
learns_by (outcome.Stopped code n) k c p q = after k
learns_by (outcome.Aborted code n) k c p q = after k
learns_by (outcome.End x) k c p q = known nothing closed false false k.limit k.id

abbrev pub learns : Known → Seen → Known
learns k x = learns_by x.outcome k x.call x.packet x.request

-- ---- the verdict

-- A number for each kind of wait, by which two of them are told apart.
abbrev pub wait_number : Waits → ℕ
wait_number operation = 0
wait_number sending = 1
wait_number answer = 2
wait_number (reading n) = 3
wait_number part = 4
wait_number nothing = 5

abbrev pub same_wait : Waits → Waits → Bool
same_wait w v = eqb (wait_number w) (wait_number v)

-- How many body bytes may come.
abbrev pub room_in : Waits → ℕ
room_in operation = 0
room_in sending = 0
room_in answer = 0
room_in (reading n) = n
room_in part = 0
room_in nothing = 0

-- Whether the operation may be aborted: a Put up to its final packet, a Get up to its last part.
abbrev pub may_abort : Open → Waits → Bool → Bool
may_abort putting w last = same_wait w sending || (same_wait w (reading 0) || (same_wait w answer && not last))
may_abort getting w last = same_wait w sending || (same_wait w answer || (same_wait w part && not last))
may_abort closed w last = false
may_abort connecting w last = false
may_abort disconnecting w last = false
may_abort aborting w last = false

-- Whether a call is one that is waited for.
unfoldable pub expected : Known → ClientCall → Bool
expected k (connect hs) = same_wait k.waits operation
expected k (disconnect hs) = same_wait k.waits operation
expected k (put hs has) = same_wait k.waits operation
expected k (get hs) = same_wait k.waits operation
expected k requestSent = same_wait k.waits sending
expected k (body_given_of d) = same_wait k.waits (reading 0) && leb (length d) (room_in k.waits)
expected k partTaken = same_wait k.waits part
expected k abort = not k.aborted && may_abort k.opened k.waits k.last
expected k (bytes_offered_of i) = same_wait k.waits answer
expected k stream_ended_of = same_wait k.waits answer || same_wait k.waits operation

-- The verdict on a user's headers: those that may not be given before those that are too long.
abbrev pub headers_verdict : Bool → Bool → Verdict
headers_verdict bad long =
    pick bad (refused (refusal_number refusal.BadHeaders)) (pick long (refused (refusal_number refusal.HeaderTooLong)) goes)

-- The verdict on a call that is waited for.
abbrev pub judged : Known → ClientCall → Verdict
judged k (connect hs) = headers_verdict (bad_headers hs) (ltb max_connect_headers (length hs))
judged k (disconnect hs) = headers_verdict (bad_headers hs) (ltb max_connect_headers (length (id_bytes k.id ++ hs)))
judged k (put hs has) = headers_verdict (bad_headers hs) (too_long_of (k.limit - 3) hs)
judged k (get hs) = headers_verdict (bad_headers hs) (too_long_of (k.limit - 3) hs)
judged k requestSent = goes
judged k (body_given_of d) = goes
judged k partTaken = goes
judged k abort = goes
judged k (bytes_offered_of i) = goes
judged k stream_ended_of = goes

-- The verdict that is due on a call: 10 comes before 9, 9 before 8, and 8 before 24.
unfoldable pub verdict : Known → Seen → Verdict
verdict k x =
    pick x.short (refused (refusal_number refusal.StoreTooShort))
    (pick (expected k x.call) (judged k x.call) (refused (refusal_number refusal.WrongMoment)))

-- The verdicts that are due along a list of calls.
abbrev pub due_from : Known → List Seen → List Verdict
due_from k [] = []
due_from k (x ∷ xs) = verdict k x ∷ due_from (learns k x) xs

-- ---- the claim

-- What a user sees of some calls, each with the state and the stores that the call before left.
abbrev pub seen : Client → Stores → List ClientCall → List Seen
seen c s [] = []
seen c s (x ∷ xs) =
    let m = client_step c s x in
    record { call = x; short = short s; outcome = m.took.outcome; packet = m.stores.packet; request = m.stores.request }
    ∷ seen m.took.client m.stores xs

-- The bytes that a call offers are bytes.
abbrev pub OffersOctets : ClientCall → Type 0
OffersOctets (bytes_offered_of i) = Octets i
OffersOctets (connect hs) = Unit {0}
OffersOctets (disconnect hs) = Unit {0}
OffersOctets (put hs has) = Unit {0}
OffersOctets (get hs) = Unit {0}
OffersOctets requestSent = Unit {0}
OffersOctets (body_given_of d) = Unit {0}
OffersOctets partTaken = Unit {0}
OffersOctets abort = Unit {0}
OffersOctets stream_ended_of = Unit {0}

abbrev pub AllOfferOctets : List ClientCall → Type 0
AllOfferOctets [] = Unit {0}
AllOfferOctets (x ∷ xs) = OffersOctets x × AllOfferOctets xs

-- A call is refused exactly if it is due to be, with the number that is due, from every accepted start.
abbrev pub ClientRefusals : Type 0
ClientRefusals =
    (st : Settings) (s : Stores) (xs : List ClientCall) → short s ≡ false → AllOfferOctets xs
    → map (λ (x : Seen). verdict_of x.outcome) (seen (started st) s xs) ≡ due_from at_start (seen (started st) s xs)

-- A refused call changes nothing.
abbrev pub Unmoved : Type 0
Unmoved =
    (c : Client) (s : Stores) (x : ClientCall) (n : ℕ) → verdict_of (client_step c s x).took.outcome ≡ refused n
    → ((client_step c s x).took.client ≡ c) × ((client_step c s x).stores ≡ s) × ((client_step c s x).took.taken ≡ 0)
