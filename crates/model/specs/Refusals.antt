-- What a host sees of a call, and what follows from that alone: which calls are due to be refused, and with which number
-- (docs/PROTOCOL.md#refusals), and what the journal is fed (docs/PROTOCOL.md#journal). A call is due to be refused by the lengths of the
-- stores that it is lent (10), by what waits since the last call that was not refused (9), by the answer itself and, if that brings a realm,
-- by the settings (8), if it gives a nonce, by the last 32 nonces of such calls that were not refused (15), and, if it closes connections, by
-- the operation and the ids that the journal has open (9, 19 to 21). Neither the engine's state nor a store is in the type of anything here.
-- The stores of a run keep their lengths, so 10 never occurs in one: that it is given rightly is said by the contract of each call.
-- What this file shares with the model, and so cannot tell wrong, are the tests of an answer: `bad_reply`, `bad_headers`, `long_user`,
-- `long_realm`, `among`, `all_open` and `repeats` (docs/CLAIM.md, "What must be believed").
use Rattle.std.specs.Prelude.{ℕ, List, [], ◌∷◌, Bool, true, false, ◌&&◌, ◌||◌, not, length, take, eqb, leb}
use Rattle.std.proofs.Math.Option.{Option, none, some}
use Rattle.base.specs.Pick.{pick}
use Rattle.digest.specs.declared.md5.Octets16.{Octets16}
use Rattle.packet.specs.Limits.{max_connections}
use Rattle.table.specs.Places.{max_nonces}
use Rattle.table.specs.Nonces.{among}
use Rattle.journal.specs.Calls.{Call, bytes_offered_of, stream_ended_of, reply_taken_of, reply_given_of, object_given_of, body_given_of, body_failed_of, abort_acknowledged_of, password_given_of, nonce_given_of, credentials_given_of, connections_closed_of, Verdict, goes, refused, Fed, no_step, step_by_of, reply_sent}
use Rattle.journal.specs.Ids.{all_open, repeats}
use Rattle.journal.specs.Journal.{Journal, busy, journal_step}
use Rattle.model.specs.Guard.{bad_reply, bad_headers, long_user, long_realm}
use Rattle.server.specs.Numbers.{refusal_number, end_number}
use Rattle.server.specs.declared.Settings.{Settings}
use Rattle.server.specs.declared.HostRequest.{HostRequest}
use Rattle.server.specs.declared.HostRequest.TheVariants as request
use Rattle.server.specs.declared.Outcome.{Outcome}
use Rattle.server.specs.declared.Outcome.TheVariants as outcome

-- ---- what a host sees

-- What a host sees of a call: the call by its arguments, whether a store that it lent was too short, how many bytes the call reports as
-- taken, what it answers, and the first byte of the reply store at the call, which is that of the reply if the call is `reply_taken_of`.
pub record Seen : Type 0 where
  pub call : Call
  pub short : Bool
  pub taken : ℕ
  pub outcome : Outcome
  pub reply : ℕ

-- The verdict that an outcome tells.
abbrev pub verdict_of : Outcome → Verdict
verdict_of (outcome.Refused r) = refused (refusal_number r)
verdict_of outcome.WantsBytes = goes
verdict_of (outcome.Reply n) = goes
verdict_of (outcome.Request r) = goes
verdict_of (outcome.End n) = goes

-- The number with which the engine ends, if it does.
abbrev pub end_of : Outcome → Option ℕ
end_of (outcome.End n) = some (end_number n)
end_of outcome.WantsBytes = none
end_of (outcome.Reply n) = none
end_of (outcome.Request r) = none
end_of (outcome.Refused r) = none

-- ---- what waits

-- What the host must do next: offer bytes, send the reply that waits, answer what was asked, or nothing, since the engine has ended.
pub data Waits : Type 0 where
  bytes taking reply object acknowledgement password nonce credentials nothing : Waits
  -- body bytes, at most so many
  reading : ℕ → Waits

-- What waits after a request.
abbrev pub asked : HostRequest → Waits
asked (request.Connect n) = reply
asked (request.Disconnect n) = reply
asked (request.SetPath n u c) = reply
asked (request.Put k b) = reply
asked (request.Action k) = reply
asked (request.Session k) = reply
asked (request.UserDefined o k) = reply
asked (request.Get k) = object
asked (request.Abort n) = acknowledgement
asked (request.Password u) = password
asked request.Nonce = nonce
asked (request.Credentials n u r p) = credentials
asked (request.Read n) = reading n

-- What waits after a result.
abbrev pub told : Waits → Outcome → Waits
told w outcome.WantsBytes = bytes
told w (outcome.Reply n) = taking
told w (outcome.Request r) = asked r
told w (outcome.End n) = nothing
told w (outcome.Refused n) = w

-- A number for each kind of wait, by which two of them are told apart.
abbrev pub wait_number : Waits → ℕ
wait_number bytes = 0
wait_number taking = 1
wait_number reply = 2
wait_number object = 3
wait_number acknowledgement = 4
wait_number password = 5
wait_number nonce = 6
wait_number credentials = 7
wait_number (reading n) = 8
wait_number nothing = 9

-- Two waits are of one kind.
abbrev pub same_wait : Waits → Waits → Bool
same_wait w v = eqb (wait_number w) (wait_number v)

-- How many body bytes may come.
abbrev pub room_in : Waits → ℕ
room_in bytes = 0
room_in taking = 0
room_in reply = 0
room_in object = 0
room_in acknowledgement = 0
room_in password = 0
room_in nonce = 0
room_in credentials = 0
room_in (reading n) = n
room_in nothing = 0

-- Whether a call is one that is waited for. A Get may be answered by a reply or by an object, and a read by no more bytes than were asked
-- for.
unfoldable pub expected : Call → Waits → Bool
expected (bytes_offered_of i) w = same_wait w bytes
expected stream_ended_of w = same_wait w bytes
expected reply_taken_of w = same_wait w taking
expected (reply_given_of code hs) w = same_wait w reply || same_wait w object
expected (object_given_of hs b) w = same_wait w object
expected abort_acknowledged_of w = same_wait w acknowledgement
expected (password_given_of p) w = same_wait w password
expected (nonce_given_of n l) w = same_wait w nonce
expected (credentials_given_of c) w = same_wait w credentials
expected (body_given_of d) w = same_wait w (reading 0) && leb (length d) (room_in w)
expected body_failed_of w = same_wait w (reading 0)
expected (connections_closed_of l) w = same_wait w bytes

-- Whether an answer is none that the host that set `st` may give.
unfoldable pub bad : Settings → Call → Bool
bad st (reply_given_of code hs) = bad_reply code hs
bad st (object_given_of hs b) = bad_headers hs
bad st (credentials_given_of c) = long_user c
bad st (nonce_given_of n l) = long_realm st l
bad st (bytes_offered_of i) = false
bad st stream_ended_of = false
bad st reply_taken_of = false
bad st (body_given_of d) = false
bad st body_failed_of = false
bad st abort_acknowledged_of = false
bad st (password_given_of p) = false
bad st (connections_closed_of l) = false

-- ---- what is known from the calls and their results alone

-- What the host set, what waits, and the nonces of the answers that were not refused, the latest first.
pub record Known : Type 0 where
  pub settings : Settings
  pub waits : Waits
  pub nonces : List Octets16

-- At an accepted start bytes are awaited, and no nonce was given.
abbrev pub at_start : Settings → Known
at_start st = record { settings = st; waits = bytes; nonces = [] }

-- The nonces after a call with this verdict.
abbrev pub noted : Call → Verdict → List Octets16 → List Octets16
noted (nonce_given_of n l) goes ns = n ∷ ns
noted (nonce_given_of n l) (refused m) ns = ns
noted (bytes_offered_of i) v ns = ns
noted stream_ended_of v ns = ns
noted reply_taken_of v ns = ns
noted (reply_given_of code hs) v ns = ns
noted (object_given_of hs b) v ns = ns
noted (body_given_of d) v ns = ns
noted body_failed_of v ns = ns
noted abort_acknowledged_of v ns = ns
noted (password_given_of p) v ns = ns
noted (credentials_given_of c) v ns = ns
noted (connections_closed_of l) v ns = ns

-- What is known after a call, by what it returned.
abbrev pub learns : Known → Call → Outcome → Known
learns k c o = record { settings = k.settings; waits = told k.waits o; nonces = noted c (verdict_of o) k.nonces }

-- Whether a call gives a nonce that is one of the last 32 of `ns`; an older one may return (docs/PROTOCOL.md#nonces).
unfoldable pub used : Call → List Octets16 → Bool
used (nonce_given_of n l) ns = among n (take max_nonces ns)
used (bytes_offered_of i) ns = false
used stream_ended_of ns = false
used reply_taken_of ns = false
used (reply_given_of code hs) ns = false
used (object_given_of hs b) ns = false
used (body_given_of d) ns = false
used body_failed_of ns = false
used abort_acknowledged_of ns = false
used (password_given_of p) ns = false
used (credentials_given_of c) ns = false
used (connections_closed_of l) ns = false

-- ---- connections that are closed together, by what the journal has open

-- Whether what is open allows a call: connections may not be closed inside an operation.
abbrev pub allowed : Call → Journal → Bool
allowed (connections_closed_of l) j = not (busy j.opened)
allowed (bytes_offered_of i) j = true
allowed stream_ended_of j = true
allowed reply_taken_of j = true
allowed (reply_given_of code hs) j = true
allowed (object_given_of hs b) j = true
allowed (body_given_of d) j = true
allowed body_failed_of j = true
allowed abort_acknowledged_of j = true
allowed (password_given_of p) j = true
allowed (nonce_given_of n l) j = true
allowed (credentials_given_of c) j = true

-- The verdict on ids that are to be closed, by those that are open: 19 comes before 20, and 20 before 21.
abbrev pub judged_ids : List ℕ → List ℕ → Verdict
judged_ids l ids =
    pick (leb (length l) max_connections) (pick (all_open l ids) (pick (repeats l) (refused 21) goes) (refused 20)) (refused 19)

-- The verdict on a call by the ids that it closes.
abbrev pub closing : Call → Journal → Verdict
closing (connections_closed_of l) j = judged_ids l j.standing.ids
closing (bytes_offered_of i) j = goes
closing stream_ended_of j = goes
closing reply_taken_of j = goes
closing (reply_given_of code hs) j = goes
closing (object_given_of hs b) j = goes
closing (body_given_of d) j = goes
closing body_failed_of j = goes
closing abort_acknowledged_of j = goes
closing (password_given_of p) j = goes
closing (nonce_given_of n l) j = goes
closing (credentials_given_of c) j = goes

-- ---- the verdict

-- The verdict on a call that is waited for, by the settings and the answer itself, by the nonces before it, and by the ids that are open.
abbrev pub judged : Call → Known → Journal → Verdict
judged c k j = pick (bad k.settings c) (refused 8) (pick (used c k.nonces) (refused 15) (closing c j))

-- The verdict on a call: 10 comes before 9, and 9 before 8, 15 and 19 to 21.
unfoldable pub verdict : Bool → Known → Journal → Call → Verdict
verdict s k j c = pick s (refused 10) (pick (allowed c j && expected c k.waits) (judged c k j) (refused 9))

-- What the journal is fed of a call that goes: the first byte of the reply goes with a reply taken, and with no other call.
abbrev pub fed_call : Call → ℕ → Fed
fed_call reply_taken_of b = reply_sent b
fed_call (bytes_offered_of i) b = step_by_of (bytes_offered_of i)
fed_call stream_ended_of b = step_by_of stream_ended_of
fed_call (reply_given_of code hs) b = step_by_of (reply_given_of code hs)
fed_call (object_given_of hs has) b = step_by_of (object_given_of hs has)
fed_call (body_given_of d) b = step_by_of (body_given_of d)
fed_call body_failed_of b = step_by_of body_failed_of
fed_call abort_acknowledged_of b = step_by_of abort_acknowledged_of
fed_call (password_given_of p) b = step_by_of (password_given_of p)
fed_call (nonce_given_of n l) b = step_by_of (nonce_given_of n l)
fed_call (credentials_given_of c) b = step_by_of (credentials_given_of c)
fed_call (connections_closed_of l) b = step_by_of (connections_closed_of l)

-- What the journal is fed of a call with this verdict.
abbrev pub fed_by : Verdict → Call → ℕ → Fed
fed_by (refused n) c b = no_step
fed_by goes c b = fed_call c b

-- ---- along a list of calls, from where `k` is known and the journal is `j`

-- The verdict that is due on a call. The journal is fed by it, and not by the verdict that was returned.
abbrev pub due_on : Known → Journal → Seen → Verdict
due_on k j x = verdict x.short k j x.call

-- What the journal is fed of a call.
abbrev pub fed_on : Known → Journal → Seen → Fed
fed_on k j x = fed_by (due_on k j x) x.call x.reply

-- The verdicts that are due.
abbrev pub due_from : Known → Journal → List Seen → List Verdict
due_from k j [] = []
due_from k j (x ∷ xs) = due_on k j x ∷ due_from (learns k x.call x.outcome) (journal_step j (fed_on k j x)).next xs

-- What the journal is fed.
abbrev pub feed_from : Known → Journal → List Seen → List Fed
feed_from k j [] = []
feed_from k j (x ∷ xs) = fed_on k j x ∷ feed_from (learns k x.call x.outcome) (journal_step j (fed_on k j x)).next xs

-- The verdicts that are due from an accepted start with the settings `st`, with the journal of a fresh engine.
abbrev pub due : Settings → Journal → List Seen → List Verdict
due st j xs = due_from (at_start st) j xs

-- What the journal is fed from there.
abbrev pub feed : Settings → Journal → List Seen → List Fed
feed st j xs = feed_from (at_start st) j xs
