-- The journal, which the requirements call the book: a machine of its own that says which records are handed over
-- (docs/PROTOCOL.md#journal), how many of the bytes that are offered are taken, and in which call the engine ends. It is fed the calls'
-- arguments, whether a call is refused, and the first byte of each reply taken; nothing of the engine's state or stores.
use Rattle.std.specs.Prelude.{ℕ, ◌+◌, ◌%◌, ◌^◌, List, [], ◌∷◌, ◌++◌, Bool, true, false, ◌&&◌, ◌||◌, not, length, get_or, leb, ltb, eqb}
use Rattle.std.proofs.Math.Option.{Option, none, some}
use Rattle.base.specs.Pick.{pick}
use Rattle.base.specs.Bytes.{be16, be32}
use Rattle.digest.specs.Md5.{octets16}
use Rattle.packet.specs.Limits.{max_connections}
use Rattle.packet.specs.HeaderIds as header_id
use Rattle.packet.specs.ResponseCodes as response
use Rattle.packet.specs.Modes as modes
use Rattle.packet.specs.FirstByte.{same_opcode}
use Rattle.packet.specs.Codes.{is_success, sent_code}
use Rattle.packet.specs.Header.{Header, read_headers, first, present, all_bytes}
use Rattle.packet.specs.Packet.{Request, request_of}
use Rattle.packet.specs.Auth.{Response, response_of, verified}
use Rattle.packet.specs.declared.opcode.Opcode.{Opcode}
use Rattle.packet.specs.declared.opcode.Opcode.TheVariants.{Connect, Disconnect, Put, Get, SetPath, Action, Session, Abort, UserDefined}
use Rattle.journal.specs.Record.{Record, joined, size_of, carried_by, kept_by_get}
use Rattle.journal.specs.Ids.{member, without, without_all, new_id}
use Rattle.journal.specs.Calls.{Call, bytes_offered_of, stream_ended_of, reply_taken_of, reply_given_of, object_given_of, body_given_of, body_failed_of, abort_acknowledged_of, password_given_of, nonce_given_of, credentials_given_of, connections_closed_of, Fed, no_step, step_by_of, reply_sent}
use Rattle.journal.specs.Checks.{Check, right, wrong, stop, too_many_of}

-- ---- what the journal keeps

-- What the host sets at the start: the Put limit, whether Single Response Mode (SRM) is supported, whether a password is required, and
-- whether the packets that trail a Put that was too long are refused with it.
pub record Settings : Type 0 where
  pub limit : ℕ
  pub srm : Bool
  pub authentication : Bool
  -- Whether a response must bring a user id.
  pub demands_user : Bool
  -- Whether what trails a Put that was too long is refused.
  pub refuses : Bool

-- What Connect and Disconnect change: whether the password was given, the nonce of the challenge that was sent, the open ids, the id
-- counter, and the session's SRM; and the checks of passwords since the start, the latest first, which nothing clears.
pub record Standing : Type 0 where
  pub authenticated : Bool
  pub challenge : Option (List ℕ)
  pub ids : List ℕ
  pub next : ℕ
  pub srm : Bool
  pub checks : List Check

-- What is open: nothing; nothing, while the packets that trail a Put that was too long are refused (the requirements call them its tail);
-- a Put, with what it carried so far and its SRM; a Get, with its kept headers; a Get whose object is sent; an Action, Session or
-- user-defined operation, with its kept headers; or an operation that was turned away and is drained.
pub data Opened : Type 0 where
  nothing : Opened
  trailing : Opened
  putting : Record → Bool → Opened
  getting : List ℕ → Opened
  sending : Opened
  gathering : Opcode → List ℕ → Opened
  draining : Opened

-- An operation is open.
abbrev pub busy : Opened → Bool
busy nothing = false
busy trailing = false
busy (putting c s) = true
busy (getting k) = true
busy sending = true
busy (gathering o k) = true
busy draining = true

-- The whole journal: also the bytes of the packet that has begun, and the last packet read.
pub record Journal : Type 0 where
  pub settings : Settings
  pub begun : List ℕ
  pub last : Option Request
  pub opened : Opened
  pub standing : Standing
  pub ended : Bool

-- A journal at the start, which stands as a fresh engine does.
abbrev pub fresh : Settings → Journal
fresh st =
    record {
      settings = st;
      begun = [];
      last = none;
      opened = nothing;
      standing = record { authenticated = false; challenge = none; ids = []; next = 1; srm = false; checks = [] };
      ended = false;
    }

-- ---- a step, and what a step may change, each in turn

-- A step: the journal afterwards, the records handed over, and the number with which the engine ends in this call, if it does
-- (docs/PROTOCOL.md#ends).
pub record Entry : Type 0 where
  pub next : Journal
  pub given : List Record
  pub number : Option ℕ

-- A step to the journal `j` that hands nothing over.
abbrev pub unchanged : Journal → Entry
unchanged j = record { next = j; given = []; number = none }

-- The journal once the bytes `p` of a packet have come.
abbrev pub begin : Journal → List ℕ → Journal
begin j p =
    record { settings = j.settings; begun = p; last = j.last; opened = j.opened; standing = j.standing; ended = j.ended }

-- The journal once the packet `r` was read and `o` is open.
abbrev pub after : Journal → Option Request → Opened → Journal
after j r o = record { settings = j.settings; begun = []; last = r; opened = o; standing = j.standing; ended = j.ended }

-- The journal with `o` open.
abbrev pub opens : Journal → Opened → Journal
opens j o =
    record { settings = j.settings; begun = j.begun; last = j.last; opened = o; standing = j.standing; ended = j.ended }

-- The journal with the standing `s`.
abbrev pub stands : Journal → Standing → Journal
stands j s =
    record { settings = j.settings; begun = j.begun; last = j.last; opened = j.opened; standing = s; ended = j.ended }

-- The journal once it has ended: it reads nothing any more.
abbrev pub end : Journal → Journal
end j =
    record { settings = j.settings; begun = []; last = j.last; opened = j.opened; standing = j.standing; ended = true }

-- A step in which the engine ends with the number `n`, and so the journal ends.
abbrev pub ends_with : ℕ → Journal → Entry
ends_with n j = record { next = end j; given = []; number = some n }

-- ---- admission (docs/PROTOCOL.md#admission)

-- The opcode is Disconnect.
abbrev pub is_disconnect : Opcode → Bool
is_disconnect o = same_opcode o Disconnect

-- A password is required and was not given. A Disconnect may not be refused (IrOBEX 1.5, section 3.4.2).
unfoldable pub unauthorized : Settings → Standing → Opcode → Bool
unauthorized st s o = st.authentication && (not s.authenticated && not (is_disconnect o))

-- The connection id that a header names is not open.
abbrev pub not_open : List ℕ → Option (List ℕ) → Bool
not_open ids none = false
not_open ids (some v) = not (member (be32 v 0) ids)

-- The request passes: it is not unauthorized, and the first ConnectionID that it names, if any, is open.
unfoldable pub admitted : Settings → Standing → Request → Bool
admitted st s r = not (unauthorized st s r.opcode) && not (not_open s.ids (first header_id.connection_id r.headers))

-- The value of a SingleResponseMode header is Enable.
abbrev pub is_enable : Option (List ℕ) → Bool
is_enable none = false
is_enable (some v) = eqb (get_or v 0 0) modes.enable

-- The headers ask for SRM, and SRM is supported.
unfoldable pub asks_srm : Settings → List Header → Bool
asks_srm st hs = st.srm && is_enable (first header_id.single_response_mode hs)

-- ---- packets (docs/PROTOCOL.md#put, #trailing, #get, #headers-only, #drain, #unreadable, #other-operation)

-- What is open once a Put was refused before its last packet: if the setting is on, what trails it is refused from then on.
abbrev pub overrun : Settings → Opened
overrun st = pick st.refuses trailing nothing

-- A Put packet is read, and `c` is what the Put carries up to here. A final packet closes the Put, with a record if the body is within the
-- limit. Any other closes it if the body is past the limit, unless SRM is on: without SRM the client waits for the reply, so it is refused
-- right away. `srm` holds at this packet, `next` from the next one on.
unfoldable pub put_read : Journal → Request → Bool → Bool → Record → Entry
put_read j r srm next c =
    pick r.final
    (record { next = after j (some r) nothing; given = pick (leb (size_of c) j.settings.limit) (c ∷ []) []; number = none })
    (unchanged (after j (some r) (pick (leb (size_of c) j.settings.limit || srm) (putting c next) (overrun j.settings))))

-- A packet of Action, Session or a user-defined operation is read.
abbrev pub gather_read : Journal → Request → Opcode → List ℕ → Entry
gather_read j r o k = unchanged (after j (some r) (pick r.final nothing (gathering o k)))

-- A Put or Get is turned away. With the session's SRM on, the client keeps sending the request without waiting, so a request that is not
-- final is drained; else it is dropped.
abbrev pub turned_away : Journal → Request → Entry
turned_away j r = unchanged (after j (some r) (pick (j.standing.srm && not r.final) draining nothing))

-- A packet was read, and nothing is open afterwards.
abbrev pub dropped : Journal → Request → Entry
dropped j r = unchanged (after j (some r) nothing)

-- A Connect is stopped (docs/PROTOCOL.md#eight-wrong): a password is required, too many of the last checks were wrong, and the Connect
-- carries an AuthenticateResponse, whether that can be read or not.
unfoldable pub is_stopped : Settings → Standing → Request → Bool
is_stopped st s r = st.authentication && (too_many_of s.checks && present (first header_id.authenticate_response r.headers))

-- A standing with one check more.
abbrev pub with_check : Standing → Check → Standing
with_check s c =
    record { authenticated = s.authenticated; challenge = s.challenge; ids = s.ids; next = s.next; srm = s.srm; checks = c ∷ s.checks }

-- A Connect is read: if it is stopped, that joins the checks, and nothing else changes.
abbrev pub connect_read : Journal → Request → Entry
connect_read j r = dropped (stands j (pick (is_stopped j.settings j.standing r) (with_check j.standing stop) j.standing)) r

-- A packet is read with nothing open. Connect, Disconnect and SetPath act by the host's answers; any other opens an operation if it is
-- admitted.
unfoldable pub first_read : Opcode → Journal → Request → Entry
first_read Connect j r = connect_read j r
first_read Disconnect j r = dropped j r
first_read SetPath j r = dropped j r
first_read Abort j r = dropped j r
first_read Put j r =
    pick (admitted j.settings j.standing r)
    (put_read j r j.standing.srm (j.standing.srm || asks_srm j.settings r.headers) (carried_by r.headers))
    (turned_away j r)
first_read Get j r =
    pick (admitted j.settings j.standing r) (unchanged (after j (some r) (getting (kept_by_get r.headers)))) (turned_away j r)
first_read Action j r = pick (admitted j.settings j.standing r) (gather_read j r Action (all_bytes r.headers)) (dropped j r)
first_read Session j r = pick (admitted j.settings j.standing r) (gather_read j r Session (all_bytes r.headers)) (dropped j r)
first_read (UserDefined x) j r =
    pick (admitted j.settings j.standing r) (gather_read j r (UserDefined x) (all_bytes r.headers)) (dropped j r)

-- The journal ends: another operation started before the last one ended. The engine ends once its reply to that packet is taken
-- (`journal_fed`).
abbrev pub stopped : Journal → Entry
stopped j = unchanged (end j)

-- The request is a Put packet without a Name, so it may trail a Put that was too long.
unfoldable pub trails : Request → Bool
trails r = same_opcode r.opcode Put && not (present (first header_id.name r.headers))

-- A packet that can be read, by what is open. Packets that trail a Put are refused up to a final one, and any other is read as with nothing
-- open. A drain goes on under any opcode, up to a final packet.
abbrev pub request_read : Opened → Journal → Request → Entry
request_read nothing j r = first_read r.opcode j r
request_read trailing j r =
    pick (trails r) (unchanged (after j (some r) (pick r.final nothing trailing))) (first_read r.opcode j r)
request_read (putting c s) j r =
    pick (same_opcode r.opcode Put) (put_read j r s s (joined c (carried_by r.headers))) (stopped j)
request_read (getting k) j r =
    pick (same_opcode r.opcode Get) (unchanged (after j (some r) (getting (k ++ kept_by_get r.headers)))) (stopped j)
request_read sending j r = pick (same_opcode r.opcode Get) (unchanged (after j (some r) sending)) (stopped j)
request_read (gathering o k) j r =
    pick (same_opcode r.opcode o) (gather_read j r o (k ++ all_bytes r.headers)) (stopped j)
request_read draining j r = unchanged (after j (some r) (pick r.final nothing draining))

-- A packet is read: one that is unreadable ends the journal if an operation is open, and else leaves what is open; Abort, final or not,
-- closes what is open.
abbrev pub packet_read : Option Request → Journal → Entry
packet_read none j = pick (busy j.opened) (ends_with 4 j) (unchanged (after j none j.opened))
packet_read (some r) j = pick (same_opcode r.opcode Abort) (dropped j r) (request_read j.opened j r)

-- A whole packet has come.
unfoldable pub journal_packet : Journal → List ℕ → Entry
journal_packet j p = packet_read (request_of p) j

-- ---- bytes up to a packet's end; a length under 3 ends the journal at the third byte (docs/PROTOCOL.md#frames)

-- What some bytes are: a packet that goes on, a whole packet, or a length under 3.
pub data Read : Type 0 where
  more : List ℕ → Read
  whole : List ℕ → Read
  short : Read

-- What the bytes `p` that have come are; `rest` if the packet goes on.
unfoldable pub read_step : List ℕ → Read → Read
read_step p rest =
    pick (ltb (length p) 3) rest
    (pick (ltb (be16 p 1) 3) short
    (pick (leb (be16 p 1) (length p)) (whole p) rest))

-- What the bytes are, one by one behind `p`; what follows a packet's end is not looked at.
unfoldable pub read_up : List ℕ → List ℕ → Read
read_up p [] = more p
read_up p (x ∷ xs) = read_step (p ++ (x ∷ [])) (read_up (p ++ (x ∷ [])) xs)

-- The step by what the bytes are.
abbrev pub bytes_read : Journal → Read → Entry
bytes_read j (more p) = unchanged (begin j p)
bytes_read j (whole p) = journal_packet j p
bytes_read j short = ends_with 3 j

-- A packet goes on after the bytes `p`: they are fewer than three, or a length field of 3 at least has not been reached.
unfoldable pub goes_on_of : List ℕ → Bool
goes_on_of p = ltb (length p) 3 || (not (ltb (be16 p 1) 3) && not (leb (be16 p 1) (length p)))

-- How many of the bytes are taken behind `p`: all of them up to the packet's end, or up to the third byte if the length is under 3.
unfoldable pub taken_up : List ℕ → List ℕ → ℕ
taken_up p [] = 0
taken_up p (x ∷ xs) = 1 + pick (goes_on_of (p ++ (x ∷ []))) (taken_up (p ++ (x ∷ [])) xs) 0

-- The number with which the engine ends at the end of the stream: between packets, or inside one.
abbrev pub stream_number : List ℕ → ℕ
stream_number [] = 1
stream_number (x ∷ xs) = 2

-- ---- the host's answers (docs/PROTOCOL.md#connect, #connection-ids, #disconnect)

-- A standing with other ids, counter and SRM.
abbrev pub with_ids : Standing → List ℕ → ℕ → Bool → Standing
with_ids s ids next srm = record { authenticated = s.authenticated; challenge = s.challenge; ids = ids; next = next; srm = srm; checks = s.checks }

-- The id is opened if it is not open yet, with the counter `next`. A 65th leaves all as it was, SRM too.
unfoldable pub open_id : Standing → Bool → ℕ → ℕ → Standing
open_id s srm id next =
    pick (member id s.ids) (with_ids s s.ids s.next srm)
    (pick (leb max_connections (length s.ids)) s
    (with_ids s (s.ids ++ (id ∷ [])) next srm))

-- A Connect succeeds: the answer's first ConnectionID is opened, else, for a Target, the one that the search yields; then SRM.
abbrev pub opens_for : Standing → Bool → Option (List ℕ) → Option (List ℕ) → Standing
opens_for s srm (some v) target = open_id s srm (be32 v 0) s.next
opens_for s srm none (some t) = open_id s srm (new_id s.ids s.next) ((new_id s.ids s.next + 1) % 2 ^ 32)
opens_for s srm none none = with_ids s s.ids s.next srm

-- The headers that were read; none if they could not be read.
abbrev pub list_of : Option (List Header) → List Header
list_of none = []
list_of (some hs) = hs

-- The host's answer to a Connect: any code but success changes nothing.
unfoldable pub connected : Settings → Standing → List Header → ℕ → List Header → Standing
connected st s request code answer =
    pick (is_success code) (opens_for s (s.srm || asks_srm st request) (first header_id.connection_id answer) (first header_id.target request)) s

-- All that Connect set is cleared, but not the counter, the challenge and the checks.
abbrev pub cleared : Standing → Standing
cleared s = record { authenticated = false; challenge = s.challenge; ids = []; next = s.next; srm = false; checks = s.checks }

-- A Disconnect leaves these ids open; if none is left, all is cleared.
abbrev pub leaves : Standing → List ℕ → Standing
leaves s [] = cleared s
leaves s (i ∷ is) = with_ids s (i ∷ is) s.next s.srm

-- A Disconnect closes the id that it names; if it names none, all is cleared.
abbrev pub disconnected : Standing → Option (List ℕ) → Standing
disconnected s none = cleared s
disconnected s (some v) = leaves s (without (be32 v 0) s.ids)

-- The host closes these ids; if some were closed and none is left, all is cleared, as by the last Disconnect.
abbrev pub closes : Standing → List ℕ → Standing
closes s [] = s
closes s (x ∷ l) = leaves s (without_all (x ∷ l) s.ids)

-- The host's reply to the last packet, with nothing open.
abbrev pub reply_to : Opcode → Journal → Request → ℕ → List ℕ → Journal
reply_to Connect j r code hs = stands j (connected j.settings j.standing r.headers code (list_of (read_headers hs 0)))
reply_to Disconnect j r code hs = stands j (disconnected j.standing (first header_id.connection_id r.headers))
reply_to Put j r code hs = j
reply_to Get j r code hs = j
reply_to SetPath j r code hs = j
reply_to Action j r code hs = j
reply_to Session j r code hs = j
reply_to Abort j r code hs = j
reply_to (UserDefined x) j r code hs = j

-- The host's reply, by the last packet; nothing changes if that could not be read.
abbrev pub reply_last : Option Request → Journal → ℕ → List ℕ → Journal
reply_last none j code hs = j
reply_last (some r) j code hs = reply_to r.opcode j r code hs

-- The host answers with a reply: a Get closes.
abbrev pub replied : Opened → Journal → ℕ → List ℕ → Journal
replied nothing j code hs = reply_last j.last j code hs
replied (getting k) j code hs = opens j nothing
replied trailing j code hs = j
replied (putting c s) j code hs = j
replied sending j code hs = j
replied (gathering o k) j code hs = j
replied draining j code hs = j

-- The host answers with an object: a Get sends it from now on.
abbrev pub object_sent : Opened → Journal → Journal
object_sent (getting k) j = opens j sending
object_sent nothing j = j
object_sent trailing j = j
object_sent (putting c s) j = j
object_sent sending j = j
object_sent (gathering o k) j = j
object_sent draining j = j

-- A reply was taken: a Get that sends its object closes on the first one that is not Continue.
abbrev pub taken_at : Opened → Journal → ℕ → Journal
taken_at sending j b = pick (eqb b (sent_code response.continue)) j (opens j nothing)
taken_at nothing j b = j
taken_at trailing j b = j
taken_at (putting c s) j b = j
taken_at (getting k) j b = j
taken_at (gathering o k) j b = j
taken_at draining j b = j

-- The check of a response against the challenge: without a challenge, a readable response or a password it fails.
abbrev pub passes_with : Bool → Option (List ℕ) → Option Response → Option (List ℕ) → Bool
passes_with demands none r p = false
passes_with demands (some n) none p = false
passes_with demands (some n) (some r) none = false
passes_with demands (some n) (some r) (some p) = verified demands n r p

-- The response that an AuthenticateResponse header carries.
abbrev pub response_in : Option (List ℕ) → Option Response
response_in none = none
response_in (some v) = response_of v

-- The headers of the last packet; none if it could not be read.
abbrev pub headers_of : Option Request → List Header
headers_of none = []
headers_of (some r) = r.headers

-- The password is right: the check of the last packet's first AuthenticateResponse against the challenge.
unfoldable pub passes : Journal → Option (List ℕ) → Bool
passes j p =
    passes_with j.settings.demands_user j.standing.challenge (response_in (first header_id.authenticate_response (headers_of j.last))) p

-- A password was checked, which joins the checks. A right one is given from now on, and uses the challenge up.
abbrev pub password_checked : Standing → Bool → Standing
password_checked s true =
    record { authenticated = true; challenge = none; ids = s.ids; next = s.next; srm = s.srm; checks = right ∷ s.checks }
password_checked s false = with_check s wrong

-- A new challenge is sent: the password is given no longer.
abbrev pub challenged : Standing → List ℕ → Standing
challenged s n = record { authenticated = false; challenge = some n; ids = s.ids; next = s.next; srm = s.srm; checks = s.checks }

-- ---- a call

-- The step of a call that goes. A reply taken is fed with its first byte, and stands in `journal_fed`.
abbrev pub journal_call : Journal → Call → Entry
journal_call j (bytes_offered_of i) = bytes_read j (read_up j.begun i)
journal_call j stream_ended_of = ends_with (stream_number j.begun) j
journal_call j reply_taken_of = unchanged j
journal_call j (reply_given_of code hs) = unchanged (replied j.opened j code hs)
journal_call j (object_given_of hs body) = unchanged (object_sent j.opened j)
journal_call j (body_given_of d) = unchanged j
journal_call j body_failed_of = unchanged j
journal_call j abort_acknowledged_of = unchanged j
journal_call j (password_given_of p) = unchanged (stands j (password_checked j.standing (passes j p)))
journal_call j (nonce_given_of n l) = unchanged (stands j (challenged j.standing (octets16 n)))
journal_call j (credentials_given_of c) = unchanged j
journal_call j (connections_closed_of l) = unchanged (stands j (closes j.standing l))

-- A reply is taken after the journal has ended: it was the reply to a packet of another operation, so the engine ends.
abbrev pub last_taken : Journal → Entry
last_taken j = record { next = j; given = []; number = some 5 }

-- The step of a call as it is fed. A call that was refused is no step, and none but a reply taken is one after the end.
abbrev pub journal_fed : Journal → Fed → Entry
journal_fed j no_step = unchanged j
journal_fed j (step_by_of c) = pick j.ended (unchanged j) (journal_call j c)
journal_fed j (reply_sent b) = pick j.ended (last_taken j) (unchanged (taken_at j.opened j b))

-- The same, shut, so that proofs along a list of calls carry it as one word.
unfoldable pub journal_step : Journal → Fed → Entry
journal_step j f = journal_fed j f

-- The journal after a list of calls.
abbrev pub journal_after : Journal → List Fed → Journal
journal_after j [] = j
journal_after j (f ∷ fs) = journal_after (journal_step j f).next fs

-- The records that a list of calls must hand over.
abbrev pub journal_records : Journal → List Fed → List Record
journal_records j [] = []
journal_records j (f ∷ fs) = (journal_step j f).given ++ journal_records (journal_step j f).next fs

-- In which calls of a list the engine must end, and with which number.
abbrev pub journal_ends : Journal → List Fed → List (Option ℕ)
journal_ends j [] = []
journal_ends j (f ∷ fs) = (journal_step j f).number ∷ journal_ends (journal_step j f).next fs

-- ---- the bytes that are taken

-- How many bytes a call takes.
abbrev pub call_takes : Journal → Call → ℕ
call_takes j (bytes_offered_of i) = taken_up j.begun i
call_takes j stream_ended_of = 0
call_takes j reply_taken_of = 0
call_takes j (reply_given_of code hs) = 0
call_takes j (object_given_of hs body) = 0
call_takes j (body_given_of d) = 0
call_takes j body_failed_of = 0
call_takes j abort_acknowledged_of = 0
call_takes j (password_given_of p) = 0
call_takes j (nonce_given_of n l) = 0
call_takes j (credentials_given_of c) = 0
call_takes j (connections_closed_of l) = 0

-- How many bytes a call takes, as it is fed.
abbrev pub fed_takes : Journal → Fed → ℕ
fed_takes j no_step = 0
fed_takes j (step_by_of c) = pick j.ended 0 (call_takes j c)
fed_takes j (reply_sent b) = 0

-- How many bytes each call of a list must report as taken.
abbrev pub journal_counts : Journal → List Fed → List ℕ
journal_counts j [] = []
journal_counts j (f ∷ fs) = fed_takes j f ∷ journal_counts (journal_step j f).next fs

-- ---- the packets that are read

-- A packet that was read, with the journal before it.
pub record Marked : Type 0 where
  pub before : Journal
  pub bytes : List ℕ

-- The packet that some bytes end, if they end one.
abbrev pub read_in : Journal → Read → List Marked
read_in j (more p) = []
read_in j (whole p) = record { before = j; bytes = p } ∷ []
read_in j short = []

-- The packets that a call reads.
abbrev pub call_reads : Journal → Call → List Marked
call_reads j (bytes_offered_of i) = read_in j (read_up j.begun i)
call_reads j stream_ended_of = []
call_reads j reply_taken_of = []
call_reads j (reply_given_of code hs) = []
call_reads j (object_given_of hs body) = []
call_reads j (body_given_of d) = []
call_reads j body_failed_of = []
call_reads j abort_acknowledged_of = []
call_reads j (password_given_of p) = []
call_reads j (nonce_given_of n l) = []
call_reads j (credentials_given_of c) = []
call_reads j (connections_closed_of l) = []

-- The packets that a call reads, as it is fed.
abbrev pub fed_reads : Journal → Fed → List Marked
fed_reads j no_step = []
fed_reads j (step_by_of c) = pick j.ended [] (call_reads j c)
fed_reads j (reply_sent b) = []

-- The packets that a list of calls reads, in whatever pieces they come.
abbrev pub packets : Journal → List Fed → List Marked
packets j [] = []
packets j (f ∷ fs) = fed_reads j f ++ packets (journal_step j f).next fs

-- ---- the one premise of the records theorem: the kept headers stay within 65,535 bytes

-- The kept headers of an operation once a further packet of it was read.
abbrev pub kept_with : Opened → Request → List ℕ
kept_with nothing r = []
kept_with trailing r = []
kept_with (putting c s) r = pick (same_opcode r.opcode Put) (c.headers ++ (carried_by r.headers).headers) []
kept_with (getting k) r = pick (same_opcode r.opcode Get) (k ++ kept_by_get r.headers) []
kept_with sending r = []
kept_with (gathering o k) r = pick (same_opcode r.opcode o) (k ++ all_bytes r.headers) []
kept_with draining r = []

-- The kept headers once a packet was read; none if it could not be read.
abbrev pub kept_read : Opened → Option Request → List ℕ
kept_read o none = []
kept_read o (some r) = kept_with o r

-- The kept headers after a packet.
unfoldable pub kept_after : Marked → List ℕ
kept_after m = kept_read m.before.opened (request_of m.bytes)
