-- Single Response Mode (SRM; GOEP 2.x, docs/PROTOCOL.md#srm) as a definition of its own, by the settings, the headers and the final marks of
-- the packets: when SRM is on, in which Continue it is granted, to which packets no reply is due, and when a request is read between the
-- packets of an object. It goes along what the journal is fed, and no engine is in it. The session's SRM is the journal's (`connected`).
use Rattle.std.specs.Prelude.{ℕ, List, [], ◌∷◌, Bool, true, false, ◌&&◌, ◌||◌, not, get_or, leb}
use Rattle.std.proofs.Math.Option.{Option, none, some}
use Rattle.base.specs.Pick.{pick}
use Rattle.packet.specs.HeaderIds as header_id
use Rattle.packet.specs.Modes as modes
use Rattle.packet.specs.FirstByte.{same_opcode}
use Rattle.packet.specs.Header.{Header, first}
use Rattle.packet.specs.Packet.{Request, request_of}
use Rattle.packet.specs.declared.opcode.Opcode.{Opcode}
use Rattle.packet.specs.declared.opcode.Opcode.TheVariants.{Connect, Disconnect, Put, Get, SetPath, Action, Session, Abort, UserDefined}
use Rattle.journal.specs.Record.{joined, size_of, carried_by}
use Rattle.journal.specs.Calls.{bytes_offered_of, stream_ended_of, reply_taken_of, reply_given_of, object_given_of, body_given_of, body_failed_of, abort_acknowledged_of, password_given_of, nonce_given_of, credentials_given_of, connections_closed_of, Fed, no_step, step_by_of, reply_sent}
use Rattle.journal.specs.Journal.{Opened, nothing, trailing, putting, getting, sending, gathering, draining, Journal, admitted, asks_srm, trails, taken_at, Read, more, whole, short, read_up, journal_step}

-- What is due after a call: no reply, so that the client's next bytes are read; a Continue, which grants SRM or does not; or anything else.
pub data Due : Type 0 where
  silent : Due
  continues : Bool → Due
  speaks : Due

-- The bytes of a Continue, with the header that grants SRM or without.
abbrev pub continue_reply : Bool → List ℕ
continue_reply false = 0x90 ∷ 0x00 ∷ 0x03 ∷ []
continue_reply true = 0x90 ∷ 0x00 ∷ 0x05 ∷ 0x97 ∷ 0x01 ∷ []

-- ---- headers

-- The first SRM parameter passes a test.
abbrev pub parameter : (ℕ → Bool) → Option (List ℕ) → Bool
parameter f none = false
parameter f (some v) = f (get_or v 0 0)

-- The request asks for an additional Continue (0 or 2).
abbrev pub asks_more : List Header → Bool
asks_more hs = parameter modes.additional (first header_id.single_response_mode_parameters hs)

-- The request asks the server to wait for the next one (1 or 2).
abbrev pub asks_wait : List Header → Bool
asks_wait hs = parameter modes.wait (first header_id.single_response_mode_parameters hs)

-- SRM is asked for with the first packet of an operation, and not on for the session: it is still to be granted.
abbrev pub newly : Journal → Request → Bool
newly j r = not j.standing.srm && asks_srm j.settings r.headers

-- ---- the mode of a Get

-- The mode of a Get: SRM is on; SRM was asked for and is still to be granted; the last request asked to wait.
pub record Mode : Type 0 where
  pub on : Bool
  pub asked : Bool
  pub wait : Bool

-- A Continue grants what was asked for; under SRM and after the last packet of the request there is none.
abbrev pub requested : Bool → Bool → Bool → Bool → Mode
requested true on asked wait = record { on = on; asked = asked; wait = wait }
requested false true asked wait = record { on = true; asked = asked; wait = wait }
requested false false asked wait = record { on = asked; asked = false; wait = wait }

-- The mode after a packet, by what was open before it.
abbrev pub mode_read : Opened → Mode → Journal → Request → Mode
mode_read nothing m j r = requested r.final j.standing.srm (newly j r) (asks_wait r.headers)
mode_read trailing m j r = requested r.final j.standing.srm (newly j r) (asks_wait r.headers)
mode_read (getting k) m j r = requested r.final m.on m.asked (asks_wait r.headers)
mode_read sending m j r = record { on = m.on; asked = m.asked; wait = asks_wait r.headers }
mode_read (putting c s) m j r = m
mode_read (gathering o k) m j r = m
mode_read draining m j r = m

-- A packet that could not be read leaves the mode.
abbrev pub packet_mode : Option Request → Mode → Journal → Mode
packet_mode none m j = m
packet_mode (some r) m j = mode_read j.opened m j r

-- The host's object grants, in front of its headers, what was asked for and not granted yet.
abbrev pub object_mode : Mode → Mode
object_mode m = record { on = m.on || m.asked; asked = m.asked; wait = m.wait }

-- ---- what is due after a packet

-- After a Put packet: SRM is `srm`, it was asked for and is to be granted if `asked`, and the body is within the limit or not.
abbrev pub put_due : Bool → Bool → Bool → Bool → Bool → Due
put_due true srm asked additional within = speaks
put_due false true asked additional within = pick additional (continues false) silent
put_due false false asked additional within = pick within (continues asked) speaks

-- After a packet of a Get's request.
abbrev pub get_due : Bool → Bool → Bool → Due
get_due true on asked = speaks
get_due false true asked = silent
get_due false false asked = continues asked

-- After a packet of an operation of headers alone: up to the last one each gets a Continue.
abbrev pub gather_due : Bool → Due
gather_due final = pick final speaks (continues false)

-- After a packet in a drain: no reply up to the last one.
abbrev pub drain_due : Bool → Due
drain_due final = pick final speaks silent

-- A Put or Get is turned away: under the session's SRM it is drained first.
abbrev pub turned_due : Journal → Request → Due
turned_due j r = pick (j.standing.srm && not r.final) silent speaks

-- After a packet with nothing open.
abbrev pub first_due : Opcode → Journal → Request → Due
first_due Put j r =
    pick (admitted j.settings j.standing r)
    (put_due r.final j.standing.srm (newly j r) (asks_more r.headers) (leb (size_of (carried_by r.headers)) j.settings.limit))
    (turned_due j r)
first_due Get j r = pick (admitted j.settings j.standing r) (get_due r.final j.standing.srm (newly j r)) (turned_due j r)
first_due Action j r = pick (admitted j.settings j.standing r) (gather_due r.final) speaks
first_due Session j r = pick (admitted j.settings j.standing r) (gather_due r.final) speaks
first_due (UserDefined x) j r = pick (admitted j.settings j.standing r) (gather_due r.final) speaks
first_due Connect j r = speaks
first_due Disconnect j r = speaks
first_due SetPath j r = speaks
first_due Abort j r = speaks

-- After a packet, by what was open before it.
abbrev pub request_due : Opened → Mode → Journal → Request → Due
request_due nothing m j r = first_due r.opcode j r
request_due trailing m j r = pick (trails r) speaks (first_due r.opcode j r)
request_due (putting c s) m j r =
    pick (same_opcode r.opcode Put)
    (put_due r.final s false (asks_more r.headers) (leb (size_of (joined c (carried_by r.headers))) j.settings.limit)) speaks
request_due (getting k) m j r = pick (same_opcode r.opcode Get) (get_due r.final m.on m.asked) speaks
request_due sending m j r = speaks
request_due (gathering o k) m j r = pick (same_opcode r.opcode o) (gather_due r.final) speaks
request_due draining m j r = drain_due r.final

-- A packet that cannot be read and an Abort are answered, whatever was open.
abbrev pub packet_due : Option Request → Mode → Journal → Due
packet_due none m j = speaks
packet_due (some r) m j = pick (same_opcode r.opcode Abort) speaks (request_due j.opened m j r)

-- ---- what is due after a call

-- Bytes that leave a packet unfinished get no reply.
abbrev pub read_due : Read → Mode → Journal → Due
read_due (more p) m j = silent
read_due (whole p) m j = packet_due (request_of p) m j
read_due short m j = speaks

-- The mode after some bytes: only a whole packet changes it.
abbrev pub read_mode : Read → Mode → Journal → Mode
read_mode (more p) m j = m
read_mode (whole p) m j = packet_mode (request_of p) m j
read_mode short m j = m

-- After a reply is taken, the next packet of an object follows at once under SRM, unless the last request asked to wait; else the client's
-- next request is read.
abbrev pub taken_due : Opened → Mode → Due
taken_due sending m = pick (m.on && not m.wait) speaks silent
taken_due nothing m = silent
taken_due trailing m = silent
taken_due (putting c s) m = silent
taken_due (getting k) m = silent
taken_due (gathering o k) m = silent
taken_due draining m = silent

-- What is due after a call. A refusal, an end, a request to the host and a reply of the host are no silence; only bytes, a reply taken and
-- connections closed can be followed by one.
abbrev pub due_in : Mode → Journal → Fed → Due
due_in m j no_step = speaks
due_in m j (reply_sent b) = pick j.ended speaks (taken_due (taken_at j.opened j b).opened m)
due_in m j (step_by_of (bytes_offered_of i)) = read_due (read_up j.begun i) m j
due_in m j (step_by_of stream_ended_of) = speaks
due_in m j (step_by_of reply_taken_of) = speaks
due_in m j (step_by_of (reply_given_of code hs)) = speaks
due_in m j (step_by_of (object_given_of hs has)) = speaks
due_in m j (step_by_of (body_given_of d)) = speaks
due_in m j (step_by_of body_failed_of) = speaks
due_in m j (step_by_of abort_acknowledged_of) = speaks
due_in m j (step_by_of (password_given_of p)) = speaks
due_in m j (step_by_of (nonce_given_of n l)) = speaks
due_in m j (step_by_of (credentials_given_of c)) = speaks
due_in m j (step_by_of (connections_closed_of l)) = silent

-- The mode after a call: packets and the host's object change it.
abbrev pub mode_after : Mode → Journal → Fed → Mode
mode_after m j no_step = m
mode_after m j (reply_sent b) = m
mode_after m j (step_by_of (bytes_offered_of i)) = read_mode (read_up j.begun i) m j
mode_after m j (step_by_of (object_given_of hs has)) = object_mode m
mode_after m j (step_by_of stream_ended_of) = m
mode_after m j (step_by_of reply_taken_of) = m
mode_after m j (step_by_of (reply_given_of code hs)) = m
mode_after m j (step_by_of (body_given_of d)) = m
mode_after m j (step_by_of body_failed_of) = m
mode_after m j (step_by_of abort_acknowledged_of) = m
mode_after m j (step_by_of (password_given_of p)) = m
mode_after m j (step_by_of (nonce_given_of n l)) = m
mode_after m j (step_by_of (credentials_given_of c)) = m
mode_after m j (step_by_of (connections_closed_of l)) = m

-- What is due after each call of a list.
abbrev pub dues_from : Mode → Journal → List Fed → List Due
dues_from m j [] = []
dues_from m j (f ∷ fs) = due_in m j f ∷ dues_from (mode_after m j f) (journal_step j f).next fs

-- The same from a start, where SRM is not on and nothing was asked.
abbrev pub dues : Journal → List Fed → List Due
dues j fs = dues_from (record { on = false; asked = false; wait = false }) j fs
