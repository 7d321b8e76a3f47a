-- The Target that a request to the host names (docs/PROTOCOL.md#targets), said without the engine: under which Target each id was opened,
-- the latest first, and the Target of what is being done. It is fed like the journal, with the journal before the call beside it. A closed
-- id is not looked up, and one that is opened again is found first under its newer Target, so nothing has to be taken out.
use Rattle.std.specs.Prelude.{ℕ, List, [], ◌∷◌, Bool, ◌&&◌, ◌||◌, not, length, leb, ltb, eqb}
use Rattle.std.proofs.Math.Option.{Option, none, some}
use Rattle.base.specs.Pick.{pick}
use Rattle.base.specs.Bytes.{be32}
use Rattle.packet.specs.Limits.{max_connections}
use Rattle.packet.specs.HeaderIds as header_id
use Rattle.packet.specs.FirstByte.{same_opcode}
use Rattle.packet.specs.Codes.{is_success}
use Rattle.packet.specs.Header.{read_headers, first}
use Rattle.packet.specs.Packet.{Request, request_of}
use Rattle.packet.specs.declared.opcode.Opcode.{Opcode}
use Rattle.packet.specs.declared.opcode.Opcode.TheVariants.{Connect, Abort}
use Rattle.journal.specs.Ids.{member, new_id}
use Rattle.journal.specs.Calls.{Call, bytes_offered_of, stream_ended_of, reply_taken_of, reply_given_of, object_given_of, body_given_of, body_failed_of, abort_acknowledged_of, password_given_of, nonce_given_of, credentials_given_of, connections_closed_of, Fed, no_step, step_by_of, reply_sent}
use Rattle.journal.specs.Journal.{Standing, Journal, busy, list_of, Read, more, whole, short, read_up, journal_step}

-- An id was opened under a Target. `none` is the mark: there was no Target, or one of over 16 bytes.
pub record Opening : Type 0 where
  pub id : ℕ
  pub target : Option (List ℕ)

-- The openings, the latest first, and the Target under which the last packet goes.
pub record Naming : Type 0 where
  pub openings : List Opening
  pub under : Option (List ℕ)

-- At the start no id was opened.
abbrev pub unnamed : Naming
unnamed = record { openings = []; under = none }

-- A Target of up to 16 bytes.
abbrev pub up_to16 : Option (List ℕ) → Option (List ℕ)
up_to16 none = none
up_to16 (some t) = pick (leb (length t) 16) (some t) none

-- The Target of an id: that of the Connect that opened it last.
unfoldable pub target_of : ℕ → List Opening → Option (List ℕ)
target_of id [] = none
target_of id (o ∷ os) = pick (eqb id o.id) o.target (target_of id os)

-- ---- a packet: between operations it brings the Target of its first ConnectionID, inside one that of the first packet stays

-- A Connect and an Abort go under the mark, wherever they come.
abbrev pub marked : Opcode → Bool
marked o = same_opcode o Connect || same_opcode o Abort

-- The Target of the ConnectionID that a header names, if it is open.
abbrev pub under_id : List Opening → List ℕ → Option (List ℕ) → Option (List ℕ)
under_id os ids none = none
under_id os ids (some v) = pick (member (be32 v 0) ids) (target_of (be32 v 0) os) none

-- What goes under a Target from now on.
abbrev pub goes_under : Naming → Option (List ℕ) → Naming
goes_under n t = record { openings = n.openings; under = t }

-- A packet that could not be read leaves all as it was.
abbrev pub packet_names : Option Request → Journal → Naming → Naming
packet_names none j n = n
packet_names (some r) j n =
    goes_under n
    (pick (marked r.opcode) none
    (pick (busy j.opened) n.under (under_id n.openings j.standing.ids (first header_id.connection_id r.headers))))

-- Only a whole packet names anything.
abbrev pub bytes_name : Read → Journal → Naming → Naming
bytes_name (more p) j n = n
bytes_name (whole p) j n = packet_names (request_of p) j n
bytes_name short j n = n

-- ---- the host's answer to a Connect: the id that is opened takes the Connect's first Target; a 65th is not opened

-- The id is opened unless it is a 65th.
abbrev pub fitting : Standing → ℕ → Option ℕ
fitting s id = pick (member id s.ids || ltb (length s.ids) max_connections) (some id) none

-- The id that a Connect opens, by the answer's first ConnectionID and the request's first Target.
abbrev pub id_opened : Standing → Option (List ℕ) → Option (List ℕ) → Option ℕ
id_opened s (some v) t = fitting s (be32 v 0)
id_opened s none (some t) = fitting s (new_id s.ids s.next)
id_opened s none none = none

-- The id that is opened, if one is, takes the Target `t`.
abbrev pub opens_as : Option ℕ → Option (List ℕ) → Naming → Naming
opens_as none t n = n
opens_as (some id) t n = record { openings = record { id = id; target = up_to16 t } ∷ n.openings; under = n.under }

-- The host's reply by the last packet: only a success to a Connect with nothing open changes anything.
abbrev pub answer_names : Option Request → Journal → ℕ → List ℕ → Naming → Naming
answer_names none j code hs n = n
answer_names (some r) j code hs n =
    pick (not (busy j.opened) && (same_opcode r.opcode Connect && is_success code))
    (opens_as (id_opened j.standing (first header_id.connection_id (list_of (read_headers hs 0))) (first header_id.target r.headers))
    (first header_id.target r.headers) n)
    n

-- ---- a call, with the journal before it

-- What a call that goes does.
abbrev pub call_names : Journal → Naming → Call → Naming
call_names j n (bytes_offered_of i) = bytes_name (read_up j.begun i) j n
call_names j n (reply_given_of code hs) = answer_names j.last j code hs n
call_names j n stream_ended_of = n
call_names j n reply_taken_of = n
call_names j n (object_given_of hs b) = n
call_names j n (body_given_of d) = n
call_names j n body_failed_of = n
call_names j n abort_acknowledged_of = n
call_names j n (password_given_of p) = n
call_names j n (nonce_given_of o l) = n
call_names j n (credentials_given_of c) = n
call_names j n (connections_closed_of l) = n

-- The step of a call as it is fed. A call that was refused is no step, and none is one after the end.
abbrev pub fed_names : Journal → Naming → Fed → Naming
fed_names j n no_step = n
fed_names j n (step_by_of c) = pick j.ended n (call_names j n c)
fed_names j n (reply_sent b) = n

-- The same, shut, so that proofs along a list of calls carry it as one word.
unfoldable pub naming_step : Journal → Naming → Fed → Naming
naming_step j n f = fed_names j n f

-- The naming after each call of a list.
abbrev pub namings : Journal → Naming → List Fed → List Naming
namings j n [] = []
namings j n (f ∷ fs) = naming_step j n f ∷ namings (journal_step j f).next (naming_step j n f) fs
