-- How many bytes the reply has to which a host's answer leads (docs/PROTOCOL.md#connect, #reply-limit), by the journal and the answer alone.
-- The records theorem has the premise that no such reply is over 65,535 bytes. All other replies are short by themselves: a code alone, a
-- Continue, a challenge, a packet of an object.
use Rattle.std.specs.Prelude.{ℕ, ◌+◌, ◌≤◌, List, [], ◌∷◌, Bool, false, ◌&&◌, not, length, leb}
use Rattle.std.proofs.Math.Option.{Option, none, some}
use Rattle.base.specs.Pick.{pick}
use Rattle.base.specs.Bytes.{be32}
use Rattle.packet.specs.Limits.{max_connections}
use Rattle.packet.specs.HeaderIds as header_id
use Rattle.packet.specs.FirstByte.{same_opcode}
use Rattle.packet.specs.Codes.{is_success}
use Rattle.packet.specs.Header.{read_headers, first, all_bytes}
use Rattle.packet.specs.Packet.{Request}
use Rattle.packet.specs.Auth.{Challenge}
use Rattle.packet.specs.declared.opcode.Opcode.TheVariants.{Connect}
use Rattle.journal.specs.Ids.{member, new_id}
use Rattle.journal.specs.Calls.{Credentials, bytes_offered_of, stream_ended_of, reply_taken_of, reply_given_of, object_given_of, body_given_of, body_failed_of, abort_acknowledged_of, password_given_of, nonce_given_of, credentials_given_of, connections_closed_of, Fed, no_step, step_by_of, reply_sent}
use Rattle.journal.specs.Journal.{Standing, Opened, nothing, trailing, putting, getting, sending, gathering, draining, Journal, asks_srm, list_of, journal_step}
use Rattle.connection.specs.ConnectReply.{answered_challenge, connect_headers}

-- The ConnectionID that goes in front of the host's headers: a new one for a Target, if the host named none.
abbrev pub front_in : Standing → Option (List ℕ) → Option (List ℕ) → Option ℕ
front_in s (some v) target = none
front_in s none none = none
front_in s none (some t) = some (new_id s.ids s.next)

-- The id would be a 65th. Such a Connect is refused with a reply without headers.
unfoldable pub is_full : Standing → ℕ → Bool
is_full s id = not (member id s.ids) && leb max_connections (length s.ids)

-- The same of the id that an accepted Connect is to open: the host's own, or a new one for a Target.
abbrev pub full_for : Standing → Option (List ℕ) → Option (List ℕ) → Bool
full_for s (some v) target = is_full s (be32 v 0)
full_for s none (some t) = is_full s (new_id s.ids s.next)
full_for s none none = false

-- The reply to the Connect `r`, which the host accepts with the header bytes `hs`, by the credentials for the client's challenge.
unfoldable pub accepted_size : Journal → Request → List ℕ → Option Credentials → ℕ
accepted_size j r hs c =
    let answer = list_of (read_headers hs 0) in
    let id = front_in j.standing (first header_id.connection_id answer) (first header_id.target r.headers) in
    7 + length (all_bytes (connect_headers id r.headers answer c (asks_srm j.settings r.headers)))

-- The reply to an accepted Connect is made at once; if the client's challenge is to be answered, only once credentials are given.
abbrev pub accepted_at : Option Challenge → Journal → Request → List ℕ → ℕ
accepted_at none j r hs = accepted_size j r hs none
accepted_at (some c) j r hs = 0

-- The reply to the host's answer to a Connect.
abbrev pub connect_size : Journal → Request → ℕ → List ℕ → ℕ
connect_size j r code hs =
    let full = full_for j.standing (first header_id.connection_id (list_of (read_headers hs 0))) (first header_id.target r.headers) in
    pick (is_success code) (pick full 7 (accepted_at (answered_challenge r.headers) j r hs)) (7 + length hs)

-- The reply to the host's answer, by the last packet: any but a Connect is answered with the host's headers alone.
abbrev pub last_size : Option Request → Journal → ℕ → List ℕ → ℕ
last_size none j code hs = 3 + length hs
last_size (some r) j code hs = pick (same_opcode r.opcode Connect) (connect_size j r code hs) (3 + length hs)

-- The reply to the host's answer, by what is open.
abbrev pub answer_size : Opened → Journal → ℕ → List ℕ → ℕ
answer_size nothing j code hs = last_size j.last j code hs
answer_size trailing j code hs = 3 + length hs
answer_size (putting c s) j code hs = 3 + length hs
answer_size (getting k) j code hs = 3 + length hs
answer_size sending j code hs = 3 + length hs
answer_size (gathering o k) j code hs = 3 + length hs
answer_size draining j code hs = 3 + length hs

-- ---- along what the journal is fed

-- How long the reply to a Connect becomes, by the credentials that the host may still give.
abbrev pub Late : Type 0
Late = Option Credentials → ℕ

-- It is the reply to the last packet, which was the Connect, with the header bytes `hs` of the host.
abbrev pub late_by : Option Request → Journal → List ℕ → Late
late_by none j hs c = 0
late_by (some r) j hs c = accepted_size j r hs c

-- A host's reply decides it anew, and no other call changes it.
abbrev pub late_after : Late → Journal → Fed → Late
late_after late j no_step = late
late_after late j (reply_sent b) = late
late_after late j (step_by_of (reply_given_of code hs)) = late_by j.last j hs
late_after late j (step_by_of (bytes_offered_of i)) = late
late_after late j (step_by_of stream_ended_of) = late
late_after late j (step_by_of reply_taken_of) = late
late_after late j (step_by_of (object_given_of hs has)) = late
late_after late j (step_by_of (body_given_of d)) = late
late_after late j (step_by_of body_failed_of) = late
late_after late j (step_by_of abort_acknowledged_of) = late
late_after late j (step_by_of (password_given_of p)) = late
late_after late j (step_by_of (nonce_given_of n l)) = late
late_after late j (step_by_of (credentials_given_of c)) = late
late_after late j (step_by_of (connections_closed_of l)) = late

-- The reply to a call, if it is one to a host's answer; 0 for any other call.
abbrev pub reply_size : Late → Journal → Fed → ℕ
reply_size late j no_step = 0
reply_size late j (reply_sent b) = 0
reply_size late j (step_by_of (reply_given_of code hs)) = answer_size j.opened j code hs
reply_size late j (step_by_of (credentials_given_of c)) = late c
reply_size late j (step_by_of (bytes_offered_of i)) = 0
reply_size late j (step_by_of stream_ended_of) = 0
reply_size late j (step_by_of reply_taken_of) = 0
reply_size late j (step_by_of (object_given_of hs has)) = 0
reply_size late j (step_by_of (body_given_of d)) = 0
reply_size late j (step_by_of body_failed_of) = 0
reply_size late j (step_by_of abort_acknowledged_of) = 0
reply_size late j (step_by_of (password_given_of p)) = 0
reply_size late j (step_by_of (nonce_given_of n l)) = 0
reply_size late j (step_by_of (connections_closed_of l)) = 0

-- No reply is over 65,535 bytes.
abbrev pub RepliesFrom : Late → Journal → List Fed → Type 0
RepliesFrom late j [] = Unit {0}
RepliesFrom late j (f ∷ fs) = (reply_size late j f ≤ 65535) × RepliesFrom (late_after late j f) (journal_step j f).next fs

-- The same from a start.
abbrev pub Replies : Journal → List Fed → Type 0
Replies j fs = RepliesFrom (λ c. 0) j fs
