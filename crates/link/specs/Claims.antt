-- What holds of a Put and of a Get over a reliable stream, for every run (docs/PROTOCOL.md#link). The server is the model of this project,
-- with any settings and any answers of its host that keep to `Plain`.
use Rattle.std.specs.Prelude.{ℕ, ◌≤◌, ◌-◌, ◌≡◌, List, [], ◌∷◌, ◌++◌, Bool, true, false, ◌&&◌, ◌||◌, not, ◌⊎◌, length, ltb, eqb, Some, None}
use Rattle.std.proofs.Math.Option.{Option, none, some}
use Rattle.base.specs.Pick.{pick}
use Rattle.packet.specs.Limits.{max_packet}
use Rattle.packet.specs.ResponseCodes as response
use Rattle.packet.specs.HeaderIds as header_id
use Rattle.packet.specs.Codes.{is_success, sent_code}
use Rattle.packet.specs.Header.{Header, read_headers, first, bytes_of}
use Rattle.packet.specs.ResponsePacket.{ResponsePacket, response_packet}
use Rattle.packet.specs.Packet.{Request}
use Rattle.packet.specs.declared.opcode.Opcode.TheVariants as op
use Rattle.journal.specs.Record.{Record, is_body, is_srm}
use Rattle.journal.specs.Calls.{Call, bytes_offered_of, stream_ended_of, reply_taken_of, reply_given_of, object_given_of, body_given_of, body_failed_of, abort_acknowledged_of, password_given_of, nonce_given_of, credentials_given_of, connections_closed_of}
use Rattle.journal.specs.Journal.{list_of, Journal, admitted, trails, journal_after}
use Rattle.journal.specs.PutForm.{is_trailing}
use Rattle.journal.specs.Ids.{member}
use Rattle.connection.specs.Peer.{at_least255, ids_of, id_in, ConnectionId}
use Rattle.server.specs.declared.Settings.{Settings as ServerSettings}
use Rattle.server.specs.declared.Outcome.TheVariants as told
use Rattle.model.specs.Runs.{State, Started, Octets}
use Rattle.model.specs.Theorem.{journal_of, fed}
use Rattle.client_model.specs.Leading.{leading_headers, leading}
use Rattle.client_model.specs.Step.{capacity_of}
use Rattle.client_model.specs.Answer.{is_connecting}
use Rattle.client_model.specs.Guard.{any_of, short, awaiting}
use Rattle.client_model.specs.Calls.{started}
use Rattle.client_model.specs.declared.Settings.{Settings}
use Rattle.client_model.specs.declared.Await.TheVariants as await
use Rattle.client_model.specs.declared.Client.{Client}
use Rattle.client_model.specs.declared.End.{End}
use Rattle.client_model.specs.declared.End.TheVariants as end
use Rattle.client_model.specs.declared.Outcome.TheVariants as said
use Rattle.link.specs.Link.{Link, UserCall, connect, get, disconnect, put, body, abort, partTaken, Move, user, host, sendUp, sendDown, offerUp, offerDown, closeUp, closeDown, reply_bytes, move, moves, performed_in}
use Rattle.link.specs.Told.{is_over, code_said, succeeded, goes, given_in, aborted_in, final_in, records_in, asked_in, answer_in, is_accepted, reply_part, object_in, last_reply_in, is_whole, parts_in}

-- ---- premises

-- No header of the host is a body header or one of Single Response Mode.
abbrev pub is_plain : List ℕ → Bool
is_plain hs = not (any_of (λ (h : Header). is_body h.id || is_srm h.id) (list_of (read_headers hs 0)))

-- The host's answers are of bytes, and it sends no such header and no reply Continue.
abbrev pub PlainCall : Call → Type 0
PlainCall (reply_given_of code hs) = Octets hs × (is_plain hs ≡ true) × (eqb code response.continue ≡ false)
PlainCall (object_given_of hs b) = Octets hs × (is_plain hs ≡ true)
PlainCall (body_given_of d) = Octets d
PlainCall (bytes_offered_of i) = Unit {0}
PlainCall stream_ended_of = Unit {0}
PlainCall reply_taken_of = Unit {0}
PlainCall body_failed_of = Unit {0}
PlainCall abort_acknowledged_of = Unit {0}
PlainCall (password_given_of p) = Unit {0}
PlainCall (nonce_given_of n realm) = Unit {0}
PlainCall (credentials_given_of c) = Unit {0}
PlainCall (connections_closed_of l) = Unit {0}

-- What the user gives are bytes.
abbrev pub PlainUser : UserCall → Type 0
PlainUser (connect hs) = Octets hs
PlainUser (get hs) = Octets hs
PlainUser (disconnect hs) = Octets hs
PlainUser (put hs has) = Octets hs
PlainUser (body d) = Octets d
PlainUser abort = Unit {0}
PlainUser partTaken = Unit {0}

-- The same of a move.
abbrev pub PlainMove : Move → Type 0
PlainMove (user u) = PlainUser u
PlainMove (host c) = PlainCall c
PlainMove sendUp = Unit {0}
PlainMove sendDown = Unit {0}
PlainMove (offerUp n) = Unit {0}
PlainMove (offerDown n) = Unit {0}
PlainMove closeUp = Unit {0}
PlainMove closeDown = Unit {0}

-- The same of a run.
abbrev pub Plain : List Move → Type 0
Plain [] = Unit {0}
Plain (m ∷ ms) = PlainMove m × Plain ms

-- Two ends that have just started, and nothing on the stream. The packet limit of each is a number of 16 bits, as its field in the settings.
pub record Fresh (st : ServerSettings) (cs : Settings) (l : Link) : Type 0 where
  pub server : Started st l.server
  pub client : l.client ≡ started cs
  pub server-limit : st.max_packet_length ≤ max_packet
  pub client-limit : cs.max_packet_length ≤ max_packet
  pub room : short l.stores ≡ false
  pub said : l.said ≡ said.Ready
  pub told : l.told ≡ told.WantsBytes
  pub up : l.up ≡ []
  pub down : l.down ≡ []

-- Whether the client is connected after a move, if it was `b` before: a Connect that the server accepts connects it, and a Disconnect ends
-- that.
abbrev pub connected_by : Bool → Link → Move → Bool
connected_by b l (offerDown n) = b || (is_connecting l.client.operation && succeeded (move l (offerDown n)).said)
connected_by b l (user (disconnect hs)) = b && not (goes l (disconnect hs))
connected_by b l (user (connect hs)) = b
connected_by b l (user (get hs)) = b
connected_by b l (user (put hs has)) = b
connected_by b l (user (body d)) = b
connected_by b l (user abort) = b
connected_by b l (user partTaken) = b
connected_by b l (host c) = b
connected_by b l sendUp = b
connected_by b l sendDown = b
connected_by b l (offerUp n) = b
connected_by b l closeUp = b
connected_by b l closeDown = b

-- Whether the client is connected after a run.
abbrev pub connected_in : Bool → Link → List Move → Bool
connected_in b l [] = b
connected_in b l (m ∷ ms) = connected_in (connected_by b l m) (move l m) ms

-- The ConnectionID that a response to a Connect gives, if the response accepts; else the one from before.
abbrev pub named_in : Option ResponsePacket → ConnectionId → ConnectionId
named_in none i = i
named_in (some r) i = pick (is_success r.code) (id_in (first header_id.connection_id r.headers)) i

-- The ConnectionID that the server has given once a move was made, if it was `i` before: that of the reply to the last Connect that it
-- accepted, as the reply went onto the stream, and none from a Disconnect on.
abbrev pub named_by : ConnectionId → Link → Move → ConnectionId
named_by i l sendDown =
    pick (is_connecting l.client.operation) (named_in (response_packet true (reply_bytes l.told l.server.stores.reply)) i) i
named_by i l (user (disconnect hs)) = pick (goes l (disconnect hs)) None i
named_by i l (user (connect hs)) = i
named_by i l (user (get hs)) = i
named_by i l (user (put hs has)) = i
named_by i l (user (body d)) = i
named_by i l (user abort) = i
named_by i l (user partTaken) = i
named_by i l (host c) = i
named_by i l sendUp = i
named_by i l (offerUp n) = i
named_by i l (offerDown n) = i
named_by i l closeUp = i
named_by i l closeDown = i

-- The ConnectionID that the server has given after a run.
abbrev pub named_after : ConnectionId → Link → List Move → ConnectionId
named_after i l [] = i
named_after i l (m ∷ ms) = named_after (named_by i l m) (move l m) ms

-- The server has this ConnectionID open, if it is one.
abbrev pub is_open_of : ConnectionId → State → Bool
is_open_of None s = true
is_open_of (Some i) s = member i (ids_of s.engine.peer s.tables)

-- The run is passed on to the end: the operation is over with its last move, and not before.
abbrev pub Until : Link → List Move → Type 0
Until l [] = ⊥
Until l (m ∷ []) = is_over (move l m).said ≡ true
Until l (m ∷ n ∷ ms) = (is_over (move l m).said ≡ false) × Until (move l m) (n ∷ ms)

-- ---- admission, by the journal of the server's calls

-- The headers at the front that fit into so many bytes.
unfoldable pub fitting : ℕ → List Header → List Header
fitting room [] = []
fitting room (h ∷ hs) = pick (ltb room (length (bytes_of h))) [] (h ∷ fitting (room - length (bytes_of h)) hs)

-- The first packet of a Put with the header bytes `hs`, as far as admission looks at it.
abbrev pub first_put : Client → List ℕ → Request
first_put c hs =
    let lead = leading c.connection_id c.settings.srm_wanted in
    record {
      opcode = op.Put;
      final = false;
      bytes = [];
      headers =
          leading_headers c.connection_id c.settings.srm_wanted ++ fitting (capacity_of c - length lead) (list_of (read_headers hs 0));
    }

-- The server admits a Put whose first packet is `r`. What trails a Put that was too long is refused before that (docs/PROTOCOL.md#trailing).
abbrev pub is_admitted : Journal → Request → Bool
is_admitted j r = admitted j.settings j.standing r && not (is_trailing j.opened && trails r)

-- The journal of the server's calls in a run from two fresh ends.
abbrev pub journal_in : ServerSettings → Link → List Move → Journal
journal_in st l ms = journal_after (journal_of st) (fed st l.server (performed_in l ms))

-- ---- the ConnectionID

-- The claim, after any run of two fresh ends, whenever the client awaits an operation: its ConnectionID is the one that the server gave in
-- its reply to the last Connect that it accepted, and the server has it open.
abbrev pub Names : Type 0
Names =
    (st : ServerSettings) (cs : Settings) (l : Link) (ms : List Move) → Fresh st cs l → Plain ms → awaiting (moves l ms).client await.Call ≡ true
    → ((moves l ms).client.connection_id ≡ named_after None l ms) × (is_open_of (moves l ms).client.connection_id (moves l ms).server ≡ true)

-- ---- a Put

-- Exactly the headers, behind any ConnectionID, and the bytes that were given, or none if the Put has no body.
abbrev pub record_of : ConnectionId → List ℕ → Bool → List ℕ → Record
record_of id hs has given = record { headers = leading id false ++ hs; body = pick has (some given) none }

-- What holds at the end of an operation, from the link `l` in which it was called, by the run `ms`.
pub record EndHolds (l : Link) (ms : List Move) : Type 0 where
  -- The code that the client reports is that of the server's last reply, and it is final.
  pub code : (c : ℕ) → code_said (moves l ms).said ≡ some c
      → (last_reply_in l ms ≡ some (sent_code c)) × (eqb c response.continue ≡ false)
  -- The client ends only if the server did: every response could be read.
  pub number : (x : End) → (moves l ms).said ≡ said.End x → x ≡ end.Disconnected

-- What holds of a Put with the headers `hs`, with a body or without, that was called in the link `before` and led to `l`. The journal is
-- that of the server's calls up to then.
pub record PutHolds (st : ServerSettings) (cs : Settings) (j : Journal) (before l : Link) (hs : List ℕ) (has : Bool) (ms : List Move) : Type 0 where
  -- The host gets one record of exactly what was given to the client, or none.
  pub one : (records_in l ms ≡ record_of before.client.connection_id hs has (given_in l ms) ∷ []) ⊎ (records_in l ms ≡ [])
  -- An admitted Put within the Put limit, not aborted, gives the record, if its kept headers are within 65,535 bytes.
  pub gives : is_admitted j (first_put before.client hs) ≡ true → length (given_in l ms) ≤ st.max_object_size → aborted_in l ms ≡ false
      → length (leading before.client.connection_id false ++ hs) ≤ max_packet
      → records_in l ms ≡ record_of before.client.connection_id hs has (given_in l ms) ∷ []
  -- The client reports success exactly if the host accepts with a reply within the client's limit.
  pub success : succeeded (moves l ms).said ≡ is_accepted (at_least255 cs.max_packet_length) (answer_in l ms)
  -- So success is reported only of a record that the host got whole.
  pub sure : succeeded (moves l ms).said ≡ true
      → records_in l ms ≡ record_of before.client.connection_id hs has (given_in l ms) ∷ []
  -- A Put that was aborted gives no record.
  pub aborted : aborted_in l ms ≡ true → records_in l ms ≡ []
  -- An Abort goes at every moment before the final packet is sent, if none went before.
  pub free : (xs ys : List Move) → ms ≡ xs ++ ys → is_over (moves l xs).said ≡ false → aborted_in l xs ≡ false → final_in l xs ≡ false
      → goes (moves l xs) abort ≡ true
  pub ends : EndHolds l ms

-- The claim, after any run of two fresh ends with an accepted Connect: a Put, passed on to its end.
abbrev pub Puts : Type 0
Puts =
    (st : ServerSettings) (cs : Settings) (l : Link) (before ms : List Move) (hs : List ℕ) (has : Bool) → Fresh st cs l
    → Plain before → Plain (user (put hs has) ∷ ms) → connected_in false l before ≡ true
    → goes (moves l before) (put hs has) ≡ true → Until (move (moves l before) (user (put hs has))) ms
    → PutHolds st cs (journal_in st l before) (moves l before) (move (moves l before) (user (put hs has))) hs has ms

-- ---- a Get

-- What holds of a Get with the headers `hs` that was called in the link `before`, led to `l` and was not aborted.
pub record GetHolds (cs : Settings) (before l : Link) (hs : List ℕ) (ms : List Move) : Type 0 where
  -- The host is asked once, with exactly the headers behind any ConnectionID, or not at all.
  pub asked : (asked_in l ms ≡ (leading before.client.connection_id false ++ hs) ∷ []) ⊎ (asked_in l ms ≡ [])
  -- The client reports success exactly if an object was sent to its end, or if the host accepts with a reply within the client's limit.
  pub success : succeeded (moves l ms).said
      ≡ (is_whole (object_in l ms) (last_reply_in l ms) || is_accepted (at_least255 cs.max_packet_length) (answer_in l ms))
  -- The user was handed exactly the headers and the body of an object that was sent to its end.
  pub object : is_whole (object_in l ms) (last_reply_in l ms) ≡ true → object_in l ms ≡ some (parts_in l ms)
  -- The user was handed the headers of a reply that accepts.
  pub reply : is_accepted (at_least255 cs.max_packet_length) (answer_in l ms) ≡ true → parts_in l ms ≡ reply_part (answer_in l ms)
  pub ends : EndHolds l ms

-- The claim, after any run of two fresh ends with an accepted Connect: a Get, passed on to its end.
abbrev pub Gets : Type 0
Gets =
    (st : ServerSettings) (cs : Settings) (l : Link) (before ms : List Move) (hs : List ℕ) → Fresh st cs l
    → Plain before → Plain (user (get hs) ∷ ms) → connected_in false l before ≡ true
    → goes (moves l before) (get hs) ≡ true → Until (move (moves l before) (user (get hs))) ms
    → aborted_in (move (moves l before) (user (get hs))) ms ≡ false
    → GetHolds cs (moves l before) (move (moves l before) (user (get hs))) hs ms
