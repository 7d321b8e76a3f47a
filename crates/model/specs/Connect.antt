-- Connect, from its packet to its reply (the source's handle_connect and verify_client).
use Rattle.std.specs.Prelude.{ℕ, ◌+◌, ◌*◌, List, [], ◌∷◌, Bool, true, false, ◌&&◌, ◌||◌, length, leb, Some, None}
use Rattle.std.proofs.Math.Option.{Option, none, some}
use Rattle.std.specs.Int.Count.{ones}
use Rattle.base.specs.Pick.{pick}
use Rattle.digest.specs.Md5.{octets16, numbers16}
use Rattle.digest.specs.declared.md5.Octets16.{Octets16}
use Rattle.packet.specs.HeaderIds as header_id
use Rattle.packet.specs.ResponseCodes as response
use Rattle.packet.specs.Codes.{is_success, sent_code}
use Rattle.packet.specs.Header.{Header, read_headers, first, first_place, bytes_of, all_bytes}
use Rattle.packet.specs.Packet.{connect_limit, packet_bytes}
use Rattle.packet.specs.Auth.{Challenge as PeerChallenge, Response, verified, user_id_required_of, read_only_of}
use Rattle.journal.specs.Calls.{Credentials}
use Rattle.journal.specs.Checks.{bit, most_wrong}
use Rattle.journal.specs.Journal.{list_of}
use Rattle.incoming.specs.Survey.{survey_of}
use Rattle.incoming.specs.declared.survey.Survey.{Survey}
use Rattle.connection.specs.Reply.{fields_of, front}
use Rattle.connection.specs.Peer.{Linked, isGiven, limited, checked_peer, verified_peer, challenged_peer, searched, opened_for, ConnectionId, Challenge}
use Rattle.connection.specs.ConnectReply.{answered_challenge, connect_headers, challenge_header}
use Rattle.connection.specs.Pieces.{id_given}
use Rattle.connection.specs.declared.peer.Peer.{Peer}
use Rattle.server.specs.declared.Settings.{Settings}
use Rattle.server.specs.declared.Operation.TheVariants.{Nothing, Connecting}
use Rattle.server.specs.declared.Await.TheVariants as await
use Rattle.server.specs.declared.Engine.{Engine}
use Rattle.server.specs.declared.HostRequest.{HostRequest}
use Rattle.server.specs.declared.HostRequest.TheVariants as request
use Rattle.model.specs.Step.{Stores, with_headers, Done, DoneTabled, done_tabled, asks, replies, sends_connect}
use Rattle.model.specs.Request.{last_packet, last_headers, client_response, user_place, realm_in}

-- If a challenge is stored and the client's response can be read, the host is asked for the password; otherwise for a nonce, to challenge
-- the client.
abbrev pub verifies : Engine → Peer → Challenge → Option Response → Stores → Done
verifies e p None r s = asks e p Nothing await.Nonce request.Nonce s
verifies e p (Some n) none s = asks e p Nothing await.Nonce request.Nonce s
verifies e p (Some n) (some r) s = asks e p Nothing await.Password (request.Password (user_place e s)) s

-- Whether a Connect with these headers is stopped: eight or more of the last 64 checks were wrong, and the Connect carries an
-- AuthenticateResponse, whether that can be read or not (docs/PROTOCOL.md#eight-wrong).
abbrev pub stops : Peer → List Header → Bool
stops p hs = leb most_wrong (ones p.window) && isGiven (first header_id.authenticate_response hs)

-- A reply of a code and no headers, with Connect's fields: seven bytes, which every peer can take.
abbrev pub replies_fields : Engine → Peer → ℕ → Stores → Done
replies_fields e p code s =
    replies e p Nothing await.Taken (packet_bytes (sent_code code) (fields_of e.settings.max_packet_length) []) s

-- A Connect packet. The client's packet limit is set before anything else is looked at; then comes the test for too many wrong passwords,
-- and then the password (docs/PROTOCOL.md#connect).
unfoldable pub connect_packet : Engine → Stores → Done
connect_packet e s =
    let p = limited e.peer (connect_limit (last_packet e s)) in
    pick e.settings.authentication
    (pick (stops p (last_headers e s)) (replies_fields e (checked_peer p false) response.service_unavailable s)
    (verifies e p p.challenge (client_response e s) s))
    (asks e p Nothing await.Connect (request.Connect e.length) s)

-- Whether the client asks for Single Response Mode (SRM) and the settings support it.
abbrev pub srm_asked : Engine → Survey → Bool
srm_asked e v = e.settings.srm_supported && v.enable

-- The reply to a Connect that the host has accepted.
unfoldable pub connect_sends : Engine → Peer → ℕ → ConnectionId → List Header → Option Credentials → Stores → Done
connect_sends e p code f answer c s =
    sends_connect e p code
    (all_bytes (connect_headers (id_given f) (last_headers e s) answer c (srm_asked e (survey_of (some (last_headers e s))))))
    s

-- The ConnectionID that the engine puts in front of the host's headers: a new one for a Target, if the host gave none.
abbrev pub front_for : Peer → List ℕ → Option (List ℕ) → Option (List ℕ) → ConnectionId
front_for p t (some v) target = None
front_for p t none none = None
front_for p t none (some v) = Some (searched p t)

-- What the host is told of the client's challenge.
abbrev pub credentials_for : List ℕ → PeerChallenge → HostRequest
credentials_for q c =
    request.Credentials (numbers16 c.nonce) (user_id_required_of c.options) (read_only_of c.options)
    (realm_in q (first_place header_id.authenticate_challenge q 7))

-- If the client sent challenges that can all be read, the host is asked for credentials, and its headers wait in the header store;
-- otherwise the reply is made.
abbrev pub connect_challenged : Engine → Peer → ℕ → ConnectionId → List ℕ → Option PeerChallenge → Stores → Done
connect_challenged e p code f hs none s = connect_sends e p code f (list_of (read_headers hs 0)) none s
connect_challenged e p code f hs (some c) s =
    asks e p (Connecting code f (length hs)) await.Credentials (credentials_for (last_packet e s) c) (with_headers s (front hs s.headers))

-- A 65th id gets 0x53 with Connect's fields, and the peer and the table store `t` stay as they were.
abbrev pub connect_opened : Engine → List ℕ → Option Linked → ℕ → ConnectionId → List ℕ → Stores → DoneTabled
connect_opened e t none code f hs s = done_tabled (sends_connect e e.peer response.service_unavailable [] s) t
connect_opened e t (some l) code f hs s =
    done_tabled (connect_challenged e l.peer code f hs (answered_challenge (last_headers e s)) s) l.tables

-- The host's answer to a Connect: any but success is sent as it is.
unfoldable pub connect_answer : Engine → ℕ → List ℕ → Stores → List ℕ → DoneTabled
connect_answer e code hs s t =
    let answer = first header_id.connection_id (list_of (read_headers hs 0)) in
    let target = first header_id.target (last_headers e s) in
    let srm = e.peer.srm_enabled || srm_asked e (survey_of (some (last_headers e s))) in
    pick (is_success code) (connect_opened e t (opened_for e.peer t srm answer target) code (front_for e.peer t answer target) hs s)
    (done_tabled (sends_connect e e.peer code hs s) t)

-- Whether a response must bring a user id: the settings say that one is required, and that a response without one fails.
abbrev pub demands_user : Settings → Bool
demands_user st = st.user_id_enforced && st.user_id_required

-- Whether the client is verified: a challenge is stored, the response can be read and brings a user id if the server `demands` one, and its
-- digest is that of the password (the source's verify_client).
abbrev pub checks : Challenge → Option Response → Bool → Option (List ℕ) → Bool
checks None r demands p = false
checks (Some n) none demands p = false
checks (Some n) (some r) demands none = false
checks (Some n) (some r) demands (some p) = verified demands (octets16 n) r p

-- What follows the check of a password, by what it said. If the client is verified, the host is asked about the Connect; otherwise for a
-- nonce, to challenge the client again. Either way the window has one check more (docs/PROTOCOL.md#eight-wrong).
unfoldable pub password_answered : Engine → Bool → Stores → Done
password_answered e right s =
    pick right (asks e (verified_peer (checked_peer e.peer false)) Nothing await.Connect (request.Connect e.length) s)
    (asks e (checked_peer e.peer true) Nothing await.Nonce request.Nonce s)

-- The host's answer to the request for a password.
unfoldable pub password_answer : Engine → Option (List ℕ) → Stores → Done
password_answer e p s = password_answered e (checks e.peer.challenge (client_response e s) (demands_user e.settings) p) s

-- The options of the server's challenges: bit 0 says that a user id is required, bit 1 that access is read only.
abbrev pub options_of : Settings → ℕ
options_of st = bit st.user_id_required + 2 * bit st.read_only

-- The realm of the server's challenges, if there is one: its charset and its bytes.
abbrev pub realm_of : Settings → List ℕ → Option (List ℕ)
realm_of st l = pick st.has_realm (some (st.charset ∷ l)) none

-- The reply with a new challenge: 0x41 with Connect's fields.
unfoldable pub nonce_answer : Engine → Octets16 → List ℕ → Stores → Done
nonce_answer e n l s =
    sends_connect e (challenged_peer e.peer n) response.unauthorized
    (bytes_of (challenge_header (octets16 n) (options_of e.settings) (realm_of e.settings l))) s
