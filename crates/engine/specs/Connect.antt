-- Connect from its packet to its reply, and Disconnect, by the stores that they touch: the design level between model/specs/Connect and the
-- code.
use Rattle.std.specs.Prelude.{ℕ, ◌+◌, ◌^◌, ◌≤◌, ◌<◌, List, [], Bool, true, false, ◌&&◌, ◌||◌, length, take, leb, Some, None}
use Rattle.std.specs.Prelude.{Option as OrNone}
use Rattle.std.proofs.Math.Option.{Option, none, some}
use Rattle.std.specs.Int.Count.{ones}
use Rattle.base.specs.Pick.{pick}
use Rattle.base.specs.Place.{Place}
use Rattle.packet.specs.Codes.{is_success}
use Rattle.packet.specs.Header.{Header, first, first_place, all_bytes}
use Rattle.packet.specs.HeaderIds as header_id
use Rattle.packet.specs.Packet.{request_of, connect_limit}
use Rattle.packet.specs.declared.auth.DigestChallenge.{DigestChallenge}
use Rattle.journal.specs.Calls.{Credentials}
use Rattle.incoming.specs.Survey.{survey_of}
use Rattle.connection.specs.Reply.{fields_of, front}
use Rattle.connection.specs.Peer.{Linked, linked, id_in, target_asked, Answers, answer_by, disconnected_peer, checked_peer, verified_peer, limited, ConnectionId, Challenge}
use Rattle.connection.specs.ConnectReply.{connect_headers}
use Rattle.connection.specs.Pieces.{headers_from, answered_in, id_given}
use Rattle.connection.specs.declared.peer.Peer.{Peer}
use Rattle.connection.specs.declared.peer.Answer.{Answer}
use Rattle.journal.specs.Checks.{most_wrong}
use Rattle.journal.specs.Journal.{headers_of as headersIn}
use Rattle.model.specs.Step.{Stores, Stepped, stepped, stores}
use Rattle.model.specs.Connect.{srm_asked}
use Rattle.model.specs.Request.{realm_in, user_in}
use Rattle.model.specs.Guard.{long_user, same_await}
use Rattle.engine.specs.Step.{asks_plan, fields_plan, Written, written, took_by, replies_by}
use Rattle.engine.specs.Guard.{refused_with}
use Rattle.server.specs.declared.Operation.{Operation}
use Rattle.server.specs.declared.Operation.TheVariants.{Nothing, Trailing, Putting, Getting, Sending, Gathering as GatheringOp, Connecting, Draining}
use Rattle.server.specs.declared.Await.{Await}
use Rattle.server.specs.declared.Await.TheVariants as await
use Rattle.server.specs.declared.Refusal.TheVariants as refusal
use Rattle.server.specs.declared.Engine.{Engine}
use Rattle.server.specs.declared.HostRequest.{HostRequest}
use Rattle.server.specs.declared.HostRequest.TheVariants as request
use Rattle.server.specs.declared.CallResult.{CallResult}
use Rattle.engine.specs.declared.step.Plan.{Plan}
use Rattle.packet.specs.ResponseCodes as response
use Rattle.packet.specs.Auth.{Response, response_of}
use Rattle.engine.specs.declared.connect.Answered.{Answered}
use Rattle.engine.specs.declared.connect.Question.{Question}
use Rattle.engine.specs.declared.connect.Answered.TheVariants.{Missing, Unreadable, User}

-- The client's response can be read or not; `u` is the place of its user id.
abbrev pub answered_read : Option Response → Place → Answered
answered_read none u = Unreadable
answered_read (some r) u = User u

-- The header of the client's response is there or not.
abbrev pub answered_as : Option (List ℕ) → Place → Answered
answered_as none u = Missing
answered_as (some v) u = answered_read (response_of v) u

-- The engine takes the first AuthenticateResponse of packet `q` as the client's response.
abbrev pub answered_by : List ℕ → Answered
answered_by q = answered_as (first header_id.authenticate_response (headersIn (request_of q))) (user_in q (first_place header_id.authenticate_response q 7))

-- A place that is moved on by `n` stays below the largest number of 64 bits.
abbrev pub Below : ℕ → Place → Type 0
Below n None = Unit {0}
Below n (Some p) = (p.start ≤ p.end) × (n + p.end < 2 ^ 64)

-- Makes a `Question`.
abbrev pub asked : Await → HostRequest → Question
asked a r = record { awaits = a; request = r }

-- The engine asks the host for a nonce.
abbrev pub nonce_asked : Question
nonce_asked = asked await.Nonce request.Nonce

-- If a challenge is stored and the client's response can be read, the engine asks the host for the password. Otherwise it asks for a nonce.
abbrev pub verifies_by : Challenge → Answered → Question
verifies_by None a = nonce_asked
verifies_by (Some n) Missing = nonce_asked
verifies_by (Some n) Unreadable = nonce_asked
verifies_by (Some n) (User u) = asked await.Password (request.Password u)

-- What the host is asked about a Connect that is not stopped: the client is checked if a password is required, and else the host decides.
abbrev pub question_of : Bool → Challenge → Answered → ℕ → Question
question_of authentication c a n = pick authentication (verifies_by c a) (asked await.Connect (request.Connect n))

-- The engine asks a question.
abbrev pub question_plan : Engine → Peer → Question → Plan
question_plan e p q = asks_plan e p Nothing q.awaits q.request

-- The engine checks the client: it asks the host for the password, or for a nonce if there is no response that can be checked.
abbrev pub verifies_plan : Engine → Peer → Challenge → Answered → Plan
verifies_plan e p c a = question_plan e p (verifies_by c a)

-- A Connect carries a response, readable or not.
abbrev pub carries : Answered → Bool
carries Missing = false
carries Unreadable = true
carries (User u) = true

-- The engine stops a Connect that carries a response if the window has eight wrong checks or more (docs/PROTOCOL.md#eight-wrong).
unfoldable pub stops_by : ℕ → Answered → Bool
stops_by window a = leb most_wrong (ones window) && carries a

-- Once the peer's limit is set, the engine stops the Connect or checks the client if the settings require a password, and otherwise asks the
-- host about the Connect.
unfoldable pub limited_plan : Engine → Peer → Answered → Plan
limited_plan e p a =
    pick e.settings.authentication
    (pick (stops_by p.window a) (fields_plan e (checked_peer p false) response.service_unavailable) (verifies_plan e p p.challenge a))
    (asks_plan e p Nothing await.Connect (request.Connect e.length))

-- The engine sets the peer's limit before it looks at the password (docs/PROTOCOL.md#connect).
unfoldable pub connect_plan : Engine → List ℕ → Plan
connect_plan e q = limited_plan e (limited e.peer (connect_limit q)) (answered_by q)

-- If the password is right, the engine asks the host about the Connect. Otherwise it asks for a nonce, to challenge the client again. The
-- window gets the check's bit either way.
unfoldable pub password_plan : Engine → Bool → Plan
password_plan e right =
    pick right (asks_plan e (verified_peer (checked_peer e.peer false)) Nothing await.Connect (request.Connect e.length))
    (asks_plan e (checked_peer e.peer true) Nothing await.Nonce request.Nonce)

-- A call that answers a Connect returns `took` and leaves these bytes in the header and reply stores.
pub record Answering : Type 0 where
  pub took : CallResult
  pub headers : List ℕ
  pub reply : List ℕ

-- Makes an `Answering`.
abbrev pub answering : CallResult → List ℕ → List ℕ → Answering
answering r h y = record { took = r; headers = h; reply = y }

-- The call that takes the host's answer also leaves the open ids in the table store.
pub record Accepting : Type 0 where
  pub answer : Answering
  pub tables : List ℕ

-- Makes an `Accepting`.
abbrev pub accepting : Answering → List ℕ → Accepting
accepting a t = record { answer = a; tables = t }

-- The call leaves the header store as it was.
abbrev pub leaving : List ℕ → Written → Answering
leaving h w = answering w.took h w.reply

-- The call leaves the packet and body stores as they were.
abbrev pub among : Answering → Stores → Stepped
among a s = stepped a.took (stores s.packet a.headers s.body a.reply)

-- A packet that cannot be read has no headers.
abbrev pub headers_of : List ℕ → List Header
headers_of q = headersIn (request_of q)

-- Packet `q` asks for Single Response Mode (SRM), and the settings support it.
abbrev pub srm_asked_by : Engine → List ℕ → Bool
srm_asked_by e q = srm_asked e (survey_of (some (headers_of q)))

-- The engine replies with Connect's fields and the headers `hs`.
abbrev pub connect_replies : Engine → Peer → ℕ → List ℕ → List ℕ → Written
connect_replies e p code hs y = replies_by e p code (fields_of e.settings.max_packet_length) hs y

-- If the host accepts a Connect, the reply carries these headers: the id in front, Who, the host's own, the answer to a challenge, and SRM.
unfoldable pub accepted_headers : Engine → ConnectionId → List ℕ → List ℕ → Option Credentials → List ℕ
accepted_headers e f q hs c =
    all_bytes (connect_headers (id_given f) (headers_of q) (headers_from hs 0) c (srm_asked_by e q))

-- The host's answer `hs` to the Connect in `q` opens an id in the table store `t`.
unfoldable pub answer_for : Engine → List ℕ → List ℕ → List ℕ → Answers
answer_for e t hs q =
    answer_by e.peer t (e.peer.srm_enabled || srm_asked_by e q) (id_in (first header_id.connection_id (headers_from hs 0)))
    (target_asked (first header_id.target (headers_of q)))

-- If the client sent challenges that can all be read, the engine asks for credentials, and the host's headers wait in the header store.
abbrev pub challenged_by : OrNone DigestChallenge → Engine → Peer → ℕ → ConnectionId → List ℕ → List ℕ → List ℕ → List ℕ → Answering
challenged_by None e p code f hs q h y = leaving h (connect_replies e p code (accepted_headers e f q hs none) y)
challenged_by (Some c) e p code f hs q h y =
    answering
    (took_by (asks_plan e p (Connecting code f (length hs)) await.Credentials (request.Credentials c.nonce c.user_id_required c.read_only (realm_in q (first_place header_id.authenticate_challenge q 7)))))
    (front hs h)
    y

-- The engine answers a 65th id with 0x53.
abbrev pub opened_by : OrNone Answer → Engine → ℕ → List ℕ → List ℕ → List ℕ → List ℕ → Answering
opened_by None e code hs q h y = leaving h (connect_replies e e.peer response.service_unavailable [] y)
opened_by (Some a) e code hs q h y = challenged_by (answered_in (headers_of q)) e a.peer code a.front hs q h y

-- The engine answers a Connect that the host accepts, and leaves the table store as opening the id left it.
abbrev pub opened_in : Answers → Engine → ℕ → List ℕ → List ℕ → List ℕ → List ℕ → Accepting
opened_in a e code hs q h y = accepting (opened_by a.answer e code hs q h y) a.tables

-- The engine sends any answer to a Connect but success as it is.
unfoldable pub accepted_by : Engine → List ℕ → ℕ → List ℕ → List ℕ → List ℕ → List ℕ → Accepting
accepted_by e t code hs q h y =
    pick (is_success code) (opened_in (answer_for e t hs q) e code hs q h y) (accepting (leaving h (connect_replies e e.peer code hs y)) t)

-- A Disconnect closes its id before its reply is made; any other request leaves the ids as they were.
unfoldable pub replied_link : Engine → List ℕ → List ℕ → Linked
replied_link e q t = pick (same_await e.awaits await.Disconnect) (disconnected_peer e.peer t (first header_id.connection_id (headers_of q))) (linked e.peer t)

-- Credentials answer the Connect that waits, whose headers stand at the front of the header store. The engine refuses a user id over 255
-- bytes with `BadAnswer`, and the call with `WrongMoment` if no Connect waits.
abbrev pub credentials_by : Operation → Engine → Option Credentials → List ℕ → List ℕ → List ℕ → Written
credentials_by (Connecting code f n) e c q h y =
    pick (long_user c) (written (refused_with refusal.BadAnswer e) y) (connect_replies e e.peer code (accepted_headers e f q (take n h) c) y)
credentials_by Nothing e c q h y = written (refused_with refusal.WrongMoment e) y
credentials_by Trailing e c q h y = written (refused_with refusal.WrongMoment e) y
credentials_by (Putting g srm) e c q h y = written (refused_with refusal.WrongMoment e) y
credentials_by (Getting g srm confirm wait) e c q h y = written (refused_with refusal.WrongMoment e) y
credentials_by (Sending o k srm wait) e c q h y = written (refused_with refusal.WrongMoment e) y
credentials_by (GatheringOp o g) e c q h y = written (refused_with refusal.WrongMoment e) y
credentials_by (Draining code) e c q h y = written (refused_with refusal.WrongMoment e) y
