-- The reply to a Connect as the code has it: places in the packet, numbers, and bytes piece by piece. proofs/ConnectBytes says that the
-- pieces are the bytes of `connect_headers`.
use Rattle.std.specs.Prelude.{◌≡◌, ℕ, ◌+◌, ◌-◌, ◌≤◌, Bool, true, false, List, [], ◌∷◌, ◌++◌, length, ◌==◌, Option as Maybe, Some, None}
use Rattle.std.proofs.Math.Option.{Option, none, some}
use Rattle.base.specs.Pick.{pick}
use Rattle.base.specs.Bytes.{bytes32}
use Rattle.base.specs.Place.{Place}
use Rattle.digest.specs.Md5.{octets16}
use Rattle.packet.specs.Limits.{max_packet}
use Rattle.packet.specs.HeaderIds as header_id
use Rattle.packet.specs.Modes as modes
use Rattle.packet.specs.Header.{Header, header_at_of, read_headers, first, first_place, part, bytes_of}
use Rattle.packet.specs.HeaderList.{readable_from}
use Rattle.packet.specs.HeaderWriter.{header}
use Rattle.packet.specs.Tags.{write_tags}
use Rattle.packet.specs.Placed.{laid}
use Rattle.packet.specs.Auth.{Challenge as PeerChallenge, realm_place, response_tags}
use Rattle.packet.specs.AuthRead.{Named, challenge_read, read_challenge, verifies}
use Rattle.packet.specs.declared.header.HeaderAt.{HeaderAt}
use Rattle.packet.specs.declared.header.HeaderAt.TheVariants.{At, Unreadable, End}
use Rattle.packet.specs.declared.auth.DigestChallenge.{DigestChallenge}
use Rattle.packet.specs.declared.auth.DigestResponse.{DigestResponse}
use Rattle.journal.specs.Calls.{Credentials}
use Rattle.journal.specs.Journal.{list_of}
use Rattle.connection.specs.Peer.{ConnectionId, Challenge}
use Rattle.connection.specs.ConnectReply.{challenges, answered_challenge}

-- ---- what is read

-- The headers from a place on; none if they cannot all be read.
abbrev pub headers_from : List ℕ → ℕ → List Header
headers_from s from = list_of (read_headers s from)

-- Where the value of the first header with an id stands, among headers that can all be read.
unfoldable pub first_in : ℕ → List ℕ → ℕ → Place
first_in id s from = pick (readable_from s from) (first_place id s from) None

-- The challenges could all be read.
abbrev pub is_known : Option (List PeerChallenge) → Bool
is_known none = false
is_known (some cs) = true

-- The headers and the challenges among them can all be read.
abbrev pub known_in : Option (List Header) → Bool
known_in none = false
known_in (some hs) = is_known (challenges hs)

-- A challenge could be read.
abbrev pub is_challenge : Maybe DigestChallenge → Bool
is_challenge None = false
is_challenge (Some c) = true

-- A header is no challenge, or one that can be read.
abbrev pub known_header : ℕ → List ℕ → Bool
known_header id v = pick (id == header_id.authenticate_challenge) (is_challenge (read_challenge v)) true

-- Where the realm stands in the tag list of a challenge.
abbrev pub realm_of : Option (List ℕ) → Place
realm_of none = None
realm_of (some v) = realm_place v

-- The challenge that is answered, with its realm's place in its tag list.
unfoldable pub answered_in : List Header → Maybe DigestChallenge
answered_in hs = challenge_read (answered_challenge hs) (realm_of (first header_id.authenticate_challenge hs))

-- The nonce of a challenge.
abbrev pub nonce_of : Maybe DigestChallenge → Named
nonce_of None = None
nonce_of (Some c) = Some c.nonce

-- The nonce of the challenge that is answered, if there are credentials to answer it.
abbrev pub nonce_for : Bool → List Header → Named
nonce_for has hs = pick has (nonce_of (answered_in hs)) None

-- The Target that Who gives back, if the answer has no Who.
abbrev pub who_place : Place → Place → Place
who_place target None = target
who_place target (Some p) = None

-- Where a header ends.
abbrev pub end_of : HeaderAt → ℕ
end_of (At id e from to) = to
end_of Unreadable = 0
end_of End = 0

-- Where Who goes: behind the id in front, or behind the first header.
abbrev pub cut_at : ConnectionId → List ℕ → ℕ
cut_at (Some i) s = 0
cut_at None s = end_of (header_at_of s 0)

-- ---- the check of a password

-- The check of a password (verify_client): without a stored challenge, a readable response or a password it fails, and without a user id if
-- the server `demands` one.
abbrev pub check_of : Challenge → Maybe DigestResponse → Bool → Option (List ℕ) → Bool
check_of None r demands p = false
check_of (Some n) None demands p = false
check_of (Some n) (Some r) demands none = false
check_of (Some n) (Some r) demands (some p) = verifies n r.digest r.user r.nonce demands p

-- ---- the bytes

-- The bytes of the ConnectionID in front.
abbrev pub id_bytes : ConnectionId → List ℕ
id_bytes None = []
id_bytes (Some i) = bytes_of (header header_id.connection_id (bytes32 i))

-- The bytes of Who.
abbrev pub who_bytes : Option (List ℕ) → List ℕ
who_bytes none = []
who_bytes (some t) = bytes_of (header header_id.who t)

-- The bytes of the answer to the peer's challenge.
abbrev pub answer_bytes : Named → Option (List ℕ) → List ℕ → List ℕ
answer_bytes None user password = []
answer_bytes (Some n) user password = bytes_of (header header_id.authenticate_response (write_tags (response_tags (octets16 n) user password)))

-- The bytes of the header that grants Single Response Mode (SRM).
abbrev pub grant_bytes : Bool → List ℕ
grant_bytes false = []
grant_bytes true = bytes_of (header header_id.single_response_mode (modes.enable ∷ []))

-- The answer's headers, with the id in front and Who in the second place.
unfoldable pub named_bytes : ConnectionId → Option (List ℕ) → List ℕ → List ℕ
named_bytes f who s = id_bytes f ++ part s 0 (cut_at f s) ++ who_bytes who ++ part s (cut_at f s) (length s)

-- The answer to the peer's challenge, and SRM.
unfoldable pub added_bytes : Named → Option (List ℕ) → List ℕ → Bool → List ℕ
added_bytes n user password srm = answer_bytes n user password ++ grant_bytes srm

-- The bytes have room at `at` of a reply store.
pub record Room (y : List ℕ) (at : ℕ) (bytes : List ℕ) : Type 0 where
  pub small : at + length bytes ≤ max_packet
  pub store : max_packet ≤ length y

-- The bytes stand at `at`, up to `next`.
pub record Puts (y : List ℕ) (at : ℕ) (bytes : List ℕ) (next : ℕ) (z : List ℕ) : Type 0 where
  pub next_is : next ≡ at + length bytes
  pub store : z ≡ laid y at bytes

-- The host's header bytes: all of them, or none if they cannot all be read.
abbrev pub readable : List ℕ → List ℕ
readable s = pick (readable_from s 0) s []

-- ---- their lengths

-- How many bytes the ConnectionID in front takes.
abbrev pub id_size : ConnectionId → ℕ
id_size None = 0
id_size (Some i) = 5

-- How many bytes Who takes.
abbrev pub who_size : Place → ℕ
who_size None = 0
who_size (Some p) = 3 + (p.end - p.start)

-- How many bytes the answer to the peer's challenge takes.
abbrev pub answer_size : Named → Bool → ℕ → ℕ
answer_size None has n = 0
answer_size (Some m) has n = 39 + pick has (2 + n) 0

-- How many bytes all the headers take.
abbrev pub size_of : ConnectionId → Place → ℕ → Named → Bool → ℕ → Bool → ℕ
size_of f who n m has u srm = id_size f + n + who_size who + answer_size m has u + pick srm 2 0

-- A place that starts before it ends, within 65,535 bytes.
abbrev pub Ordered : Place → Type 0
Ordered None = Unit {0}
Ordered (Some p) = (p.start ≤ p.end) × (p.end ≤ max_packet)

-- A place that lies inside some bytes.
abbrev pub Inside : List ℕ → Place → Type 0
Inside s None = Unit {0}
Inside s (Some p) = (p.start ≤ p.end) × (p.end ≤ length s)

-- The credentials that the host gives.
abbrev pub credentials_of : Bool → Option (List ℕ) → List ℕ → Option Credentials
credentials_of false user password = none
credentials_of true user password = some (record { user = user; password = password })

-- The id that goes in front.
abbrev pub id_given : ConnectionId → Option ℕ
id_given None = none
id_given (Some i) = some i
