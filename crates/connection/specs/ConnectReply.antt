-- The reply to a Connect (docs/PROTOCOL.md#connect; the source's handle_connect): the host's headers, with a ConnectionID in front and Who
-- second for a Target if they are missing, then the answer to the peer's challenge, then SingleResponseMode.
use Rattle.std.specs.Prelude.{ℕ, Bool, true, false, List, [], ◌∷◌, ◌++◌, ◌==◌}
use Rattle.std.proofs.Math.Option.{Option, none, some}
use Rattle.base.specs.Pick.{pick}
use Rattle.base.specs.Bytes.{bytes32}
use Rattle.packet.specs.HeaderIds as header_id
use Rattle.packet.specs.Modes as modes
use Rattle.packet.specs.Header.{Header, first}
use Rattle.packet.specs.HeaderWriter.{header}
use Rattle.packet.specs.Tags.{write_tags}
use Rattle.packet.specs.Auth.{Challenge, challenge_of, challenge_tags, response_tags}
use Rattle.journal.specs.Calls.{Credentials}

-- ---- the peer's challenges

-- A challenge in front of others; `none` if any is unreadable.
abbrev pub push_challenge : Option Challenge → Option (List Challenge) → Option (List Challenge)
push_challenge none cs = none
push_challenge (some c) none = none
push_challenge (some c) (some cs) = some (c ∷ cs)

-- All challenges among some headers; `none` if any is unreadable.
unfoldable pub challenges : List Header → Option (List Challenge)
challenges [] = some []
challenges (h ∷ hs) = pick (h.id == header_id.authenticate_challenge) (push_challenge (challenge_of h.value) (challenges hs)) (challenges hs)

-- The first of some challenges.
abbrev pub first_of : Option (List Challenge) → Option Challenge
first_of none = none
first_of (some []) = none
first_of (some (c ∷ cs)) = some c

-- The challenge that is answered: the first, if all can be read.
unfoldable pub answered_challenge : List Header → Option Challenge
answered_challenge hs = first_of (challenges hs)

-- ---- the headers

-- A header put into the second place.
abbrev pub second : Header → List Header → List Header
second x [] = x ∷ []
second x (h ∷ hs) = h ∷ (x ∷ hs)

-- A ConnectionID in front of some headers, if there is one.
abbrev pub with_id : Option ℕ → List Header → List Header
with_id none hs = hs
with_id (some id) hs = header header_id.connection_id (bytes32 id) ∷ hs

-- Who, with the Target's bytes, in the second place, if there is a Target and the host gave no Who.
abbrev pub who_for : Option (List ℕ) → Option (List ℕ) → List Header → List Header
who_for none who hs = hs
who_for (some t) none hs = second (header header_id.who t) hs
who_for (some t) (some w) hs = hs

-- The answer to the peer's challenge, if the host has credentials.
abbrev pub answer_with : Option Challenge → Option Credentials → List Header
answer_with none c = []
answer_with (some ch) none = []
answer_with (some ch) (some c) = header header_id.authenticate_response (write_tags (response_tags ch.nonce c.user c.password)) ∷ []

-- The header that grants Single Response Mode (SRM).
abbrev pub grant : Bool → List Header
grant false = []
grant true = header header_id.single_response_mode (modes.enable ∷ []) ∷ []

-- The headers of the reply, by the id in front, the request's headers, the host's, the credentials, and whether SRM is granted.
unfoldable pub connect_headers : Option ℕ → List Header → List Header → Option Credentials → Bool → List Header
connect_headers id request answer credentials srm =
    (who_for (first header_id.target request) (first header_id.who answer) (with_id id answer) ++ answer_with (answered_challenge request) credentials) ++ grant srm

-- ---- the challenge that is sent

-- The header with a challenge that the engine sends.
unfoldable pub challenge_header : List ℕ → ℕ → Option (List ℕ) → Header
challenge_header nonce options realm = header header_id.authenticate_challenge (write_tags (challenge_tags nonce options realm))
