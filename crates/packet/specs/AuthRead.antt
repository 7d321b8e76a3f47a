-- What the readers of digest authentication give (docs/PROTOCOL.md#digest): the values of Auth as numbers, and the places of the bytes that
-- stay where they are.
use Rattle.std.specs.Prelude.{ℕ, ◌-◌, List, [], ◌∷◌, Bool, true, false, not, ◌&&◌, ◌||◌, length, get_or, take, drop, eqb, ltb, Option as Maybe, Some, None}
use Rattle.std.proofs.Math.Option.{Option, none, some}
use Rattle.base.specs.Pick.{pick}
use Rattle.base.specs.Place.{Place}
use Rattle.digest.specs.Md5.{octets16, numbers16}
use Rattle.digest.specs.declared.md5.Octets16.{Octets16}
use Rattle.packet.specs.declared.auth.DigestResponse.{DigestResponse}
use Rattle.packet.specs.declared.auth.DigestChallenge.{DigestChallenge}
use Rattle.packet.specs.Tags.{Tag, Tags, unreadable, tag_list, tags, last_value}
use Rattle.packet.specs.Auth.{Response, Challenge, response_of, challenge_of, realm_place, user_id_required_of, read_only_of, matches}

-- ---- the response

-- The nonce that a response names, if it names one.
abbrev pub Named : Type 0
Named = Maybe Octets16

-- The nonce that a response names, as two numbers.
abbrev pub named_of : Option (List ℕ) → Named
named_of none = None
named_of (some n) = Some (numbers16 n)

-- The bytes of the nonce that a response names.
abbrev pub bytes_named : Named → Option (List ℕ)
bytes_named None = none
bytes_named (Some n) = some (octets16 n)

-- A response that can be read: its digest, the place of its user id, and the nonce that it names.
abbrev pub digest_response : Octets16 → Place → Named → Maybe DigestResponse
digest_response d u n = Some (record { digest = d; user = u; nonce = n })

-- The response that was read, with the place of its user id.
abbrev pub response_read : Option Response → Place → Maybe DigestResponse
response_read none u = None
response_read (some r) u = digest_response (numbers16 r.digest) u (named_of r.nonce)

-- The response that a payload says; the user id stands where the last tag 1 does.
unfoldable pub read_response : List ℕ → Maybe DigestResponse
read_response v = response_read (response_of v) (last_value v 1)

-- ---- the challenge

-- A challenge that can be read: its nonce, its two options, and the place of its realm.
abbrev pub digest_challenge : Octets16 → Bool → Bool → Place → Maybe DigestChallenge
digest_challenge n u r p = Some (record { nonce = n; user_id_required = u; read_only = r; realm = p })

-- The challenge that was read, with the place of its realm.
abbrev pub challenge_read : Option Challenge → Place → Maybe DigestChallenge
challenge_read none r = None
challenge_read (some c) r = digest_challenge (numbers16 c.nonce) (user_id_required_of c.options) (read_only_of c.options) r

-- The challenge that a payload says, and where its realm stands, the charset byte included.
unfoldable pub read_challenge : List ℕ → Maybe DigestChallenge
read_challenge v = challenge_read (challenge_of v) (realm_place v)

-- ---- parts of them

-- A tag is not tag 0, or its value is 16 bytes long.
abbrev pub sixteen_or : ℕ → ℕ → Bool
sixteen_or t n = not (eqb t 0) || eqb n 16

-- Each tag 0 of the list, a response's digest or a challenge's nonce, is 16 bytes long.
unfoldable pub all_sixteen : List Tag → Bool
all_sixteen [] = true
all_sixteen (t ∷ ts) = sixteen_or t.tag (length t.value) && all_sixteen ts

-- The tags can be read, and each tag 0 is 16 bytes long.
abbrev pub sixteen_in : Tags → Bool
sixteen_in unreadable = false
sixteen_in (tag_list ts) = all_sixteen ts

-- The 16 bytes at a place as two numbers; a value of another length is missing.
abbrev pub sixteen_at : List ℕ → Place → Named
sixteen_at v None = None
sixteen_at v (Some p) = pick (eqb (p.end - p.start) 16) (Some (numbers16 (take 16 (drop p.start v)))) None

-- The last value under tag 0, a response's digest or a challenge's nonce, if each tag 0 is 16 bytes long.
unfoldable pub tag_zero : List ℕ → Named
tag_zero v = pick (sixteen_in (tags v)) (sixteen_at v (last_value v 0)) None

-- The options at a place: the first byte of the value, 0 if it is empty.
abbrev pub options_at : List ℕ → Place → ℕ
options_at v None = 0
options_at v (Some p) = pick (ltb p.start p.end) (get_or v p.start 0) 0

-- ---- the check

-- A value was found and is not empty.
abbrev pub is_filled : Place → Bool
is_filled None = false
is_filled (Some p) = ltb p.start p.end

-- The check of a response by numbers: its digest, the place of its user id, and the nonce that it names, if it names one.
abbrev pub verifies : Octets16 → Octets16 → Place → Named → Bool → List ℕ → Bool
verifies n d user named demands password =
    (not demands || is_filled user) && matches (octets16 n) (record { digest = octets16 d; user = none; nonce = bytes_named named }) password
