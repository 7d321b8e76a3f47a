-- Digest authentication (IrOBEX 1.5, section 3.6): the tag lists of a challenge and of a response, and the check of a response. Of a
-- repeated tag the last holds; unknown tags are ignored.
use Rattle.std.specs.Prelude.{ℕ, ◌/◌, ◌%◌, List, [], ◌∷◌, ◌++◌, Bool, true, false, not, ◌&&◌, ◌||◌, length, get_or, eqb, ltb}
use Rattle.std.proofs.Math.Option.{Option, none, some}
use Rattle.base.specs.Pick.{pick}
use Rattle.base.specs.Place.{Place}
use Rattle.digest.specs.Md5.{request_digest}
use Rattle.packet.specs.Tags.{Tag, Tags, unreadable, tag_list, tags, last_under}

-- ---- the response: tag 0 the request digest, 1 the user id, 2 the nonce that it answers

-- What a digest-response says.
pub record Response : Type 0 where
  pub digest : List ℕ
  pub user : Option (List ℕ)
  pub nonce : Option (List ℕ)

-- The response at the end of its tags: a digest must have come.
abbrev pub response_end : Option (List ℕ) → Option (List ℕ) → Option (List ℕ) → Option Response
response_end none u n = none
response_end (some d) u n = some (record { digest = d; user = u; nonce = n })

-- The nonce that a response names. If the value is not 16 bytes long, the response names none.
abbrev pub named16 : List ℕ → Option (List ℕ)
named16 v = pick (eqb (length v) 16) (some v) none

-- The response that some tags say, after what came before them: digest, user id and nonce. A digest that is not 16 bytes long makes the
-- list unreadable.
unfoldable pub response_from : List Tag → Option (List ℕ) → Option (List ℕ) → Option (List ℕ) → Option Response
response_from [] d u n = response_end d u n
response_from (t ∷ ts) d u n =
    pick (eqb t.tag 0) (pick (eqb (length t.value) 16) (response_from ts (some t.value) u n) none)
    (pick (eqb t.tag 1) (response_from ts d (some t.value) n)
    (pick (eqb t.tag 2) (response_from ts d u (named16 t.value))
    (response_from ts d u n)))

-- The response that a tag list says, if it can be read.
abbrev pub response_in : Tags → Option Response
response_in unreadable = none
response_in (tag_list ts) = response_from ts none none none

-- The response that a payload says; `none` is unreadable.
unfoldable pub response_of : List ℕ → Option Response
response_of v = response_in (tags v)

-- ---- the challenge: tag 0 the nonce, 1 the options, 2 the realm, a charset byte and the text

-- What a digest-challenge says. The realm is a charset byte and the text.
pub record Challenge : Type 0 where
  pub nonce : List ℕ
  pub options : ℕ
  pub realm : Option (List ℕ)

-- The challenge at the end of its tags: a nonce must have come.
abbrev pub challenge_end : Option (List ℕ) → ℕ → Option (List ℕ) → Option Challenge
challenge_end none o r = none
challenge_end (some n) o r = some (record { nonce = n; options = o; realm = r })

-- The challenge that some tags say, after what came before them: nonce, options and realm. An empty realm is passed over; empty options are
-- 0.
unfoldable pub challenge_from : List Tag → Option (List ℕ) → ℕ → Option (List ℕ) → Option Challenge
challenge_from [] n o r = challenge_end n o r
challenge_from (t ∷ ts) n o r =
    pick (eqb t.tag 0) (pick (eqb (length t.value) 16) (challenge_from ts (some t.value) o r) none)
    (pick (eqb t.tag 1) (challenge_from ts n (get_or t.value 0 0) r)
    (pick (eqb t.tag 2) (challenge_from ts n o (pick (eqb (length t.value) 0) r (some t.value)))
    (challenge_from ts n o r)))

-- The challenge that a tag list says, if it can be read.
abbrev pub challenge_in : Tags → Option Challenge
challenge_in unreadable = none
challenge_in (tag_list ts) = challenge_from ts none 0 none

-- The challenge that a payload says; `none` is unreadable.
unfoldable pub challenge_of : List ℕ → Option Challenge
challenge_of v = challenge_in (tags v)

-- Where the realm stands in a payload, its charset byte included.
unfoldable pub realm_place : List ℕ → Place
realm_place v = last_under v 2 false

-- Option bit 0: the responder must send a user id.
unfoldable pub user_id_required_of : ℕ → Bool
user_id_required_of o = eqb (o % 2) 1

-- Option bit 1: the challenger offers read-only access.
unfoldable pub read_only_of : ℕ → Bool
read_only_of o = eqb (o / 2 % 2) 1

-- ---- the check

-- Two lists of bytes are equal.
unfoldable pub same : List ℕ → List ℕ → Bool
same [] [] = true
same [] (y ∷ ys) = false
same (x ∷ xs) [] = false
same (x ∷ xs) (y ∷ ys) = eqb x y && same xs ys

-- A response answers the challenge with this nonce if it names that nonce or none.
abbrev pub answers : List ℕ → Option (List ℕ) → Bool
answers nonce none = true
answers nonce (some n) = same n nonce

-- The response `r` matches the challenge with this nonce and the password: this is the source's whole check.
unfoldable pub matches : List ℕ → Response → List ℕ → Bool
matches nonce r password = answers nonce r.nonce && same (request_digest nonce password) r.digest

-- A user id is there and is not empty.
abbrev pub has_user : Option (List ℕ) → Bool
has_user none = false
has_user (some u) = ltb 0 (length u)

-- The response `r` is right for the challenge with this nonce and for the password. If the server demands a user id, a response without one
-- is wrong, whatever its digest (docs/PROTOCOL.md#digest).
unfoldable pub verified : Bool → List ℕ → Response → List ℕ → Bool
verified demands nonce r password = (not demands || has_user r.user) && matches nonce r password

-- ---- what is written

-- A tag, if there is a value for it.
abbrev pub optional_tag : ℕ → Option (List ℕ) → List Tag
optional_tag t none = []
optional_tag t (some v) = record { tag = t; value = v } ∷ []

-- The realm's tag, if there is a realm.
abbrev pub realm_tag : Option (List ℕ) → List Tag
realm_tag r = optional_tag 2 r

-- The tags of a challenge: nonce, options, and the realm with its charset in front, if there is one.
unfoldable pub challenge_tags : List ℕ → ℕ → Option (List ℕ) → List Tag
challenge_tags nonce options realm = record { tag = 0; value = nonce } ∷ (record { tag = 1; value = options ∷ [] } ∷ realm_tag realm)

-- The user id's tag, if there is a user id.
abbrev pub user_tag : Option (List ℕ) → List Tag
user_tag u = optional_tag 1 u

-- The tags of a response with this digest: the digest, the user id if there is one, and the nonce.
abbrev pub answer_tags : List ℕ → Option (List ℕ) → List ℕ → List Tag
answer_tags digest user nonce = record { tag = 0; value = digest } ∷ (user_tag user ++ (record { tag = 2; value = nonce } ∷ []))

-- The tags of the response to a challenge with this nonce.
unfoldable pub response_tags : List ℕ → Option (List ℕ) → List ℕ → List Tag
response_tags nonce user password = answer_tags (request_digest nonce password) user nonce
