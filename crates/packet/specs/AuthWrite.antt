-- What the writers of digest authentication leave in a store (docs/PROTOCOL.md#digest). A value goes under one length byte, so it is at
-- most 255 bytes long.
use Rattle.std.specs.Prelude.{ℕ, List, Bool, true, false, length, ltb}
use Rattle.std.proofs.Math.Option.{Option, none, some}
use Rattle.digest.specs.Md5.{octets16}
use Rattle.digest.specs.declared.md5.Octets16.{Octets16}
use Rattle.packet.specs.Limits.{max_tag_value}
use Rattle.packet.specs.declared.store.LengthField.TheVariants.{OneByte}
use Rattle.packet.specs.Tags.{write_tags}
use Rattle.packet.specs.Auth.{challenge_tags, response_tags}
use Rattle.packet.specs.Placed.{Putting, placed}

-- What is there if a flag says so.
abbrev pub given : Bool → List ℕ → Option (List ℕ)
given true l = some l
given false l = none

-- A value is too long for its length byte: a user id over 255 bytes, or a realm over 254 behind its charset. The engine refuses both
-- (refusal 8).
abbrev pub overlong : Option (List ℕ) → Bool
overlong none = false
overlong (some v) = ltb max_tag_value (length v)

-- A challenge's tag list goes to `at` of the store: nonce, options, and the realm with its charset in front.
unfoldable pub write_challenge : List ℕ → ℕ → Octets16 → ℕ → Option (List ℕ) → Putting
write_challenge store at nonce options realm = placed store at OneByte (overlong realm) (write_tags (challenge_tags (octets16 nonce) options realm))

-- A response's tag list goes to `at` of the store: digest, the user id if there is one, and the nonce.
unfoldable pub write_digest_response : List ℕ → ℕ → Octets16 → Option (List ℕ) → List ℕ → Putting
write_digest_response store at nonce user password = placed store at OneByte (overlong user) (write_tags (response_tags (octets16 nonce) user password))
