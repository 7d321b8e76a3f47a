-- Examples, computed: those of IrOBEX 1.5 (section 3.4.1.9), of the source's doc comments, and of the proved cases. Assumes nothing.
use mathlib.Core.Path.{◌≡◌, refl}
use mathlib.Core.Bool.{true, false}
use mathlib.Core.List.{List, [], ◌∷◌, ◌++◌}
use mathlib.Core.Option.{none, some}
use Prim.Native.Nat.{ℕ}
use lib.ListN.{replicate, length}
use Rattle.base.specs.Place.{span, None}
use Rattle.digest.specs.Md5.{le_value, be_value, numbers16}
use Rattle.packet.specs.declared.opcode.Opcode.TheVariants as op
use Rattle.std.specs.Prelude.{Some}
use Rattle.packet.specs.declared.packet.Fields.TheVariants as fields
use Rattle.packet.specs.FirstByte.{named, first_byte, byte_of}
use Rattle.packet.specs.Codes.{sent_code}
use Rattle.packet.specs.Header.{encoding_of, tagged, allowed, encoded_at, header_at_of, walk, read_headers}
use Rattle.packet.specs.Packet.{request_of, request_at, backup, no_create_of, packet_bytes}
use Rattle.packet.specs.Flags.{flag_bits}
use Rattle.packet.specs.Tags.{tags_by, tags, last_from, last_under, last_value, write_tags}
use Rattle.packet.specs.Auth.{response_from, response_of, challenge_from, challenge_of, realm_place, user_id_required_of, read_only_of, challenge_tags}
use Rattle.packet.specs.AuthRead.{digest_response, digest_challenge, read_response, read_challenge}
use Rattle.packet.specs.PacketRead.{packet_length, known_request, parse_packet, parse_front, flags_of}
use Rattle.packet.specs.PacketWrite.{field_bytes, parameter_bytes}

-- ---- packets

-- 3.4.1.9: a Connect with Count and Length, and its response
connect_bytes_lem : packet_bytes (byte_of op.Connect true) (field_bytes op.Connect (fields.Connect (record { version = 0x10; flags = 0; max_packet_length = 0x2000 }))) (0xC0 ∷ 0 ∷ 0 ∷ 0 ∷ 4 ∷ 0xC3 ∷ 0 ∷ 0 ∷ 0xF4 ∷ 0x83 ∷ [])
    ≡ 0x80 ∷ 0x00 ∷ 0x11 ∷ 0x10 ∷ 0x00 ∷ 0x20 ∷ 0x00 ∷ 0xC0 ∷ 0 ∷ 0 ∷ 0 ∷ 4 ∷ 0xC3 ∷ 0 ∷ 0 ∷ 0xF4 ∷ 0x83 ∷ []
unfolding packet_bytes byte_of
connect_bytes_lem = refl

response-bytes : packet_bytes (sent_code 0x20) (parameter_bytes (Some (record { version = 0x10; flags = 0; max_packet_length = 0x0400 }))) [] ≡ 0xA0 ∷ 0x00 ∷ 0x07 ∷ 0x10 ∷ 0x00 ∷ 0x04 ∷ 0x00 ∷ []
unfolding packet_bytes
response-bytes = refl

success-bytes : packet_bytes (sent_code 0x20) (parameter_bytes None) [] ≡ 0xA0 ∷ 0x00 ∷ 0x03 ∷ []
unfolding packet_bytes
success-bytes = refl

-- fields by default, and those of another operation
default_bytes : packet_bytes (byte_of op.Connect false) (field_bytes op.Connect fields.Default) [] ≡ 0x80 ∷ 0x00 ∷ 0x07 ∷ 0x10 ∷ 0x00 ∷ 0x00 ∷ 0xFF ∷ []
unfolding packet_bytes byte_of
default_bytes = refl

other-bytes : packet_bytes (byte_of op.SetPath false) (field_bytes op.SetPath (fields.Connect (record { version = 1; flags = 2; max_packet_length = 3 }))) [] ≡ 0x85 ∷ 0x00 ∷ 0x05 ∷ 0x00 ∷ 0x00 ∷ []
unfolding packet_bytes byte_of
other-bytes = refl

-- a Put with an empty End of Body, one byte of another packet behind it
put-read : parse_front (0x82 ∷ 0 ∷ 6 ∷ 0x49 ∷ 0 ∷ 3 ∷ 0x80 ∷ []) ≡ known_request op.Put true 3 6
unfolding parse_front request_at request_of first_byte named read_headers walk header_at_of encoded_at encoding_of allowed tagged
put-read = refl

connect_read_lem : parse_packet (0x80 ∷ 0x00 ∷ 0x11 ∷ 0x10 ∷ 0x00 ∷ 0x20 ∷ 0x00 ∷ 0xC0 ∷ 0 ∷ 0 ∷ 0 ∷ 4 ∷ 0xC3 ∷ 0 ∷ 0 ∷ 0xF4 ∷ 0x83 ∷ []) ≡ known_request op.Connect true 7 17
unfolding parse_packet request_of first_byte named read_headers walk header_at_of encoded_at encoding_of allowed tagged
connect_read_lem = refl

-- a Connect with no fields, and with three bytes of them
connect_short : parse_packet (0x80 ∷ 0x00 ∷ 0x03 ∷ []) ≡ None
unfolding parse_packet request_of first_byte named
connect_short = refl

connect_three : parse_front (0x80 ∷ 0x00 ∷ 0x06 ∷ 0x10 ∷ 0x00 ∷ 0x20 ∷ []) ≡ None
unfolding parse_front request_at request_of first_byte named
connect_three = refl

-- a length under 3, an unknown first byte
length_two : parse_front (0x81 ∷ 0x00 ∷ 0x02 ∷ []) ≡ None
unfolding parse_front request_at
length_two = refl

unknown_read : parse_packet (0x84 ∷ 0x00 ∷ 0x03 ∷ []) ≡ None
unfolding parse_packet request_of first_byte named
unknown_read = refl

length-missing : packet_length (0xA0 ∷ 0x00 ∷ []) ≡ None
unfolding packet_length
length-missing = refl

length-known : packet_length (0xA0 ∷ 0x00 ∷ 0x07 ∷ []) ≡ Some 7
unfolding packet_length
length-known = refl

path_flags : flags_of (0x85 ∷ 0x00 ∷ 0x05 ∷ 0x02 ∷ 0x00 ∷ []) ≡ record { backup = false; no_create = true }
unfolding backup no_create_of
path_flags = refl

-- ---- digest authentication

abbrev ones : List ℕ
ones = replicate 16 1

abbrev twos : List ℕ
twos = replicate 16 2

-- digest, user id, a nonce: the last of each holds
last_holds : read_response (0 ∷ 16 ∷ ones ++ (1 ∷ 1 ∷ 0x61 ∷ 2 ∷ 16 ∷ ones) ++ (0 ∷ 16 ∷ twos) ++ (1 ∷ 2 ∷ 0x62 ∷ 0x63 ∷ []) ++ (2 ∷ 16 ∷ twos))
    ≡ digest_response (numbers16 twos) (span 59 61) (Some (numbers16 twos))
unfolding read_response response_of tags tags_by response_from last_value last_under last_from numbers16 be_value le_value
last_holds = refl

-- a nonce that is not 16 bytes long, after a good one: not named
bad-nonce : read_response (0 ∷ 16 ∷ ones ++ (2 ∷ 16 ∷ ones) ++ (2 ∷ 1 ∷ 7 ∷ [])) ≡ digest_response (numbers16 ones) None None
unfolding read_response response_of tags tags_by response_from last_value last_under last_from numbers16 be_value le_value
bad-nonce = refl

-- a digest of 15 bytes before a good one; and no digest
bad-digest : read_response (0 ∷ 15 ∷ replicate 15 1 ++ (0 ∷ 16 ∷ ones)) ≡ None
unfolding read_response response_of tags tags_by response_from last_value last_under last_from
bad-digest = refl

no_digest : read_response (2 ∷ 16 ∷ ones) ≡ None
unfolding read_response response_of tags tags_by response_from last_value last_under last_from
no_digest = refl

-- a realm, and an empty one after it, which is passed over; options 3, an unknown tag
empty-realm : read_challenge (0 ∷ 16 ∷ ones ++ (1 ∷ 1 ∷ 3 ∷ 9 ∷ 0 ∷ 2 ∷ 2 ∷ 0 ∷ 0x72 ∷ 2 ∷ 0 ∷ [])) ≡ digest_challenge (numbers16 ones) true true (span 25 27)
unfolding read_challenge challenge_of tags tags_by challenge_from realm_place last_under last_from user_id_required_of read_only_of numbers16 be_value le_value
empty-realm = refl

-- empty options are 0
empty-options : read_challenge (0 ∷ 16 ∷ ones ++ (1 ∷ 1 ∷ 3 ∷ 1 ∷ 0 ∷ [])) ≡ digest_challenge (numbers16 ones) false false None
unfolding read_challenge challenge_of tags tags_by challenge_from realm_place last_under last_from user_id_required_of read_only_of numbers16 be_value le_value
empty-options = refl

-- 3.6.4: without a realm a challenge takes 24 bytes, 3 of them the header's
challenge-size : length (write_tags (challenge_tags ones (flag_bits true false) none)) ≡ 21
unfolding write_tags challenge_tags flag_bits
challenge-size = refl

-- an empty realm is written with its charset
realm-written : write_tags (challenge_tags [] 0 (some (7 ∷ []))) ≡ 0 ∷ 0 ∷ 1 ∷ 1 ∷ 0 ∷ 2 ∷ 1 ∷ 7 ∷ []
unfolding write_tags challenge_tags
realm-written = refl
