-- Headers (IrOBEX 1.5, section 2.1; docs/PROTOCOL.md#headers): an id whose two top bits select the encoding, for two encodings a 16-bit
-- length that counts its own three bytes, and the value. Some known ids have rules of their own; unknown ids are kept.
use Rattle.std.specs.Prelude.{ℕ, zero, suc, ◌+◌, ◌-◌, List, [], ◌∷◌, ◌++◌, Bool, true, false, ◌||◌, length, get_or, take, drop, ltb, leb, eqb}
use Rattle.std.proofs.Math.Option.{Option, none, some}
use Rattle.base.specs.Pick.{pick}
use Rattle.base.specs.Bytes.{be16, bytes16}
use Rattle.base.specs.Place.{Place, span, None}
use Rattle.packet.specs.HeaderIds as header_id
use Rattle.packet.specs.Modes.{is_mode, is_parameter, is_action}
use Rattle.packet.specs.Tags.{is_tag_list}
use Rattle.packet.specs.declared.header.HeaderEncoding.{HeaderEncoding}
use Rattle.packet.specs.declared.header.HeaderEncoding.TheVariants.{Unicode, Bytes, U8, U32}
use Rattle.packet.specs.declared.header.HeaderAt.{HeaderAt}
use Rattle.packet.specs.declared.header.HeaderAt.TheVariants.{At, Unreadable, End}

-- ---- the encoding

-- The encoding that the two top bits of an id select: 00 text, 01 bytes, 10 one byte, 11 four bytes.
unfoldable pub encoding_of : ℕ → HeaderEncoding
encoding_of id = pick (ltb id 0x40) Unicode (pick (ltb id 0x80) Bytes (pick (ltb id 0xC0) U8 U32))

-- How many bytes stand before the value: id and length, or the id alone.
abbrev pub lead_of : HeaderEncoding → ℕ
lead_of Unicode = 3
lead_of Bytes = 3
lead_of U8 = 1
lead_of U32 = 1

-- How many bytes the header at `at` takes: what its length says, or 2, or 5.
abbrev pub size_at : HeaderEncoding → List ℕ → ℕ → ℕ
size_at Unicode s at = be16 s (at + 1)
size_at Bytes s at = be16 s (at + 1)
size_at U8 s at = 2
size_at U32 s at = 5

-- ---- rules of known ids

-- The id is one whose value is a tag list.
unfoldable pub tagged : ℕ → Bool
tagged id =
    eqb id header_id.application_parameters
    || (eqb id header_id.authenticate_challenge || (eqb id header_id.authenticate_response || eqb id header_id.session_parameters))

-- The id allows the value `v`; an id without a rule allows any.
unfoldable pub allowed : ℕ → List ℕ → Bool
allowed id v =
    pick (eqb id header_id.action_id) (is_action (get_or v 0 0))
    (pick (eqb id header_id.single_response_mode) (is_mode (get_or v 0 0))
    (pick (eqb id header_id.single_response_mode_parameters) (is_parameter (get_or v 0 0))
    (pick (tagged id) (is_tag_list v) true)))

-- ---- the header at a place, and all headers

-- The bytes of `s` from one place up to another.
abbrev pub part : List ℕ → ℕ → ℕ → List ℕ
part s from to = take (to - from) (drop from s)

-- The header at a place if its id allows the value, else nothing that can be read.
abbrev pub allowed_at : ℕ → HeaderEncoding → List ℕ → ℕ → ℕ → HeaderAt
allowed_at id e s from to = pick (allowed id (part s from to)) (At id e from to) Unreadable

-- The header at `at` with a known encoding: unreadable if it is cut short or its length is under 3.
unfoldable pub encoded_at : ℕ → HeaderEncoding → List ℕ → ℕ → HeaderAt
encoded_at id e s at =
    pick (ltb (length s - at) (lead_of e)) Unreadable
    (pick (ltb (size_at e s at) (lead_of e)) Unreadable
    (pick (ltb (length s - at) (size_at e s at)) Unreadable
    (allowed_at id e s (at + lead_of e) (at + size_at e s at))))

-- The header at `at`, or the end.
unfoldable pub header_at_of : List ℕ → ℕ → HeaderAt
header_at_of s at = pick (leb (length s) at) End (encoded_at (get_or s at 0) (encoding_of (get_or s at 0)) s at)

-- A header as received: its id, and the bytes of its value.
pub record Header : Type 0 where
  pub id : ℕ
  pub value : List ℕ

-- A header in front of what the rest reads as; `none` is unreadable.
abbrev pub push : Header → Option (List Header) → Option (List Header)
push h none = none
push h (some hs) = some (h ∷ hs)

-- The headers from what stands at a place, given what the rest reads as.
abbrev pub walk_from : List ℕ → HeaderAt → (ℕ → Option (List Header)) → Option (List Header)
walk_from s End rest = some []
walk_from s Unreadable rest = none
walk_from s (At id e from to) rest = push (record { id = id; value = part s from to }) (rest to)

-- The headers from `at` on. Each takes two bytes at least, so a fuel over the length is enough.
unfoldable pub walk : ℕ → List ℕ → ℕ → Option (List Header)
walk zero s at = none
walk (suc k) s at = walk_from s (header_at_of s at) (λ n. walk k s n)

-- The headers of a packet from `from` up to its end, which they fill; `none` is unreadable.
unfoldable pub read_headers : List ℕ → ℕ → Option (List Header)
read_headers s from = walk (suc (length s)) s from

-- ---- the first header with an id

-- The value of the first header with an id, by list order.
unfoldable pub first : ℕ → List Header → Option (List ℕ)
first id [] = none
first id (h ∷ hs) = pick (eqb h.id id) (some h.value) (first id hs)

-- A header was found.
abbrev pub present : Option (List ℕ) → Bool
present none = false
present (some v) = true

-- Where the value of the first header with an id stands, from what stands at a place.
abbrev pub first_at : HeaderAt → ℕ → (ℕ → Place) → Place
first_at End id rest = None
first_at Unreadable id rest = None
first_at (At i e from to) id rest = pick (eqb i id) (span from to) (rest to)

-- Where the value of the first header with an id stands, from `at` on.
unfoldable pub first_from : ℕ → ℕ → List ℕ → ℕ → Place
first_from zero id s at = None
first_from (suc k) id s at = first_at (header_at_of s at) id (λ n. first_from k id s n)

-- Where the value of the first header with an id stands in a packet; the search ends at what cannot be read.
unfoldable pub first_place : ℕ → List ℕ → ℕ → Place
first_place id s from = first_from (suc (length s)) id s from

-- ---- bytes

-- The length field of a header, if its encoding has one. It counts its own three bytes.
abbrev pub length_field : HeaderEncoding → List ℕ → List ℕ
length_field Unicode v = bytes16 (3 + length v)
length_field Bytes v = bytes16 (3 + length v)
length_field U8 v = []
length_field U32 v = []

-- The bytes of a header: id, length field and value.
unfoldable pub bytes_of : Header → List ℕ
bytes_of h = h.id ∷ (length_field (encoding_of h.id) h.value ++ h.value)

-- The bytes of all headers, one after the other.
unfoldable pub all_bytes : List Header → List ℕ
all_bytes [] = []
all_bytes (h ∷ hs) = bytes_of h ++ all_bytes hs
