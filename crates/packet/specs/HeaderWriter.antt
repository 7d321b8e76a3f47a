-- Writing headers into a lent store (the source's Header::encode; docs/PROTOCOL.md#headers). A header that is refused leaves the store as
-- it was.
use Rattle.std.specs.Prelude.{Bool, false, List, [], ◌∷◌, ◌++◌, ℕ, ◌+◌, ltb, length}
use Rattle.std.proofs.lemmas.List.Edits.{sets}
use Rattle.base.specs.Bytes.{bytes16}
use Rattle.text.specs.Unicode.{lossy}
use Rattle.text.specs.Text.{ascii_text}
use Rattle.packet.specs.declared.header.HeaderEncoding.{HeaderEncoding}
use Rattle.packet.specs.declared.header.HeaderEncoding.TheVariants.{Unicode, Bytes, U8, U32}
use Rattle.packet.specs.declared.header.TextForm.{TextForm}
use Rattle.packet.specs.declared.header.TextForm.TheVariants.{Wide, Ended, Bare}
use Rattle.packet.specs.declared.tlv.Wrote.{Wrote}
use Rattle.packet.specs.declared.tlv.Wrote.TheVariants.{Written, TooLong, BadValue, Short}
use Rattle.packet.specs.declared.store.LengthField.TheVariants.{TwoBytes}
use Rattle.packet.specs.Limits.{max_packet}
use Rattle.packet.specs.Placed.{Putting, putting, placed, room_of}
use Rattle.packet.specs.Canonical.{terminated16}
use Rattle.packet.specs.Header.{Header, encoding_of, lead_of, bytes_of}

-- A header with a value of `n` bytes is longer than its length field can say.
abbrev pub too_long_of : HeaderEncoding → ℕ → Bool
too_long_of Unicode n = ltb max_packet (3 + n)
too_long_of Bytes n = ltb max_packet (3 + n)
too_long_of U8 n = false
too_long_of U32 n = false

-- The header `h` goes to `at` of the store. Its bytes follow the encoding of its id, whatever the value is.
unfoldable pub put_header : List ℕ → ℕ → Header → Putting
put_header store at h = placed store at TwoBytes (too_long_of (encoding_of h.id) (length h.value)) (bytes_of h)

-- ---- the parts of the writer

-- The answer by numbers alone: the encoding, the store's length, the place, and the value's length.
unfoldable pub room_for : HeaderEncoding → ℕ → ℕ → ℕ → Wrote
room_for e len at n = room_of len at (lead_of e + n) TwoBytes (too_long_of e n)

-- What stands before a value of `n` bytes: the id, and the length field if there is one.
abbrev pub lead_bytes : HeaderEncoding → ℕ → ℕ → List ℕ
lead_bytes Unicode id n = id ∷ bytes16 (3 + n)
lead_bytes Bytes id n = id ∷ bytes16 (3 + n)
lead_bytes U8 id n = id ∷ []
lead_bytes U32 id n = id ∷ []

-- Makes a header.
abbrev pub header : ℕ → List ℕ → Header
header id v = record { id = id; value = v }

-- The store once room is made: what stands before the value is written.
abbrev pub start_by : Wrote → List ℕ → ℕ → List ℕ → Putting
start_by (Written end) d at lead = putting (Written end) (sets d at lead)
start_by TooLong d at lead = putting TooLong d
start_by BadValue d at lead = putting BadValue d
start_by Short d at lead = putting Short d

-- Room is made at `at` for a header with a value of `n` bytes, and what stands before the value is written.
unfoldable pub start_header : List ℕ → ℕ → ℕ → ℕ → Putting
start_header d at id n = start_by (room_for (encoding_of id) (length d) at n) d at (lead_bytes (encoding_of id) id n)

-- ---- text

-- The value of a text header, whose text is given in UTF-8: UTF-16 with a zero unit unless it is empty; Type, up to a zero, with a zero
-- byte; Time, up to a zero, with none.
abbrev pub text_value : TextForm → List ℕ → List ℕ
text_value Wide t = terminated16 (lossy t)
text_value Ended t = ascii_text t ++ (0 ∷ [])
text_value Bare t = ascii_text t
