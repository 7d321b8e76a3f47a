-- Lists of headers (docs/PROTOCOL.md#headers): those that a packet reads as, and those that it can hold.
use Rattle.std.specs.Prelude.{◌≡◌, Bool, true, false, List, [], ◌∷◌, ℕ, ◌<◌, length, get_or}
use Rattle.std.proofs.Math.Option.{Option, none, some}
use Rattle.packet.specs.declared.header.HeaderEncoding.{HeaderEncoding}
use Rattle.packet.specs.declared.header.HeaderEncoding.TheVariants.{Unicode, Bytes, U8, U32}
use Rattle.packet.specs.Header.{Header, encoding_of, allowed, read_headers}

-- The headers could be read.
abbrev pub is_read : Option (List Header) → Bool
is_read none = false
is_read (some hs) = true

-- Headers fill the packet from `from` up to its end.
abbrev pub readable_from : List ℕ → ℕ → Bool
readable_from s from = is_read (read_headers s from)

-- A value of `n` bytes has a length that the encoding can say: with its three bytes in front at most 65,535, or exactly one or four.
abbrev pub Fits : HeaderEncoding → ℕ → Type 0
Fits Unicode n = n < 65533
Fits Bytes n = n < 65533
Fits U8 n = n ≡ 1
Fits U32 n = n ≡ 4

-- A packet can hold the header.
pub record Writable (h : Header) : Type 0 where
  pub id_byte : h.id < 256
  pub fits : Fits (encoding_of h.id) (length h.value)
  pub octets : (k : ℕ) → get_or h.value k 0 < 256
  pub is_allowed : allowed h.id h.value ≡ true

-- A packet can hold each of the headers.
abbrev pub AllWritable : List Header → Type 0
AllWritable [] = Unit {0}
AllWritable (h ∷ hs) = Writable h × AllWritable hs
