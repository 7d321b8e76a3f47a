-- Examples of the packets of an object, computed by the checker. The peer's limit is 255, so the capacity is 252. Assumes nothing.
use mathlib.Core.Path.{◌≡◌, refl}
use mathlib.Core.Bool.{true, false}
use mathlib.Core.List.{List, [], ◌∷◌, ◌++◌}
use mathlib.Core.Option.{none, some}
use Prim.Native.Nat.{ℕ}
use lib.ListN.{replicate}
use Rattle.packet.specs.HeaderIds as header_id
use Rattle.packet.specs.Header.{Header, encoding_of, bytes_of}
use Rattle.outgoing.specs.Packets.{chunks, chunk_packets, body_packets, all_sent, packets_from, packets_of}

abbrev letters : ℕ → List ℕ
letters n = replicate n 0x61

-- a header of Type with a value of `n` bytes: its bytes are three more
abbrev typed : ℕ → Header
typed n = record { id = header_id.type; value = letters n }

-- P12: a Get of 249 body bytes is one packet of 255
pub p12_one : packets_of 252 false [] (some (letters 249)) ≡ all_sent ((0xA0 ∷ 0x00 ∷ 0xFF ∷ 0x49 ∷ 0x00 ∷ 0xFC ∷ letters 249) ∷ [])
unfolding bytes_of encoding_of chunks chunk_packets body_packets packets_from
p12_one = refl

-- P12: of 250, it is Body 249 and EndOfBody 1
pub p12_two : packets_of 252 false [] (some (letters 250))
    ≡ all_sent ((0x90 ∷ 0x00 ∷ 0xFF ∷ 0x48 ∷ 0x00 ∷ 0xFC ∷ letters 249) ∷ (0xA0 ∷ 0x00 ∷ 0x07 ∷ 0x49 ∷ 0x00 ∷ 0x04 ∷ 0x61 ∷ []) ∷ [])
unfolding bytes_of encoding_of chunks chunk_packets body_packets packets_from
p12_two = refl

-- the grant of Single Response Mode and a header of 245 bytes leave five bytes: a Body of two, and the rest as EndOfBody
pub with_header : packets_of 252 true (typed 242 ∷ []) (some (0x01 ∷ 0x02 ∷ 0x03 ∷ []))
    ≡ all_sent
    ((0x90 ∷ 0x00 ∷ 0xFF ∷ 0x97 ∷ 0x01 ∷ 0x42 ∷ 0x00 ∷ 0xF5 ∷ (letters 242 ++ (0x48 ∷ 0x00 ∷ 0x05 ∷ 0x01 ∷ 0x02 ∷ [])))
    ∷ (0xA0 ∷ 0x00 ∷ 0x07 ∷ 0x49 ∷ 0x00 ∷ 0x04 ∷ 0x03 ∷ [])
    ∷ [])
unfolding bytes_of encoding_of chunks chunk_packets body_packets packets_from
with_header = refl

-- a header of 249 bytes leaves three: no Body header for an empty chunk, but an empty EndOfBody
pub three_left : packets_of 252 false (typed 246 ∷ []) (some (0x01 ∷ []))
    ≡ all_sent ((0x90 ∷ 0x00 ∷ 0xFC ∷ 0x42 ∷ 0x00 ∷ 0xF9 ∷ letters 246) ∷ (0xA0 ∷ 0x00 ∷ 0x07 ∷ 0x49 ∷ 0x00 ∷ 0x04 ∷ 0x01 ∷ []) ∷ [])
unfolding bytes_of encoding_of chunks chunk_packets body_packets packets_from
three_left = refl

pub three_empty : packets_of 252 false (typed 246 ∷ []) (some [])
    ≡ all_sent ((0xA0 ∷ 0x00 ∷ 0xFF ∷ 0x42 ∷ 0x00 ∷ 0xF9 ∷ (letters 246 ++ (0x49 ∷ 0x00 ∷ 0x03 ∷ []))) ∷ [])
unfolding bytes_of encoding_of chunks chunk_packets body_packets packets_from
three_empty = refl

-- a header of 250 leaves two: the packet goes with headers only, and the next one holds the end of an empty body
pub two-left : packets_of 252 false (typed 247 ∷ []) (some [])
    ≡ all_sent ((0x90 ∷ 0x00 ∷ 0xFD ∷ 0x42 ∷ 0x00 ∷ 0xFA ∷ letters 247) ∷ (0xA0 ∷ 0x00 ∷ 0x06 ∷ 0x49 ∷ 0x00 ∷ 0x03 ∷ []) ∷ [])
unfolding bytes_of encoding_of chunks chunk_packets body_packets packets_from
two-left = refl

-- a header of 252 fills a packet; one of 253 behind it cannot be sent, and the one of five bytes that was placed before it is lost
pub too_long : packets_of 252 false (typed 249 ∷ typed 2 ∷ typed 250 ∷ []) none
    ≡ record { sent = (0x90 ∷ 0x00 ∷ 0xFF ∷ 0x42 ∷ 0x00 ∷ 0xFC ∷ letters 249) ∷ []; whole = false }
unfolding bytes_of encoding_of chunks chunk_packets body_packets packets_from
too_long = refl
