-- The packets of an object, as one list (docs/PROTOCOL.md#objects): what a Get's object is on the wire, from its headers, its body and the
-- capacity of a packet, which is the peer's limit less 3. Nothing here knows of stores, places in them, reads or the order of calls.
use Rattle.std.specs.Prelude.{ℕ, zero, suc, ◌+◌, ◌-◌, List, [], ◌∷◌, ◌++◌, Bool, true, false, length, ltb}
use Rattle.std.proofs.Math.Option.{Option, none, some}
use Rattle.base.specs.Pick.{pick}
use Rattle.base.specs.Bytes.{bytes16}
use Rattle.packet.specs.HeaderIds as header_id
use Rattle.packet.specs.ResponseCodes as response
use Rattle.packet.specs.Modes as modes
use Rattle.packet.specs.Codes.{sent_code}
use Rattle.packet.specs.Header.{Header, bytes_of}

-- ---- a packet

-- The first byte of a packet: Success on the last one, Continue on others.
abbrev pub first_byte : Bool → ℕ
first_byte true = sent_code response.success
first_byte false = sent_code response.continue

-- A packet: its first byte, the length of the whole, and the content.
abbrev pub packet : Bool → List ℕ → List ℕ
packet last content = first_byte last ∷ (bytes16 (3 + length content) ++ content)

-- A header of the id with the value.
abbrev pub header : ℕ → List ℕ → List ℕ
header id value = bytes_of (record { id = id; value = value })

-- ---- the body

-- The byte goes in front of the first chunk.
abbrev pub in_front : ℕ → List (List ℕ) → List (List ℕ)
in_front b [] = (b ∷ []) ∷ []
in_front b (c ∷ cs) = (b ∷ c) ∷ cs

-- The body cut into chunks: as many bytes as there are, up to `room`, are the first, and each later one has up to `size`. An empty body is
-- one empty chunk; a body that just fills its chunks has no empty one behind them.
unfoldable pub chunks : ℕ → ℕ → List ℕ → List (List ℕ)
chunks room size [] = [] ∷ []
chunks zero size (b ∷ bs) = [] ∷ in_front b (chunks (size - 1) size bs)
chunks (suc room) size (b ∷ bs) = in_front b (chunks room size bs)

-- A chunk that others follow goes as Body; an empty one gets no header.
abbrev pub more_body : List ℕ → List ℕ
more_body [] = []
more_body (b ∷ bs) = header header_id.body (b ∷ bs)

-- A packet for each chunk, the first behind the content that its packet has already. The last chunk goes as EndOfBody.
unfoldable pub chunk_packets : List ℕ → List (List ℕ) → List (List ℕ)
chunk_packets content [] = []
chunk_packets content (c ∷ []) = packet true (content ++ header header_id.end_of_body c) ∷ []
chunk_packets content (c ∷ (d ∷ ds)) = packet false (content ++ more_body c) ∷ chunk_packets [] (d ∷ ds)

-- The packets from the one with the last headers on, which has the content already. Without a body it is the last; with under 3 bytes left
-- it goes with headers only; else it gets a chunk of the space less 3.
unfoldable pub body_packets : ℕ → List ℕ → Option (List ℕ) → List (List ℕ)
body_packets capacity content none = packet true content ∷ []
body_packets capacity content (some body) =
    pick (ltb capacity (length content + 3))
    (packet false content ∷ chunk_packets [] (chunks (capacity - 3) (capacity - 3) body))
    (chunk_packets content (chunks (capacity - (length content + 3)) (capacity - 3) body))

-- ---- the object

-- The packets that are sent, and whether they are the whole object: if not, its next header is longer than the capacity, and the object
-- cannot be sent on.
pub record Packets : Type 0 where
  pub sent : List (List ℕ)
  pub whole : Bool

-- All of an object.
abbrev pub all_sent : List (List ℕ) → Packets
all_sent ps = record { sent = ps; whole = true }

-- An object that cannot be sent on.
abbrev pub cannot_go : Packets
cannot_go = record { sent = []; whole = false }

-- A packet before others.
abbrev pub before : List ℕ → Packets → Packets
before p r = record { sent = p ∷ r.sent; whole = r.whole }

-- The packets from one on that has the content already: headers go in order while they fit.
unfoldable pub packets_from : ℕ → List ℕ → List Header → Option (List ℕ) → Packets
packets_from capacity content [] body = all_sent (body_packets capacity content body)
packets_from capacity content (h ∷ hs) body =
    pick (ltb capacity (length (bytes_of h))) cannot_go
    (pick (ltb capacity (length content + length (bytes_of h)))
    (before (packet false content) (packets_from capacity (bytes_of h) hs body))
    (packets_from capacity (content ++ bytes_of h) hs body))

-- The header that grants Single Response Mode (SRM), in front of the object's own, or nothing.
abbrev pub grant : Bool → List ℕ
grant true = header header_id.single_response_mode (modes.enable ∷ [])
grant false = []

-- The packets of an object with these headers and this body or none; `granted` says that SRM is granted in front of them.
abbrev pub packets_of : ℕ → Bool → List Header → Option (List ℕ) → Packets
packets_of capacity granted headers body = packets_from capacity (grant granted) headers body
