-- What is still to be sent, with a header put in early or a packet put back (the source's engine/body.rs: must_lead, insert_early and
-- rewind): headers, and of a body the bytes that were read and not sent. First over lists of headers, then over the stores in which these
-- stand as bytes.
use Rattle.std.specs.Prelude.{ℕ, zero, suc, ◌+◌, List, [], ◌∷◌, ◌++◌, Bool, true, false, ◌||◌, length, take, drop, eqb, ltb}
use Rattle.std.specs.Prelude.{Option as StdOption, None, Some}
use Rattle.std.proofs.Math.Option.{Option, none, some}
use Rattle.base.specs.Pick.{pick}
use Rattle.packet.specs.HeaderIds as header_id
use Rattle.packet.specs.Header.{Header, header_at_of, part}
use Rattle.packet.specs.Placed.{Putting, numbered}
use Rattle.packet.specs.declared.header.HeaderAt.{HeaderAt}
use Rattle.packet.specs.declared.header.HeaderAt.TheVariants.{At, Unreadable, End}
use Rattle.packet.specs.declared.tlv.Wrote.TheVariants as wrote
use Rattle.outgoing.specs.declared.queue.Part.{Part}
use Rattle.outgoing.specs.declared.queue.Part.TheVariants.{All, Headers, Chunks, Nothing}
use Rattle.outgoing.specs.declared.queue.Piece.{Piece}
use Rattle.outgoing.specs.declared.queue.Rewound.{Rewound}

-- ---- headers that lead

-- A header with the id must lead (IrOBEX 1.5, section 2.2.11 for the ConnectionID; GOEP 2.x for the two of Single Response Mode). The
-- source's list has Target too.
unfoldable pub must_lead : ℕ → Bool
must_lead id =
    eqb id header_id.connection_id
    || (eqb id header_id.target || (eqb id header_id.single_response_mode || eqb id header_id.single_response_mode_parameters))

-- The header goes behind those at the front that must lead.
unfoldable pub insert_early : Header → List Header → List Header
insert_early x [] = x ∷ []
insert_early x (h ∷ hs) = pick (must_lead h.id) (h ∷ insert_early x hs) (x ∷ (h ∷ hs))

-- ---- a packet that is put back

-- Of a body: the bytes that were read and not sent, and whether it was read to its end.
pub record Pending : Type 0 where
  pub bytes : List ℕ
  pub eof : Bool

-- What is still to be sent: headers, and a body or none.
pub record Queue : Type 0 where
  pub headers : List Header
  pub body : Option Pending

-- The id is that of a chunk of the body.
abbrev pub is_chunk : ℕ → Bool
is_chunk id = eqb id header_id.body || eqb id header_id.end_of_body

-- Bytes go back in front of those that were not sent.
abbrev pub unread : List ℕ → Pending → Pending
unread d p = record { bytes = d ++ p.bytes; eof = p.eof }

-- One header goes back: the bytes of a chunk to the body if there is one, and any other header in front of the headers.
abbrev pub put_back : Bool → Header → Option Pending → List Header → Queue
put_back true h (some p) hs = record { headers = hs; body = some (unread h.value p) }
put_back true h none hs = record { headers = h ∷ hs; body = none }
put_back false h b hs = record { headers = h ∷ hs; body = b }

-- The headers of a packet go back in front of what is still to be sent, the last of them first.
unfoldable pub rewind : List Header → Queue → Queue
rewind [] q = q
rewind (h ∷ hs) q = put_back (is_chunk h.id) h (rewind hs q).body (rewind hs q).headers

-- ---- over stores: bytes that are put in between

-- The store `d` with the bytes `l` put in at `at`: what stood from there up to `n` stands behind them.
unfoldable pub put_in : List ℕ → ℕ → ℕ → List ℕ → List ℕ
put_in d at n l = take at d ++ (l ++ (part d at n ++ drop (n + length l) d))

-- ---- over stores: a header that is put in early

-- Where the headers from a place on that must lead end, by what stands at the place.
abbrev pub lead_by : HeaderAt → ℕ → (ℕ → ℕ) → ℕ
lead_by End at rest = at
lead_by Unreadable at rest = at
lead_by (At id e from to) at rest = pick (must_lead id) (rest to) at

-- Where the headers from `at` on that must lead end.
unfoldable pub lead_from : ℕ → List ℕ → ℕ → ℕ
lead_from zero s at = at
lead_from (suc k) s at = lead_by (header_at_of s at) at (λ n. lead_from k s n)

-- Where the headers of `s` from `at` on that must lead end. Each takes two bytes at least, so a fuel over the length is enough.
unfoldable pub lead_end : List ℕ → ℕ → ℕ
lead_end s at = lead_from (suc (length s)) s at

-- The bytes of a header are put in behind the headers that must lead, of those in the first `n` bytes of the store. Without room for them
-- the store stays as it was (10).
unfoldable pub inserted_early : List ℕ → ℕ → List ℕ → Putting
inserted_early d n h =
    pick (ltb (length d) (n + length h)) (numbered 10 wrote.Short d)
    (numbered 0 (wrote.Written (n + length h)) (put_in d (lead_end (take n d) 0) n h))

-- ---- over stores: a packet that is put back

-- Where that which goes back of a header starts, by whether it is a chunk: the header starts at `at`, its value at `from`, and both end at
-- `to`.
abbrev pub back_from : Part → Bool → ℕ → ℕ → ℕ → ℕ
back_from All chunk at from to = at
back_from Headers chunk at from to = pick chunk to at
back_from Chunks chunk at from to = pick chunk from to
back_from Nothing chunk at from to = to

-- What goes back of what stands at a place: nothing if it is no header.
abbrev pub piece_of : Part → HeaderAt → ℕ → StdOption Piece
piece_of p End at = None
piece_of p Unreadable at = None
piece_of p (At id e from to) at = Some (record { from = back_from p (is_chunk id) at from to; to = to })

-- What goes back from a place on, by what stands there.
abbrev pub back_by : Part → List ℕ → HeaderAt → ℕ → (ℕ → List ℕ) → List ℕ
back_by p s End at rest = []
back_by p s Unreadable at rest = []
back_by p s (At id e from to) at rest = part s (back_from p (is_chunk id) at from to) to ++ rest to

-- What goes back of the headers from `at` on.
unfoldable pub back_walk : ℕ → Part → List ℕ → ℕ → List ℕ
back_walk zero p s at = []
back_walk (suc k) p s at = back_by p s (header_at_of s at) at (λ n. back_walk k p s n)

-- What goes back of the headers of `s` from `at` on, up to the first that cannot be read. A fuel over the length is enough.
unfoldable pub back_bytes : Part → List ℕ → ℕ → List ℕ
back_bytes p s at = back_walk (suc (length s)) p s at

-- What goes back into the header store: if there is no body, chunks are headers as any other.
abbrev pub headers_back : Bool → Part
headers_back true = Headers
headers_back false = All

-- What goes back into the body store.
abbrev pub body_back : Bool → Part
body_back true = Chunks
body_back false = Nothing

-- The number of an answer: 10, a store too short; none (0) if the packet was put back.
abbrev pub rewound_number : StdOption Rewound → ℕ
rewound_number (Some r) = 0
rewound_number None = 10

-- The answer of a packet that was put back.
abbrev pub back : ℕ → ℕ → StdOption Rewound
back n m = Some (record { headers = n; pending = m })

-- The answer, its number, and both stores afterwards.
pub record Rewinding : Type 0 where
  pub answer : StdOption Rewound
  pub number : ℕ
  pub headers : List ℕ
  pub body : List ℕ

-- What `rewind` promises, by its answer and the stores afterwards.
abbrev pub rewinding : StdOption Rewound → List ℕ → List ℕ → Rewinding
rewinding r hs bs = record { answer = r; number = rewound_number r; headers = hs; body = bs }

-- Whether `k` and `c` bytes more fit behind the `n` and `m` bytes of two stores of `len` and `size` bytes.
unfoldable pub both_room : (len n k size m c : ℕ) → StdOption Rewound
both_room len n k size m c = pick (ltb len (n + k)) None (pick (ltb size (m + c)) None (back (n + k) (m + c)))

-- The bytes `k` go in front of the `n` bytes of headers, and the bytes `c` in front of the `m` bytes of the body. Without room for both the
-- stores stay as they were.
abbrev pub rewound_with : List ℕ → List ℕ → List ℕ → ℕ → List ℕ → ℕ → Rewinding
rewound_with k c hs n bs m =
    pick (ltb (length hs) (n + length k) || ltb (length bs) (m + length c))
    (record { answer = None; number = 10; headers = hs; body = bs })
    (record { answer = back (n + length k) (m + length c); number = 0; headers = put_in hs 0 n k; body = put_in bs 0 m c })

-- The headers of a packet `p` go back into the two stores, the chunks of its body into the second if there is a body.
unfoldable pub rewound : Bool → List ℕ → List ℕ → ℕ → List ℕ → ℕ → Rewinding
rewound has_body_of p hs n bs m = rewound_with (back_bytes (headers_back has_body_of) p 0) (back_bytes (body_back has_body_of) p 0) hs n bs m
