-- A header that is put in early keeps those that lead in front, and a packet that is put back leaves what was there before it was made.
-- Assumes nothing.
use mathlib.Core.Path.{◌≡◌, refl, sym, ap, ◌∙◌}
use mathlib.Core.Bool.{Bool, true, false}
use mathlib.Core.Option.{Option, none, some}
use mathlib.Core.List.{List, [], ◌∷◌, ◌++◌}
use Prim.Native.Nat.{ℕ, ◌+◌, ◌≤◌}
use lib.ListN.{length, take}
use Rattle.std.specs.Prelude.{Some, None}
use Rattle.base.specs.Pick.{pick}
use Rattle.base.specs.Bytes.{bytes32}
use Rattle.packet.specs.HeaderIds as header_id
use Rattle.packet.specs.Modes as modes
use Rattle.packet.specs.Header.{Header, encoding_of, tagged, allowed, all_bytes, read_headers}
use Rattle.packet.specs.Modes.{is_mode}
use Rattle.packet.specs.HeaderWriter.{header}
use Rattle.packet.proofs.HeaderBytes.{Octets}
use Rattle.packet.proofs.HeaderWrites.{AllShaped}
use Rattle.journal.specs.Record.{is_body, is_srm, carried_one, carried_by}
use Rattle.outgoing.specs.Queue.{must_lead, insert_early, Pending, Queue, is_chunk, put_back, rewind, headers_back, body_back, back_bytes, rewound}
use Rattle.outgoing.proofs.QueueLaws.{rewound-read}
use Rattle.connection.specs.Peer.{ConnectionId}
use Rattle.client_model.specs.Leading.{leading_headers, leading}

-- ---- a header that is put in early

-- the headers at the front that must lead, and those behind them
abbrev pub front : List Header → List Header
front [] = []
front (h ∷ hs) = pick (must_lead h.id) (h ∷ front hs) []

abbrev pub rest : List Header → List Header
rest [] = []
rest (h ∷ hs) = pick (must_lead h.id) (rest hs) (h ∷ hs)

-- both are the list
pub front_rest : (hs : List Header) → front hs ++ rest hs ≡ hs
front_rest [] = refl
front_rest (h ∷ hs) = go (must_lead h.id) (front_rest hs)
  where
    go : (t : Bool) → front hs ++ rest hs ≡ hs → pick t (h ∷ front hs) [] ++ pick t (rest hs) (h ∷ hs) ≡ h ∷ hs
    go true e = ap (λ (l : List Header). h ∷ l) e
    go false e = refl

-- it goes between them
pub early : (x : Header) (hs : List Header) → insert_early x hs ≡ front hs ++ (x ∷ rest hs)
unfolding insert_early
early x [] = refl
early x (h ∷ hs) = go (must_lead h.id) (early x hs)
  where
    go : (t : Bool) → insert_early x hs ≡ front hs ++ (x ∷ rest hs)
        → pick t (h ∷ insert_early x hs) (x ∷ (h ∷ hs)) ≡ pick t (h ∷ front hs) [] ++ (x ∷ pick t (rest hs) (h ∷ hs))
    go true e = ap (λ (l : List Header). h ∷ l) e
    go false e = refl

-- ---- what the client puts in front: the ConnectionID, then SingleResponseMode

-- the ConnectionID's header
abbrev id_header : ℕ → Header
id_header i = header header_id.connection_id (bytes32 i)

abbrev srm_header : Header
srm_header = header header_id.single_response_mode (modes.enable ∷ [])

pub leads-both : (i : ℕ) → leading_headers (Some i) true ≡ id_header i ∷ srm_header ∷ []
unfolding leading_headers insert_early must_lead
leads-both i = refl

pub leads_id : (i : ℕ) → leading_headers (Some i) false ≡ id_header i ∷ []
unfolding leading_headers insert_early
leads_id i = refl

-- these read back
pub lead_shaped : (id : ConnectionId) (srm : Bool) → AllShaped (leading_headers id srm)
unfolding leading_headers insert_early must_lead encoding_of allowed tagged is_mode
lead_shaped None false = tt
lead_shaped None true = (record { sized = refl; is_allowed = refl }, tt)
lead_shaped (Some i) false = (record { sized = refl; is_allowed = refl }, tt)
lead_shaped (Some i) true = (record { sized = refl; is_allowed = refl }, (record { sized = refl; is_allowed = refl }, tt))

-- and carry the ConnectionID alone
pub lead-carried : (id : ConnectionId) (srm : Bool) → carried_by (leading_headers id srm) ≡ record { headers = leading id false; body = none }
unfolding leading leading_headers insert_early must_lead carried_by carried_one is_body is_srm all_bytes
lead-carried None false = refl
lead-carried None true = refl
lead-carried (Some i) false = refl
lead-carried (Some i) true = refl

-- ---- a packet that is put back

-- none of the headers is a chunk of a body
abbrev pub NoChunk : List Header → Type 0
NoChunk [] = Unit {0}
NoChunk (h ∷ hs) = (is_chunk h.id ≡ false) × NoChunk hs

abbrev queue : List Header → Pending → Queue
queue hs p = record { headers = hs; body = some p }

-- a packet of headers and a chunk goes back in front of what was left
pub put-back : (xs : List Header) (c : Header) (hs : List Header) (p : Pending) → NoChunk xs → is_chunk c.id ≡ true
    → rewind (xs ++ (c ∷ [])) (queue hs p) ≡ queue (xs ++ hs) (record { bytes = c.value ++ p.bytes; eof = p.eof })
unfolding rewind
put-back [] c hs p n e = ap (λ (t : Bool). put_back t c (some p) hs) e
put-back (x ∷ xs) c hs p n e =
    let q = put-back xs c hs p n.1 e in
    ap (λ (r : Queue). put_back (is_chunk x.id) x r.body r.headers) q
    ∙ ap (λ (t : Bool). put_back t x (some (record { bytes = c.value ++ p.bytes; eof = p.eof })) (xs ++ hs)) n.0

-- and one of headers alone
pub put-back-headers : (xs : List Header) (q : Queue) → NoChunk xs → rewind xs q ≡ record { headers = xs ++ q.headers; body = q.body }
unfolding rewind
put-back-headers [] q n = refl
put-back-headers (x ∷ xs) q n =
    ap (λ (r : Queue). put_back (is_chunk x.id) x r.body r.headers) (put-back-headers xs q n.1)
    ∙ ap (λ (t : Bool). put_back t x q.body (xs ++ q.headers)) n.0

-- over stores: a packet of headers and a chunk goes back, and the stores read as what was there before it was made
pub record AsBefore (p hs : List ℕ) (n : ℕ) (bs : List ℕ) (m : ℕ) (headers : List Header) (body : List ℕ) : Type 0 where
  pub headers_are : read_headers (take (n + length (back_bytes (headers_back true) p 0)) (rewound true p hs n bs m).headers) 0 ≡ some headers
  pub body_is : take (m + length (back_bytes (body_back true) p 0)) (rewound true p hs n bs m).body ≡ body

abbrev bytes_in : Option Pending → List ℕ
bytes_in none = []
bytes_in (some p) = p.bytes

pub stores-put-back : (p hs : List ℕ) (n : ℕ) (bs : List ℕ) (m : ℕ) (xs ys : List Header) (c : Header) → Octets p → Octets (take n hs)
    → read_headers p 0 ≡ some (xs ++ (c ∷ [])) → read_headers (take n hs) 0 ≡ some ys → NoChunk xs → is_chunk c.id ≡ true
    → n + length (back_bytes (headers_back true) p 0) ≤ length hs → m + length (back_bytes (body_back true) p 0) ≤ length bs
    → AsBefore p hs n bs m (xs ++ ys) (c.value ++ take m bs)
stores-put-back p hs n bs m xs ys c o oh e f free chunk g h =
    let r = rewound-read true p hs n bs m (xs ++ (c ∷ [])) ys false o oh e f g h in
    let q = put-back xs c ys (record { bytes = take m bs; eof = false }) free chunk in
    record {
      headers_are = r.headers ∙ ap (λ (q : Queue). some q.headers) q;
      body_is = ap bytes_in (sym r.body ∙ ap (λ (q : Queue). q.body) q);
    }
