-- The packets of a Put are of bytes, if its headers and the bytes that were given are: what leads, the user's headers, the body headers around the
-- body's bytes, and the length fields, which a packet within 65,535 bytes keeps in 16 bits. Assumes nothing.
use mathlib.Core.Path.{◌≡◌, sym, ap, subst}
use mathlib.Core.List.{List, [], ◌∷◌, ◌++◌, append-nil}
use mathlib.Core.Bool.{Bool, true, false}
use mathlib.Core.Option.{Option, none, some}
use Prim.Native.Nat.{ℕ, zero, suc, ◌+◌, ◌-◌, ◌/◌, ◌%◌, ◌≤◌, ◌<◌}
use native.Mathlib.Omega.{arith}
use lib.ListN.{length, drop, length-append}
use lib.Dec.{ltb}
use Rattle.std.specs.Prelude.{Some, None}
use Rattle.base.specs.Pick.{pick}
use Rattle.base.specs.Bytes.{bytes16, bytes32}
use Rattle.text.specs.Unicode.{Octets}
use Rattle.packet.specs.HeaderIds as header_id
use Rattle.packet.specs.FirstByte.{byte_of}
use Rattle.packet.specs.Header.{Header, encoding_of, bytes_of, all_bytes}
use Rattle.packet.specs.HeaderList.{AllWritable}
use Rattle.packet.specs.Packet.{packet_bytes}
use Rattle.packet.specs.declared.opcode.Opcode.TheVariants as op
use Rattle.packet.proofs.HeaderWrites.{read_writable, written-octets}
use Rattle.outgoing.specs.Packets.{packet, header, in_front, chunks, chunk_packets, body_packets, cannot_go, before, packets_from}
use Rattle.outgoing.specs.Packets as packets
use Rattle.outgoing.specs.Queue.{must_lead, insert_early}
use Rattle.outgoing.proofs.Sender.{ending}
use Rattle.outgoing.proofs.Sized.{Sized, AllSized, packets-sized}
use Rattle.connection.specs.Peer.{ConnectionId}
use Rattle.client_model.specs.Leading.{leading_headers, leading}
use Rattle.client_model.specs.Step.{Stores}
use Rattle.client_model.specs.declared.Client.{Client}
use Rattle.client_model.specs.declared.Outcome.{Outcome}
use Rattle.client_model.proofs.Conveyed.{bytes_one}
use Rattle.client_model.proofs.Sending.{lead-small}
use Rattle.client_model.proofs.Putting.{Job, onto, Keeps, Waits, sized_at, first-set, makes, made_packet, sent_packet, next_of}

-- ---- lists of bytes

pub octets-append : (a b : List ℕ) → Octets a → Octets b → Octets (a ++ b)
octets-append [] b p q k = q k
octets-append (x ∷ a) b p q zero = p zero
octets-append (x ∷ a) b p q (suc k) = octets-append a b (λ k. p (suc k)) q k

octets-cons : (x : ℕ) (l : List ℕ) → x < 256 → Octets l → Octets (x ∷ l)
octets-cons x l p q zero = p
octets-cons x l p q (suc k) = q k

octets-none : Octets []
octets-none k = omega arith

two-octets : (n : ℕ) → n < 65536 → Octets (bytes16 n)
two-octets n h = octets-cons (n / 256) (n % 256 ∷ []) (omega arith) (octets-cons (n % 256) [] (omega arith) octets-none)

four-octets : (n : ℕ) → Octets (bytes32 n)
four-octets n =
    octets-cons (n / 16777216 % 256) (n / 65536 % 256 ∷ n / 256 % 256 ∷ n % 256 ∷ []) (omega arith)
    (octets-cons (n / 65536 % 256) (n / 256 % 256 ∷ n % 256 ∷ []) (omega arith)
    (octets-cons (n / 256 % 256) (n % 256 ∷ []) (omega arith) (octets-cons (n % 256) [] (omega arith) octets-none)))

-- ---- what leads

pub lead-octets : (id : ConnectionId) (srm : Bool) → Octets (leading id srm)
unfolding leading leading_headers insert_early must_lead all_bytes bytes_of encoding_of
lead-octets None false = octets-none
lead-octets None true = octets-cons 0x97 (1 ∷ []) (omega arith) (octets-cons 1 [] (omega arith) octets-none)
lead-octets (Some i) false =
    octets-cons 0xCB (bytes32 i ++ []) (omega arith) (octets-append (bytes32 i) [] (four-octets i) octets-none)
lead-octets (Some i) true =
    octets-cons 0xCB (bytes32 i ++ (0x97 ∷ 1 ∷ [])) (omega arith)
    (octets-append (bytes32 i) (0x97 ∷ 1 ∷ []) (four-octets i) (octets-cons 0x97 (1 ∷ []) (omega arith) (octets-cons 1 [] (omega arith) octets-none)))

-- ---- packets

-- behind its first three bytes each packet is of bytes
abbrev AllOctets : List (List ℕ) → Type 0
AllOctets [] = Unit {0}
AllOctets (p ∷ ps) = Octets (drop 3 p) × AllOctets ps

abbrev EachOctets : List (List ℕ) → Type 0
EachOctets [] = Unit {0}
EachOctets (c ∷ cs) = Octets c × EachOctets cs

front-octets : (b : ℕ) (cs : List (List ℕ)) → b < 256 → EachOctets cs → EachOctets (in_front b cs)
front-octets b [] k w = (octets-cons b [] k octets-none, tt)
front-octets b (c ∷ cs) k w = (octets-cons b c k w.0, w.1)

chunks-octets : (room size : ℕ) (body : List ℕ) → Octets body → EachOctets (chunks room size body)
unfolding chunks
chunks-octets room size [] o = (octets-none, tt)
chunks-octets zero size (b ∷ bs) o = (
  octets-none,
  front-octets b (chunks (size - 1) size bs) (o 0)
      (chunks-octets (size - 1) size bs (λ k. o (suc k))),
)
chunks-octets (suc room) size (b ∷ bs) o = front-octets b (chunks room size bs) (o 0) (chunks-octets room size bs (λ k. o (suc k)))

-- a body header
body-octets : (v : List ℕ) → 3 + length v < 65536 → Octets v → Octets (header header_id.body v) × Octets (header header_id.end_of_body v)
unfolding bytes_of encoding_of
body-octets v n o = (
  octets-cons 0x48 (bytes16 (3 + length v) ++ v) (omega arith) (octets-append (bytes16 (3 + length v)) v (two-octets (3 + length v) n) o),
  octets-cons 0x49 (bytes16 (3 + length v) ++ v) (omega arith) (octets-append (bytes16 (3 + length v)) v (two-octets (3 + length v) n) o),
)

header-length : (v : List ℕ) → (length (header header_id.body v) ≡ 3 + length v) × (length (header header_id.end_of_body v) ≡ 3 + length v)
unfolding bytes_of encoding_of
header-length v = (omega arith, omega arith)

-- what a packet within the capacity holds is within it
within : (capacity : ℕ) (last : Bool) (content : List ℕ) → Sized capacity (packet last content) → length content ≤ capacity
within capacity last content z = let e : content ≡ z.content = ap (drop 3) z.is in omega (arith, ap length e, z.fits)

module _ (capacity : ℕ) (top : capacity ≤ 65532) where
  chunk-octets : (content : List ℕ) → Octets content → (cs : List (List ℕ)) → EachOctets cs → AllSized capacity (chunk_packets content cs)
      → AllOctets (chunk_packets content cs)
  unfolding chunk_packets
  chunk-octets content o [] w z = tt
  chunk-octets content o (c ∷ []) w z =
      let n = within capacity true (content ++ header header_id.end_of_body c) z.0 in
      let l = length-append content (header header_id.end_of_body c) in
      (octets-append content (header header_id.end_of_body c) o (body-octets c (omega (arith, n, l, (header-length c).1, top)) w.0).1, tt)
  chunk-octets content o ([] ∷ (d ∷ ds)) w z =
      (subst Octets (sym (append-nil content)) o, chunk-octets [] octets-none (d ∷ ds) w.1 z.1)
  chunk-octets content o ((b ∷ bs) ∷ (d ∷ ds)) w z =
      let c = b ∷ bs in
      let n = within capacity false (content ++ header header_id.body c) z.0 in
      let l = length-append content (header header_id.body c) in (
        octets-append content (header header_id.body c) o (body-octets c (omega (arith, n, l, (header-length c).0, top)) w.0).0,
        chunk-octets [] octets-none (d ∷ ds) w.1 z.1,
      )

  -- the bytes of a body, or none
  abbrev BodyOctets : Option (List ℕ) → Type 0
  BodyOctets none = Unit {0}
  BodyOctets (some b) = Octets b

  rest-octets : (content : List ℕ) → Octets content → (body : Option (List ℕ)) → BodyOctets body
      → AllSized capacity (body_packets capacity content body)
      → AllOctets (body_packets capacity content body)
  unfolding body_packets
  rest-octets content o none w z = (o, tt)
  rest-octets content o (some body) w z = go (ltb capacity (length content + 3)) z
    where
      go : (t : Bool) → AllSized capacity (pick t (packet false content ∷ chunk_packets [] (chunks (capacity - 3) (capacity - 3) body))
          (chunk_packets content (chunks (capacity - (length content + 3)) (capacity - 3) body)))
          → AllOctets (pick t (packet false content ∷ chunk_packets [] (chunks (capacity - 3) (capacity - 3) body))
          (chunk_packets content (chunks (capacity - (length content + 3)) (capacity - 3) body)))
      go true z =
          (o, chunk-octets [] octets-none (chunks (capacity - 3) (capacity - 3) body) (chunks-octets (capacity - 3) (capacity - 3) body w) z.1)
      go false z =
          chunk-octets content o (chunks (capacity - (length content + 3)) (capacity - 3) body)
          (chunks-octets (capacity - (length content + 3)) (capacity - 3) body w) z

  from-octets : (hs : List Header) → AllWritable hs → (content : List ℕ) → Octets content → (body : Option (List ℕ)) → BodyOctets body
      → AllSized capacity (packets_from capacity content hs body).sent → AllOctets (packets_from capacity content hs body).sent
  unfolding packets_from
  from-octets [] v content o body w z = rest-octets content o body w z
  from-octets (h ∷ hs) v content o body w z =
      go (ltb capacity (length (bytes_of h))) (ltb capacity (length content + length (bytes_of h))) z
      (λ y. from-octets hs v.1 (bytes_of h) one body w y)
      (λ y. from-octets hs v.1 (content ++ bytes_of h) (octets-append content (bytes_of h) o one) body w y)
    where
      one : Octets (bytes_of h)
      one = subst Octets (bytes_one h) (written-octets (h ∷ []) (v.0, tt))

      go : (t u : Bool)
          → AllSized capacity (pick t cannot_go (pick u (before (packet false content) (packets_from capacity (bytes_of h) hs body))
          (packets_from capacity (content ++ bytes_of h) hs body))).sent
          → (AllSized capacity (packets_from capacity (bytes_of h) hs body).sent → AllOctets (packets_from capacity (bytes_of h) hs body).sent)
          → (AllSized capacity (packets_from capacity (content ++ bytes_of h) hs body).sent
          → AllOctets (packets_from capacity (content ++ bytes_of h) hs body).sent)
          → AllOctets (pick t cannot_go (pick u (before (packet false content) (packets_from capacity (bytes_of h) hs body))
          (packets_from capacity (content ++ bytes_of h) hs body))).sent
      go true u z a b = tt
      go false true z a b = (o, a z.1)
      go false false z a b = b z

octets_at : (ps : List (List ℕ)) (p : List ℕ) (rest : List (List ℕ)) → AllOctets (ps ++ (p ∷ rest)) → Octets (drop 3 p)
octets_at [] p rest w = w.0
octets_at (q ∷ ps) p rest w = octets_at ps p rest w.1

-- ---- the packet that waits

put_byte : (last : Bool) → byte_of op.Put last < 256
unfolding byte_of
put_byte true = omega arith
put_byte false = omega arith

pub sent-octets : (j : Job) (srm : Bool) (sent : List (List ℕ)) (d : List ℕ) (c : Client) (o : Outcome) (s : Stores) (k : Keeps j c s)
    (a : Waits j srm sent d c o s) → Octets d → Octets (sent_packet j srm sent d c o s k a)
sent-octets j srm sent d c o s k a oct =
    let p = made_packet j srm sent d c o s k a in
    let w = next_of j srm sent d c o s k a a.last (makes j srm sent d c o s k a) in
    let b = onto d (ending j.has) in
    let sizes = packets-sized j.capacity (leading j.id j.wants) j.headers.list b j.low
    (omega (arith, j.low, lead-small j.id j.wants)) in
    let all = from-octets j.capacity j.top j.headers.list (read_writable j.hs j.octets 0 j.headers.list j.headers.reads)
    (leading j.id j.wants) (lead-octets j.id j.wants) b (given j.has) sizes in
    let z = sized_at j.capacity sent p w.0 (subst (λ (l : List (List ℕ)). AllSized j.capacity l) w.1 sizes) in
    let y = octets_at sent p w.0 (subst AllOctets w.1 all) in
    let t = byte_of op.Put a.last in
    let q : sent_packet j srm sent d c o s k a ≡ t ∷ (bytes16 (3 + length z.content) ++ z.content) =
    first-set a.size t (packets.first_byte z.last) a.made.reply (bytes16 (3 + length z.content) ++ z.content) z.is in
    subst Octets (sym q)
    (octets-cons t (bytes16 (3 + length z.content) ++ z.content) (put_byte a.last)
    (octets-append (bytes16 (3 + length z.content)) z.content (two-octets (3 + length z.content) (omega (arith, z.fits, j.top)))
    (subst Octets (ap (drop 3) z.is) y)))
  where
    given : (has : Bool) → BodyOctets j.capacity j.top (onto d (ending has))
    given true = subst Octets (sym (append-nil d)) oct
    given false = tt

-- the Abort
pub abort_octets : (id : ConnectionId) → Octets (packet_bytes (byte_of op.Abort true) [] (leading id false))
unfolding packet_bytes byte_of
abort_octets id =
    let l = leading id false in
    let n = lead-small id false in
    octets-cons 0xFF (bytes16 (3 + 0 + length l) ++ l) (omega arith)
    (octets-append (bytes16 (3 + 0 + length l)) l (two-octets (3 + 0 + length l) (omega (arith, n))) (lead-octets id false))
