-- A Put that the client does not refuse is conveyed: its packets carry exactly the headers behind any ConnectionID, and the body bytes that
-- were given. The packets of a request and of an object can be read at the other end. Assumes nothing.
use mathlib.Core.Path.{◌≡◌, refl, sym, ap, ◌∙◌}
use mathlib.Core.Bool.{Bool, true, false, ◌||◌, not}
use mathlib.Core.Option.{Option, none, some}
use mathlib.Core.List.{List, [], ◌∷◌, ◌++◌, append-nil}
use Prim.Native.Nat.{ℕ, ◌+◌, ◌%◌, ◌≤◌}
use native.Mathlib.Omega.{arith}
use lib.ListN.{length, get_or}
use lib.Dec.{ltb, leb, eqb}
use borrow.Author.Tests.{le-ltb}
use Rattle.base.specs.Pick.{pick}
use Rattle.text.specs.Unicode.{Octets}
use Rattle.packet.specs.HeaderIds as header_id
use Rattle.packet.specs.Codes.{is_code}
use Rattle.packet.specs.FirstByte.{known_byte, first_byte}
use Rattle.packet.specs.Header.{Header, read_headers, bytes_of, all_bytes}
use Rattle.packet.specs.Canonical.{canonical_as, canonical}
use Rattle.packet.specs.Packet.{prefix_of, request_by, request_of}
use Rattle.packet.specs.ResponsePacket.{response_packet}
use Rattle.packet.specs.declared.opcode.Opcode.{Opcode}
use Rattle.packet.specs.declared.opcode.FirstByte.{FirstByte}
use Rattle.std.specs.Prelude.{Option as Maybe}
use Rattle.packet.proofs.HeaderBytes.{header-bytes}
use Rattle.packet.proofs.HeaderWrites.{read_shaped}
use Rattle.journal.specs.Record.{Record, joined, is_body, is_srm, carried_one, carried_by}
use Rattle.journal.specs.Journal.{list_of}
use Rattle.outgoing.specs.Packets.{packet, before, packets_from}
use Rattle.connection.specs.Peer.{ConnectionId}
use Rattle.client_model.specs.Leading.{leading_headers, leading}
use Rattle.client_model.specs.Guard.{any_of, is_reserved, bad_headers, too_long_of}
use Rattle.client_model.proofs.Conveyed.{Conveyed, body_record, conveyed, conveyed_as}
use Rattle.client_model.proofs.Leads.{lead_shaped, lead-carried}

-- ---- tests

or_none_lem : (a b : Bool) → (a || b) ≡ false → (a ≡ false) × (b ≡ false)
or_none_lem false b e = (refl, e)
or_none_lem true b e = let z : ◌≡◌ {A = ℕ} 0 1 = cc in absurd (omega arith)

-- ---- headers that fit

-- if each header fits a packet, all of the request can be sent
pub all-fits : (capacity : ℕ) (hs : List Header) (content : List ℕ) (body : Option (List ℕ))
    → any_of (λ (h : Header). ltb capacity (length (bytes_of h))) hs ≡ false → (packets_from capacity content hs body).whole ≡ true
unfolding packets_from any_of
all-fits capacity [] content body e = refl
all-fits capacity (h ∷ hs) content body e =
    let w = or_none_lem (ltb capacity (length (bytes_of h))) (any_of (λ (h : Header). ltb capacity (length (bytes_of h))) hs) e in
    rw w.0
    (go (ltb capacity (length content + length (bytes_of h))) (all-fits capacity hs (bytes_of h) body w.1)
    (all-fits capacity hs (content ++ bytes_of h) body w.1))
  where
    go : (t : Bool) → (packets_from capacity (bytes_of h) hs body).whole ≡ true → (packets_from capacity (content ++ bytes_of h) hs body).whole ≡ true
        → (pick t (before (packet false content) (packets_from capacity (bytes_of h) hs body)) (packets_from capacity (content ++ bytes_of h) hs body)).whole ≡ true
    go true p q = p
    go false p q = q

-- ---- the user's headers

-- those that are not the client's own are kept as they are
pub user-carried : (hs : List Header) → any_of is_reserved hs ≡ false → carried_by hs ≡ record { headers = all_bytes hs; body = none }
unfolding any_of carried_by carried_one all_bytes
user-carried [] e = refl
user-carried (h ∷ hs) e =
    let w = or_none_lem (is_reserved h) (any_of is_reserved hs) e in
    let v = or_none_lem (eqb h.id header_id.connection_id) (is_srm h.id || is_body h.id) w.0 in
    let u = or_none_lem (is_srm h.id) (is_body h.id) v.1 in
    rw (u.0, u.1) (ap (joined (record { headers = bytes_of h; body = none })) (user-carried hs w.1))

-- the headers that were read of those of a user
pub record Given (capacity : ℕ) (hs : List ℕ) : Type 0 where
  pub list : List Header
  pub reads : read_headers hs 0 ≡ some list
  pub own : any_of is_reserved list ≡ false
  pub fit : any_of (λ (h : Header). ltb capacity (length (bytes_of h))) list ≡ false

-- a user's headers that are not refused are such
canonical-reads : (hs : List ℕ) (r : Option (List Header)) → read_headers hs 0 ≡ r → not (canonical_as hs r) ≡ false → (l : List Header) × (read_headers hs 0 ≡ some l)
canonical-reads hs none e c = let z : ◌≡◌ {A = ℕ} 0 1 = cc in absurd (omega arith)
canonical-reads hs (some l) e c = (l, e)

pub own_reads : (hs : List ℕ) → bad_headers hs ≡ false → (l : List Header) × (read_headers hs 0 ≡ some l)
unfolding bad_headers canonical
own_reads hs b =
    let w = or_none_lem (ltb 65535 (length hs)) (not (canonical_as hs (read_headers hs 0)) || any_of is_reserved (list_of (read_headers hs 0))) b in
    canonical-reads hs (read_headers hs 0) refl (or_none_lem (not (canonical_as hs (read_headers hs 0))) (any_of is_reserved (list_of (read_headers hs 0))) w.1).0

pub given : (capacity : ℕ) (hs : List ℕ) → bad_headers hs ≡ false → too_long_of capacity hs ≡ false → Given capacity hs
unfolding bad_headers too_long_of canonical
given capacity hs b t =
    let w = or_none_lem (ltb 65535 (length hs)) (not (canonical_as hs (read_headers hs 0)) || any_of is_reserved (list_of (read_headers hs 0))) b in
    let v = or_none_lem (not (canonical_as hs (read_headers hs 0))) (any_of is_reserved (list_of (read_headers hs 0))) w.1 in
    let r = canonical-reads hs (read_headers hs 0) refl v.0 in
    record {
      list = r.0;
      reads = r.1;
      own = ap (λ (x : Option (List Header)). any_of is_reserved (list_of x)) (sym r.1) ∙ v.1;
      fit = ap (λ (x : Option (List Header)). any_of (λ (h : Header). ltb capacity (length (bytes_of h))) (list_of x)) (sym r.1) ∙ t;
    }

-- ---- a Put

-- the record of a Put: the ConnectionID, the user's headers, and the body or none
abbrev pub put_record : ConnectionId → List ℕ → Option (List ℕ) → Record
put_record id hs body = record { headers = leading id false ++ hs; body = body }

-- the packets of a Put carry it
pub put_conveyed : (capacity : ℕ) (id : ConnectionId) (srm : Bool) (hs : List ℕ) (body : Option (List ℕ)) → Octets hs → (g : Given capacity hs)
    → Conveyed (packets_from capacity (leading id srm) g.list body).sent (put_record id hs body)
unfolding leading
put_conveyed capacity id srm hs body oct g =
    let lead = leading_headers id srm in
    let b : all_bytes g.list ≡ hs = header-bytes hs 0 g.list oct g.reads in
    let u : carried_by g.list ≡ record { headers = hs; body = none } =
    user-carried g.list g.own ∙ ap (λ (l : List ℕ). record { headers = l; body = none }) b in
    conveyed_as
    (ap (λ (r : Record). joined r (joined (carried_by g.list) (body_record body))) (lead-carried id srm)
    ∙ ap (λ (r : Record). joined (record { headers = all_bytes (leading_headers id false); body = none }) (joined r (body_record body))) u
    ∙ ap (λ (l : List ℕ). record { headers = all_bytes (leading_headers id false) ++ l; body = body }) (append-nil hs))
    (conveyed capacity body g.list (read_shaped hs 0 g.list g.reads) lead (lead_shaped id srm)
    (all-fits capacity g.list (all_bytes lead) body g.fit))

-- ---- read at the other end

-- a packet of a request, whose headers stand behind its first three bytes
pub request-read : (p : List ℕ) (o : Opcode) (f : Bool) (x : List Header) → first_byte (get_or p 0 0) ≡ known_byte o f → prefix_of o ≡ 3 → 3 ≤ length p
    → read_headers p 3 ≡ some x → request_of p ≡ some (record { opcode = o; final = f; bytes = p; headers = x })
unfolding request_of
request-read p o f x e k l r =
    ap (λ (b : Maybe FirstByte). request_by b p) e ∙ rw (k, le-ltb (length p) 3 l, r)

-- a response without fields
pub response-read : (p : List ℕ) (x : List Header) → is_code (get_or p 0 0 % 128) ≡ true → 3 ≤ length p → read_headers p 3 ≡ some x
    → response_packet false p ≡ some (record { code = get_or p 0 0 % 128; final = leb 128 (get_or p 0 0); bytes = p; headers = x })
unfolding response_packet
response-read p x c l r = rw (c, le-ltb (length p) 3 l, r)
