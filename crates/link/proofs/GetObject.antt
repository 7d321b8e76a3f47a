-- The object of a Get that the server sends, with Single Response Mode (SRM) or without: at each moment the packets that it sent and those that
-- are still to go are the packets of the whole object, whatever body bytes are still to come; each can be read, and together they carry the
-- object. Assumes nothing.
use mathlib.Core.Path.{◌≡◌, refl, sym, ap, subst, ◌∙◌}
use mathlib.Core.List.{List, [], ◌∷◌, ◌++◌, append-nil}
use mathlib.Core.Bool.{Bool, true, false, ◌&&◌, ◌||◌, true≢false, false≢true}
use mathlib.Core.Option.{Option, none, some}
use Prim.Native.Nat.{ℕ, zero, suc, ◌+◌, ◌-◌, ◌%◌, ◌≤◌}
use native.Mathlib.Omega.{arith}
use lib.ListN.{length, get_or, take, drop, set, length-append}
use lib.Seq.{take-append_seam}
use lib.Dec.{leb}
use Rattle.std.specs.Prelude.{None}
use Rattle.base.specs.Pick.{pick}
use Rattle.base.specs.Bytes.{bytes16}
use Rattle.text.specs.Unicode.{Octets}
use Rattle.packet.specs.Codes.{codes, is_code, sent_code}
use Rattle.packet.specs.Header.{Header, walk, read_headers, encoding_of, bytes_of, all_bytes}
use Rattle.packet.proofs.Laid.{set-laid}
use Rattle.packet.specs.Packet.{packet_bytes}
use Rattle.packet.specs.ResponsePacket.{response_packet}
use Rattle.packet.proofs.HeaderBytes.{header-bytes}
use Rattle.packet.proofs.HeaderWrites.{read_shaped, read-written}
use Rattle.journal.specs.Record.{Record, bare, joined, is_body, is_srm, carried_one, carried_by}
use Rattle.incoming.proofs.Queued.{IsWhole}
use Rattle.outgoing.specs.Claims.{has_body_of, body_bytes_of}
use Rattle.outgoing.specs.Object.{Made, lead_store, next_packet, next_after, fill_packet, body_given_of}
use Rattle.outgoing.specs.Queue.{must_lead, insert_early}
use Rattle.outgoing.specs.Packets.{first_byte, Packets, all_sent, before, packets_from}
use Rattle.outgoing.specs.declared.object.Outgoing.{Outgoing}
use Rattle.outgoing.specs.declared.object.Chunk.{Chunk}
use Rattle.outgoing.specs.declared.object.Next.{Next}
use Rattle.outgoing.specs.declared.object.Next.TheVariants as next
use Rattle.outgoing.specs.declared.object.NextPacket.{NextPacket}
use Rattle.outgoing.proofs.Holding.{Holds, holds_none, holds_laid}
use Rattle.outgoing.proofs.Sender.{Left, headers_left, ahead_left, packets_left, ending, At, Reading, Makes, Making, first_making, next_making, given_making}
use Rattle.outgoing.proofs.Sent.{SendsFrom, next-sends, body-sends}
use Rattle.outgoing.proofs.Sized.{AllSized, packets-sized}
use Rattle.connection.specs.Reply.{front}
use Rattle.model.specs.Object.{object_of}
use Rattle.server.specs.declared.Operation.TheVariants.{Sending}
use Rattle.model.specs.Runs.{State}
use Rattle.client_model.specs.Guard.{any_of}
use Rattle.client_model.specs.Leading.{leading_headers, leading}
use Rattle.client_model.proofs.Conveyed.{Holding, carried_all, body_record, reads-back, conveyed}
use Rattle.client_model.proofs.Leads.{lead_shaped}
use Rattle.client_model.proofs.Sending.{lead-small}
use Rattle.client_model.proofs.Only.{NoSrm, Led, led-from}
use Rattle.client_model.proofs.Putting.{Counts, is_none, Plainly, asked_at, onto, behind, behind-whole, behind-sent, behind_more, ending_has, made-counts, sized_at, at_total, wire-whole, same-headers, holding-more, onto-ending}
use Rattle.client_model.proofs.Requests.{response-read}
use Rattle.link.proofs.ServerMoves.{code-back, none_read}

-- ---- a reply that can be read

-- with these headers
pub record Down (y : List ℕ) (code : ℕ) (x : List Header) : Type 0 where
  pub whole : IsWhole y
  pub final : Bool
  pub reads : response_packet false y ≡ some (record { code = code; final = final; bytes = y; headers = x })
  pub first : take 1 y ≡ sent_code code ∷ []
  pub holds : drop 3 y ≡ all_bytes x

drop-short : (n : ℕ) (y : List ℕ) → length (drop n y) ≤ length y
drop-short zero y = omega arith
drop-short (suc n) [] = omega arith
drop-short (suc n) (a ∷ y) = let k = drop-short n y in omega (arith, k)

pub down-short : (y : List ℕ) (code : ℕ) (x : List Header) → Down y code x → length (all_bytes x) ≤ 65535
down-short y code x d =
    let e = ap (λ (l : List ℕ). length l) d.holds in
    omega (arith, e, drop-short 3 y, d.whole.most)

-- a code and headers
pub reply-down : (code : ℕ) (hs : List ℕ) (l : List Header) → is_code code ≡ true → length hs ≤ 65532 → Octets hs → read_headers hs 0 ≡ some l
    → Down (packet_bytes (sent_code code) [] hs) code l
unfolding packet_bytes
reply-down code hs l c n o e =
    let y = packet_bytes (sent_code code) [] hs in
    let b = code-back code c in
    let w : IsWhole y = record { least = omega arith; most = omega (arith, n); field = omega (arith, n) } in
    let q : hs ≡ all_bytes l = sym (header-bytes hs 0 l o e) in
    let r = response-read y l (ap is_code b ∙ c) w.least (read-written l y 3 (read_shaped hs 0 l e) q) in
    record {
      whole = w;
      final = leb 128 (sent_code code);
      reads = r ∙ ap (λ (n : ℕ). some (record { code = n; final = leb 128 (sent_code code); bytes = y; headers = l })) b;
      first = refl;
      holds = q;
    }

-- a code alone
pub code-down : (code : ℕ) → is_code code ≡ true → Down (packet_bytes (sent_code code) [] []) code []
code-down code c = reply-down code [] [] c (omega arith) (λ k. omega arith) none_read

-- ---- headers that a host gives

abbrev pub is_body_or_srm : Header → Bool
is_body_or_srm h = is_body h.id || is_srm h.id

or_none_lem : (a b : Bool) → (a || b) ≡ false → (a ≡ false) × (b ≡ false)
or_none_lem false b e = (refl, e)
or_none_lem true b e = absurd (true≢false e)

pub plain_carried : (hs : List Header) → any_of is_body_or_srm hs ≡ false → carried_by hs ≡ record { headers = all_bytes hs; body = none }
unfolding any_of carried_by carried_one all_bytes
plain_carried [] e = refl
plain_carried (h ∷ hs) e =
    let w = or_none_lem (is_body_or_srm h) (any_of is_body_or_srm hs) e in
    let v = or_none_lem (is_body h.id) (is_srm h.id) w.0 in
    rw (v.0, v.1) (ap (joined (record { headers = bytes_of h; body = none })) (plain_carried hs w.1))

plain-srm : (hs : List Header) → any_of is_body_or_srm hs ≡ false → NoSrm hs
unfolding any_of
plain-srm [] e = tt
plain-srm (h ∷ hs) e =
    let w = or_none_lem (is_body_or_srm h) (any_of is_body_or_srm hs) e in
    ((or_none_lem (is_body h.id) (is_srm h.id) w.0).1, plain-srm hs w.1)

-- ---- an object

-- what the host gave, for packets of at most `box` bytes; `on` says that SRM is on, `lead` that its first packet grants it
pub record Thing (box : ℕ) : Type 0 where
  pub on : Bool
  pub lead : Bool
  pub leads : lead ≡ true → on ≡ true
  pub hs : List ℕ
  pub has : Bool
  pub store : List ℕ
  pub low : 255 ≤ box
  pub top : box ≤ 65535
  pub octets : Octets hs
  pub most : length hs ≤ 65535
  pub list : List Header
  pub reads : read_headers hs 0 ≡ some list
  pub plain : any_of is_body_or_srm list ≡ false

-- without SRM nothing grants it
pub lead_off : (box : ℕ) (t : Thing box) → t.on ≡ false → t.lead ≡ false
lead_off box t e = go t.lead refl
  where
    go : (b : Bool) → t.lead ≡ b → b ≡ false
    go true q = absurd (true≢false (sym (t.leads q) ∙ e))
    go false q = refl

module _ (box : ℕ) (t : Thing box) where
  -- all its packets, with this body
  abbrev pub thing_packets : Option (List ℕ) → Packets
  thing_packets b = packets_from (box - 3) (leading None t.lead) t.list b

  -- the header store while they go
  abbrev pub thing_headers : List ℕ
  thing_headers = front t.hs t.store

  -- the object with the body bytes `d`
  abbrev pub thing_record : List ℕ → Record
  thing_record d = record { headers = t.hs; body = pick t.has (some d) none }

  -- with `d` given, `f` is what is still to go behind `out`
  abbrev pub SoFar : List (List ℕ) → List ℕ → (Option (List ℕ) → Packets) → Type 0
  SoFar out d f = (b : Option (List ℕ)) → has_body_of b ≡ t.has → thing_packets (onto d b) ≡ behind out (f b)

  -- between two packets
  pub record Sends (out : List (List ℕ)) (d : List ℕ) (s : State) : Type 0 where
    pub outgoing : Outgoing
    pub chunk : Chunk
    pub left : Left
    pub at : At (box - 3) (length t.hs) thing_headers t.has left outgoing
    pub so_far : SoFar out d (λ b. packets_left (box - 3) left b)
    pub counts : Counts outgoing chunk
    pub operation : s.engine.operation ≡ Sending outgoing chunk t.on false
    pub headers : s.stores.headers ≡ thing_headers

  -- body bytes are awaited
  pub record Reads (out : List (List ℕ)) (d : List ℕ) (s : State) : Type 0 where
    pub made : Made
    pub rest : Option (List ℕ) → Packets
    pub making : Making (box - 3) (length t.hs) thing_headers t.has made rest
    pub so_far : SoFar out d rest
    pub is_next : made.packet.next ≡ next.Read
    pub counts : Counts made.packet.outgoing made.packet.chunk
    pub operation : s.engine.operation ≡ Sending made.packet.outgoing made.packet.chunk t.on false
    pub headers : s.stores.headers ≡ thing_headers
    pub reply : s.stores.reply ≡ made.reply

  -- what was made of it
  pub record Makes' (out : List (List ℕ)) (d : List ℕ) (m : Made) (f : Option (List ℕ) → Packets) : Type 0 where
    pub making : Making (box - 3) (length t.hs) thing_headers t.has m f
    pub so_far : SoFar out d f
    pub counts : Counts m.packet.outgoing m.packet.chunk
    pub last : (n : ℕ) → m.packet.next ≡ next.Send n true → get_or m.reply 0 0 ≡ 0xA0
    pub going : (n : ℕ) → m.packet.next ≡ next.Send n false → get_or m.reply 0 0 ≡ 0x90

  made_of : (out : List (List ℕ)) (d : List ℕ) (o : Outgoing) (y : List ℕ) (m : Made) (f : Option (List ℕ) → Packets)
      → Making (box - 3) (length t.hs) thing_headers t.has m f → SoFar out d f → o.total ≤ 65535 → SendsFrom o y m → Makes' out d m f
  made_of out d o y m f w so n v = record { making = w; so_far = so; counts = made-counts o y m n v; last = v.last; going = v.going }

  headers-long : length t.hs ≤ length thing_headers
  headers-long = omega (arith, length-append t.hs (drop (length t.hs) t.store))

  headers-octets : Octets (take (length t.hs) thing_headers)
  headers-octets = subst Octets (sym (take-append_seam t.hs (drop (length t.hs) t.store))) t.octets

  headers-walk : walk (suc (length (take (length t.hs) thing_headers))) (take (length t.hs) thing_headers) 0 ≡ some t.list
  unfolding read_headers
  headers-walk = ap (λ (x : List ℕ). walk (suc (length x)) x 0) (take-append_seam t.hs (drop (length t.hs) t.store)) ∙ t.reads

  -- ---- its packets are made

  onto-none : (b : Option (List ℕ)) → onto [] b ≡ b
  onto-none none = refl
  onto-none (some b) = refl

  -- behind the grant, if there is one
  lead_holds : (lead : Bool) (y : List ℕ) → 65535 ≤ length y → Holds (lead_store lead y) (leading None lead)
  unfolding leading leading_headers insert_early must_lead all_bytes bytes_of encoding_of
  lead_holds false y long = holds_none y long
  lead_holds true y long =
      let w : Holds (set y 3 0x97) (0x97 ∷ []) = rw (set-laid y 3 0x97 (omega arith))
      (holds_laid y [] (0x97 ∷ []) 3 refl (omega arith) (holds_none y long)) in
      rw (set-laid (set y 3 0x97) 4 0x01 (omega (arith, w.long))) (holds_laid (set y 3 0x97) (0x97 ∷ []) (0x01 ∷ []) 4 refl (omega arith) w)

  first-same : (lead : Bool) (y : List ℕ)
      → next_after (3 + length (leading None lead)) (box - 3) (object_of (length t.hs) false t.has) thing_headers (lead_store lead y)
      ≡ next_packet (box - 3) (object_of (length t.hs) lead t.has) thing_headers y
  unfolding next_after next_packet fill_packet leading leading_headers insert_early must_lead all_bytes bytes_of encoding_of
  first-same false y = refl
  first-same true y = refl

  -- the first
  pub first_made : (y : List ℕ) → 65535 ≤ length y
      → Makes' [] [] (next_packet (box - 3) (object_of (length t.hs) t.lead t.has) thing_headers y) (λ b. thing_packets b)
  first_made y long =
      let o = object_of (length t.hs) t.lead t.has in
      let cap = box - 3 in
      let w = first_making cap (length t.hs) thing_headers (omega (arith, t.low)) (omega (arith, t.low, t.top)) t.has headers-long
      headers-octets t.list (leading None t.lead) (lead_store t.lead y) headers-walk
      (omega (arith, t.low, lead-small None t.lead)) (lead_holds t.lead y long) in
      made_of [] [] o y (next_packet cap o thing_headers y) (λ b. thing_packets b)
      (subst (λ (m : Made). Making cap (length t.hs) thing_headers t.has m (λ b. thing_packets b)) (first-same t.lead y) w)
      (λ b h. ap thing_packets (onto-none b)) t.most
      (next-sends cap o thing_headers y (omega (arith, t.low)) (omega (arith, t.low, t.top)) long (omega arith) t.most headers-long)

  next-same : (l : Left) (o : Outgoing) (y : List ℕ) → At (box - 3) (length t.hs) thing_headers t.has l o
      → next_after 3 (box - 3) o thing_headers y ≡ next_packet (box - 3) o thing_headers y
  unfolding next_after next_packet fill_packet
  next-same (headers_left hs) o y a = rw a.is refl
  next-same (ahead_left x) o y a = rw a.is refl

  -- the next
  pub next-made : (out : List (List ℕ)) (d : List ℕ) (s : State) (y : List ℕ) → (a : Sends out d s) → 65535 ≤ length y
      → Makes' out d (next_packet (box - 3) a.outgoing thing_headers y) (λ b. packets_left (box - 3) a.left b)
  next-made out d s y a long =
      let cap = box - 3 in
      let o = a.outgoing in
      let total = at_total cap (length t.hs) thing_headers t.has a.left o a.at in
      let w = next_making cap (length t.hs) thing_headers (omega (arith, t.low)) (omega (arith, t.low, t.top)) t.has headers-long
      headers-octets a.left o y a.at long in
      made_of out d o y (next_packet cap o thing_headers y) (λ b. packets_left cap a.left b)
      (subst (λ (m : Made). Making cap (length t.hs) thing_headers t.has m (λ b. packets_left cap a.left b)) (next-same a.left o y a.at)
      w)
      a.so_far a.counts.total
      (next-sends cap o thing_headers y (omega (arith, t.low)) (omega (arith, t.low, t.top)) long a.counts.sent a.counts.total
      (omega (arith, total, headers-long)))

  onto-more : (d x : List ℕ) (b : Option (List ℕ)) → has_body_of b ≡ true → onto (d ++ x) b ≡ some (d ++ (x ++ body_bytes_of b))
  onto-more d x none e = absurd (false≢true e)
  onto-more d x (some b) e = ap (λ (l : List ℕ). some l) (mathlib.Core.List.append_assoc d x b)

  module _ (out : List (List ℕ)) (d x : List ℕ) (s : State) (a : Reads out d s) (r : length x ≤ a.made.packet.chunk.room) where
    reads : Reading (box - 3) (length t.hs) thing_headers t.has a.made a.rest
    reads = subst (λ (y : Next). Makes (box - 3) (length t.hs) thing_headers t.has y a.made a.rest) a.is_next a.making.by

    pub has_body : t.has ≡ true
    has_body = reads.body

    within : length x ≤ reads.room
    within = let q : a.made.packet.chunk.room ≡ reads.room = ap (λ (p : NextPacket). p.chunk.room) reads.is in omega (arith, r, q)

    -- with bytes that were given
    pub given_made : Makes' out (d ++ x) (body_given_of a.made.packet.outgoing a.made.packet.chunk x a.made.reply)
        (λ b. a.rest (some (x ++ body_bytes_of b)))
    given_made =
        let y = a.made.reply in
        let o = a.made.packet.outgoing in
        let c = a.made.packet.chunk in
        let m = body_given_of o c x y in
        let f : Option (List ℕ) → Packets = λ b. a.rest (some (x ++ body_bytes_of b)) in
        made_of out (d ++ x) o y m f
        (subst (λ (h : Bool). Making (box - 3) (length t.hs) thing_headers h m f) (sym has_body)
        (given_making (box - 3) (length t.hs) thing_headers (omega (arith, t.low)) (omega (arith, t.low, t.top)) a.made a.rest
        (subst (λ (h : Bool). Reading (box - 3) (length t.hs) thing_headers h a.made a.rest) has_body reads) x within))
        (λ b e. ap thing_packets (onto-more d x b (e ∙ has_body)) ∙ a.so_far (some (x ++ body_bytes_of b)) (sym has_body))
        a.counts.total (body-sends o c x y a.making.long r a.counts.begun a.counts.chunk a.counts.sent)

  -- ---- a packet that was made

  first_in_lem : (n b : ℕ) (y rest : List ℕ) → take n y ≡ b ∷ rest → get_or y 0 0 ≡ b
  first_in_lem zero b y rest e = let z : ◌≡◌ {A = ℕ} 0 1 = cc in absurd (omega arith)
  first_in_lem (suc n) b [] rest e = let z : ◌≡◌ {A = ℕ} 0 1 = cc in absurd (omega arith)
  first_in_lem (suc n) b (a ∷ y) rest e = ap (λ (l : List ℕ). get_or l 0 0) e

  -- its code
  abbrev pub code_of : Bool → ℕ
  code_of true = 0x20
  code_of false = 0x10

  module _ (out : List (List ℕ)) (d : List ℕ) (zs : List (List Header)) (hold : Holding out zs) (m : Made) (f : Option (List ℕ) → Packets)
      (w : Makes' out d m f) (n : ℕ) where
    abbrev pub sent_of : List ℕ
    sent_of = take n m.reply

    makes : (last : Bool) → m.packet.next ≡ next.Send n last → Makes (box - 3) (length t.hs) thing_headers t.has (next.Send n last) m f
    makes last e = subst (λ (y : Next). Makes (box - 3) (length t.hs) thing_headers t.has y m f) e w.making.by

    next_of : (last : Bool) → Makes (box - 3) (length t.hs) thing_headers t.has (next.Send n last) m f
        → (rest : List (List ℕ)) × ((thing_packets (onto d (ending t.has))).sent ≡ out ++ (sent_of ∷ rest))
    next_of true v = (
      [],
      ap (λ (r : Packets). r.sent) (w.so_far (ending t.has) (ending_has t.has) ∙ ap (behind out) v) ∙ behind-sent out
          (all_sent (sent_of ∷ [])),
    )
    next_of false v =
        let r = packets_left (box - 3) v.left (ending t.has) in (
          r.sent,
          ap (λ (r : Packets). r.sent) (w.so_far (ending t.has) (ending_has t.has) ∙ ap (behind out)
              (v.go (ending t.has) (ending_has t.has)))
              ∙ behind-sent out (before sent_of r),
        )

    -- its first byte is that of its code
    first_code : (last u : Bool) → m.packet.next ≡ next.Send n last → get_or m.reply 0 0 ≡ first_byte u → first_byte u ≡ sent_code (code_of last)
    first_code true true e q = refl
    first_code false false e q = refl
    first_code true false e q = let k = sym (w.last n e) ∙ q in absurd (omega (arith, k))
    first_code false true e q = let k = sym (w.going n e) ∙ q in absurd (omega (arith, k))

    is_code_lem : (last : Bool) → is_code (code_of last) ≡ true
    unfolding is_code codes
    is_code_lem true = refl
    is_code_lem false = refl

    thing-led : (b : Option (List ℕ)) → Led (leading_headers None t.lead) (thing_packets b).sent
    unfolding leading
    thing-led b =
        led-from (box - 3) b t.list (read_shaped t.hs 0 t.list t.reads) (plain-srm t.list t.plain)
        (leading_headers None t.lead) (lead_shaped None t.lead) (all_bytes (leading_headers None t.lead)) refl

    pub made-down : (last : Bool) → m.packet.next ≡ next.Send n last
        → (x : List Header) × Down sent_of (code_of last) x × Holding (out ++ (sent_of ∷ [])) (zs ++ (x ∷ [])) × Plainly (is_none out && t.lead) x
    made-down last e =
        let cap = box - 3 in
        let b = onto d (ending t.has) in
        let v = next_of last (makes last e) in
        let o = thing-led b in
        let h = asked_at None t.lead out sent_of v.0 o.headers (subst (λ (l : List (List ℕ)). Holding l o.headers) v.1 o.holds)
        o.only in
        let z = sized_at cap out sent_of v.0 (subst (λ (l : List (List ℕ)). AllSized cap l) v.1
        (packets-sized cap (leading None t.lead) t.list b (omega (arith, t.low)) (omega (arith, t.low, lead-small None t.lead)))) in
        let c = code_of last in
        let q = first_code last z.last e (first_in_lem n (first_byte z.last) m.reply (bytes16 (3 + length z.content) ++ z.content) z.is) in
        let i : sent_of ≡ sent_code c ∷ (bytes16 (3 + length z.content) ++ z.content) =
        z.is ∙ ap (λ (k : ℕ). k ∷ (bytes16 (3 + length z.content) ++ z.content)) q in
        let y : IsWhole sent_of = subst IsWhole (sym i) (wire-whole (sent_code c) z.content (omega (arith, z.fits, t.low, t.top))) in
        let k : get_or sent_of 0 0 % 128 ≡ c = ap (λ (l : List ℕ). get_or l 0 0 % 128) i ∙ code-back c (is_code_lem last) in
        let r = response-read sent_of h.0 (ap is_code k ∙ is_code_lem last) y.least (reads-back sent_of sent_of h.0 h.1 h.2 refl) in (
          h.0,
          record {
            whole = y;
            final = leb 128 (get_or sent_of 0 0);
            reads = r ∙ ap (λ (a : ℕ). some (record { code = a; final = leb 128 (get_or sent_of 0 0); bytes = sent_of; headers = h.0 })) k;
            first = ap (take 1) i;
            holds = h.1;
          },
          holding-more out zs sent_of h.0 hold h.1 h.2,
          h.3,
        )

    -- the last one: all were sent
    pub all-sent : m.packet.next ≡ next.Send n true → thing_packets (onto d (ending t.has)) ≡ all_sent (out ++ (sent_of ∷ []))
    all-sent e =
        w.so_far (ending t.has) (ending_has t.has) ∙ ap (behind out) (makes true e) ∙ behind_more out sent_of (all_sent [])
        ∙ λ i. record {
          sent = (behind-sent (out ++ (sent_of ∷ [])) (all_sent []) ∙ append-nil (out ++ (sent_of ∷ []))) i;
          whole = behind-whole
              (out ++ (sent_of ∷ [])) (all_sent []) i;
        }

    -- one that others follow
    pub some-sent : m.packet.next ≡ next.Send n false → (s : State)
        → s.engine.operation ≡ Sending m.packet.outgoing m.packet.chunk t.on false → s.stores.headers ≡ thing_headers
        → Sends (out ++ (sent_of ∷ [])) d s
    some-sent e s q h =
        let v = makes false e in
        record {
          outgoing = m.packet.outgoing;
          chunk = m.packet.chunk;
          left = v.left;
          at = v.at;
          so_far = λ b k. w.so_far b k ∙ ap (behind out) (v.go b k) ∙ behind_more out sent_of (packets_left (box - 3) v.left b);
          counts = w.counts;
          operation = q;
          headers = h;
        }

  -- ---- what all of them carry

  lead-carried : (lead : Bool) → carried_by (leading_headers None lead) ≡ bare
  unfolding leading_headers insert_early must_lead carried_by carried_one is_body is_srm
  lead-carried false = refl
  lead-carried true = refl

  pub thing-carried : (out : List (List ℕ)) (d : List ℕ) (xs : List (List Header)) → thing_packets (onto d (ending t.has)) ≡ all_sent out
      → Holding out xs
      → carried_all xs ≡ thing_record d
  unfolding leading
  thing-carried out d xs e h =
      let b = onto d (ending t.has) in
      let lead = leading_headers None t.lead in
      let v = conveyed (box - 3) b t.list (read_shaped t.hs 0 t.list t.reads) lead (lead_shaped None t.lead)
      (ap (λ (r : Packets). r.whole) e) in
      let g = subst (λ (r : Packets). Holding r.sent v.headers) e v.holds in
      let p : carried_by t.list ≡ record { headers = t.hs; body = none } =
      plain_carried t.list t.plain ∙ ap (λ (l : List ℕ). record { headers = l; body = none })
      (header-bytes t.hs 0 t.list t.octets t.reads) in
      ap carried_all (same-headers out xs v.headers h g) ∙ v.carries
      ∙ ap (λ (r : Record). joined r (joined (carried_by t.list) (body_record b))) (lead-carried t.lead)
      ∙ ap (λ (r : Record). joined bare (joined r (body_record b))) p
      ∙ ap (λ (l : List ℕ). record { headers = l; body = b }) (append-nil t.hs)
      ∙ ap (λ (o : Option (List ℕ)). record { headers = t.hs; body = o }) (onto-ending t.has d)
