-- The request of a Get of the client, from its call to its last packet, with Single Response Mode (SRM) or without: at each moment the packets
-- that went out and those that are still to go are the packets of the whole request. And what the client hands on of a response. Assumes nothing.
use mathlib.Core.Path.{◌≡◌, refl, sym, ap, subst, ◌∙◌}
use mathlib.Core.Bool.{Bool, true, false, ◌&&◌, ◌||◌, true≢false, false≢true}
use mathlib.Core.Option.{Option, none, some}
use mathlib.Core.List.{List, [], ◌∷◌, ◌++◌, append_assoc, append-nil}
use Prim.Native.Nat.{ℕ, zero, suc, ◌+◌, ◌-◌, ◌/◌, ◌%◌, ◌≤◌, ◌<◌}
use native.Mathlib.Omega.{arith}
use lib.ListN.{length, get_or, take, drop, set, length-append, length-set}
use lib.Seq.{paste, take-append_seam}
use lib.Dec.{ltb, eqb}
use borrow.Author.Tests.{ltb-false, le-leb, lt-ltb, le-ltb}
use Rattle.std.specs.Prelude.{Some, None}
use Rattle.base.specs.Pick.{pick}
use Rattle.base.specs.Bytes.{be32, bytes16, bytes32}
use Rattle.text.specs.Unicode.{Octets}
use Rattle.packet.specs.HeaderIds as header_id
use Rattle.packet.specs.Header.{Header, encoding_of, length_field, bytes_of, all_bytes, first, present}
use Rattle.packet.specs.FirstByte.{known_byte, named, first_byte, byte_of}
use Rattle.packet.specs.Packet.{request_of, packet_bytes}
use Rattle.packet.specs.ResponsePacket.{ResponsePacket}
use Rattle.packet.specs.declared.opcode.Opcode.{Opcode}
use Rattle.packet.specs.declared.opcode.Opcode.TheVariants as op
use Rattle.packet.proofs.HeaderBytes.{header-bytes}
use Rattle.packet.proofs.HeaderWrites.{AllShaped, read_shaped}
use Rattle.journal.specs.Record.{Record, bare, join_body, size_of, is_body, is_srm, carried_one, carried_by, kept_by_get}
use Rattle.journal.proofs.Laws.{size-joined}
use Rattle.incoming.specs.Gather.{gathering}
use Rattle.incoming.specs.Survey.{id_of, survey_of}
use Rattle.incoming.proofs.Gathers.{PutAgrees, put-begins, put-agrees, carried-headers}
use Rattle.incoming.proofs.Queued.{IsWhole}
use Rattle.outgoing.specs.Object.{Made, next_after}
use Rattle.outgoing.specs.Packets.{packet, body_packets, Packets, all_sent, cannot_go, before, packets_from}
use Rattle.outgoing.specs.Packets as packets
use Rattle.outgoing.specs.declared.object.Outgoing.{Outgoing}
use Rattle.outgoing.specs.declared.object.Chunk.{Chunk}
use Rattle.outgoing.specs.declared.object.Next.{Next}
use Rattle.outgoing.specs.declared.object.Next.TheVariants as next
use Rattle.outgoing.proofs.Sender.{Left, packets_left, At, Makes, Making, next_making}
use Rattle.outgoing.proofs.Sent.{next-after-sends}
use Rattle.outgoing.proofs.Sized.{AllSized, packets-sized}
use Rattle.connection.specs.Reply.{front}
use Rattle.outgoing.specs.Queue.{must_lead, insert_early}
use Rattle.connection.specs.Peer.{ConnectionId}
use Rattle.client_model.specs.Leading.{leading_headers, leading}
use Rattle.client_model.specs.Step.{Stores, stores, with_request, client_with, goes, capacity_of, Done}
use Rattle.client_model.specs.Request.{request_of as requestBegins, requests_by, requests, requests_next, requests_first, id_bytes}
use Rattle.client_model.specs.Answer.{gathers}
use Rattle.client_model.specs.Guard.{short, sound, sound_operation, any_of, is_reserved}
use Rattle.client_model.specs.declared.Settings.{Settings}
use Rattle.client_model.specs.declared.Kind.TheVariants as kind
use Rattle.client_model.specs.declared.Operation.{Operation}
use Rattle.client_model.specs.declared.Operation.TheVariants.{Requesting}
use Rattle.client_model.specs.declared.Await.{Await}
use Rattle.client_model.specs.declared.Await.TheVariants as await
use Rattle.client_model.specs.declared.Client.{Client}
use Rattle.client_model.specs.declared.Outcome.{Outcome}
use Rattle.client_model.specs.declared.Outcome.TheVariants as outcome
use Rattle.client_model.proofs.Conveyed.{Holding, carried_all, bytes-append, bytes_one, bytes-none, shaped_append, reads-back}
use Rattle.client_model.proofs.Leads.{lead_shaped}
use Rattle.client_model.proofs.Only.{put-led}
use Rattle.client_model.proofs.Requests.{all-fits, Given, put_record, put_conveyed, request-read}
use Rattle.client_model.proofs.Sending.{lead-small, first-request, sent-behind}
use Rattle.client_model.proofs.Within.{split}
use Rattle.client_model.proofs.Putting.{Counts, is_none, behind, behind-whole, behind-sent, behind_more, made-counts, room-kept, Plainly, asked_at, some-gone, sized_at, first-set, at_total, wire-whole, same-headers}

-- ---- the Get

-- what was asked for
pub record Fetch : Type 0 where
  pub settings : Settings
  pub remote : ℕ
  pub id : ConnectionId
  pub hs : List ℕ
  pub store : List ℕ
  pub low : 255 ≤ remote
  pub top : remote ≤ 65535
  pub octets : Octets hs
  pub most : length hs ≤ 65535
  pub headers : Given (remote - 3) hs

-- whether its client asks for SRM
abbrev pub wants : Fetch → Bool
wants j = j.settings.srm_wanted

-- all packets of its request
abbrev pub all_of : Fetch → Packets
all_of j = packets_from (j.remote - 3) (leading j.id (wants j)) j.headers.list none

-- the header store while they go
abbrev pub headers_of : Fetch → List ℕ
headers_of j = front j.hs j.store

-- what the host is asked
abbrev pub wish : Fetch → List ℕ
wish j = leading j.id false ++ j.hs

-- ---- the client in it

-- between two calls, whatever is awaited
pub record Stands (j : Fetch) (flag : Bool) (c : Client) (s : Stores) : Type 0 where
  pub room : short s ≡ false
  pub begun : c.begun < 65535
  pub latest : c.length ≤ 65535
  pub settings : c.settings ≡ j.settings
  pub remote : c.remote_max_packet_length ≡ j.remote
  pub id : c.connection_id ≡ j.id
  pub aborting : c.aborting ≡ flag

-- a packet of the request waits to be sent; `on` says that SRM is on
pub record Waits (j : Fetch) (on : Bool) (sent : List (List ℕ)) (c : Client) (o : Outcome) (s : Stores) : Type 0 where
  pub made : Made
  pub rest : Option (List ℕ) → Packets
  pub size : ℕ
  pub last : Bool
  pub initial : Bool
  pub making : Making (j.remote - 3) (length j.hs) (headers_of j) false made rest
  pub so_far : all_of j ≡ behind sent (rest none)
  pub is_next : made.packet.next ≡ next.Send size last
  pub counts : Counts made.packet.outgoing made.packet.chunk
  -- no response has come before the first packet has gone, and SRM is on only behind one
  pub begins : initial ≡ is_none sent
  pub later : on ≡ true → initial ≡ false
  pub operation : c.operation ≡ Requesting kind.Get made.packet.outgoing made.packet.chunk on initial last
  pub awaits : c.awaits ≡ await.Sent
  pub said : o ≡ outcome.Send size
  pub request : s.request ≡ set made.reply 0 (byte_of op.Get last)
  pub headers : s.headers ≡ headers_of j

-- what is still to go behind packets that went
pub record Later (j : Fetch) (sent : List (List ℕ)) (s : Stores) : Type 0 where
  pub outgoing : Outgoing
  pub chunk : Chunk
  pub gone : is_none sent ≡ false
  pub left : Left
  pub at : At (j.remote - 3) (length j.hs) (headers_of j) false left outgoing
  pub so_far : all_of j ≡ behind sent (packets_left (j.remote - 3) left none)
  pub counts : Counts outgoing chunk
  pub headers : s.headers ≡ headers_of j

-- the response to a packet that others follow is awaited, which is the first one or not; SRM is off
pub record More (j : Fetch) (on initial : Bool) (sent : List (List ℕ)) (c : Client) (s : Stores) : Type 0 where
  pub single : on ≡ false
  pub rest : Later j sent s
  pub operation : c.operation ≡ Requesting kind.Get rest.outgoing rest.chunk false initial false

-- the response to the last packet is awaited
pub record Ends (j : Fetch) (on initial : Bool) (sent : List (List ℕ)) (c : Client) : Type 0 where
  pub outgoing : Outgoing
  pub chunk : Chunk
  pub so_far : all_of j ≡ all_sent sent
  pub counts : Counts outgoing chunk
  pub operation : c.operation ≡ Requesting kind.Get outgoing chunk on initial true

-- what a step leads to
pub record Leads (j : Fetch) (on : Bool) (sent : List (List ℕ)) (x : Done) : Type 0 where
  pub stands : Stands j false x.client x.stores
  pub waits : Waits j on sent x.client x.outcome x.stores
  pub begun : x.client.begun ≡ 0

pub stands-sound : (j : Fetch) (flag : Bool) (c : Client) (s : Stores) → Stands j flag c s → sound_operation c.operation ≡ true → sound c ≡ true
unfolding sound
stands-sound j flag c s k e =
    simp (lt-ltb _ _ k.begun, le-leb _ _ k.latest, le-leb 255 c.remote_max_packet_length (omega (arith, k.remote, j.low)), e)

-- the stores that are not short
pub request-long : (s : Stores) → short s ≡ false → 65535 ≤ length s.request
unfolding short
request-long s e =
    ltb-false (length s.request) 65535 (go (ltb (length s.packet) 65535) (ltb (length s.headers) 65535) (ltb (length s.body) 65535) e)
  where
    go : (a b c : Bool) → (a || (b || (c || ltb (length s.request) 65535))) ≡ false → ltb (length s.request) 65535 ≡ false
    go true b c h = absurd (true≢false h)
    go false true c h = absurd (true≢false h)
    go false false true h = absurd (true≢false h)
    go false false false h = h

-- ---- what was made leads on

-- the whole request can be sent
all_whole : (j : Fetch) → (all_of j).whole ≡ true
all_whole j = all-fits (j.remote - 3) j.headers.list (leading j.id (wants j)) none j.headers.fit

-- the client goes on with another request store
pub stands_on : (j : Fetch) (flag : Bool) (c : Client) (s : Stores) (o : Operation) (a : Await) (q : List ℕ) → Stands j flag c s → 65535 ≤ length q
    → Stands j false (goes c o a false) (with_request s q)
unfolding client_with
stands_on j flag c s o a q k l =
    record {
      room = room-kept s q k.room l;
      begun = omega arith;
      latest = k.latest;
      settings = k.settings;
      remote = k.remote;
      id = k.id;
      aborting = refl;
    }

module _ (j : Fetch) (on : Bool) (sent : List (List ℕ)) (c : Client) (s : Stores) (flag initial : Bool) (begins : initial ≡ is_none sent)
    (later : on ≡ true → initial ≡ false) (m : Made) (f : Option (List ℕ) → Packets) (k : Stands j flag c s) (h : s.headers ≡ headers_of j)
    (w : Making (j.remote - 3) (length j.hs) (headers_of j) false m f)
    (so : all_of j ≡ behind sent (f none)) (n : Counts m.packet.outgoing m.packet.chunk) where
  leads_by : (x : Next) → m.packet.next ≡ x → Leads j on sent (requests_by x c kind.Get on initial m s)
  unfolding client_with
  leads_by (next.Send size last) e =
      let q = set m.reply 0 (byte_of op.Get last) in
      let l : 65535 ≤ length q = omega (arith, w.long, length-set m.reply 0 (byte_of op.Get last)) in
      record {
        stands = stands_on j flag c s (Requesting kind.Get m.packet.outgoing m.packet.chunk on initial last) await.Sent q k l;
        waits =
            record {
              made = m;
              rest = f;
              size = size;
              last = last;
              initial = initial;
              making = w;
              so_far = so;
              is_next = e;
              counts = n;
              begins = begins;
              later = later;
              operation = refl;
              awaits = refl;
              said = refl;
              request = refl;
              headers = h;
            };
        begun = refl;
      }
  leads_by next.Read e =
      let g = subst (λ (x : Next). Makes (j.remote - 3) (length j.hs) (headers_of j) false x m f) e w.by in
      absurd (false≢true g.body)
  leads_by next.TooLarge e =
      let g = subst (λ (x : Next). Makes (j.remote - 3) (length j.hs) (headers_of j) false x m f) e w.by in
      let q : all_of j ≡ behind sent cannot_go = so ∙ ap (behind sent) (g none refl) in
      absurd (false≢true (sym (behind-whole sent cannot_go) ∙ ap (λ (r : Packets). r.whole) (sym q) ∙ all_whole j))

  made-leads : Leads j on sent (requests c kind.Get on initial m s)
  made-leads = leads_by m.packet.next refl

-- ---- the first packet

-- the first packet, by what leads it, the capacity and the header store before
abbrev first_by : Client → List ℕ → Stores → List ℕ → ℕ → List ℕ → Done
first_by c hs s lead capacity h =
    let t = stores s.packet (front hs h) s.body (paste s.request 3 lead (length lead)) in
    requests c kind.Get false true (next_after (3 + length lead) capacity (requestBegins (length hs) false) t.headers t.request) t

first_as : (c : Client) (hs : List ℕ) (s : Stores) (id : ConnectionId) (srm : Bool) (capacity : ℕ) (h : List ℕ) → c.connection_id ≡ id
    → c.settings.srm_wanted ≡ srm → capacity_of c ≡ capacity → s.headers ≡ h
    → requests_first c kind.Get hs false s ≡ first_by c hs s (leading id srm) capacity h
unfolding requests_first
first_as c hs s id srm capacity h a b e g =
    ap (λ (x : ConnectionId). first_by c hs s (leading x c.settings.srm_wanted) (capacity_of c) s.headers) a
    ∙ ap (λ (x : Bool). first_by c hs s (leading id x) (capacity_of c) s.headers) b
    ∙ ap (λ (x : ℕ). first_by c hs s (leading id srm) x s.headers) e
    ∙ ap (λ (x : List ℕ). first_by c hs s (leading id srm) capacity x) g

pub get_leads : (j : Fetch) (flag : Bool) (c : Client) (s : Stores)
    → Stands j flag c (stores s.packet (headers_of j) s.body (paste s.request 3 (leading j.id (wants j)) (length (leading j.id
    (wants j)))))
    → j.store ≡ s.headers → 65535 ≤ length s.request
    → Leads j false [] (requests_first c kind.Get j.hs false s)
get_leads j flag c s k e l =
    let lead = leading j.id (wants j) in
    let y = paste s.request 3 lead (length lead) in
    let t = stores s.packet (headers_of j) s.body y in
    let cap = j.remote - 3 in
    let m = next_after (3 + length lead) cap (requestBegins (length j.hs) false) (headers_of j) y in
    let fits = length-append j.hs (drop (length j.hs) j.store) in
    let w = first-request cap j.id (wants j) false j.hs j.store s.request (omega (arith, j.low)) (omega (arith, j.low, j.top))
    j.octets
    j.headers l in
    let n = next-after-sends (3 + length lead) cap (requestBegins (length j.hs) false) (headers_of j) y
    (omega (arith, j.low, lead-small j.id (wants j))) (omega (arith, j.low, j.top)) (request-long t k.room) (omega arith) (omega
    (arith, fits))
    in
    let b = ap (λ (x : Settings). x.srm_wanted) k.settings in
    let g : capacity_of c ≡ cap = ap (λ (x : ℕ). x - 3) k.remote in
    subst (λ (x : Done). Leads j false [] x) (sym (first_as c j.hs s j.id (wants j) cap j.store k.id b g (sym e)))
    (made-leads j false [] c t flag true refl (λ e. absurd (false≢true e)) m (λ b. packets_from cap lead j.headers.list b) k refl w refl
    (made-counts (requestBegins (length j.hs) false) y m j.most n))

-- ---- the packet that waits

-- what goes up: a packet that the server can read
pub record Up (q : List ℕ) (o : Opcode) (last : Bool) (x : List Header) : Type 0 where
  pub whole : IsWhole q
  pub reads : request_of q ≡ some (record { opcode = o; final = last; bytes = q; headers = x })

first_get_lem : (last : Bool) → first_byte (byte_of op.Get last) ≡ known_byte op.Get last
unfolding first_byte named byte_of
first_get_lem true = refl
first_get_lem false = refl

-- one that is sent holds these headers; `asked` says that they ask for SRM
pub record Holds (asked : Bool) (p : List ℕ) (x : List Header) : Type 0 where
  pub bytes : drop 3 p ≡ all_bytes x
  pub shaped : AllShaped x
  pub plain : Plainly asked x

module _ (j : Fetch) (on : Bool) (sent : List (List ℕ)) (c : Client) (o : Outcome) (s : Stores) (a : Waits j on sent c o s) where
  -- the packet as it was made
  abbrev pub made_packet : List ℕ
  made_packet = take a.size a.made.reply

  -- and as it goes
  abbrev pub sent_packet : List ℕ
  sent_packet = take a.size (set a.made.reply 0 (byte_of op.Get a.last))

  pub makes : Makes (j.remote - 3) (length j.hs) (headers_of j) false (next.Send a.size a.last) a.made a.rest
  makes = subst (λ (y : Next). Makes (j.remote - 3) (length j.hs) (headers_of j) false y a.made a.rest) a.is_next a.making.by

  -- it is the next of all packets
  next_of : (l : Bool) → Makes (j.remote - 3) (length j.hs) (headers_of j) false (next.Send a.size l) a.made a.rest
      → (rest : List (List ℕ)) × ((all_of j).sent ≡ sent ++ (made_packet ∷ rest))
  next_of true m = ([], ap (λ (r : Packets). r.sent) (a.so_far ∙ ap (behind sent) m) ∙ behind-sent sent (all_sent (made_packet ∷ [])))
  next_of false m =
      let r = packets_left (j.remote - 3) m.left none in
      (r.sent, ap (λ (r : Packets). r.sent) (a.so_far ∙ ap (behind sent) (m.go none refl)) ∙ behind-sent sent (before made_packet r))

  pub goes_up : (x : List Header) × Up sent_packet op.Get a.last x × Holds (is_none sent && wants j) made_packet x
  goes_up =
      let w = next_of a.last makes in
      let cap = j.remote - 3 in
      let v = put-led cap j.id (wants j) j.hs none j.headers in
      let h = asked_at j.id (wants j) sent made_packet w.0 v.headers (subst (λ (l : List (List ℕ)). Holding l v.headers) w.1
      v.holds) v.only in
      let z = sized_at cap sent made_packet w.0 (subst (λ (l : List (List ℕ)). AllSized cap l) w.1
      (packets-sized cap (leading j.id (wants j)) j.headers.list none (omega (arith, j.low))
      (omega (arith, j.low, lead-small j.id (wants j)))))
      in
      let t = byte_of op.Get a.last in
      let q : sent_packet ≡ t ∷ (bytes16 (3 + length z.content) ++ z.content) =
      first-set a.size t (packets.first_byte z.last) a.made.reply (bytes16 (3 + length z.content) ++ z.content) z.is in
      let i : IsWhole sent_packet = subst IsWhole (sym q) (wire-whole t z.content (omega (arith, z.fits, j.low, j.top))) in (
        h.0,
        record {
          whole = i;
          reads =
              request-read sent_packet op.Get a.last h.0 (ap (λ (l : List ℕ). first_byte (get_or l 0 0)) q ∙ first_get_lem a.last) refl i.least
              (reads-back made_packet sent_packet h.0 h.1 h.2 (sent-behind a.size t a.made.reply));
        },
        record { bytes = h.1; shaped = h.2; plain = h.3 },
      )

  -- once it has gone, its response is awaited
  pub sent-ends : a.last ≡ true → Ends j on a.initial (sent ++ (made_packet ∷ [])) (goes c c.operation await.Bytes false)
  unfolding client_with
  sent-ends e =
      let m = subst (λ (y : Bool). Makes (j.remote - 3) (length j.hs) (headers_of j) false (next.Send a.size y) a.made a.rest) e makes in
      record {
        outgoing = a.made.packet.outgoing;
        chunk = a.made.packet.chunk;
        so_far =
            a.so_far ∙ ap (behind sent) m ∙ behind_more sent made_packet (all_sent [])
            ∙ λ i. record {
              sent = (behind-sent (sent ++ (made_packet ∷ [])) (all_sent []) ∙ append-nil (sent ++ (made_packet ∷ []))) i;
              whole =
                  behind-whole (sent ++ (made_packet ∷ [])) (all_sent []) i;
            };
        counts = a.counts;
        operation = a.operation ∙ ap (Requesting kind.Get a.made.packet.outgoing a.made.packet.chunk on a.initial) e;
      }

  -- others follow it
  abbrev pub sent-later : a.last ≡ false → Later j (sent ++ (made_packet ∷ [])) s
  sent-later e =
      let m = subst (λ (y : Bool). Makes (j.remote - 3) (length j.hs) (headers_of j) false (next.Send a.size y) a.made a.rest) e makes in
      record {
        outgoing = a.made.packet.outgoing;
        chunk = a.made.packet.chunk;
        gone = some-gone sent made_packet;
        left = m.left;
        at = m.at;
        so_far = a.so_far ∙ ap (behind sent) (m.go none refl) ∙ behind_more sent made_packet (packets_left (j.remote - 3) m.left none);
        counts = a.counts;
        headers = a.headers;
      }

  pub sent-more : on ≡ false → a.last ≡ false → More j on a.initial (sent ++ (made_packet ∷ [])) (goes c c.operation await.Bytes false) s
  unfolding client_with
  sent-more f e =
      record {
        single = f;
        rest = sent-later e;
        operation = a.operation ∙ (λ i. Requesting kind.Get a.made.packet.outgoing a.made.packet.chunk (f i) a.initial (e i));
      }

-- ---- what follows a packet

-- the next packet
pub next-leads : (j : Fetch) (on : Bool) (sent : List (List ℕ)) (flag : Bool) (c : Client) (s : Stores) → Stands j flag c s → (a : Later j sent s)
    → Leads j on sent (requests_next c kind.Get on false a.outgoing s)
unfolding requests_next
next-leads j on sent flag c s k a =
    let y = s.request in
    let cap = j.remote - 3 in
    let m = next_after 3 cap a.outgoing (headers_of j) y in
    let fits = length-append j.hs (drop (length j.hs) j.store) in
    let total = at_total cap (length j.hs) (headers_of j) false a.left a.outgoing a.at in
    let long = request-long s k.room in
    let w = next_making cap (length j.hs) (headers_of j) (omega (arith, j.low)) (omega (arith, j.low, j.top)) false (omega (arith, fits))
    (subst Octets (sym (take-append_seam j.hs (drop (length j.hs) j.store))) j.octets) a.left a.outgoing y a.at long in
    let n = next-after-sends 3 cap a.outgoing (headers_of j) y (omega arith) (omega (arith, j.low, j.top)) long a.counts.sent
    (omega (arith, fits, total)) in
    subst (λ (x : ℕ). Leads j on sent (requests c kind.Get on false (next_after 3 (x - 3) a.outgoing s.headers y) s)) (sym k.remote)
    (subst (λ (x : List ℕ). Leads j on sent (requests c kind.Get on false (next_after 3 cap a.outgoing x y) s)) (sym a.headers)
    (made-leads j on sent c s flag false (sym a.gone) (λ e. refl) m (λ b. packets_left cap a.left b) k a.headers w a.so_far
    (made-counts a.outgoing y m a.counts.total n)))

-- ---- what the packets of the request carry

-- what a Get keeps of some packets
abbrev pub kept_all : List (List Header) → List ℕ
kept_all [] = []
kept_all (x ∷ xs) = kept_by_get x ++ kept_all xs

pub kept_more : (xs : List (List Header)) (x : List Header) → kept_all xs ++ kept_by_get x ≡ kept_all (xs ++ (x ∷ []))
kept_more [] x = sym (append-nil (kept_by_get x))
kept_more (y ∷ xs) x = append_assoc (kept_by_get y) (kept_all xs) (kept_by_get x) ∙ ap (λ (l : List ℕ). kept_by_get y ++ l) (kept_more xs x)

join-none : (a b : Option (List ℕ)) → join_body a b ≡ none → (a ≡ none) × (b ≡ none)
join-none none b e = (refl, e)
join-none (some a) none e = let z : ◌≡◌ {A = ℕ} 0 1 = cc in absurd (omega arith)
join-none (some a) (some b) e = let z : ◌≡◌ {A = ℕ} 0 1 = cc in absurd (omega arith)

-- without a body header it is what a Put would carry
one_kept : (h : Header) (k : List ℕ) → (carried_one h).body ≡ none → pick (is_srm h.id) k (bytes_of h ++ k) ≡ (carried_one h).headers ++ k
unfolding carried_one
one_kept h k = go (is_body h.id) (is_srm h.id)
  where
    go : (t u : Bool) → (pick t (record { headers = []; body = some h.value }) (pick u bare (record { headers = bytes_of h; body = none }))).body ≡
        none
        → pick u k (bytes_of h ++ k) ≡ (pick t (record { headers = []; body = some h.value })
        (pick u bare (record { headers = bytes_of h; body = none }))).headers ++ k
    go true u e = let z : ◌≡◌ {A = ℕ} 0 1 = cc in absurd (omega arith)
    go false true e = refl
    go false false e = refl

kept-carried : (hs : List Header) → (carried_by hs).body ≡ none → kept_by_get hs ≡ (carried_by hs).headers
unfolding kept_by_get carried_by
kept-carried [] e = refl
kept-carried (h ∷ hs) e =
    let w = join-none (carried_one h).body (carried_by hs).body e in
    one_kept h (kept_by_get hs) w.0 ∙ ap (λ (l : List ℕ). (carried_one h).headers ++ l) (kept-carried hs w.1)

all-kept : (xs : List (List Header)) → (carried_all xs).body ≡ none → kept_all xs ≡ (carried_all xs).headers
all-kept [] e = refl
all-kept (x ∷ xs) e =
    let w = join-none (carried_by x).body (carried_all xs).body e in
    ap (λ (l : List ℕ). l ++ kept_all xs) (kept-carried x w.0) ∙ ap (λ (l : List ℕ). (carried_by x).headers ++ l) (all-kept xs w.1)

-- the packets that went carry what is asked for
pub ends-kept : (j : Fetch) (on initial : Bool) (sent : List (List ℕ)) (c : Client) (xs : List (List Header)) → Ends j on initial sent c
    → Holding sent xs → kept_all xs ≡ wish j
ends-kept j on initial sent c xs a h =
    let v = put_conveyed (j.remote - 3) j.id (wants j) j.hs none j.octets j.headers in
    let g = subst (λ (r : Packets). Holding r.sent v.headers) a.so_far v.holds in
    let q : carried_all xs ≡ put_record j.id j.hs none = ap carried_all (same-headers sent xs v.headers h g) ∙ v.carries in
    all-kept xs (ap (λ (r : Record). r.body) q) ∙ ap (λ (r : Record). r.headers) q

-- ---- two packets of no request

-- the one that asks for the next part of an object
abbrev pub next_bytes : List ℕ
next_bytes = packet_bytes (byte_of op.Get true) [] []

pub next_up : Up next_bytes op.Get true []
unfolding packet_bytes
next_up =
    let q = next_bytes in
    let w : IsWhole q = record { least = omega arith; most = omega arith; field = omega arith } in
    record {
      whole = w;
      reads = request-read q op.Get true [] (first_get_lem true) refl w.least (reads-back q q [] (sym bytes-none) tt refl);
    }

-- the Abort
abbrev pub abort_bytes : ConnectionId → List ℕ
abort_bytes id = packet_bytes (byte_of op.Abort true) [] (id_bytes id)

first_abort : first_byte (byte_of op.Abort true) ≡ known_byte op.Abort true
unfolding first_byte named byte_of
first_abort = refl

pub abort_up : (id : ConnectionId) → Up (abort_bytes id) op.Abort true (leading_headers id false)
unfolding packet_bytes leading
abort_up id =
    let q = abort_bytes id in
    let s : length (all_bytes (leading_headers id false)) ≤ 7 = lead-small id false in
    let w : IsWhole q = record { least = omega arith; most = omega (arith, s); field = omega (arith, s) } in
    record {
      whole = w;
      reads = request-read q op.Abort true (leading_headers id false) first_abort refl w.least
          (reads-back q q (leading_headers id false) refl (lead_shaped id false) refl);
    }

-- ---- what a response hands on

value-within : (h : Header) → length h.value ≤ length (bytes_of h)
unfolding bytes_of
value-within h = omega (arith, length-append (length_field (encoding_of h.id) h.value) h.value)

one_size : (h : Header) → size_of (carried_one h) ≤ length (bytes_of h)
unfolding carried_one
one_size h = go (is_body h.id) (is_srm h.id)
  where
    go : (t u : Bool) → size_of (pick t (record { headers = []; body = some h.value }) (pick u bare (record { headers = bytes_of h; body = none })))
        ≤ length (bytes_of h)
    go true u = value-within h
    go false true = omega arith
    go false false = omega arith

carried-size : (hs : List Header) → size_of (carried_by hs) ≤ length (all_bytes hs)
unfolding carried_by all_bytes
carried-size [] = omega arith
carried-size (h ∷ hs) =
    let a = size-joined (carried_one h) (carried_by hs) in
    let b = length-append (bytes_of h) (all_bytes hs) in
    omega (arith, a, b, one_size h, carried-size hs)

-- the stores that parts go into
pub record Roomy (s : Stores) : Type 0 where
  pub headers : 65535 ≤ length s.headers
  pub body : 65535 ≤ length s.body

pub roomy : (s : Stores) → short s ≡ false → Roomy s
unfolding short
roomy s e =
    let w = go (ltb (length s.packet) 65535) (ltb (length s.headers) 65535) (ltb (length s.body) 65535) (ltb (length s.request) 65535) e
    in
    record { headers = ltb-false (length s.headers) 65535 w.0; body = ltb-false (length s.body) 65535 w.1 }
  where
    go : (a b c d : Bool) → (a || (b || (c || d))) ≡ false → (b ≡ false) × (c ≡ false)
    go true b c d h = absurd (true≢false h)
    go false true c d h = absurd (true≢false h)
    go false false true d h = absurd (true≢false h)
    go false false false d h = (refl, refl)

-- what is gathered of a response is what its headers carry
pub part-gathers : (r : ResponsePacket) (s : Stores) → short s ≡ false → length (all_bytes r.headers) ≤ 65535
    → PutAgrees 65535 (gathers r s) (carried_by r.headers) × ((gathers r s).got.over ≡ false)
part-gathers r s e l =
    let k = roomy s e in
    let w = put-agrees 65535 r.headers (gathering (record { kept = 0; body = 0; came = false; over = false; full = false }) s.headers s.body)
    bare
    (put-begins 65535 s.headers s.body k.headers k.body) (omega (arith, l, carried-headers r.headers)) in
    (w, w.over ∙ le-ltb 65535 (size_of (carried_by r.headers)) (omega (arith, l, carried-size r.headers)))

-- ---- how long the packets are, and what they carry so far

set-length : (n b : ℕ) (y : List ℕ) → length (take n (set y 0 b)) ≡ length (take n y)
set-length zero b y = refl
set-length (suc n) b [] = refl
set-length (suc n) b (x ∷ y) = refl

-- a packet that goes is within the server's limit
pub sent-within : (j : Fetch) (on : Bool) (sent : List (List ℕ)) (c : Client) (o : Outcome) (s : Stores) (a : Waits j on sent c o s)
    → length (sent_packet j on sent c o s a) ≤ j.remote
sent-within j on sent c o s a =
    let w = next_of j on sent c o s a a.last (makes j on sent c o s a) in
    let cap = j.remote - 3 in
    let p = made_packet j on sent c o s a in
    let z = sized_at cap sent p w.0 (subst (λ (l : List (List ℕ)). AllSized cap l) w.1
    (packets-sized cap (leading j.id (wants j)) j.headers.list none (omega (arith, j.low))
    (omega (arith, j.low, lead-small j.id (wants j))))) in
    let e = ap (λ (l : List ℕ). length l) z.is in
    omega (arith, set-length a.size (byte_of op.Get a.last) a.made.reply, e, z.fits, j.low)

-- the packets that went are the first of all
pub more-first : (j : Fetch) (sent : List (List ℕ)) (s : Stores) → Later j sent s → (rest : List (List ℕ)) × ((all_of j).sent ≡ sent ++ rest)
more-first j sent s a =
    let r = packets_left (j.remote - 3) a.left none in
    (r.sent, ap (λ (p : Packets). p.sent) a.so_far ∙ behind-sent sent r)

pub ends-first : (j : Fetch) (on initial : Bool) (sent : List (List ℕ)) (c : Client) → Ends j on initial sent c
    → (rest : List (List ℕ)) × ((all_of j).sent ≡ sent ++ rest)
ends-first j on initial sent c a = ([], ap (λ (p : Packets). p.sent) a.so_far ∙ sym (append-nil sent))

-- so are they while the next one waits
pub waits-first : (j : Fetch) (on : Bool) (sent : List (List ℕ)) (c : Client) (o : Outcome) (s : Stores) → Waits j on sent c o s
    → (rest : List (List ℕ)) × ((all_of j).sent ≡ sent ++ rest)
waits-first j on sent c o s a =
    let w = next_of j on sent c o s a a.last (makes j on sent c o s a) in
    (made_packet j on sent c o s a ∷ w.0, w.1)

kept_append : (xs ys : List (List Header)) → kept_all (xs ++ ys) ≡ kept_all xs ++ kept_all ys
kept_append [] ys = refl
kept_append (x ∷ xs) ys = ap (λ (l : List ℕ). kept_by_get x ++ l) (kept_append xs ys) ∙ sym (append_assoc (kept_by_get x) (kept_all xs) (kept_all ys))

-- what they carry is within what is asked for
pub kept-within : (j : Fetch) (sent rest : List (List ℕ)) (xs : List (List Header)) → (all_of j).sent ≡ sent ++ rest → Holding sent xs
    → length (kept_all xs) ≤ length (wish j)
kept-within j sent rest xs e h =
    let v = put_conveyed (j.remote - 3) j.id (wants j) j.hs none j.octets j.headers in
    let w = split sent rest v.headers (subst (λ (l : List (List ℕ)). Holding l v.headers) e v.holds) in
    let q : kept_all xs ++ kept_all w.1 ≡ wish j =
    ap (λ (l : List (List Header)). kept_all l ++ kept_all w.1) (same-headers sent xs w.0 h w.3)
    ∙ sym (kept_append w.0 w.1) ∙ ap kept_all (sym w.2)
    ∙ all-kept v.headers (ap (λ (r : Record). r.body) v.carries) ∙ ap (λ (r : Record). r.headers) v.carries in
    let n = ap (λ (l : List ℕ). length l) q in
    omega (arith, n, length-append (kept_all xs) (kept_all w.1))

-- ---- the first packet

-- it holds what leads, and headers from the front of the user's
pub record Begun (id : ConnectionId) (srm : Bool) (p : List ℕ) : Type 0 where
  pub front : List Header
  pub bytes : drop 3 p ≡ all_bytes (leading_headers id srm ++ front)
  pub shaped : AllShaped (leading_headers id srm ++ front)
  pub own : any_of is_reserved front ≡ false

own_append : (a b : List Header) → any_of is_reserved a ≡ false → any_of is_reserved b ≡ false → any_of is_reserved (a ++ b) ≡ false
unfolding any_of
own_append [] b p q = q
own_append (h ∷ a) b p q = go (is_reserved h) p (λ e. own_append a b e q)
  where
    go : (t : Bool) → (t || any_of is_reserved a) ≡ false → (any_of is_reserved a ≡ false → any_of is_reserved (a ++ b) ≡ false)
        → (t || any_of is_reserved (a ++ b)) ≡ false
    go true e r = absurd (true≢false e)
    go false e r = r e

own_head : (h : Header) (hs : List Header) → any_of is_reserved (h ∷ hs) ≡ false → (any_of is_reserved (h ∷ []) ≡ false) × (any_of is_reserved hs ≡ false)
unfolding any_of
own_head h hs = go (is_reserved h)
  where
    go : (t : Bool) → (t || any_of is_reserved hs) ≡ false → ((t || false) ≡ false) × (any_of is_reserved hs ≡ false)
    go true e = absurd (true≢false e)
    go false e = (refl, e)

one-first : {p q : List ℕ} {ps qs : List (List ℕ)} → ◌≡◌ {A = List (List ℕ)} (p ∷ ps) (q ∷ qs) → p ≡ q
one-first e = cc

none_first : {q : List ℕ} {qs : List (List ℕ)} → ◌≡◌ {A = List (List ℕ)} [] (q ∷ qs) → ◌≡◌ {A = ℕ} 0 1
none_first e = cc

begun-from : (id : ConnectionId) (srm : Bool) (capacity : ℕ) (hs : List Header) → AllShaped hs → any_of is_reserved hs ≡ false → (front : List Header)
    → AllShaped (leading_headers id srm ++ front)
    → any_of is_reserved front ≡ false → (content : List ℕ) → content ≡ all_bytes (leading_headers id srm ++ front) → (p : List ℕ)
    (rest : List (List ℕ))
    → (packets_from capacity content hs none).sent ≡ p ∷ rest → Begun id srm p
unfolding packets_from body_packets
begun-from id srm capacity [] v w front s u content c p rest e =
    let q : packet true content ≡ p = one-first e in
    record { front = front; bytes = ap (drop 3) (sym q) ∙ c; shaped = s; own = u }
begun-from id srm capacity (h ∷ hs) v w front s u content c p rest e =
    go (ltb capacity (length (bytes_of h))) (ltb capacity (length content + length (bytes_of h))) e
    (λ q. begun-from id srm capacity hs v.1 (own_head h hs w).1 (front ++ (h ∷ []))
    (subst AllShaped (append_assoc (leading_headers id srm) front (h ∷ [])) (shaped_append (leading_headers id srm ++ front) (h ∷ []) s (v.0, tt)))
    (own_append front (h ∷ []) u (own_head h hs w).0) (content ++ bytes_of h)
    (ap (λ (l : List ℕ). l ++ bytes_of h) c ∙ ap (λ (l : List ℕ). all_bytes (leading_headers id srm ++ front) ++ l) (sym (bytes_one h))
    ∙ sym (bytes-append (leading_headers id srm ++ front) (h ∷ [])) ∙ ap all_bytes (append_assoc (leading_headers id srm) front (h ∷ [])))
    p rest q)
  where
    go : (t x : Bool)
        → (pick t cannot_go (pick x (before (packet false content) (packets_from capacity (bytes_of h) hs none))
        (packets_from capacity (content ++ bytes_of h) hs none))).sent ≡ p ∷ rest
        → ((packets_from capacity (content ++ bytes_of h) hs none).sent ≡ p ∷ rest → Begun id srm p) → Begun id srm p
    go true x e f = let z = none_first e in absurd (omega (arith, z))
    go false true e f =
        let q : packet false content ≡ p = one-first e in
        record { front = front; bytes = ap (drop 3) (sym q) ∙ c; shaped = s; own = u }
    go false false e f = f e

none_reserved : any_of is_reserved [] ≡ false
unfolding any_of
none_reserved = refl

pub get_begun : (j : Fetch) (p : List ℕ) (rest : List (List ℕ)) → (all_of j).sent ≡ p ∷ rest → Begun j.id (wants j) p
unfolding leading
get_begun j p rest e =
    let lead = leading_headers j.id (wants j) in
    begun-from j.id (wants j) (j.remote - 3) j.headers.list (read_shaped j.hs 0 j.headers.list j.headers.reads)
    j.headers.own []
    (subst AllShaped (sym (append-nil lead)) (lead_shaped j.id (wants j))) none_reserved (all_bytes lead) (ap all_bytes (sym
    (append-nil lead))) p rest e

-- its first ConnectionID is the client's own
abbrev pub has_id : ConnectionId → Bool
has_id None = false
has_id (Some i) = true

abbrev pub id_sent : ConnectionId → ℕ
id_sent None = 0
id_sent (Some i) = be32 (bytes32 i) 0

own_first : (hs : List Header) → any_of is_reserved hs ≡ false → first header_id.connection_id hs ≡ none
unfolding any_of first
own_first [] e = refl
own_first (h ∷ hs) e = go (eqb h.id header_id.connection_id) (is_srm h.id || is_body h.id) e (λ q. own_first hs q)
  where
    go : (t u : Bool) → ((t || u) || any_of is_reserved hs) ≡ false → (any_of is_reserved hs ≡ false → first header_id.connection_id hs ≡ none)
        → pick t (some h.value) (first header_id.connection_id hs) ≡ none
    go true u e f = absurd (true≢false e)
    go false true e f = absurd (true≢false e)
    go false false e f = f e

id_first : (id : ConnectionId) (srm : Bool) (front : List Header) → any_of is_reserved front ≡ false
    → (present (first header_id.connection_id (leading_headers id srm ++ front)) ≡ has_id id) ×
    (id_of (first header_id.connection_id (leading_headers id srm ++ front)) ≡ id_sent id)
unfolding leading_headers insert_early must_lead first
id_first None false front w = let e = own_first front w in (ap present e, ap id_of e)
id_first None true front w = let e = own_first front w in (ap present e, ap id_of e)
id_first (Some i) false front w = (refl, refl)
id_first (Some i) true front w = (refl, refl)

-- so is that of the headers that the server reads
pub first_id : (id : ConnectionId) (srm : Bool) (p : List ℕ) (x : List Header) → Begun id srm p → drop 3 p ≡ all_bytes x → AllShaped x
    → ((survey_of (some x)).has_id ≡ has_id id) × ((survey_of (some x)).id ≡ id_sent id)
unfolding survey_of
first_id id srm p x b e s =
    let y = leading_headers id srm ++ b.front in
    let q : some y ≡ some x = sym (reads-back p p y b.bytes b.shaped refl) ∙ reads-back p p x e s refl in
    let i : y ≡ x = cc in
    let w = id_first id srm b.front b.own in (
      ap (λ (l : List Header). present (first header_id.connection_id l)) (sym i) ∙ w.0,
      ap
          (λ (l : List Header). id_of (first header_id.connection_id l)) (sym i) ∙ w.1,
    )

-- ---- what goes up is of bytes

octets-cons : (x : ℕ) (l : List ℕ) → x < 256 → Octets l → Octets (x ∷ l)
octets-cons x l p q zero = p
octets-cons x l p q (suc k) = q k

octets-none : Octets []
octets-none k = omega arith

octets-append : (a b : List ℕ) → Octets a → Octets b → Octets (a ++ b)
octets-append [] b p q = q
octets-append (x ∷ a) b p q = octets-cons x (a ++ b) (p zero) (octets-append a b (λ k. p (suc k)) q)

octets-left : (a b : List ℕ) → Octets (a ++ b) → Octets a
octets-left [] b p = octets-none
octets-left (x ∷ a) b p = octets-cons x a (p zero) (octets-left a b (λ k. p (suc k)))

octets-right : (a b : List ℕ) → Octets (a ++ b) → Octets b
octets-right [] b p = p
octets-right (x ∷ a) b p = octets-right a b (λ k. p (suc k))

abbrev EachOctets : List Header → Type 0
EachOctets [] = Unit {0}
EachOctets (h ∷ hs) = Octets (bytes_of h) × EachOctets hs

each-octets : (hs : List Header) → Octets (all_bytes hs) → EachOctets hs
unfolding all_bytes
each-octets [] p = tt
each-octets (h ∷ hs) p = (octets-left (bytes_of h) (all_bytes hs) p, each-octets hs (octets-right (bytes_of h) (all_bytes hs) p))

packet-octets : (last : Bool) (content : List ℕ) → length content ≤ 65532 → Octets content → Octets (packet last content)
packet-octets last content n p =
    octets-cons (packets.first_byte last) (bytes16 (3 + length content) ++ content) (first_small last)
    (octets-cons ((3 + length content) / 256) ((3 + length content) % 256 ∷ content) (omega (arith, n))
    (octets-cons ((3 + length content) % 256) content (omega arith) p))
  where
    first_small : (t : Bool) → packets.first_byte t < 256
    first_small true = omega arith
    first_small false = omega arith

abbrev AllOctets : List (List ℕ) → Type 0
AllOctets [] = Unit {0}
AllOctets (p ∷ ps) = Octets p × AllOctets ps

packets-octets : (capacity : ℕ) (hs : List Header) (content : List ℕ) → capacity ≤ 65532 → length content ≤ capacity → Octets content → EachOctets hs
    → AllOctets (packets_from capacity content hs none).sent
unfolding packets_from body_packets
packets-octets capacity [] content t n p v = (packet-octets true content (omega (arith, t, n)) p, tt)
packets-octets capacity (h ∷ hs) content t n p v =
    go (ltb capacity (length (bytes_of h))) refl (ltb capacity (length content + length (bytes_of h))) refl
    (λ m. packets-octets capacity hs (bytes_of h) t m v.0 v.1)
    (λ m. packets-octets capacity hs (content ++ bytes_of h) t m (octets-append content (bytes_of h) p v.0) v.1)
  where
    go : (b : Bool) → ltb capacity (length (bytes_of h)) ≡ b → (c : Bool) → ltb capacity (length content + length (bytes_of h)) ≡ c
        → (length (bytes_of h) ≤ capacity → AllOctets (packets_from capacity (bytes_of h) hs none).sent)
        → (length (content ++ bytes_of h) ≤ capacity → AllOctets (packets_from capacity (content ++ bytes_of h) hs none).sent)
        → AllOctets (pick b cannot_go (pick c (before (packet false content) (packets_from capacity (bytes_of h) hs none))
        (packets_from capacity (content ++ bytes_of h) hs none))).sent
    go true e c f x y = tt
    go false e true f x y = (packet-octets false content (omega (arith, t, n)) p, x (ltb-false capacity (length (bytes_of h)) e))
    go false e false f x y =
        let k = ltb-false capacity (length content + length (bytes_of h)) f in
        y (omega (arith, k, length-append content (bytes_of h)))

octets_at : (ps : List (List ℕ)) (p : List ℕ) (rest : List (List ℕ)) → AllOctets (ps ++ (p ∷ rest)) → Octets p
octets_at [] p rest w = w.0
octets_at (q ∷ ps) p rest w = octets_at ps p rest w.1

set-octets : (n b : ℕ) (y : List ℕ) → b < 256 → Octets (take n y) → Octets (take n (set y 0 b))
set-octets zero b y k p = p
set-octets (suc n) b [] k p = p
set-octets (suc n) b (x ∷ y) k p = octets-cons b (take n y) k (λ i. p (suc i))

id_octets : (i : ℕ) (l : List ℕ) → Octets l → Octets (0xCB ∷ i / 16777216 % 256 ∷ i / 65536 % 256 ∷ i / 256 % 256 ∷ i % 256 ∷ l)
id_octets i l p =
    octets-cons 0xCB (i / 16777216 % 256 ∷ i / 65536 % 256 ∷ i / 256 % 256 ∷ i % 256 ∷ l) (omega arith)
    (octets-cons (i / 16777216 % 256) (i / 65536 % 256 ∷ i / 256 % 256 ∷ i % 256 ∷ l) (omega arith)
    (octets-cons (i / 65536 % 256) (i / 256 % 256 ∷ i % 256 ∷ l) (omega arith)
    (octets-cons (i / 256 % 256) (i % 256 ∷ l) (omega arith) (octets-cons (i % 256) l (omega arith) p))))

mode-octets : Octets (0x97 ∷ 0x01 ∷ [])
mode-octets = octets-cons 0x97 (0x01 ∷ []) (omega arith) (octets-cons 0x01 [] (omega arith) octets-none)

lead-octets : (id : ConnectionId) (srm : Bool) → Octets (leading id srm)
unfolding leading leading_headers insert_early must_lead all_bytes bytes_of encoding_of
lead-octets None false = octets-none
lead-octets None true = mode-octets
lead-octets (Some i) false = id_octets i [] octets-none
lead-octets (Some i) true = id_octets i (0x97 ∷ 0x01 ∷ []) mode-octets

byte_small : (last : Bool) → byte_of op.Get last < 256
unfolding byte_of
byte_small true = omega arith
byte_small false = omega arith

pub sent-octets : (j : Fetch) (on : Bool) (sent : List (List ℕ)) (c : Client) (o : Outcome) (s : Stores) (a : Waits j on sent c o s)
    → Octets (sent_packet j on sent c o s a)
sent-octets j on sent c o s a =
    let w = next_of j on sent c o s a a.last (makes j on sent c o s a) in
    let cap = j.remote - 3 in
    let b = header-bytes j.hs 0 j.headers.list j.octets j.headers.reads in
    let v = packets-octets cap j.headers.list (leading j.id (wants j)) (omega (arith, j.low, j.top))
    (omega (arith, j.low, lead-small j.id (wants j))) (lead-octets j.id (wants j))
    (each-octets j.headers.list (subst Octets (sym b) j.octets)) in
    set-octets a.size (byte_of op.Get a.last) a.made.reply (byte_small a.last)
    (octets_at sent (made_packet j on sent c o s a) w.0 (subst AllOctets w.1 v))

pub next-octets : Octets next_bytes
unfolding packet_bytes byte_of
next-octets = octets-cons 0x83 (0 ∷ 3 ∷ []) (omega arith) (octets-cons 0 (3 ∷ []) (omega arith) (octets-cons 3 [] (omega arith) octets-none))

pub abort_octets : (id : ConnectionId) → Octets (abort_bytes id)
unfolding packet_bytes byte_of
abort_octets id =
    let k = lead-small id false in
    let n = 3 + 0 + length (leading id false) in
    octets-cons 0xFF (bytes16 n ++ leading id false) (omega arith)
    (octets-cons (n / 256) (n % 256 ∷ leading id false) (omega (arith, k)) (octets-cons (n % 256) (leading id false) (omega arith)
    (lead-octets id false)))
