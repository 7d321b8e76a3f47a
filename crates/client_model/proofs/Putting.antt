-- A Put of the client from its call to its end or to its Abort, with Single Response Mode (SRM) or without: at each moment the packets that went
-- out and those that are still to go are the packets of the whole Put, whatever body bytes are still to come. Assumes nothing.
use mathlib.Core.Path.{◌≡◌, refl, sym, ap, subst, ◌∙◌}
use mathlib.Core.Bool.{Bool, true, false, ◌&&◌, ◌||◌, not, true≢false, false≢true}
use mathlib.Core.Option.{Option, none, some}
use mathlib.Core.List.{List, [], ◌∷◌, ◌++◌, append_assoc, append-nil}
use Prim.Native.Nat.{ℕ, zero, suc, ◌+◌, ◌≤◌, ◌<◌}
use native.Mathlib.Omega.{arith}
use lib.ListN.{length, get_or, take, drop, set, length-append, length-set}
use lib.Seq.{paste, take-append_seam}
use lib.Dec.{ltb}
use borrow.Author.Tests.{le-leb, lt-ltb, le-ltb}
use Rattle.base.specs.Pick.{pick}
use Rattle.base.specs.Bytes.{bytes16}
use Rattle.text.specs.Unicode.{Octets}
use Rattle.packet.specs.HeaderIds as header_id
use Rattle.packet.specs.Header.{Header, all_bytes, first}
use Rattle.journal.specs.Journal.{is_enable}
use Rattle.packet.specs.FirstByte.{known_byte, named, first_byte, byte_of}
use Rattle.packet.specs.Packet.{request_of}
use Rattle.packet.specs.ResponsePacket.{ResponsePacket}
use Rattle.packet.specs.declared.opcode.Opcode.TheVariants as op
use Rattle.packet.proofs.HeaderWrites.{AllShaped}
use Rattle.incoming.proofs.Queued.{IsWhole}
use Rattle.outgoing.specs.Object.{Made, next_after, body_given_of}
use Rattle.outgoing.specs.Claims.{has_body_of, body_bytes_of}
use Rattle.outgoing.specs.Packets.{packet, Packets, all_sent, cannot_go, before, packets_from}
use Rattle.outgoing.specs.declared.object.Outgoing.{Outgoing}
use Rattle.outgoing.specs.declared.object.Chunk.{Chunk}
use Rattle.outgoing.specs.declared.object.NextPacket.{NextPacket}
use Rattle.outgoing.specs.declared.object.Next.{Next}
use Rattle.outgoing.specs.declared.object.Next.TheVariants as next
use Rattle.outgoing.proofs.Sender.{Left, headers_left, ahead_left, packets_left, ending, At, Reading, Makes, Making, given_making, next_making}
use Rattle.outgoing.proofs.Sent.{SendsFrom, next-after-sends, body-sends}
use Rattle.outgoing.proofs.Sized.{Sized, AllSized, packets-sized}
use Rattle.connection.specs.Reply.{front}
use Rattle.connection.specs.Peer.{ConnectionId}
use Rattle.client_model.specs.Leading.{leading_headers, leading}
use Rattle.client_model.specs.Step.{Stores, stores, with_request, client_with, goes, capacity_of, Done}
use Rattle.client_model.specs.Request.{request_of as requestBegins, requests_by, requests, requests_next, requests_first, sends_abort}
use Rattle.client_model.specs.Answer.{grants, continued}
use Rattle.client_model.specs.Guard.{short, sound, sound_request, sound_operation}
use Rattle.client_model.specs.declared.Settings.{Settings}
use Rattle.client_model.specs.declared.Kind.TheVariants as kind
use Rattle.client_model.specs.declared.Operation.{Operation}
use Rattle.client_model.specs.declared.Operation.TheVariants.{Requesting}
use Rattle.client_model.specs.declared.Await.{Await}
use Rattle.client_model.specs.declared.Await.TheVariants as await
use Rattle.client_model.specs.declared.Client.{Client}
use Rattle.client_model.specs.declared.Outcome.{Outcome}
use Rattle.client_model.specs.declared.Outcome.TheVariants as outcome
use Rattle.client_model.proofs.Conveyed.{Holding, carried_all, reads-back}
use Rattle.client_model.proofs.Only.{NoSrm, AllNoSrm, Leading, put-led, none_first, no_parameter, lead-asks}
use Rattle.client_model.proofs.Requests.{all-fits, Given, put_record, put_conveyed, request-read}
use Rattle.client_model.proofs.Sending.{lead-small, first-request, sent-behind}

-- ---- the Put

-- what was asked for, and of which client; `wants` says that it asks for SRM
pub record Job : Type 0 where
  pub settings : Settings
  pub remote : ℕ
  pub capacity : ℕ
  pub id : ConnectionId
  pub wants : Bool
  pub hs : List ℕ
  pub has : Bool
  pub store : List ℕ
  pub low : 252 ≤ capacity
  pub top : capacity ≤ 65532
  pub octets : Octets hs
  pub most : length hs ≤ 65535
  pub headers : Given capacity hs

-- all its packets, with this body
abbrev pub all_of : Job → Option (List ℕ) → Packets
all_of j b = packets_from j.capacity (leading j.id j.wants) j.headers.list b

-- the header store while it goes
abbrev pub headers_of : Job → List ℕ
headers_of j = front j.hs j.store

-- body bytes that were given, before those that are still to come
abbrev pub onto : List ℕ → Option (List ℕ) → Option (List ℕ)
onto d none = none
onto d (some b) = some (d ++ b)

-- packets before others
abbrev pub behind : List (List ℕ) → Packets → Packets
behind [] r = r
behind (p ∷ ps) r = before p (behind ps r)

pub behind-whole : (ps : List (List ℕ)) (r : Packets) → (behind ps r).whole ≡ r.whole
behind-whole [] r = refl
behind-whole (p ∷ ps) r = behind-whole ps r

pub behind-sent : (ps : List (List ℕ)) (r : Packets) → (behind ps r).sent ≡ ps ++ r.sent
behind-sent [] r = refl
behind-sent (p ∷ ps) r = ap (λ (l : List (List ℕ)). p ∷ l) (behind-sent ps r)

pub behind_more : (ps : List (List ℕ)) (p : List ℕ) (r : Packets) → behind ps (before p r) ≡ behind (ps ++ (p ∷ [])) r
behind_more [] p r = refl
behind_more (x ∷ ps) p r = ap (before x) (behind_more ps p r)

-- with `d` given, `f` is what is still to go behind `sent`
abbrev pub SoFar : Job → List (List ℕ) → List ℕ → (Option (List ℕ) → Packets) → Type 0
SoFar j sent d f = (b : Option (List ℕ)) → has_body_of b ≡ j.has → all_of j (onto d b) ≡ behind sent (f b)

pub ending_has : (has : Bool) → has_body_of (ending has) ≡ has
ending_has true = refl
ending_has false = refl

-- ---- the client in it

-- between two calls, whatever is awaited
pub record Keeps (j : Job) (c : Client) (s : Stores) : Type 0 where
  pub room : short s ≡ false
  pub begun : c.begun < 65535
  pub latest : c.length ≤ 65535
  pub least : 255 ≤ c.remote_max_packet_length
  pub settings : c.settings ≡ j.settings
  pub remote : c.remote_max_packet_length ≡ j.remote
  pub capacity : capacity_of c ≡ j.capacity
  pub id : c.connection_id ≡ j.id
  pub wanted : c.settings.srm_wanted ≡ j.wants
  pub headers : s.headers ≡ headers_of j
  pub request : 65535 ≤ length s.request

-- the counts of what goes out
pub record Counts (o : Outgoing) (h : Chunk) : Type 0 where
  pub total : o.total ≤ 65535
  pub sent : o.sent ≤ o.total
  pub begun : h.at + h.got ≤ 65532
  pub chunk : h.at + h.got + h.room ≤ 65533

-- no packet has gone yet
abbrev pub is_none : List (List ℕ) → Bool
is_none [] = true
is_none (p ∷ ps) = false

-- a packet waits to be sent; `srm` says that SRM is on
pub record Waits (j : Job) (srm : Bool) (sent : List (List ℕ)) (d : List ℕ) (c : Client) (o : Outcome) (s : Stores) : Type 0 where
  pub made : Made
  pub rest : Option (List ℕ) → Packets
  pub size : ℕ
  pub last : Bool
  pub initial : Bool
  pub making : Making j.capacity (length j.hs) (headers_of j) j.has made rest
  pub so_far : SoFar j sent d rest
  pub is_next : made.packet.next ≡ next.Send size last
  pub counts : Counts made.packet.outgoing made.packet.chunk
  -- no response has come before the first packet has gone, and SRM is on only behind one
  pub begins : initial ≡ is_none sent
  pub later : srm ≡ true → initial ≡ false
  pub stays : c.aborting ≡ false
  pub operation : c.operation ≡ Requesting kind.Put made.packet.outgoing made.packet.chunk srm initial last
  pub awaits : c.awaits ≡ await.Sent
  pub said : o ≡ outcome.Send size
  pub request : s.request ≡ set made.reply 0 (byte_of op.Put last)

-- body bytes are awaited
pub record Asks (j : Job) (srm : Bool) (sent : List (List ℕ)) (d : List ℕ) (c : Client) (o : Outcome) (s : Stores) : Type 0 where
  pub made : Made
  pub rest : Option (List ℕ) → Packets
  pub initial : Bool
  pub making : Making j.capacity (length j.hs) (headers_of j) j.has made rest
  pub so_far : SoFar j sent d rest
  pub is_next : made.packet.next ≡ next.Read
  pub counts : Counts made.packet.outgoing made.packet.chunk
  pub begins : initial ≡ is_none sent
  pub later : srm ≡ true → initial ≡ false
  pub stays : c.aborting ≡ false
  pub operation : c.operation ≡ Requesting kind.Put made.packet.outgoing made.packet.chunk srm initial false
  pub awaits : c.awaits ≡ await.Body
  pub said : o ≡ outcome.Read made.packet.chunk.room
  pub request : s.request ≡ made.reply

-- what is still to go behind packets that went
pub record Rest (j : Job) (sent : List (List ℕ)) (d : List ℕ) : Type 0 where
  pub outgoing : Outgoing
  pub chunk : Chunk
  pub gone : is_none sent ≡ false
  pub left : Left
  pub at : At j.capacity (length j.hs) (headers_of j) j.has left outgoing
  pub so_far : SoFar j sent d (λ b. packets_left j.capacity left b)
  pub counts : Counts outgoing chunk

-- the response to a packet that others follow is awaited, which is the first one or not; SRM is off
pub record More (j : Job) (srm initial : Bool) (sent : List (List ℕ)) (d : List ℕ) (c : Client) : Type 0 where
  pub single : srm ≡ false
  pub rest : Rest j sent d
  pub operation : c.operation ≡ Requesting kind.Put rest.outgoing rest.chunk false initial false

-- the response to the last packet is awaited
pub record Ends (j : Job) (srm initial : Bool) (sent : List (List ℕ)) (d : List ℕ) (c : Client) : Type 0 where
  pub outgoing : Outgoing
  pub chunk : Chunk
  pub so_far : all_of j (onto d (ending j.has)) ≡ all_sent sent
  pub counts : Counts outgoing chunk
  pub operation : c.operation ≡ Requesting kind.Put outgoing chunk srm initial true

abbrev pub Answered : Bool → Job → Bool → Bool → List (List ℕ) → List ℕ → Client → Type 0
Answered true j srm initial sent d c = Ends j srm initial sent d c
Answered false j srm initial sent d c = More j srm initial sent d c

-- what a step leads to
pub data Leads (j : Job) (srm : Bool) (sent : List (List ℕ)) (d : List ℕ) (x : Done) : Type 0 where
  waits : Keeps j x.client x.stores → Waits j srm sent d x.client x.outcome x.stores → x.client.begun ≡ 0 → Leads j srm sent d x
  asks : Keeps j x.client x.stores → Asks j srm sent d x.client x.outcome x.stores → x.client.begun ≡ 0 → Leads j srm sent d x

-- ---- soundness

pub counts-sound : (o : Outgoing) (h : Chunk) → Counts o h → sound_request o h ≡ true
counts-sound o h w = simp (le-leb _ _ w.total, le-leb _ _ w.sent, le-leb _ _ w.begun, le-leb _ _ w.chunk)

pub keeps-sound : (j : Job) (c : Client) (s : Stores) → Keeps j c s → sound_operation c.operation ≡ true → sound c ≡ true
unfolding sound
keeps-sound j c s k e = simp (lt-ltb _ _ k.begun, le-leb _ _ k.latest, le-leb _ _ k.least, e)

pub made-counts : (o : Outgoing) (y : List ℕ) (m : Made) → o.total ≤ 65535 → SendsFrom o y m → Counts m.packet.outgoing m.packet.chunk
made-counts o y m t w = record { total = omega (arith, w.total); sent = omega (arith, w.total, w.sent); begun = w.begun; chunk = w.chunk }

-- the stores keep their room with another request store as long
pub room-kept : (s : Stores) (q : List ℕ) → short s ≡ false → 65535 ≤ length q → short (with_request s q) ≡ false
unfolding short
room-kept s q e l = go (ltb (length s.packet) 65535) (ltb (length s.headers) 65535) (ltb (length s.body) 65535) e (le-ltb (length q) 65535 l)
  where
    go : (a b c : Bool) → (a || (b || (c || ltb (length s.request) 65535))) ≡ false → ltb (length q) 65535 ≡ false
        → (a || (b || (c || ltb (length q) 65535))) ≡ false
    go true b c h k = h
    go false true c h k = h
    go false false true h k = h
    go false false false h k = k

-- ---- what was made leads on

-- the whole Put can be sent
all_whole : (j : Job) (b : Option (List ℕ)) → (all_of j b).whole ≡ true
all_whole j b = all-fits j.capacity j.headers.list (leading j.id j.wants) b j.headers.fit

module _ (j : Job) (srm : Bool) (sent : List (List ℕ)) (d : List ℕ) (c : Client) (s : Stores) (initial : Bool) (begins : initial ≡ is_none sent)
    (later : srm ≡ true → initial ≡ false) (m : Made) (f : Option (List ℕ) → Packets) (k : Keeps j c s)
    (w : Making j.capacity (length j.hs) (headers_of j) j.has m f) (so : SoFar j sent d f)
    (n : Counts m.packet.outgoing m.packet.chunk) where
  keeps_on : (o : Operation) (a : Await) (q : List ℕ) → 65535 ≤ length q → Keeps j (goes c o a false) (with_request s q)
  unfolding client_with
  keeps_on o a q l =
      record {
        room = room-kept s q k.room l;
        begun = omega arith;
        latest = k.latest;
        least = k.least;
        settings = k.settings;
        remote = k.remote;
        capacity = k.capacity;
        id = k.id;
        wanted = k.wanted;
        headers = k.headers;
        request = l;
      }

  leads_by : (x : Next) → m.packet.next ≡ x → Leads j srm sent d (requests_by x c kind.Put srm initial m s)
  unfolding client_with
  leads_by (next.Send size last) e =
      let l : 65535 ≤ length (set m.reply 0 (byte_of op.Put last)) = omega (arith, w.long, length-set m.reply 0 (byte_of op.Put last)) in
      waits (keeps_on (Requesting kind.Put m.packet.outgoing m.packet.chunk srm initial last) await.Sent
      (set m.reply 0 (byte_of op.Put last)) l)
      (record {
        made = m;
        rest = f;
        size = size;
        last = last;
        initial = initial;
        making = w;
        so_far = so;
        is_next = e;
        counts = n;
        begins = begins;
        later = later;
        stays = refl;
        operation = refl;
        awaits = refl;
        said = refl;
        request = refl;
      })
      refl
  leads_by next.Read e =
      asks (keeps_on (Requesting kind.Put m.packet.outgoing m.packet.chunk srm initial false) await.Body m.reply w.long)
      (record {
        made = m;
        rest = f;
        initial = initial;
        making = w;
        so_far = so;
        is_next = e;
        counts = n;
        begins = begins;
        later = later;
        stays = refl;
        operation = refl;
        awaits = refl;
        said = refl;
        request = refl;
      })
      refl
  leads_by next.TooLarge e =
      let b = ending j.has in
      let g = subst (λ (x : Next). Makes j.capacity (length j.hs) (headers_of j) j.has x m f) e w.by in
      let q : all_of j (onto d b) ≡ behind sent cannot_go = so b (ending_has j.has) ∙ ap (behind sent) (g b (ending_has j.has)) in
      absurd (false≢true (sym (behind-whole sent cannot_go) ∙ ap (λ (r : Packets). r.whole) (sym q) ∙ all_whole j (onto d b)))

  pub made-leads : Leads j srm sent d (requests c kind.Put srm initial m s)
  made-leads = leads_by m.packet.next refl

-- ---- the first packet

onto-none : (b : Option (List ℕ)) → onto [] b ≡ b
onto-none none = refl
onto-none (some b) = refl

-- the first packet, by what leads it, the capacity and the header store before
abbrev first_by : Client → List ℕ → Bool → Stores → List ℕ → ℕ → List ℕ → Done
first_by c hs has s lead capacity h =
    let t = stores s.packet (front hs h) s.body (paste s.request 3 lead (length lead)) in
    requests c kind.Put false true (next_after (3 + length lead) capacity (requestBegins (length hs) has) t.headers t.request) t

first_as : (c : Client) (hs : List ℕ) (has : Bool) (s : Stores) (id : ConnectionId) (srm : Bool) (capacity : ℕ) (h : List ℕ) → c.connection_id ≡ id
    → c.settings.srm_wanted ≡ srm → capacity_of c ≡ capacity → s.headers ≡ h
    → requests_first c kind.Put hs has s ≡ first_by c hs has s (leading id srm) capacity h
unfolding requests_first
first_as c hs has s id srm capacity h a b e g =
    ap (λ (x : ConnectionId). first_by c hs has s (leading x c.settings.srm_wanted) (capacity_of c) s.headers) a
    ∙ ap (λ (x : Bool). first_by c hs has s (leading id x) (capacity_of c) s.headers) b
    ∙ ap (λ (x : ℕ). first_by c hs has s (leading id srm) x s.headers) e
    ∙ ap (λ (x : List ℕ). first_by c hs has s (leading id srm) capacity x) g

pub put-leads : (j : Job) (c : Client) (s : Stores) → Keeps j c
    (stores s.packet (headers_of j) s.body (paste s.request 3 (leading j.id j.wants) (length (leading j.id j.wants))))
    → j.store ≡ s.headers → 65535 ≤ length s.request
    → Leads j false [] [] (requests_first c kind.Put j.hs j.has s)
put-leads j c s k e l =
    let lead = leading j.id j.wants in
    let y = paste s.request 3 lead (length lead) in
    let t = stores s.packet (headers_of j) s.body y in
    let m = next_after (3 + length lead) j.capacity (requestBegins (length j.hs) j.has) (headers_of j) y in
    let fits = length-append j.hs (drop (length j.hs) j.store) in
    let w = first-request j.capacity j.id j.wants j.has j.hs j.store s.request j.low j.top j.octets j.headers l in
    let n = next-after-sends (3 + length lead) j.capacity (requestBegins (length j.hs) j.has) (headers_of j) y
    (omega (arith, j.low, lead-small j.id j.wants)) j.top k.request (omega arith) (omega (arith, fits)) in
    subst (λ (x : Done). Leads j false [] [] x) (sym (first_as c j.hs j.has s j.id j.wants j.capacity j.store k.id k.wanted
    k.capacity (sym e)))
    (made-leads j false [] [] c t true refl (λ e. absurd (false≢true e)) m (λ b. all_of j b) k w (λ b h. ap (all_of j) (onto-none b))
    (made-counts (requestBegins (length j.hs) j.has) y m j.most n))

-- ---- body bytes

-- no more than were asked for
onto-more : (d x : List ℕ) (b : Option (List ℕ)) → has_body_of b ≡ true → onto (d ++ x) b ≡ some (d ++ (x ++ body_bytes_of b))
onto-more d x none e = absurd (false≢true e)
onto-more d x (some b) e = ap (λ (l : List ℕ). some l) (append_assoc d x b)

module _ (j : Job) (srm : Bool) (sent : List (List ℕ)) (d x : List ℕ) (c : Client) (o : Outcome) (s : Stores) (k : Keeps j c s)
    (a : Asks j srm sent d c o s)
    (r : length x ≤ a.made.packet.chunk.room) where
  -- the bytes are asked for only if there is a body
  reads : Reading j.capacity (length j.hs) (headers_of j) j.has a.made a.rest
  reads = subst (λ (y : Next). Makes j.capacity (length j.hs) (headers_of j) j.has y a.made a.rest) a.is_next a.making.by

  has_body : j.has ≡ true
  has_body = reads.body

  within : length x ≤ reads.room
  within = let q : a.made.packet.chunk.room ≡ reads.room = ap (λ (p : NextPacket). p.chunk.room) reads.is in omega (arith, r, q)

  given_so : SoFar j sent (d ++ x) (λ b. a.rest (some (x ++ body_bytes_of b)))
  given_so b e =
      ap (all_of j) (onto-more d x b (e ∙ has_body)) ∙ a.so_far (some (x ++ body_bytes_of b)) (sym has_body)

  given_made : Making j.capacity (length j.hs) (headers_of j) j.has
      (body_given_of a.made.packet.outgoing a.made.packet.chunk x a.made.reply)
      (λ b. a.rest (some (x ++ body_bytes_of b)))
  given_made =
      subst (λ (y : Bool). Making j.capacity (length j.hs) (headers_of j) y
      (body_given_of a.made.packet.outgoing a.made.packet.chunk x a.made.reply)
      (λ b. a.rest (some (x ++ body_bytes_of b))))
      (sym has_body)
      (given_making j.capacity (length j.hs) (headers_of j) j.low j.top a.made a.rest
      (subst (λ (y : Bool). Reading j.capacity (length j.hs) (headers_of j) y a.made a.rest) has_body reads) x within)

  -- the Put goes on with them
  pub given-leads : Leads j srm sent (d ++ x) (requests c kind.Put srm a.initial
      (body_given_of a.made.packet.outgoing a.made.packet.chunk x s.request) s)
  given-leads =
      let y = a.made.reply in
      let m = body_given_of a.made.packet.outgoing a.made.packet.chunk x y in
      let n = body-sends a.made.packet.outgoing a.made.packet.chunk x y a.making.long r a.counts.begun a.counts.chunk
      a.counts.sent in
      subst (λ (q : List ℕ). Leads j srm sent (d ++ x) (requests c kind.Put srm a.initial
      (body_given_of a.made.packet.outgoing a.made.packet.chunk x q) s))
      (sym a.request)
      (made-leads j srm sent (d ++ x) c s a.initial a.begins a.later m (λ b. a.rest (some (x ++ body_bytes_of b))) k given_made given_so
      (made-counts a.made.packet.outgoing y m a.counts.total n))

-- ---- the packet that waits

-- the headers of a packet: SRM is asked for as said, and no parameter is among them
pub record Plainly (asked : Bool) (x : List Header) : Type 0 where
  pub asks : is_enable (first header_id.single_response_mode x) ≡ asked
  pub bare : first header_id.single_response_mode_parameters x ≡ none

-- one of a list's members
pub only_at : (ps : List (List ℕ)) (p : List ℕ) (rest : List (List ℕ)) (xs : List (List Header)) → Holding (ps ++ (p ∷ rest)) xs → AllNoSrm xs
    → (x : List Header) × (drop 3 p ≡ all_bytes x) × AllShaped x × NoSrm x
only_at [] p rest [] h n = absurd h
only_at [] p rest (x ∷ xs) h n = (x, h.0, h.1, n.0)
only_at (q ∷ ps) p rest [] h n = absurd h
only_at (q ∷ ps) p rest (x ∷ xs) h n = only_at ps p rest xs h.2 n.1

later_at : (ps : List (List ℕ)) (p : List ℕ) (rest : List (List ℕ)) (xs : List (List Header)) → Holding (ps ++ (p ∷ rest)) xs → AllNoSrm xs
    → (x : List Header) × (drop 3 p ≡ all_bytes x) × AllShaped x × Plainly false x
later_at ps p rest xs h n =
    let w = only_at ps p rest xs h n in
    (w.0, w.1, w.2, record { asks = ap is_enable (none_first w.0 w.3); bare = no_parameter w.0 w.3 })

-- the first asks for SRM if it is wanted, no other one does
pub asked_at : (id : ConnectionId) (srm : Bool) (ps : List (List ℕ)) (p : List ℕ) (rest : List (List ℕ)) (xs : List (List Header))
    → Holding (ps ++ (p ∷ rest)) xs
    → Leading (leading_headers id srm) xs → (x : List Header) × (drop 3 p ≡ all_bytes x) × AllShaped x × Plainly (is_none ps && srm) x
asked_at id srm [] p rest [] h n = absurd h
asked_at id srm [] p rest (x ∷ xs) h n =
    let w = lead-asks id srm n.0.0 n.0.2 in (
      x,
      h.0,
      h.1,
      subst (Plainly srm) (sym n.0.1) (record { asks = w.0; bare = w.1 }),
    )
asked_at id srm (q ∷ ps) p rest [] h n = absurd h
asked_at id srm (q ∷ ps) p rest (x ∷ xs) h n = later_at ps p rest xs h.2 n.1

pub sized_at : (n : ℕ) (ps : List (List ℕ)) (p : List ℕ) (rest : List (List ℕ)) → AllSized n (ps ++ (p ∷ rest)) → Sized n p
sized_at n [] p rest h = h.0
sized_at n (q ∷ ps) p rest h = sized_at n ps p rest h.1

-- on the stream its first byte is that of a Put
pub first-set : (n b x : ℕ) (y rest : List ℕ) → take n y ≡ x ∷ rest → take n (set y 0 b) ≡ b ∷ rest
first-set zero b x y rest e = let z : ◌≡◌ {A = ℕ} 0 1 = cc in absurd (omega arith)
first-set (suc n) b x [] rest e = let z : ◌≡◌ {A = ℕ} 0 1 = cc in absurd (omega arith)
first-set (suc n) b x (a ∷ y) rest e = ap (λ (l : List ℕ). b ∷ drop 1 l) e

first-put : (last : Bool) → first_byte (byte_of op.Put last) ≡ known_byte op.Put last
unfolding first_byte named byte_of
first-put true = refl
first-put false = refl

-- a packet whose length field is right
pub wire-whole : (b : ℕ) (content : List ℕ) → length content ≤ 65532 → IsWhole (b ∷ (bytes16 (3 + length content) ++ content))
wire-whole b content l = record { least = omega arith; most = omega arith; field = omega arith }

pub some-gone : (sent : List (List ℕ)) (p : List ℕ) → is_none (sent ++ (p ∷ [])) ≡ false
some-gone [] p = refl
some-gone (q ∷ sent) p = refl

-- what goes up: a packet that the server can read
pub record Up (j : Job) (initial : Bool) (q : List ℕ) (last : Bool) (p : List ℕ) (x : List Header) : Type 0 where
  pub whole : IsWhole q
  pub reads : request_of q ≡ some (record { opcode = op.Put; final = last; bytes = q; headers = x })
  pub holds : drop 3 p ≡ all_bytes x
  pub shaped : AllShaped x
  pub plain : Plainly (initial && j.wants) x
  pub fits : length q ≤ 3 + j.capacity

module _ (j : Job) (srm : Bool) (sent : List (List ℕ)) (d : List ℕ) (c : Client) (o : Outcome) (s : Stores) (k : Keeps j c s)
    (a : Waits j srm sent d c o s) where
  -- the packet as it was made
  abbrev pub made_packet : List ℕ
  made_packet = take a.size a.made.reply

  -- and as it goes
  abbrev pub sent_packet : List ℕ
  sent_packet = take a.size (set a.made.reply 0 (byte_of op.Put a.last))

  pub makes : Makes j.capacity (length j.hs) (headers_of j) j.has (next.Send a.size a.last) a.made a.rest
  makes = subst (λ (y : Next). Makes j.capacity (length j.hs) (headers_of j) j.has y a.made a.rest) a.is_next a.making.by

  -- it is the next of all packets
  pub next_of : (l : Bool) → Makes j.capacity (length j.hs) (headers_of j) j.has (next.Send a.size l) a.made a.rest
      → (rest : List (List ℕ)) × ((all_of j (onto d (ending j.has))).sent ≡ sent ++ (made_packet ∷ rest))
  next_of true m = (
    [],
    ap (λ (r : Packets). r.sent) (a.so_far (ending j.has) (ending_has j.has) ∙ ap (behind sent) m)
        ∙ behind-sent sent (all_sent (made_packet ∷ [])),
  )
  next_of false m =
      let r = packets_left j.capacity m.left (ending j.has) in (
        r.sent,
        ap (λ (r : Packets). r.sent) (a.so_far (ending j.has) (ending_has j.has)
            ∙ ap (behind sent) (m.go (ending j.has) (ending_has j.has)))
            ∙ behind-sent sent (before made_packet r),
      )

  pub goes_up : (x : List Header) × Up j a.initial sent_packet a.last made_packet x
  goes_up =
      let w = next_of a.last makes in
      let b = onto d (ending j.has) in
      let v = put-led j.capacity j.id j.wants j.hs b j.headers in
      let h = asked_at j.id j.wants sent made_packet w.0 v.headers
      (subst (λ (l : List (List ℕ)). Holding l v.headers) w.1 v.holds) v.only in
      let z = sized_at j.capacity sent made_packet w.0 (subst (λ (l : List (List ℕ)). AllSized j.capacity l) w.1
      (packets-sized j.capacity (leading j.id j.wants) j.headers.list b j.low
      (omega (arith, j.low, lead-small j.id j.wants)))) in
      let t = byte_of op.Put a.last in
      let q : sent_packet ≡ t ∷ (bytes16 (3 + length z.content) ++ z.content) =
      first-set a.size t (Rattle.outgoing.specs.Packets.first_byte z.last) a.made.reply (bytes16 (3 + length z.content) ++ z.content)
      z.is in
      let i : IsWhole sent_packet = subst IsWhole (sym q) (wire-whole t z.content (omega (arith, z.fits, j.top))) in (
        h.0,
        record {
          whole = i;
          reads =
              request-read sent_packet op.Put a.last h.0 (ap (λ (l : List ℕ). first_byte (get_or l 0 0)) q ∙ first-put a.last) refl i.least
              (reads-back made_packet sent_packet h.0 h.1 h.2 (sent-behind a.size t a.made.reply));
          holds = h.1;
          shaped = h.2;
          plain = subst (λ (t : Bool). Plainly (t && j.wants) h.0) (sym a.begins) h.3;
          fits = let w : length sent_packet ≡ 3 + length z.content = ap length q ∙ omega arith in omega (arith, w, z.fits);
        },
      )

  -- what is still to go once it has gone
  abbrev pub sent-rest : a.last ≡ false → Rest j (sent ++ (made_packet ∷ [])) d
  sent-rest e =
      let m = subst (λ (y : Bool). Makes j.capacity (length j.hs) (headers_of j) j.has (next.Send a.size y) a.made a.rest) e makes in
      record {
        outgoing = a.made.packet.outgoing;
        chunk = a.made.packet.chunk;
        gone = some-gone sent made_packet;
        left = m.left;
        at = m.at;
        so_far = λ b h. a.so_far b h ∙ ap (behind sent) (m.go b h) ∙ behind_more sent made_packet (packets_left j.capacity m.left b);
        counts = a.counts;
      }

  -- and its response is awaited, unless others follow at once
  pub sent-answered : (l : Bool) → a.last ≡ l → (srm && not l) ≡ false
      → Answered l j srm a.initial (sent ++ (made_packet ∷ [])) d (goes c c.operation await.Bytes false)
  unfolding client_with
  sent-answered true e n =
      let m = subst (λ (y : Bool). Makes j.capacity (length j.hs) (headers_of j) j.has (next.Send a.size y) a.made a.rest) e makes in
      record {
        outgoing = a.made.packet.outgoing;
        chunk = a.made.packet.chunk;
        so_far =
            a.so_far (ending j.has) (ending_has j.has) ∙ ap (behind sent) m ∙ behind_more sent made_packet (all_sent [])
            ∙ λ i. record {
              sent = (behind-sent (sent ++ (made_packet ∷ [])) (all_sent []) ∙ append-nil (sent ++ (made_packet ∷ []))) i;
              whole = behind-whole (sent ++ (made_packet ∷ [])) (all_sent []) i;
            };
        counts = a.counts;
        operation = a.operation ∙ ap (Requesting kind.Put a.made.packet.outgoing a.made.packet.chunk srm a.initial) e;
      }
  sent-answered false e n =
      let q : srm ≡ false = and_not srm n in
      record {
        single = q;
        rest = sent-rest e;
        operation =
            a.operation ∙ ap (Requesting kind.Put a.made.packet.outgoing a.made.packet.chunk srm a.initial) e
            ∙ ap (λ (t : Bool). Requesting kind.Put a.made.packet.outgoing a.made.packet.chunk t a.initial false) q;
      }
    where
      and_not : (t : Bool) → (t && true) ≡ false → t ≡ false
      and_not true e = absurd (true≢false e)
      and_not false e = refl

-- ---- a Continue

-- what is left is of the same headers
pub at_total : (capacity total : ℕ) (store : List ℕ) (has : Bool) (l : Left) (o : Outgoing) → At capacity total store has l o → o.total ≡ total
at_total capacity total store has (headers_left hs) o w = ap (λ (x : Outgoing). x.total) w.is
at_total capacity total store has (ahead_left b) o w = ap (λ (x : Outgoing). x.total) w.is

-- the next packet follows
pub next-leads : (j : Job) (srm : Bool) (sent : List (List ℕ)) (d : List ℕ) (c : Client) (s : Stores) → Keeps j c s → (a : Rest j sent d)
    → Leads j srm sent d (requests_next c kind.Put srm false a.outgoing s)
unfolding requests_next
next-leads j srm sent d c s k a =
    let y = s.request in
    let m = next_after 3 j.capacity a.outgoing (headers_of j) y in
    let fits = length-append j.hs (drop (length j.hs) j.store) in
    let total = at_total j.capacity (length j.hs) (headers_of j) j.has a.left a.outgoing a.at in
    let w = next_making j.capacity (length j.hs) (headers_of j) j.low j.top j.has (omega (arith, fits))
    (subst Octets (sym (take-append_seam j.hs (drop (length j.hs) j.store))) j.octets) a.left a.outgoing y a.at k.request
    in
    let n = next-after-sends 3 j.capacity a.outgoing (headers_of j) y (omega arith) j.top k.request a.counts.sent
    (omega (arith, fits, total)) in
    subst (λ (x : ℕ). Leads j srm sent d (requests c kind.Put srm false (next_after 3 x a.outgoing s.headers y) s)) (sym k.capacity)
    (subst (λ (x : List ℕ). Leads j srm sent d (requests c kind.Put srm false (next_after 3 j.capacity a.outgoing x y) s)) (sym k.headers)
    (made-leads j srm sent d c s false (sym a.gone) (λ e. refl) m (λ b. packets_left j.capacity a.left b) k w a.so_far
    (made-counts a.outgoing y m a.counts.total n)))

-- a Continue grants SRM, or not; once the user has aborted, the Abort follows
pub continues : (j : Job) (c : Client) (s : Stores) (o : Outgoing) (initial granted : Bool) (r : ResponsePacket) → Keeps j c s → c.aborting ≡ false
    → (j.wants && (initial && is_enable (first header_id.single_response_mode r.headers))) ≡ granted
    → continued kind.Put c o false initial r s ≡ requests_next c kind.Put granted false o s
continues j c s o initial granted r k a g =
    ap (λ (t : Bool). pick t (sends_abort c s) (requests_next c kind.Put (false || grants c initial r) false o s)) a
    ∙ ap (λ (t : Bool). requests_next c kind.Put (t && (initial && is_enable (first header_id.single_response_mode r.headers))) false o s) k.wanted
    ∙ ap (λ (t : Bool). requests_next c kind.Put t false o s) g

-- ---- the end of the Put

-- one of two lists of headers that packets hold
pub same-headers : (ps : List (List ℕ)) (xs ys : List (List Header)) → Holding ps xs → Holding ps ys → xs ≡ ys
same-headers [] [] [] a b = refl
same-headers [] [] (y ∷ ys) a b = absurd b
same-headers [] (x ∷ xs) ys a b = absurd a
same-headers (p ∷ ps) [] ys a b = absurd a
same-headers (p ∷ ps) (x ∷ xs) [] a b = absurd b
same-headers (p ∷ ps) (x ∷ xs) (y ∷ ys) a b =
    let e : some x ≡ some y = sym (reads-back p p x a.0 a.1 refl) ∙ reads-back p p y b.0 b.1 refl in
    let q : x ≡ y = cc in
    ap (λ (h : List Header). h ∷ xs) q ∙ ap (λ (l : List (List Header)). y ∷ l) (same-headers ps xs ys a.2 b.2)

-- a packet more
pub holding-more : (ps : List (List ℕ)) (xs : List (List Header)) (p : List ℕ) (x : List Header) → Holding ps xs → drop 3 p ≡ all_bytes x → AllShaped x
    → Holding (ps ++ (p ∷ [])) (xs ++ (x ∷ []))
holding-more [] [] p x h e w = (e, w, tt)
holding-more [] (y ∷ xs) p x h e w = absurd h
holding-more (q ∷ ps) [] p x h e w = absurd h
holding-more (q ∷ ps) (y ∷ xs) p x h e w = (h.0, h.1, holding-more ps xs p x h.2 e w)

-- what was given, as the body of the record
pub onto-ending : (has : Bool) (d : List ℕ) → onto d (ending has) ≡ pick has (some d) none
onto-ending true d = ap (λ (l : List ℕ). some l) (append-nil d)
onto-ending false d = refl

-- the packets that went carry the record
pub ends-carried : (j : Job) (srm initial : Bool) (sent : List (List ℕ)) (d : List ℕ) (c : Client) (xs : List (List Header))
    → Ends j srm initial sent d c → Holding sent xs
    → carried_all xs ≡ put_record j.id j.hs (pick j.has (some d) none)
ends-carried j srm initial sent d c xs a h =
    let b = onto d (ending j.has) in
    let v = put_conveyed j.capacity j.id j.wants j.hs b j.octets j.headers in
    let g = subst (λ (r : Packets). Holding r.sent v.headers) a.so_far v.holds in
    ap carried_all (same-headers sent xs v.headers h g) ∙ v.carries ∙ ap (put_record j.id j.hs) (onto-ending j.has d)
