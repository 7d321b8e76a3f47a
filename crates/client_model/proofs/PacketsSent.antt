-- `ClientSends`: every packet that the client sends is within the server's limit and can be read with its own opcode, and no header is found
-- too long once something was sent, since what is still to go of a request is at each moment a list of such packets (outgoing's `Sender`).
-- Assumes nothing.
use mathlib.Core.Path.{◌≡◌, refl, sym, ap, subst, ◌∙◌}
use mathlib.Core.Bool.{Bool, true, false, ◌&&◌, ◌||◌, not, false≢true}
use mathlib.Core.Option.{Option, none, some}
use mathlib.Core.List.{List, [], ◌∷◌, ◌++◌}
use Prim.Native.Nat.{ℕ, ◌+◌, ◌≤◌}
use native.Mathlib.Omega.{arith}
use lib.ListN.{length, take, drop, set, length-append}
use lib.Seq.{paste, take-append_seam}
use lib.Dec.{ltb, eqb}
use borrow.Author.Tests.{ltb-false, le-ltb}
use Rattle.base.specs.Pick.{pick}
use Rattle.base.specs.Bytes.{bytes16}
use Rattle.text.specs.Unicode.{Octets}
use Rattle.packet.specs.HeaderIds as header_id
use Rattle.packet.specs.Header.{Header, first, all_bytes}
use Rattle.packet.specs.Codes.{is_success}
use Rattle.packet.specs.FirstByte.{known_byte, named, first_byte, byte_of}
use Rattle.packet.specs.Packet.{request_by, request_of, prefix_of, packet_bytes, connect_limit}
use Rattle.packet.specs.ResponsePacket.{ResponsePacket, response_packet}
use Rattle.packet.specs.declared.opcode.Opcode.{Opcode}
use Rattle.packet.specs.declared.opcode.Opcode.TheVariants as op
use Rattle.packet.specs.declared.opcode.FirstByte.{FirstByte}
use Rattle.std.specs.Prelude.{Option as Maybe}
use Rattle.packet.proofs.HeaderBytes.{header-bytes}
use Rattle.packet.proofs.HeaderWrites.{AllShaped, read-written, read_shaped}
use Rattle.incoming.specs.Frame.{Frames, framed}
use Rattle.incoming.specs.declared.frame.Frame.{Frame}
use Rattle.incoming.specs.declared.frame.Frame.TheVariants.{More}
use Rattle.journal.specs.Journal.{Read, more, whole, short as tooShort, read_up}
use Rattle.incoming.proofs.Frames.{Agrees, frames_agree}
use Rattle.outgoing.specs.Object.{Made, next_after, body_given_of}
use Rattle.outgoing.specs.Claims.{has_body_of, body_bytes_of}
use Rattle.outgoing.specs.Packets.{Packets, all_sent, before, packets_from}
use Rattle.outgoing.specs.declared.object.Outgoing.{Outgoing}
use Rattle.outgoing.specs.declared.object.Chunk.{Chunk}
use Rattle.outgoing.specs.declared.object.NextPacket.{NextPacket}
use Rattle.outgoing.specs.declared.object.Next.{Next}
use Rattle.outgoing.specs.declared.object.Next.TheVariants as next
use Rattle.outgoing.proofs.Sender.{Left, packets_left, ending, At, Reading, Makes, Making, given_making, next_making}
use Rattle.outgoing.proofs.Sized.{Sized, AllSized, packets-sized}
use Rattle.connection.specs.Peer.{at_least255, id_in, ConnectionId}
use Rattle.connection.specs.Reply.{fields_of, front}
use Rattle.client_model.specs.declared.Kind.{Kind}
use Rattle.client_model.specs.declared.Kind.TheVariants as kind
use Rattle.client_model.specs.declared.Operation.{Operation}
use Rattle.client_model.specs.declared.Operation.TheVariants.{Nothing, Connecting, Disconnecting, Requesting, Receiving, Aborting}
use Rattle.client_model.specs.declared.Await.{Await}
use Rattle.client_model.specs.declared.Await.TheVariants as await
use Rattle.client_model.specs.declared.Client.{Client}
use Rattle.client_model.specs.declared.End.{End}
use Rattle.client_model.specs.declared.End.TheVariants as end
use Rattle.client_model.specs.declared.Refusal.{Refusal}
use Rattle.client_model.specs.declared.Refusal.TheVariants as refusal
use Rattle.client_model.specs.declared.Outcome.{Outcome}
use Rattle.client_model.specs.declared.Outcome.TheVariants as outcome
use Rattle.client_model.specs.Numbers.{same_await}
use Rattle.client_model.specs.Leading.{leading_headers, leading}
use Rattle.client_model.specs.Step.{Stores, stores, with_packet, with_request, client_with, goes as goesTo, capacity_of, arrived, Done, done, wants, sends, over, ends, Stepped, after as step}
use Rattle.client_model.specs.Request.{opcode_of, request_of as requestBegins, requests_by, requests, requests_next, requests_first, id_bytes, sends_abort}
use Rattle.client_model.specs.Answer.{is_continue, grants, gathers, parts, ended, received_more, received_last, received, continued, request_answered, connected, disconnected, responded, is_connecting, read_as, response_done}
use Rattle.client_model.specs.Guard.{short, sound, awaiting, refuse, guarded, bad_headers, too_long_of, max_connect_headers, checked, abort_fits}
use Rattle.client_model.specs.Calls.{connect_step, disconnect_step, request_step, sent_for, request_sent_step, body_for, body_given_step, taken_for, part_taken_step, awaits_first, abort_taken, abort_for, abort_step, framed_as, bytes_offered_step, stream_ended_step, started}
use Rattle.client_model.specs.Refusals.{ClientCall, connect, disconnect, get, body_given_of as gives, bytes_offered_of, put, requestSent, partTaken, abort, stream_ended_of, client_step, Known, opens, is_abort, seen, OffersOctets}
use Rattle.client_model.specs.PacketsSent.{Sendable, opcode_in, opcode_due, is_headers_changed, SendsBy, AllSend, BringsOctets, AllBringOctets, ClientSends}
use Rattle.client_model.proofs.Conveyed.{Holding, bytes-append, shaped_append}
use Rattle.client_model.proofs.Leads.{lead_shaped}
use Rattle.client_model.proofs.Requests.{all-fits, given, own_reads, put_conveyed, request-read}
use Rattle.client_model.proofs.Sending.{lead-small, first-request}
use Rattle.client_model.proofs.Putting.{first-set, wire-whole, ending_has}
use Rattle.client_model.proofs.Standing.{open_kind, open_of, known_of, Base, Sits, Room, room}
use Rattle.client_model.proofs.Responding.{done_in}
use Rattle.client_model.proofs.Due.{same_is, shape_at, or_false, or_true, step-due, started_sits}

-- ---- a packet that a server can read

-- the headers of a user that are not refused
own_headers : (hs : List ℕ) → Octets hs → bad_headers hs ≡ false → (l : List Header) × (hs ≡ all_bytes l) × AllShaped l
own_headers hs o b =
    let g = own_reads hs b in
    (g.0, sym (header-bytes hs 0 g.0 o g.1), read_shaped hs 0 g.0 g.1)

-- the first bytes of the client's packets
abbrev SaysOpcode : Opcode → Type 0
SaysOpcode o = first_byte (byte_of o true) ≡ known_byte o true

connect_says : SaysOpcode op.Connect
unfolding first_byte named byte_of
connect_says = refl

disconnect_says : SaysOpcode op.Disconnect
unfolding first_byte named byte_of
disconnect_says = refl

abort_says : SaysOpcode op.Abort
unfolding first_byte named byte_of
abort_says = refl

request-says : (k : Kind) (last : Bool) → first_byte (byte_of (opcode_of k) last) ≡ known_byte (opcode_of k) last
unfolding first_byte named byte_of
request-says kind.Put true = refl
request-says kind.Put false = refl
request-says kind.Get true = refl
request-says kind.Get false = refl

-- behind the first three bytes stand headers
plain_sendable : (limit t : ℕ) (o : Opcode) (f : Bool) (q content : List ℕ) (x : List Header) → first_byte t ≡ known_byte o f → prefix_of o ≡ 3
    → q ≡ t ∷ (bytes16 (3 + length content) ++ content) → content ≡ all_bytes x → AllShaped x → 3 + length content ≤ limit → limit ≤ 65535
    → Sendable limit o q
plain_sendable limit t o f q content x e k i h w l m =
    subst (λ (p : List ℕ). Sendable limit o p) (sym i)
    (let p = t ∷ (bytes16 (3 + length content) ++ content) in
    let v = wire-whole t content (omega arith) in
    record {
      within = omega arith;
      field = v.field;
      request = record { opcode = o; final = f; bytes = p; headers = x };
      reads = request-read p o f x e k v.least (read-written x p 3 w h);
      opcode = refl;
    })

piece_sendable : (limit : ℕ) (o : Opcode) (h : List ℕ) (x : List Header) → SaysOpcode o → prefix_of o ≡ 3 → h ≡ all_bytes x → AllShaped x
    → 3 + length h ≤ limit
    → limit ≤ 65535 → Sendable limit o (packet_bytes (byte_of o true) [] h)
unfolding packet_bytes
piece_sendable limit o h x e k i w l m =
    plain_sendable limit (byte_of o true) o true (byte_of o true ∷ (bytes16 (3 + 0 + length h) ++ h)) h x e k
    (ap (λ (n : ℕ). byte_of o true ∷ (bytes16 n ++ h)) (omega arith)) i w l m

-- a Connect has its fields before its headers
connect_sendable : (limit n : ℕ) (h : List ℕ) (x : List Header) → h ≡ all_bytes x → AllShaped x → 7 + length h ≤ limit → limit ≤ 65535
    → Sendable limit op.Connect (packet_bytes (byte_of op.Connect true) (fields_of n) h)
unfolding packet_bytes request_of
connect_sendable limit n h x i w l m =
    let t = byte_of op.Connect true in
    let p = t ∷ (bytes16 (3 + length (fields_of n) + length h) ++ (fields_of n ++ h)) in
    let r = read-written x p 7 w i in
    record {
      within = omega arith;
      field = omega arith;
      request = record { opcode = op.Connect; final = true; bytes = p; headers = x };
      reads = ap (λ (b : Maybe FirstByte). request_by b p) connect_says ∙ rw (le-ltb (length p) 7 (omega arith), r);
      opcode = refl;
    }

-- ---- what is still to go of a request

-- packets that are all of that kind, and all of the request
record Good (capacity : ℕ) (r : Packets) : Type 0 where
  whole : r.whole ≡ true
  sized : AllSized capacity r.sent
  headers : List (List Header)
  holds : Holding r.sent headers

abbrev Goods : ℕ → Bool → (Option (List ℕ) → Packets) → Type 0
Goods capacity has f = (b : Option (List ℕ)) → has_body_of b ≡ has → Good capacity (f b)

-- the first of them
record Head (capacity : ℕ) (p : List ℕ) : Type 0 where
  sized : Sized capacity p
  headers : List Header
  holds : drop 3 p ≡ all_bytes headers
  shaped : AllShaped headers

good-head : (capacity : ℕ) (p : List ℕ) (r : Packets) → Good capacity (before p r) → Head capacity p
good-head capacity p r g = go g.headers g.holds
  where
    go : (xs : List (List Header)) → Holding (p ∷ r.sent) xs → Head capacity p
    go [] h = absurd h
    go (x ∷ xs) h = record { sized = g.sized.0; headers = x; holds = h.0; shaped = h.1 }

good-rest : (capacity : ℕ) (p : List ℕ) (r : Packets) → Good capacity (before p r) → Good capacity r
good-rest capacity p r g = go g.headers g.holds
  where
    go : (xs : List (List Header)) → Holding (p ∷ r.sent) xs → Good capacity r
    go [] h = absurd h
    go (x ∷ xs) h = record { whole = g.whole; sized = g.sized.1; headers = xs; holds = h.2 }

-- where the user's headers stand in the header store, and whether a body follows
record Job (store : List ℕ) : Type 0 where
  total : ℕ
  has : Bool
  fits : total ≤ length store
  octets : Octets (take total store)

-- packets follow those that were made
record Follow (capacity : ℕ) (store : List ℕ) (o : Outgoing) : Type 0 where
  job : Job store
  left : Left
  at : At capacity job.total store job.has left o
  good : Goods capacity job.has (λ b. packets_left capacity left b)

-- a packet is begun, and body bytes are asked for
record Gathers (capacity : ℕ) (store request : List ℕ) (o : Outgoing) (h : Chunk) : Type 0 where
  job : Job store
  made : Made
  rest : Option (List ℕ) → Packets
  reading : Reading capacity job.total store job.has made rest
  long : 65535 ≤ length made.reply
  good : Goods capacity job.has rest
  outgoing : o ≡ made.packet.outgoing
  chunk : h ≡ made.packet.chunk
  stands : request ≡ made.reply

abbrev GoingAt : Await → Bool → ℕ → Outgoing → Chunk → Stores → Type 0
GoingAt await.Sent true capacity o h s = Unit {0}
GoingAt await.Sent false capacity o h s = Follow capacity s.headers o
GoingAt await.Bytes true capacity o h s = Unit {0}
GoingAt await.Bytes false capacity o h s = Follow capacity s.headers o
GoingAt await.Body last capacity o h s = Gathers capacity s.headers s.request o h
GoingAt await.Call last capacity o h s = Unit {0}
GoingAt await.Taken last capacity o h s = Unit {0}
GoingAt await.Nothing last capacity o h s = Unit {0}

abbrev GoingBy : Operation → Await → ℕ → Stores → Type 0
GoingBy (Requesting k o h srm initial last) a capacity s = GoingAt a last capacity o h s
GoingBy Nothing a capacity s = Unit {0}
GoingBy Connecting a capacity s = Unit {0}
GoingBy Disconnecting a capacity s = Unit {0}
GoingBy (Receiving srm last code) a capacity s = Unit {0}
GoingBy Aborting a capacity s = Unit {0}

abbrev Going : Client → Stores → Type 0
Going c s = GoingBy c.operation c.awaits (capacity_of c) s

-- ---- a step that is not refused

record Kept (c : Client) (x : ClientCall) (d : Done) : Type 0 where
  going : Going d.client d.stores
  sends : SendsBy d.outcome (known_of c) x d.stores.request

kept-pick : (c : Client) (x : ClientCall) (t : Bool) (a b : Done) → (t ≡ true → Kept c x a) → (t ≡ false → Kept c x b) → Kept c x (pick t a b)
kept-pick c x true a b p q = p refl
kept-pick c x false a b p q = q refl

-- the opcode that is due
due_own : (c : Client) (x : ClientCall) (o : Opcode) → (c.aborting || is_abort x) ≡ false → opcode_in (opens x (open_of c.operation)) ≡ o
    → opcode_due (known_of c) x ≡ o
due_own c x o a e = ap (λ (t : Bool). pick t op.Abort (opcode_in (opens x (open_of c.operation)))) a ∙ e

due_abort : (c : Client) (x : ClientCall) → (c.aborting || is_abort x) ≡ true → opcode_due (known_of c) x ≡ op.Abort
due_abort c x a = ap (λ (t : Bool). pick t op.Abort (opcode_in (opens x (open_of c.operation)))) a

module _ (c : Client) (x : ClientCall) (s : Stores) (b : Base c) where
  -- a packet of one piece
  piece-kept : (o : Operation) (u : Opcode) (q : List ℕ) → GoingBy o await.Sent (capacity_of c) (with_request s (front q s.request))
      → opcode_due (known_of c) x ≡ u → Sendable c.remote_max_packet_length u q → Kept c x (sends c o q s)
  unfolding client_with
  piece-kept o u q g e w =
      record {
        going = g;
        sends =
            subst (λ (p : List ℕ). Sendable c.remote_max_packet_length (opcode_due (known_of c) x) p)
            (sym (take-append_seam q (drop (length q) s.request)))
            (subst (λ (y : Opcode). Sendable c.remote_max_packet_length y q) (sym e) w);
      }

  abort_kept : (c.aborting || is_abort x) ≡ true → Kept c x (sends_abort c s)
  unfolding sends_abort leading
  abort_kept a =
      let id = c.connection_id in
      piece-kept Aborting op.Abort (packet_bytes (byte_of op.Abort true) [] (id_bytes id)) tt (due_abort c x a)
      (piece_sendable c.remote_max_packet_length op.Abort (id_bytes id) (leading_headers id false) abort_says refl refl (lead_shaped id false)
      (omega (arith, lead-small id false, b.low)) b.top)

  -- a packet of a request
  module _ (k : Kind) (e : opens x (open_of c.operation) ≡ open_kind k) (a : (c.aborting || is_abort x) ≡ false) (j : Job s.headers) where
    made_sendable : (n : ℕ) (last : Bool) (y : List ℕ) → Head (capacity_of c) (take n y)
        → Sendable c.remote_max_packet_length (opcode_due (known_of c) x) (take n (set y 0 (byte_of (opcode_of k) last)))
    made_sendable n last y h =
        let z = h.sized in
        let t = byte_of (opcode_of k) last in
        let q = first-set n t (Rattle.outgoing.specs.Packets.first_byte z.last) y (bytes16 (3 + length z.content) ++ z.content) z.is in
        let d : z.content ≡ all_bytes h.headers = ap (drop 3) (sym z.is) ∙ h.holds in
        subst (λ (o : Opcode). Sendable c.remote_max_packet_length o (take n (set y 0 t)))
        (sym (due_own c x (opcode_of k) a (ap opcode_in e ∙ own k)))
        (plain_sendable c.remote_max_packet_length t (opcode_of k) last (take n (set y 0 t)) z.content h.headers (request-says k last)
        (three k) q d
        h.shaped (omega (arith, z.fits, b.low)) b.top)
      where
        own : (k : Kind) → opcode_in (open_kind k) ≡ opcode_of k
        own kind.Put = refl
        own kind.Get = refl

        three : (k : Kind) → prefix_of (opcode_of k) ≡ 3
        three kind.Put = refl
        three kind.Get = refl

    requests-kept : (srm initial : Bool) (m : Made) (f : Option (List ℕ) → Packets) → Making (capacity_of c) j.total s.headers j.has m f
        → Goods (capacity_of c) j.has f → Kept c x (requests c k srm initial m s)
    unfolding client_with
    requests-kept srm initial m f w g = go m.packet.next refl
      where
        at_end : Good (capacity_of c) (f (ending j.has))
        at_end = g (ending j.has) (ending_has j.has)

        go : (n : Next) → m.packet.next ≡ n → Kept c x (requests_by n c k srm initial m s)
        go (next.Send n true) q =
            let v = subst (λ (y : Next). Makes (capacity_of c) j.total s.headers j.has y m f) q w.by in
            let h = good-head (capacity_of c) (take n m.reply) (all_sent []) (subst (Good (capacity_of c)) v at_end) in
            record { going = tt; sends = made_sendable n true m.reply h }
        go (next.Send n false) q =
            let v = subst (λ (y : Next). Makes (capacity_of c) j.total s.headers j.has y m f) q w.by in
            let r = packets_left (capacity_of c) v.left in
            let h = good-head (capacity_of c) (take n m.reply) (r (ending j.has))
            (subst (Good (capacity_of c)) (v.go (ending j.has) (ending_has j.has)) at_end) in
            record {
              going =
                  record {
                    job = j;
                    left = v.left;
                    at = v.at;
                    good = λ b p. good-rest (capacity_of c) (take n m.reply) (r b) (subst (Good (capacity_of c)) (v.go b p) (g b p));
                  };
              sends = made_sendable n false m.reply h;
            }
        go next.Read q =
            let v = subst (λ (y : Next). Makes (capacity_of c) j.total s.headers j.has y m f) q w.by in
            record {
              going = record { job = j; made = m; rest = f; reading = v; long = w.long; good = g; outgoing = refl; chunk = refl; stands = refl };
              sends = tt;
            }
        go next.TooLarge q =
            let v = subst (λ (y : Next). Makes (capacity_of c) j.total s.headers j.has y m f) q w.by in
            absurd (false≢true (ap (λ (r : Packets). r.whole) (sym (v (ending j.has) (ending_has j.has))) ∙ at_end.whole))

  -- the next packet of a request
  next-kept : (k : Kind) → opens x (open_of c.operation) ≡ open_kind k → (c.aborting || is_abort x) ≡ false → Room s
      → (srm initial : Bool) (o : Outgoing)
      → Follow (capacity_of c) s.headers o → Kept c x (requests_next c k srm initial o s)
  unfolding requests_next
  next-kept k e a r srm initial o w =
      let j = w.job in
      requests-kept k e a j srm initial (next_after 3 (capacity_of c) o s.headers s.request) (λ b. packets_left (capacity_of c) w.left b)
      (next_making (capacity_of c) j.total s.headers (omega (arith, b.low)) (omega (arith, b.top)) j.has j.fits j.octets
      w.left o s.request
      w.at r.request)
      w.good

-- ---- a response

aborts-true : (a : Bool) → a ≡ true → (a || false) ≡ true
aborts-true true e = refl
aborts-true false e = absurd (false≢true e)

-- the operation is over, or goes on without a packet of a request
over-kept : (c : Client) (x : ClientCall) (o : Outcome) (s : Stores) → SendsBy o (known_of c) x s.request → Kept c x (over c o s)
unfolding client_with
over-kept c x o s w = record { going = tt; sends = w }

ends-kept : (c : Client) (x : ClientCall) (e : End) (s : Stores) → is_headers_changed e ≡ false → Kept c x (ends c e s)
unfolding client_with
ends-kept c x e s n = record { going = tt; sends = n }

module _ (c : Client) (s : Stores) (i : List ℕ) (b : Base c) (m : Room s) (r : ResponsePacket) where
  parts-kept : (srm last : Bool) (n : ℕ) → Kept c (bytes_offered_of i) (parts c srm last n (gathers r s) s)
  unfolding client_with
  parts-kept srm last n = record { going = tt; sends = tt }

  ended-kept : Kept c (bytes_offered_of i) (over c (ended c r) s)
  ended-kept = go c.aborting
    where
      go : (t : Bool) → Kept c (bytes_offered_of i) (over c (pick t (outcome.Aborted r.code c.length) (outcome.Done r.code c.length)) s)
      go true = over-kept c (bytes_offered_of i) (outcome.Aborted r.code c.length) s tt
      go false = over-kept c (bytes_offered_of i) (outcome.Done r.code c.length) s tt

  drops_kept : Kept c (bytes_offered_of i) (wants c (Receiving true false 0) true s)
  unfolding client_with
  drops_kept = record { going = tt; sends = tt }

  more-kept : (srm : Bool) → Kept c (bytes_offered_of i) (received_more c srm r s)
  more-kept srm =
      kept-pick c (bytes_offered_of i) c.aborting _ _
      (λ a. kept-pick c (bytes_offered_of i) srm _ _ (λ t. drops_kept) (λ t. abort_kept c (bytes_offered_of i) s b (aborts-true c.aborting a)))
      (λ a. parts-kept srm false r.code)

  last-kept : (srm : Bool) → Kept c (bytes_offered_of i) (received_last c srm r s)
  last-kept srm =
      kept-pick c (bytes_offered_of i) (not (is_success r.code) || c.aborting) _ _ (λ t. ended-kept) (λ t. parts-kept srm true r.code)

  received-kept : (srm : Bool) → Kept c (bytes_offered_of i) (received c srm r s)
  unfolding received
  received-kept srm = kept-pick c (bytes_offered_of i) (is_continue r) _ _ (λ t. more-kept srm) (λ t. last-kept srm)

  continued-kept : (k : Kind) (o : Outgoing) (h : Chunk) (srm initial last : Bool) → c.operation ≡ Requesting k o h srm initial last
      → Follow (capacity_of c) s.headers o → Kept c (bytes_offered_of i) (continued k c o srm initial r s)
  continued-kept k o h srm initial last e w =
      kept-pick c (bytes_offered_of i) c.aborting _ _ (λ t. abort_kept c (bytes_offered_of i) s b (aborts-true c.aborting t))
      (λ t. next-kept c (bytes_offered_of i) s b k (ap open_of e) (or_false c.aborting t) m (srm || grants c initial r) false o w)

  answered-kept : (k : Kind) (o : Outgoing) (h : Chunk) (srm initial last : Bool) → c.operation ≡ Requesting k o h srm initial last
      → GoingAt await.Bytes last (capacity_of c) o h s → Kept c (bytes_offered_of i) (request_answered k c o srm initial last r s)
  answered-kept kind.Put o h srm initial true e w = over-kept c (bytes_offered_of i) (outcome.Done r.code c.length) s tt
  answered-kept kind.Put o h srm initial false e w =
      kept-pick c (bytes_offered_of i) (is_continue r) _ _ (λ t. continued-kept kind.Put o h srm initial false e w)
      (λ t. over-kept c (bytes_offered_of i) (outcome.Stopped r.code c.length) s tt)
  answered-kept kind.Get o h srm initial true e w = received-kept (srm || grants c initial r)
  answered-kept kind.Get o h srm initial false e w =
      kept-pick c (bytes_offered_of i) (is_continue r) _ _ (λ t. continued-kept kind.Get o h srm initial false e w) (λ t. last-kept srm)

  connect_kept : Kept c (bytes_offered_of i) (done (connected c r) (outcome.Done r.code c.length) s)
  unfolding client_with
  connect_kept = go (is_success r.code)
    where
      go : (t : Bool) → Kept c (bytes_offered_of i)
          (done
          (pick t
          (client_with c.settings (at_least255 (connect_limit r.bytes))
          (id_in (first header_id.connection_id r.headers)) Nothing await.Call false 0
          c.length)
          (goesTo c Nothing await.Call false))
          (outcome.Done r.code c.length) s)
      go true = record { going = tt; sends = tt }
      go false = record { going = tt; sends = tt }

  disconnect_kept : Kept c (bytes_offered_of i) (done (disconnected c) (outcome.Done r.code c.length) s)
  unfolding client_with
  disconnect_kept = record { going = tt; sends = tt }

  responded-kept : (o : Operation) → c.operation ≡ o → GoingBy o await.Bytes (capacity_of c) s → Kept c (bytes_offered_of i) (responded o c r s)
  responded-kept Connecting e w = connect_kept
  responded-kept Disconnecting e w = disconnect_kept
  responded-kept (Requesting k o h srm initial last) e w = answered-kept k o h srm initial last e w
  responded-kept (Receiving srm last n) e w = received-kept srm
  responded-kept Aborting e w = over-kept c (bytes_offered_of i) (outcome.Aborted r.code c.length) s tt
  responded-kept Nothing e w = ends-kept c (bytes_offered_of i) end.Unreadable s refl

read_kept : (c : Client) (s : Stores) (i : List ℕ) → Base c → Room s → GoingBy c.operation await.Bytes (capacity_of c) s
    → (q : Option ResponsePacket)
    → Kept c (bytes_offered_of i) (read_as q c s)
read_kept c s i b m w none = ends-kept c (bytes_offered_of i) end.Unreadable s refl
read_kept c s i b m w (some r) = responded-kept c s i b m r c.operation refl w

whole-kept : (c : Client) (n : ℕ) (s : Stores) (i : List ℕ) → Base c → Room s → n ≤ 65535 → GoingBy c.operation await.Bytes (capacity_of c) s
    → Kept c (bytes_offered_of i) (response_done c n s)
unfolding response_done client_with
whole-kept c n s i b m h w =
    let d = read_kept (arrived c n) s i (record { latest = h; low = b.low; top = b.top }) m w
    (response_packet (is_connecting c.operation) (take n s.packet)) in
    record { going = d.going; sends = d.sends }

-- the packet store is not where a request stands
same-going : (capacity : ℕ) (s : Stores) (p : List ℕ) (o : Operation) → GoingBy o await.Bytes capacity s
    → GoingBy o await.Bytes capacity (with_packet s p)
same-going capacity s p (Requesting k o h srm initial true) v = v
same-going capacity s p (Requesting k o h srm initial false) v = v
same-going capacity s p Nothing v = v
same-going capacity s p Connecting v = v
same-going capacity s p Disconnecting v = v
same-going capacity s p (Receiving srm last code) v = v
same-going capacity s p Aborting v = v

module _ (c : Client) (s : Stores) (i : List ℕ) (b : Base c) (m : Room s) (w : GoingBy c.operation await.Bytes (capacity_of c) s)
    (a : c.awaits ≡ await.Bytes) where
  begun_kept : (p : List ℕ) (n : ℕ) → Kept c (bytes_offered_of i) (done_in (framed_as More c n 0 (with_packet s p)))
  unfolding client_with
  begun_kept p n =
      record {
        going =
            subst (λ (x : Await). GoingBy c.operation x (capacity_of c) (with_packet s p)) (sym a) (same-going (capacity_of c) s p c.operation w);
        sends = tt;
      }

  framed_kept : (f : Frames) (q : Read) → Agrees s.packet f q
      → Kept c (bytes_offered_of i) (done_in (framed_as f.result.frame c f.result.begun f.result.taken (with_packet s f.packet)))
  framed_kept f (more q) (e, g, n, o) =
      subst (λ (x : Frame). Kept c (bytes_offered_of i) (done_in (framed_as x c f.result.begun f.result.taken (with_packet s f.packet)))) (sym e)
      (begun_kept f.packet f.result.begun)
  framed_kept f (whole q) (e, g, n) =
      subst (λ (x : Frame). Kept c (bytes_offered_of i) (done_in (framed_as x c f.result.begun f.result.taken (with_packet s f.packet)))) (sym e)
      (whole-kept c f.result.begun (with_packet s f.packet) i b
      (record { packet = omega (arith, m.packet, g.same_length); headers = m.headers; request = m.request }) n
      (same-going (capacity_of c) s f.packet c.operation w))
  framed_kept f tooShort (e, n) =
      subst (λ (x : Frame). Kept c (bytes_offered_of i) (done_in (framed_as x c f.result.begun f.result.taken (with_packet s f.packet)))) (sym e)
      (ends-kept c (bytes_offered_of i) end.LengthTooSmall (with_packet s f.packet) refl)

-- ---- the calls

-- a call leaves what is still to go, and sends such a packet
record Goes (c : Client) (x : ClientCall) (m : Stepped) : Type 0 where
  going : Going m.took.client m.stores
  sends : SendsBy m.took.outcome (known_of c) x m.stores.request

module _ (c : Client) (s : Stores) (x : ClientCall) (w : Going c s) where
  refused-goes : (r : Refusal) → Goes c x (refuse r c s)
  refused-goes r = record { going = w; sends = tt }

  kept_goes : (m : Stepped) → Kept c x (done_in m) → Goes c x m
  kept_goes m k = record { going = k.going; sends = k.sends }

  guarded-goes : (fits : Bool) (m : Stepped) → (short s ≡ false → fits ≡ true → Goes c x m) → Goes c x (guarded fits c s m)
  guarded-goes fits m h = go (short s) refl (sound c) fits refl
    where
      go : (t : Bool) → short s ≡ t → (u f : Bool) → fits ≡ f
          → Goes c x (pick t (refuse refusal.StoreTooShort c s) (pick (u && f) m (refuse refusal.WrongMoment c s)))
      go true p u f q = refused-goes refusal.StoreTooShort
      go false p true true q = h p q
      go false p true false q = refused-goes refusal.WrongMoment
      go false p false f q = refused-goes refusal.WrongMoment

  checked-goes : (bad long : Bool) (d : Done) → (bad ≡ false → long ≡ false → Kept c x d) → Goes c x (checked bad long c s d)
  checked-goes true long d h = refused-goes refusal.BadHeaders
  checked-goes false true d h = refused-goes refusal.HeaderTooLong
  checked-goes false false d h = kept_goes (step 0 d) (h refl refl)

going_at : (c : Client) (s : Stores) → Going c s → (a : Await) → same_await c.awaits a ≡ true → GoingBy c.operation a (capacity_of c) s
going_at c s g a f = subst (λ (y : Await). GoingBy c.operation y (capacity_of c) s) (same_is c.awaits a f) g

connect_goes : (c : Client) (s : Stores) (hs : List ℕ) → Sits c s → Going c s → Octets hs → Goes c (connect hs) (connect_step c hs s)
unfolding connect_step
connect_goes c s hs w g o =
    guarded-goes c s (connect hs) g (awaiting c await.Call) _
    (λ r f. checked-goes c s (connect hs) g (bad_headers hs) (ltb max_connect_headers (length hs)) _
    (λ a l. let h = own_headers hs o a in
    let n : length hs ≤ 248 = ltb-false _ _ l in
    let z = w.base in
    piece-kept c (connect hs) s z Connecting op.Connect (packet_bytes (byte_of op.Connect true) (fields_of c.settings.max_packet_length) hs) tt
    (due_own c (connect hs) op.Connect (or_false c.aborting (shape_at c s w await.Call f)) refl)
    (connect_sendable c.remote_max_packet_length c.settings.max_packet_length hs h.0 h.1 h.2 (omega (arith, z.low)) z.top)))

lead-joined : (id : ConnectionId) (hs : List ℕ) (l : List Header) → hs ≡ all_bytes l → id_bytes id ++ hs ≡ all_bytes (leading_headers id false ++ l)
unfolding leading
lead-joined id hs l e = ap (λ (y : List ℕ). all_bytes (leading_headers id false) ++ y) e ∙ sym (bytes-append (leading_headers id false) l)

disconnect_goes : (c : Client) (s : Stores) (hs : List ℕ) → Sits c s → Going c s → Octets hs → Goes c (disconnect hs) (disconnect_step c hs s)
unfolding disconnect_step
disconnect_goes c s hs w g o =
    let id = c.connection_id in
    guarded-goes c s (disconnect hs) g (awaiting c await.Call) _
    (λ r f. checked-goes c s (disconnect hs) g (bad_headers hs) (ltb max_connect_headers (length (id_bytes id ++ hs))) _
    (λ a l. let h = own_headers hs o a in
    let n : length (id_bytes id ++ hs) ≤ 248 = ltb-false _ _ l in
    let z = w.base in
    piece-kept c (disconnect hs) s z Disconnecting op.Disconnect (packet_bytes (byte_of op.Disconnect true) [] (id_bytes id ++ hs)) tt
    (due_own c (disconnect hs) op.Disconnect (or_false c.aborting (shape_at c s w await.Call f)) refl)
    (piece_sendable c.remote_max_packet_length op.Disconnect (id_bytes id ++ hs) (leading_headers id false ++ h.0) disconnect_says refl
    (lead-joined id hs h.0 h.1) (shaped_append (leading_headers id false) h.0 (lead_shaped id false) h.2) (omega (arith, z.low))
    z.top)))

request-goes : (c : Client) (x : ClientCall) (s : Stores) (k : Kind) (hs : List ℕ) (has : Bool) → Sits c s → Going c s → Octets hs
    → opens x (open_of c.operation) ≡ open_kind k → is_abort x ≡ false → Goes c x (request_step c k hs has s)
unfolding request_step requests_first
request-goes c x s k hs has w g o e i =
    guarded-goes c s x g (awaiting c await.Call) _
    (λ r f. checked-goes c s x g (bad_headers hs) (too_long_of (capacity_of c) hs) _
    (λ a l. let z = w.base in
    let m = room s r in
    let id = c.connection_id in
    let srm = c.settings.srm_wanted in
    let cap = capacity_of c in
    let low : 252 ≤ cap = omega (arith, z.low) in
    let top : cap ≤ 65532 = omega (arith, z.top) in
    let v = given cap hs a l in
    let h = front hs s.headers in
    let y = paste s.request 3 (leading id srm) (length (leading id srm)) in
    let j : Job h =
    record {
      total = length hs;
      has = has;
      fits = omega (arith, length-append hs (drop (length hs) s.headers));
      octets = subst Octets (sym (take-append_seam hs (drop (length hs) s.headers))) o;
    } in
    requests-kept c x (stores s.packet h s.body y) z k e
    (ap (λ (t : Bool). c.aborting || t) i ∙ or_false c.aborting (shape_at c s w await.Call f)) j
    false true (next_after (3 + length (leading id srm)) cap (requestBegins (length hs) has) h y) (λ b. packets_from cap (leading id srm) v.list b)
    (first-request cap id srm has hs s.headers s.request low top o v m.request)
    (λ b q. let u = put_conveyed cap id srm hs b o v in
    record {
      whole = all-fits cap v.list (leading id srm) b v.fit;
      sized = packets-sized cap (leading id srm) v.list b low (omega (arith, lead-small id srm));
      headers = u.headers;
      holds = u.holds;
    })))

-- ---- a packet was sent

waits_kept : (c : Client) (x : ClientCall) (s : Stores) (t : Bool) → GoingBy c.operation await.Bytes (capacity_of c) s
    → Kept c x (wants c c.operation t s)
unfolding client_with
waits_kept c x s t w = record { going = w; sends = tt }

-- a wait for bytes in the same operation
still_kept : (c : Client) (x : ClientCall) (s : Stores) (t : Bool) (o : Operation) → c.operation ≡ o → GoingBy o await.Bytes (capacity_of c) s
    → Kept c x (wants c c.operation t s)
still_kept c x s t o e w = waits_kept c x s t (subst (λ (y : Operation). GoingBy y await.Bytes (capacity_of c) s) (sym e) w)

sent-kept : (c : Client) (s : Stores) → Base c → Room s → c.aborting ≡ false → (o : Operation) → c.operation ≡ o
    → GoingBy o await.Sent (capacity_of c) s
    → Kept c requestSent (sent_for o c s)
sent-kept c s b m a (Requesting k o h true initial false) e w =
    next-kept c requestSent s b k (ap open_of e) (or_false c.aborting a) m true initial o w
sent-kept c s b m a (Requesting k o h true initial true) e w = still_kept c requestSent s false (Requesting k o h true initial true) e w
sent-kept c s b m a (Requesting k o h false initial true) e w = still_kept c requestSent s false (Requesting k o h false initial true) e w
sent-kept c s b m a (Requesting k o h false initial false) e w = still_kept c requestSent s false (Requesting k o h false initial false) e w
sent-kept c s b m a Nothing e w = still_kept c requestSent s false Nothing e w
sent-kept c s b m a Connecting e w = still_kept c requestSent s false Connecting e w
sent-kept c s b m a Disconnecting e w = still_kept c requestSent s false Disconnecting e w
sent-kept c s b m a (Receiving srm last code) e w = still_kept c requestSent s false (Receiving srm last code) e w
sent-kept c s b m a Aborting e w = still_kept c requestSent s false Aborting e w

sent-goes : (c : Client) (s : Stores) → Sits c s → Going c s → Goes c requestSent (request_sent_step c s)
unfolding request_sent_step
sent-goes c s w g =
    guarded-goes c s requestSent g (awaiting c await.Sent) _
    (λ r f. kept_goes c s requestSent g _
    (sent-kept c s w.base (room s r) (shape_at c s w await.Sent f).0 c.operation refl (going_at c s g await.Sent f)))

-- ---- body bytes

module _ (c : Client) (s : Stores) (d : List ℕ) (b : Base c) (m : Room s) (a : c.aborting ≡ false) (g : Going c s) where
  given-goes : (k : Kind) (o : Outgoing) (h : Chunk) (srm initial last : Bool) → c.operation ≡ Requesting k o h srm initial last
      → Gathers (capacity_of c) s.headers s.request o h → Goes c (gives d) (body_for (Requesting k o h srm initial last) c d s)
  given-goes k o h srm initial last e w = go (ltb h.room (length d)) refl
    where
      has : w.job.has ≡ true
      has = w.reading.body

      rest : Option (List ℕ) → Packets
      rest y = w.rest (some (d ++ body_bytes_of y))

      again : body_given_of w.made.packet.outgoing w.made.packet.chunk d w.made.reply ≡ body_given_of o h d s.request
      again i = body_given_of (sym w.outgoing i) (sym w.chunk i) d (sym w.stands i)

      go : (t : Bool) → ltb h.room (length d) ≡ t
          → Goes c (gives d) (pick t (refuse refusal.WrongMoment c s) (step 0 (requests c k srm initial (body_given_of o h d s.request) s)))
      go true q = refused-goes c s (gives d) g refusal.WrongMoment
      go false q =
          let u = w.made in
          let p : h.room ≡ w.reading.room = ap (λ (y : Chunk). y.room) w.chunk ∙ ap (λ (y : NextPacket). y.chunk.room) w.reading.is in
          let n : length d ≤ w.reading.room = omega (arith, ltb-false h.room (length d) q, p) in
          let v = given_making (capacity_of c) w.job.total s.headers (omega (arith, b.low)) (omega (arith, b.top)) u w.rest
          (subst (λ (y : Bool). Reading (capacity_of c) w.job.total s.headers y u w.rest) has w.reading) d n in
          kept_goes c s (gives d) g _
          (requests-kept c (gives d) s b k (ap open_of e) (or_false c.aborting a) w.job srm initial (body_given_of o h d s.request) rest
          (subst (λ (y : Made). Making (capacity_of c) w.job.total s.headers w.job.has y rest) again
          (subst (λ (y : Bool). Making (capacity_of c) w.job.total s.headers y
          (body_given_of u.packet.outgoing u.packet.chunk d u.reply) rest) (sym has) v))
          (λ x z. w.good (some (d ++ body_bytes_of x)) (sym has)))

  body_kept : (o : Operation) → c.operation ≡ o → GoingBy o await.Body (capacity_of c) s → Goes c (gives d) (body_for o c d s)
  body_kept (Requesting k o h srm initial last) e w = given-goes k o h srm initial last e w
  body_kept Nothing e w = refused-goes c s (gives d) g refusal.WrongMoment
  body_kept Connecting e w = refused-goes c s (gives d) g refusal.WrongMoment
  body_kept Disconnecting e w = refused-goes c s (gives d) g refusal.WrongMoment
  body_kept (Receiving srm last code) e w = refused-goes c s (gives d) g refusal.WrongMoment
  body_kept Aborting e w = refused-goes c s (gives d) g refusal.WrongMoment

body-goes : (c : Client) (s : Stores) (d : List ℕ) → Sits c s → Going c s → Goes c (gives d) (body_given_step c d s)
unfolding body_given_step
body-goes c s d w g =
    guarded-goes c s (gives d) g (awaiting c await.Body) _
    (λ r f. body_kept c s d w.base (room s r) (shape_at c s w await.Body f).0 g c.operation refl (going_at c s g await.Body f))

-- ---- a part was taken

none-bytes : [] ≡ all_bytes []
unfolding all_bytes
none-bytes = refl

taken-goes : (c : Client) (s : Stores) → Sits c s → Going c s → Goes c partTaken (part_taken_step c s)
unfolding part_taken_step
taken-goes c s w g =
    guarded-goes c s partTaken g (awaiting c await.Taken) _ (λ r f. go c.operation refl (shape_at c s w await.Taken f).0)
  where
    b : Base c
    b = w.base

    go : (o : Operation) → c.operation ≡ o → c.aborting ≡ false → Goes c partTaken (taken_for o c s)
    go (Receiving srm true code) e a = kept_goes c s partTaken g _ (over-kept c partTaken (outcome.Done code c.length) s tt)
    go (Receiving true false code) e a =
        kept_goes c s partTaken g _ (still_kept c partTaken s false (Receiving true false code) e tt)
    go (Receiving false false code) e a =
        kept_goes c s partTaken g _
        (piece-kept c partTaken s b c.operation op.Get (packet_bytes (byte_of op.Get true) [] [])
        (subst (λ (y : Operation). GoingBy y await.Sent (capacity_of c)
        (with_request s (front (packet_bytes (byte_of op.Get true) [] []) s.request))) (sym e) tt)
        (due_own c partTaken op.Get (or_false c.aborting a) (ap (λ (y : Operation). opcode_in (open_of y)) e))
        (piece_sendable c.remote_max_packet_length op.Get [] [] (request-says kind.Get true) refl none-bytes tt (omega (arith, b.low))
        b.top))
    go (Requesting k o h srm initial last) e a = refused-goes c s partTaken g refusal.WrongMoment
    go Nothing e a = refused-goes c s partTaken g refusal.WrongMoment
    go Connecting e a = refused-goes c s partTaken g refusal.WrongMoment
    go Disconnecting e a = refused-goes c s partTaken g refusal.WrongMoment
    go Aborting e a = refused-goes c s partTaken g refusal.WrongMoment

-- ---- an Abort

first-kept : (c : Client) (s : Stores) → Going c s → c.awaits ≡ await.Bytes → Kept c abort (awaits_first c s)
unfolding client_with
first-kept c s g e = record { going = subst (λ (y : Await). GoingBy c.operation y (capacity_of c) s) e g; sends = tt }

abort_goes : (c : Client) (s : Stores) → Sits c s → Going c s → Goes c abort (abort_step c s)
unfolding abort_step
abort_goes c s w g = guarded-goes c s abort g (abort_fits c) _ (λ r f. kept_goes c s abort g _ (go c.awaits refl))
  where
    sent : Kept c abort (sends_abort c s)
    sent = abort_kept c abort s w.base (or_true c.aborting)

    taken : (o : Operation) → c.operation ≡ o → Kept c abort (abort_taken o c s)
    taken (Receiving true last code) e = still_kept c abort s true (Receiving true last code) e tt
    taken (Receiving false last code) e = sent
    taken (Requesting k o h srm initial last) e = sent
    taken Nothing e = sent
    taken Connecting e = sent
    taken Disconnecting e = sent
    taken Aborting e = sent

    go : (a : Await) → c.awaits ≡ a → Kept c abort (abort_for a c s)
    go await.Bytes e = first-kept c s g e
    go await.Taken e = taken c.operation refl
    go await.Call e = sent
    go await.Sent e = sent
    go await.Body e = sent
    go await.Nothing e = sent

-- ---- bytes and the end of the stream

bytes-goes : (c : Client) (s : Stores) (i : List ℕ) → Sits c s → Going c s → Octets i → Goes c (bytes_offered_of i) (bytes_offered_step c i s)
unfolding bytes_offered_step
bytes-goes c s i w g o =
    guarded-goes c s (bytes_offered_of i) g (awaiting c await.Bytes) _
    (λ r f. let m = room s r in
    kept_goes c s (bytes_offered_of i) g _
    (framed_kept c s i w.base m (going_at c s g await.Bytes f) (same_is c.awaits await.Bytes f) (framed s.packet c.begun 0 i)
    (read_up (take c.begun s.packet) i)
    (frames_agree s.packet i c.begun 0 w.begun.small m.packet w.begun.octets o w.begun.goes_on)))

ended-goes : (c : Client) (s : Stores) → Going c s → Goes c stream_ended_of (stream_ended_step c s)
unfolding stream_ended_step
ended-goes c s g =
    guarded-goes c s stream_ended_of g (awaiting c await.Bytes || awaiting c await.Call) _
    (λ r f. kept_goes c s stream_ended_of g _
    (ends-kept c stream_ended_of (pick (eqb c.begun 0) end.Disconnected end.Truncated) s (either (eqb c.begun 0))))
  where
    either : (t : Bool) → is_headers_changed (pick t end.Disconnected end.Truncated) ≡ false
    either true = refl
    either false = refl

-- ---- every list of calls

step-goes : (c : Client) (s : Stores) (x : ClientCall) → Sits c s → Going c s → BringsOctets x → Goes c x (client_step c s x)
step-goes c s (connect hs) w g o = connect_goes c s hs w g o
step-goes c s (disconnect hs) w g o = disconnect_goes c s hs w g o
step-goes c s (put hs has) w g o = request-goes c (put hs has) s kind.Put hs has w g o refl refl
step-goes c s (get hs) w g o = request-goes c (get hs) s kind.Get hs false w g o refl refl
step-goes c s requestSent w g o = sent-goes c s w g
step-goes c s (gives d) w g o = body-goes c s d w g
step-goes c s partTaken w g o = taken-goes c s w g
step-goes c s abort w g o = abort_goes c s w g
step-goes c s (bytes_offered_of i) w g o = bytes-goes c s i w g o
step-goes c s stream_ended_of w g o = ended-goes c s g

brings_offers : (x : ClientCall) → BringsOctets x → OffersOctets x
brings_offers (connect hs) o = tt
brings_offers (disconnect hs) o = tt
brings_offers (put hs has) o = tt
brings_offers (get hs) o = tt
brings_offers requestSent o = tt
brings_offers (gives d) o = tt
brings_offers partTaken o = tt
brings_offers abort o = tt
brings_offers (bytes_offered_of i) o = o
brings_offers stream_ended_of o = tt

all_send : (c : Client) (s : Stores) (xs : List ClientCall) → Sits c s → Going c s → AllBringOctets xs → AllSend (known_of c) (seen c s xs)
all_send c s [] w g o = tt
all_send c s (x ∷ xs) w g o =
    let m = client_step c s x in
    let d = step-due c s x w (brings_offers x o.0) in
    let k = step-goes c s x w g o.0 in (
      k.sends,
      subst (λ (y : Known). AllSend y (seen m.took.client m.stores xs)) (sym d.learnt)
          (all_send m.took.client m.stores xs d.sits k.going o.1),
    )

pub client-sends : ClientSends
unfolding started client_with
client-sends st s xs r o = all_send (started st) s xs (started_sits st s) tt o
