-- The replies to a Get are the packets of the object that the host gives: the calls go as the run of the object does, with a request of the
-- peer between two replies unless Single Response Mode spares it. Assumes nothing.
use mathlib.Core.Path.{◌≡◌, refl, sym, ap, ◌∙◌}
use mathlib.Core.List.{List, [], ◌∷◌}
use mathlib.Core.Bool.{Bool, true, false, ◌&&◌, ◌||◌, not}
use mathlib.Core.Option.{Option, none, some}
use Prim.Native.Nat.{ℕ, zero, suc, ◌≤◌}
use native.Mathlib.Omega.{arith}
use lib.ListN.{length, take, drop, length-take}
use lib.Seq.{take-append_seam}
use lib.Dec.{ltb, leb}
use borrow.Author.Tests.{ltb-false, leb-true, le-ltb}
use Rattle.base.specs.Pick.{pick}
use Rattle.packet.specs.FirstByte.{named, first_byte, same_opcode}
use Rattle.packet.specs.Header.{header_at_of, walk, read_headers, first}
use Rattle.packet.specs.Packet.{request_of, packet_bytes}
use Rattle.incoming.specs.Frame.{frame_end, framed}
use Rattle.incoming.specs.Survey.{survey_of}
use Rattle.model.specs.Dispatch.{packet_target, packet_done}
use Rattle.incoming.specs.declared.gather.Gathered.{Gathered}
use Rattle.outgoing.specs.declared.object.Outgoing.{Outgoing}
use Rattle.outgoing.specs.declared.object.Chunk.{Chunk}
use Rattle.outgoing.specs.declared.object.Next.{Next}
use Rattle.outgoing.specs.declared.object.Next.TheVariants as next
use Rattle.outgoing.specs.Object.{Made, next_packet, body_given_of}
use Rattle.outgoing.specs.Packets.{Packets, all_sent, cannot_go, before, packets_of}
use Rattle.outgoing.specs.Claims.{Reads, gives, before_run, run_by, run, fresh, has_body_of, body_bytes_of}
use Rattle.outgoing.proofs.Sent.{SendsFrom, next-sends, body-sends}
use Rattle.outgoing.proofs.ObjectRuns.{sent_as_packets}
use Rattle.connection.specs.Reply.{front}
use Rattle.server.specs.declared.Operation.TheVariants.{Sending, Getting}
use Rattle.server.specs.declared.Await.{Await}
use Rattle.server.specs.declared.Await.TheVariants as await
use Rattle.server.specs.declared.CallKind.{CallKind}
use Rattle.server.specs.declared.CallKind.TheVariants as kind
use Rattle.server.specs.declared.Engine.{Engine}
use Rattle.model.specs.Step.{Stores, with_reply, with_headers, engine_with, wants, capacity_of, limit_of, Stepped, after}
use Rattle.model.specs.Object.{sends_made, sends_packet, sends_next}
use Rattle.model.specs.Guard.{short, short_tables, sound, bad_headers, fits, guarded}
use Rattle.model.specs.Calls.{with_packet, offers, bytes_offered_step, reply_taken_step, object_given_step, body_given_step}
use Rattle.model.specs.ObjectSent.{go_on, replies_from, as_replies, GetSends}
use Rattle.model.proofs.Fit.{and_left, and_right, or_left, room, room-headers, not_short, Base, none-begun, Sits, is_sound, Fine}
use Rattle.model.proofs.Steps.{sends-packet-fine}

-- a call at its moment goes on
at_moment_lem : (k : CallKind) (e : Engine) (s : Stores) (x : Stepped) → Sits e s → fits k e.awaits ≡ true → guarded k e s x ≡ x
at_moment_lem k e s x h w = rw (not_short (limit_of e) s h.base.room, is_sound e s h, w)

-- a run before which a packet goes
record Before (p : List ℕ) (r : Option Packets) (ps : Packets) : Type 0 where
  rest : Packets
  is : ps ≡ before p rest
  of : r ≡ some rest

run-before : (p : List ℕ) (r : Option Packets) (ps : Packets) → before_run p r ≡ some ps → Before p r ps
run-before p none ps e = let z : ◌≡◌ {A = ℕ} 0 1 = cc in absurd (omega arith)
run-before p (some r) ps e = record { rest = r; is = cc; of = refl }

-- ---- the peer's request to go on

abbrev sending_to : Engine → Outgoing → Chunk → Bool → Bool → Await → ℕ → Engine
sending_to e o c srm wait a n = engine_with e.settings e.peer (Sending o c srm wait) a 0 n e.target

asks_on_lem : (e : Engine) (o : Outgoing) (c : Chunk) (srm wait : Bool) (n x y z : ℕ) (rest : List ℕ) (s : Stores) (t : List ℕ)
    → let taken = (offers (sending_to e o c srm wait await.Bytes n) (framed (x ∷ y ∷ z ∷ rest) 0 0 go_on) s t).took.taken in
    offers (sending_to e o c srm wait await.Bytes n) (framed (x ∷ y ∷ z ∷ rest) 0 0 go_on) s t
    ≡ after taken (sends_next (sending_to e o c srm wait await.Bytes 3) o srm false (with_packet s (0x83 ∷ 0x00 ∷ 0x03 ∷ rest)))
unfolding engine_with framed frame_end packet_done packet_target request_of named first_byte read_headers walk header_at_of same_opcode survey_of first
asks_on_lem e o c srm wait n x y z rest s t = refl

-- a packet store has three bytes
record Three (p : List ℕ) : Type 0 where
  a : ℕ
  b : ℕ
  c : ℕ
  rest : List ℕ
  is : p ≡ a ∷ b ∷ c ∷ rest

three : (p : List ℕ) → 3 ≤ length p → Three p
three [] h = absurd (omega arith)
three (a ∷ []) h = absurd (omega arith)
three (a ∷ b ∷ []) h = absurd (omega arith)
three (a ∷ b ∷ c ∷ rest) h = record { a = a; b = b; c = c; rest = rest; is = refl }

-- ---- the calls

module _ (reads : Reads) (t : List ℕ) (tables : short_tables t ≡ false) where
  -- from some number of calls on
  abbrev Gives : List ℕ → Stepped → Packets → Type 0
  Gives left c ps = (n : ℕ) × ((j : ℕ) → n ≤ j → replies_from reads t j left c ≡ some (as_replies ps))

  abbrev Follows : ℕ → Type 0
  Follows k = (x : ℕ) (left : List ℕ) (srm wait : Bool) (e : Engine) (s : Stores) (o : Outgoing) (m : Made) (ps : Packets) → Base e s
      → o.total ≤ 65535 → SendsFrom o s.reply m → run (capacity_of e) s.headers reads k left m ≡ some ps
      → Gives left (after x (sends_packet e srm wait m s)) ps

  -- one call more
  last-call : (left : List ℕ) (c : Stepped) (ps : Packets) → ((j : ℕ) → replies_from reads t (suc j) left c ≡ some (as_replies ps)) → Gives left c ps
  last-call left c ps f = (1, go)
    where
      go : (j : ℕ) → 1 ≤ j → replies_from reads t j left c ≡ some (as_replies ps)
      go zero h = absurd (omega arith)
      go (suc j) h = f j

  next-call : (left left' : List ℕ) (c d : Stepped) (ps qs : Packets) → Gives left' d qs
      → ((j : ℕ) → replies_from reads t j left' d ≡ some (as_replies qs) → replies_from reads t (suc j) left c ≡ some (as_replies ps)) → Gives left c ps
  next-call left left' c d ps qs g f = (suc g.0, go)
    where
      go : (j : ℕ) → suc g.0 ≤ j → replies_from reads t j left c ≡ some (as_replies ps)
      go zero h = absurd (omega arith)
      go (suc j) h = f j (g.1 j (omega arith))

  -- a reply that others follow is taken
  taken_more : (e : Engine) (s : Stores) (o : Outgoing) (c : Chunk) (srm wait : Bool) → e.awaits ≡ await.Taken → e.operation ≡ Sending o c srm wait
      → Sits e s
      → reply_taken_step e s ≡ after 0 (pick (srm && not wait) (sends_next e o srm wait s) (wants e e.peer (Sending o c srm wait) s))
  unfolding reply_taken_step
  taken_more e s o c srm wait a q h = rw (at_moment_lem kind.ReplyTaken e s _ h (rw a), a, q)

  -- body bytes that were asked for
  given-more : (e : Engine) (s : Stores) (o : Outgoing) (c : Chunk) (srm wait : Bool) (d : List ℕ) → e.awaits ≡ await.Body
      → e.operation ≡ Sending o c srm wait → length d ≤ c.room → Sits e s
      → body_given_step e d s ≡ after 0 (sends_packet e srm wait (body_given_of o c d s.reply) s)
  unfolding body_given_step
  given-more e s o c srm wait d a q l h = rw (at_moment_lem kind.FromBody e s _ h (rw a), q, le-ltb c.room (length d) l)

  -- a request that is read between two replies
  offered-more : (e : Engine) (s : Stores) (o : Outgoing) (c : Chunk) (srm wait : Bool) (n : ℕ) → (w : Three s.packet)
      → Sits (sending_to e o c srm wait await.Bytes n) s
      → (taken : ℕ) × (bytes_offered_step (sending_to e o c srm wait await.Bytes n) go_on s t
      ≡ after taken (sends_next (sending_to e o c srm wait await.Bytes 3) o srm false (with_packet s (0x83 ∷ 0x00 ∷ 0x03 ∷ w.rest))))
  unfolding bytes_offered_step engine_with
  offered-more e s o c srm wait n w h =
      let x = sending_to e o c srm wait await.Bytes n in (
        (offers x (framed (w.a ∷ w.b ∷ w.c ∷ w.rest) 0 0 go_on) s t).took.taken,
        rw (tables, not_short (limit_of x) s h.base.room, is_sound x s h, w.is)
            (asks_on_lem e o c srm wait n w.a w.b w.c w.rest s t),
      )

  module _ (k : ℕ) (ih : Follows k) (x : ℕ) (left : List ℕ) (srm wait : Bool) (e : Engine) (s : Stores) (o : Outgoing) (m : Made) (ps : Packets)
      (b : Base e s) (l : o.total ≤ 65535) (w : SendsFrom o s.reply m) where
    abbrev z : Stores
    z = with_reply s m.reply

    abbrev q : Outgoing
    q = m.packet.outgoing

    abbrev c : Chunk
    c = m.packet.chunk

    -- the next packet, for an engine of the same peer and the same headers and reply store
    next-follows : (i : ℕ) (wait' : Bool) (e' : Engine) (s' : Stores) (qs : Packets) → Base e' s' → e'.peer ≡ e.peer → s'.headers ≡ s.headers
        → s'.reply ≡ m.reply → run (capacity_of e) s.headers reads k left (next_packet (capacity_of e) q s.headers m.reply) ≡ some qs
        → Gives left (after i (sends_next e' q srm wait' s')) qs
    unfolding sends_next
    next-follows i wait' e' s' qs b' p h y r =
        let v =
        next-sends (capacity_of e') q s'.headers s'.reply (omega (arith, b'.peer.least)) (omega (arith, b'.peer.most)) b'.room.reply
        (omega (arith, w.total, w.sent)) (omega (arith, w.total)) (omega (arith, w.total, b'.room.headers)) in
        ih i left srm wait' e' s' q (next_packet (capacity_of e') q s'.headers s'.reply) qs b' (omega (arith, w.total)) v (rw (p, h, y) r)

    -- after a reply that others follow
    goes-follows : (n : ℕ) (qs : Packets) → Sits (sending_to e q c srm wait await.Taken e.length) z
        → run (capacity_of e) s.headers reads k left (next_packet (capacity_of e) q s.headers m.reply) ≡ some qs
        → (y : Bool)
        → Gives left (after 0 (pick y (sends_next (sending_to e q c srm wait await.Taken e.length) q srm wait z)
        (wants (sending_to e q c srm wait await.Taken e.length) e.peer (Sending q c srm wait) z))) qs
    unfolding engine_with replies_from
    goes-follows n qs h r true =
        next-follows 0 wait (sending_to e q c srm wait await.Taken e.length) z qs h.base refl refl refl r
    goes-follows n qs h r false =
        let v = three z.packet (omega (arith, h.base.room.packet)) in
        let s' = with_packet z (0x83 ∷ 0x00 ∷ 0x03 ∷ v.rest) in
        let e' = sending_to e q c srm wait await.Bytes 3 in
        let a : length s'.packet ≡ length z.packet = ap length (sym v.is) in
        let b' : Base e' s' =
        record {
          room = record {
            packet = omega (arith, h.base.room.packet);
            headers = h.base.room.headers;
            reply = h.base.room.reply;
            body = h.base.room.body;
          };
          peer = h.base.peer;
          last = omega arith;
        } in
        let f : Sits (sending_to e q c srm wait await.Bytes e.length) z =
        record {
          base = record { room = h.base.room; peer = h.base.peer; last = h.base.last };
          begun = none-begun z.packet;
          counts = h.counts;
          shape = refl;
        } in
        let y = offered-more e z q c srm wait e.length v f in
        next-call left left (after 0 (wants (sending_to e q c srm wait await.Taken e.length) e.peer (Sending q c srm wait) z))
        (after y.0 (sends_next e' q srm false s')) qs qs
        (next-follows y.0 false e' s' qs b' refl refl refl r)
        (λ j u. ap (replies_from reads t j left) y.1 ∙ u)

    follows_by : (n : Next) → m.packet.next ≡ n → Fine e (sends_made e srm wait n m s)
        → run_by (capacity_of e) s.headers reads n m left (run (capacity_of e) s.headers reads k) ≡ some ps
        → Gives left (after x (sends_made e srm wait n m s)) ps
    unfolding replies_from engine_with packet_bytes
    follows_by (next.Send n true) i f r =
        let p : ps ≡ all_sent (take n m.reply ∷ []) = cc in
        last-call left (after x (sends_made e srm wait (next.Send n true) m s)) ps (λ j. rw (p, w.last n i))
    follows_by (next.Send n false) i f r =
        let e' = sending_to e q c srm wait await.Taken e.length in
        let y =
        run-before (take n m.reply) (run (capacity_of e) s.headers reads k left (next_packet (capacity_of e) q s.headers m.reply)) ps r in
        next-call left left (after x (sends_made e srm wait (next.Send n false) m s))
        (after 0 (pick (srm && not wait) (sends_next e' q srm wait z) (wants e' e.peer (Sending q c srm wait) z))) ps y.rest
        (goes-follows n y.rest f.sits y.of (srm && not wait))
        (λ j u. rw (w.going n i, taken_more e' z q c srm wait refl refl f.sits, u) (ap (λ (qs : Packets). some (as_replies qs)) (sym y.is)))
    follows_by next.Read i f r =
        let e' = sending_to e q c srm wait await.Body e.length in
        let g = gives reads c.room left in
        let d = take g left in
        let a : length d ≤ c.room = omega (arith, length-take g left) in
        let h = f.sits.base in
        let v = body-sends q c d m.reply h.room.reply a w.begun w.chunk (omega (arith, w.total, w.sent)) in
        next-call left (drop g left) (after x (sends_made e srm wait next.Read m s))
        (after 0 (sends_packet e' srm wait (body_given_of q c d m.reply) z)) ps ps
        (ih 0 (drop g left) srm wait e' z q (body_given_of q c d m.reply) ps h (omega (arith, w.total)) v r)
        (λ j u. ap (replies_from reads t j (drop g left)) (given-more e' z q c srm wait d refl refl a f.sits) ∙ u)
    follows_by next.TooLarge i f r =
        let p : ps ≡ cannot_go = cc in
        last-call left (after x (sends_made e srm wait next.TooLarge m s)) ps (λ j. rw p)

  follows : (k : ℕ) → Follows k
  unfolding run
  follows zero x left srm wait e s o m ps b l w r = let y : ◌≡◌ {A = ℕ} 0 1 = cc in absurd (omega arith)
  follows (suc k) x left srm wait e s o m ps b l w r =
      follows_by k (follows k) x left srm wait e s o m ps b l w m.packet.next refl (sends-packet-fine e s b o srm wait m l w) r

-- ---- the claim

base_of : (e : Engine) (s : Stores) → short (limit_of e) s ≡ false → sound e ≡ true → e.peer.remote_max_packet_length ≤ 65535 → Base e s
unfolding sound
base_of e s a h most =
    let p = and_right (ltb e.begun 65535) _ h in
    let q = and_right (leb e.length 65535) _ p in
    let r = and_right (leb e.peer.count 64) _ q in
    let n = and_right (leb 255 e.peer.remote_max_packet_length) _ r in
    record {
      room = room (limit_of e) s a;
      peer = record {
        count = leb-true _ _ (and_left _ _ q);
        least = leb-true _ _ (and_left _ _ r);
        most = most;
        nonces = refl;
        few = leb-true _ _ (and_left _ _ n);
      };
      last = leb-true _ _ (and_left _ _ p);
    }

headers-short : (hs : List ℕ) → bad_headers hs ≡ false → length hs ≤ 65535
unfolding bad_headers
headers-short hs h = ltb-false _ _ (or_left _ _ h)

-- the object that is given, and its first packet
object-given : (e : Engine) (s : Stores) (g : Gathered) (srm confirm wait : Bool) (hs : List ℕ) (has : Bool) → short (limit_of e) s ≡ false
    → sound e ≡ true → e.awaits ≡ await.Get → e.operation ≡ Getting g srm confirm wait → bad_headers hs ≡ false
    → object_given_step e hs has s
    ≡ after 0
    (sends_packet e (srm || confirm) wait (next_packet (capacity_of e) (fresh (length hs) confirm has) (front hs s.headers) s.reply)
    (with_headers s (front hs s.headers)))
unfolding object_given_step sends_next
object-given e s g srm confirm wait hs has a h w o y = rw (a, h, w, o, y) refl

pub get_sends : GetSends
get_sends e s tables g srm confirm wait hs headers body reads a ta h most w o y octets e' =
    let b = base_of e s a h most in
    let l = headers-short hs y in
    let store = front hs s.headers in
    let z = with_headers s store in
    let b' : Base e z = record { room = room-headers (limit_of e) s hs l b.room; peer = b.peer; last = b.last } in
    let n : length hs ≤ length store = omega (arith, b'.room.headers) in
    let t : take (length hs) store ≡ hs = take-append_seam hs (drop (length hs) s.headers) in
    let object = fresh (length hs) confirm (has_body_of body) in
    let m = next_packet (capacity_of e) object store s.reply in
    let v =
    next-sends (capacity_of e) object store s.reply (omega (arith, b.peer.least)) (omega (arith, most)) b.room.reply (omega arith) l n in
    let ran =
    sent_as_packets (capacity_of e) (length hs) confirm store s.reply headers body reads (omega (arith, b.peer.least)) (omega (arith, most))
    b.room.reply n (rw t octets) (rw t e') in
    rw (object-given e s g srm confirm wait hs (has_body_of body) a h w o y)
    (follows reads tables ta ran.0 0 (body_bytes_of body) (srm || confirm) wait e z object m (packets_of (capacity_of e) confirm headers body) b' l v
    (ran.1 ran.0 (omega arith)))
