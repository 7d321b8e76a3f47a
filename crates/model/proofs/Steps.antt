-- Each step of the model leads to a sound state and stores with room, and tells the host what is awaited. Assumes nothing.
use mathlib.Core.Path.{◌≡◌, refl}
use mathlib.Core.List.{List, []}
use mathlib.Core.Bool.{Bool, true, false, ◌&&◌, ◌||◌, not, true≢false}
use mathlib.Core.Option.{Option, none, some}
use Prim.Native.Nat.{ℕ, ◌+◌, ◌≤◌}
use native.Mathlib.Omega.{arith}
use lib.ListN.{length, get_or, length-append}
use lib.Dec.{ltb, leb}
use borrow.Author.Tests.{ltb-false, leb-true, le-leb}
use Rattle.std.specs.Prelude.{Some, None}
use Rattle.base.specs.Pick.{pick}
use Rattle.digest.specs.declared.md5.Octets16.{Octets16}
use Rattle.packet.specs.FirstByte.{same_opcode, first_byte}
use Rattle.packet.specs.Codes.{is_success, sent_code}
use Rattle.packet.specs.Header.{Header, read_headers, first}
use Rattle.packet.specs.Packet.{Request as Packet, connect_limit, packet_bytes}
use Rattle.packet.specs.Auth.{Challenge as PeerChallenge, Response}
use Rattle.packet.specs.declared.opcode.Opcode.{Opcode}
use Rattle.packet.specs.declared.opcode.Opcode.TheVariants as op
use Rattle.journal.specs.Calls.{Credentials}
use Rattle.incoming.specs.Survey.{survey_of}
use Rattle.incoming.specs.Gather.{Gathering, gathering}
use Rattle.incoming.specs.declared.survey.Survey.{Survey}
use Rattle.incoming.specs.declared.gather.Keep.{Keep}
use Rattle.incoming.specs.declared.gather.Keep.TheVariants as keep
use Rattle.incoming.specs.declared.gather.Gathered.{Gathered}
use Rattle.outgoing.specs.Object.{Made, next_packet}
use Rattle.outgoing.specs.declared.object.Outgoing.{Outgoing}
use Rattle.outgoing.specs.declared.object.Chunk.{Chunk}
use Rattle.outgoing.specs.declared.object.Next.{Next}
use Rattle.outgoing.specs.declared.object.Next.TheVariants as next
use Rattle.connection.specs.Reply.{fields_of, send_bytes, front}
use Rattle.connection.specs.Peer.{Linked, limited, checked_peer, verified_peer, challenged_peer, opened_for, disconnected_peer, ConnectionId, Challenge}
use Rattle.connection.specs.ConnectReply.{answered_challenge}
use Rattle.connection.specs.declared.peer.Peer.{Peer}
use Rattle.journal.specs.Journal.{list_of}
use Rattle.model.specs.Step.{Stores, with_reply, with_headers, with_gathered, ends, replies_code, sent, sends, sends_connect, limit_of, capacity_of}
use Rattle.model.specs.Request.{last_packet, last_headers, client_response, user_place}
use Rattle.model.specs.Operation.{nothing_gathered, gathers, put_body, put_continues, put_packet, get_continues, get_packet, headers_request, headers_packet}
use Rattle.model.specs.Object.{sends_made, sends_packet, sends_next}
use Rattle.model.specs.Connect.{verifies, connect_packet, connect_sends, front_for, credentials_for, connect_challenged, connect_opened, connect_answer, checks, password_answer, nonce_answer, srm_asked, stops, replies_fields, password_answered, demands_user}
use Rattle.model.specs.Dispatch.{Rejection, admits, rejects, rejection, known_in, drains, dispatches, admitted_as, dispatch, interrupts, trails, inside, busy, unknown_byte, read_as}
use Rattle.model.specs.Guard.{sound_gathered, sound_outgoing, sound_operation, same_await}
use Rattle.model.specs.Calls.{reply_answer}
use Rattle.model.specs.Runs.{handed_by}
use Rattle.model.specs.Refusals.{reply, asked}
use Rattle.server.specs.declared.Operation.{Operation}
use Rattle.server.specs.declared.Operation.TheVariants.{Nothing, Trailing, Putting, Getting, Sending, Gathering as GatheringOp, Connecting, Draining}
use Rattle.server.specs.declared.Await.TheVariants as await
use Rattle.server.specs.declared.End.TheVariants as end
use Rattle.server.specs.declared.Engine.{Engine}
use Rattle.server.specs.declared.HostRequest.TheVariants as request
use Rattle.server.specs.declared.Outcome.TheVariants as outcome
use Rattle.connection.proofs.Standings.{PeerFits, limited-fits, checked-fits, verified-fits, challenged-fits, disconnected-fits, disconnected-length, disconnected-nonces, opened-fits, opened-length, opened-nonces}
use Rattle.table.specs.Nonces.{counted}
use Rattle.table.proofs.Remembering.{SameNonces}
use Rattle.incoming.proofs.Frames.{Octets}
use Rattle.incoming.proofs.Gathers.{gather_lengths}
use Rattle.outgoing.proofs.Sent.{SendsFrom, next-sends}
use Rattle.model.proofs.Fit.{and_left, and_right, Room, room-reply, room-headers, Base, FineWith, Fine, fine-pick, FineTabled, tabled-pick, fine-done, fine-wants, fine-asks, fine-ends, fine-replies, fine-code_in, fine-code, fine-continues, connecting}

-- ---- counts

pub gathered_within : (limit : ℕ) (g : Gathered) → sound_gathered limit g ≡ true → (g.kept ≤ 65535) × (g.body ≤ limit)
gathered_within limit g h = (leb-true _ _ (and_left _ _ h), leb-true _ _ (and_right (leb g.kept 65535) _ h))

gathered_sound : (limit : ℕ) (g : Gathered) → g.kept ≤ 65535 → g.body ≤ limit → sound_gathered limit g ≡ true
gathered_sound limit g k b = simp (le-leb _ _ k, le-leb _ _ b)

pub record OutgoingFits (o : Outgoing) (c : Chunk) : Type 0 where
  pub total : o.total ≤ 65535
  pub sent : o.sent ≤ o.total
  pub begun : c.at + c.got ≤ 65532
  pub chunk : c.at + c.got + c.room ≤ 65533

pub outgoing_within : (o : Outgoing) (c : Chunk) → sound_outgoing o c ≡ true → OutgoingFits o c
outgoing_within o c h =
    let q = and_right (leb o.total 65535) _ h in
    let r = and_right (leb o.sent o.total) _ q in
    record {
      total = leb-true _ _ (and_left _ _ h);
      sent = leb-true _ _ (and_left _ _ q);
      begun = leb-true _ _ (and_left _ _ r);
      chunk = leb-true _ _ (and_right (leb (c.at + c.got) 65532) _ r);
    }

outgoing_sound : (o : Outgoing) (c : Chunk) → OutgoingFits o c → sound_outgoing o c ≡ true
outgoing_sound o c h = simp (le-leb _ _ h.total, le-leb _ _ h.sent, le-leb _ _ h.begun, le-leb _ _ h.chunk)

-- a reply's bytes fit the reply store
send_length : (remote code : ℕ) (fields hs q : List ℕ) → length fields ≤ 4 → send_bytes remote code fields hs ≡ some q → length q ≤ 65535
unfolding send_bytes packet_bytes
send_length remote code fields hs q l e = go (ltb 65535 (3 + length fields + length hs)) (ltb remote (3 + length fields + length hs)) refl e
  where
    go : (t u : Bool) → ltb 65535 (3 + length fields + length hs) ≡ t
        → pick t none (pick u (some (packet_bytes (sent_code 0x50) fields [])) (some (packet_bytes (sent_code code) fields hs))) ≡ some q
        → length q ≤ 65535
    go true u i w = absurd (let z : ◌≡◌ {A = ℕ} 0 1 = cc in omega arith)
    go false true i w = let z : packet_bytes (sent_code 0x50) fields [] ≡ q = cc in rw (← z) (simp length-append (omega arith))
    go false false i w =
        let z : packet_bytes (sent_code code) fields hs ≡ q = cc in
        let k : 3 + length fields + length hs ≤ 65535 = ltb-false _ _ i in
        rw (← z) (simp length-append (omega arith))

-- an operation of headers alone asks for a reply, and hands nothing over
pub headers-request : (o : Opcode) (n : ℕ) (z : Stores) → (asked (headers_request o n) ≡ reply) × (handed_by (headers_request o n) z ≡ [])
headers-request op.Connect n z = (refl, refl)
headers-request op.Disconnect n z = (refl, refl)
headers-request op.Put n z = (refl, refl)
headers-request op.Get n z = (refl, refl)
headers-request op.SetPath n z = (refl, refl)
headers-request op.Action n z = (refl, refl)
headers-request op.Session n z = (refl, refl)
headers-request op.Abort n z = (refl, refl)
headers-request (op.UserDefined x) n z = (refl, refl)

limit-small : (p : List ℕ) → Octets p → connect_limit p ≤ 65535
unfolding connect_limit
limit-small p o = omega (arith, o 5, o (5 + 1))

-- no Connect waits outside an operation
idle_shape : (o : Operation) → busy o ≡ false → connecting o ≡ false
idle_shape Nothing i = refl
idle_shape Trailing i = refl
idle_shape (Putting g srm) i = refl
idle_shape (Getting g srm confirm wait) i = refl
idle_shape (Sending o c srm wait) i = refl
idle_shape (GatheringOp o g) i = refl
idle_shape (Connecting c f n) i = absurd (true≢false i)
idle_shape (Draining c) i = refl

module _ (e : Engine) (s : Stores) (h : Base e s) where
  -- ---- gathering

  record Gathers (g : Gathering) : Type 0 where
    room : Room (limit_of e) (with_gathered s g)
    counts : sound_gathered (limit_of e) g.got ≡ true

  gathers-fit : (k : Keep) (hs : List Header) (g : Gathered) → sound_gathered (limit_of e) g ≡ true → Gathers (gathers e k hs g s)
  gathers-fit k hs g c =
      let b = gathered_within (limit_of e) g c in
      let l = gather_lengths k (limit_of e) hs (gathering g s.headers s.body) b.0 b.1 h.room.headers h.room.body in
      record {
        room = record { packet = h.room.packet; headers = rw l.0 h.room.headers; reply = h.room.reply; body = rw l.1 h.room.body };
        counts = gathered_sound (limit_of e) (gathers e k hs g s).got l.2 l.3;
      }

  -- 0x4D, after which what trails a Put is refused or not
  overrun-fine : (t : Bool) (z : Stores) → Room (limit_of e) z → Fine e (replies_code e e.peer (pick t Trailing Nothing) 0x4D z)
  overrun-fine true z r = fine-code_in e s h e.peer Trailing 0x4D z h.peer r refl refl
  overrun-fine false z r = fine-code e s h e.peer 0x4D z h.peer r

  trailed-fine : (t : Bool) → Fine e (replies_code e e.peer (pick t Nothing Trailing) 0x4D s)
  trailed-fine true = overrun-fine false s h.room
  trailed-fine false = overrun-fine true s h.room

  put-continues : (g : Gathered) (srm confirm additional : Bool) (z : Stores) → Room (limit_of e) z → sound_gathered (limit_of e) g ≡ true
      → Fine e (put_continues e g srm confirm additional z)
  put-continues g true confirm additional z r c =
      fine-pick e additional _ _ (fine-continues e s h (Putting g true) false z r c refl)
      (fine-wants e s h e.peer (Putting g true) z h.peer r c refl)
  put-continues g false confirm additional z r c =
      fine-pick e g.over _ _ (overrun-fine e.settings.refuse_trailing z r) (fine-continues e s h (Putting g confirm) confirm z r c refl)

  put-fine : (r : Packet) (v : Survey) (srm confirm : Bool) (g : Gathered) → sound_gathered (limit_of e) g ≡ true
      → Fine e (put_packet e r v srm confirm g s)
  unfolding put_packet
  put-fine r v srm confirm g c =
      let w = gathers-fit keep.Put r.headers g c in
      let x = gathers e keep.Put r.headers g s in
      let z = with_gathered s x in
      fine-pick e x.got.full _ _ (fine-ends e s h e.peer end.HeadersTooLarge z h.peer w.room)
      (fine-pick e r.final _ _
      (fine-pick e x.got.over _ _ (fine-code e s h e.peer 0x4D z h.peer w.room)
      (fine-asks e s h e.peer await.Reply (request.Put x.got.kept (put_body x.got)) z h.peer w.room refl refl))
      (put-continues x.got srm confirm v.additional z w.room w.counts))

  get_continues_lem : (g : Gathered) (srm confirm wait : Bool) (z : Stores) → Room (limit_of e) z → sound_gathered (limit_of e) g ≡ true
      → Fine e (get_continues e g srm confirm wait z)
  get_continues_lem g true confirm wait z r c = fine-wants e s h e.peer (Getting g true confirm wait) z h.peer r c refl
  get_continues_lem g false confirm wait z r c = fine-continues e s h (Getting g confirm false wait) confirm z r c refl

  get_fine : (r : Packet) (v : Survey) (srm confirm : Bool) (g : Gathered) → sound_gathered (limit_of e) g ≡ true
      → Fine e (get_packet e r v srm confirm g s)
  unfolding get_packet
  get_fine r v srm confirm g c =
      let w = gathers-fit keep.Get r.headers g c in
      let x = gathers e keep.Get r.headers g s in
      let z = with_gathered s x in
      fine-pick e x.got.full _ _ (fine-ends e s h e.peer end.HeadersTooLarge z h.peer w.room)
      (fine-pick e r.final _ _
      (fine-done e s h e.peer (Getting x.got srm confirm v.wait) await.Get (outcome.Request (request.Get x.got.kept)) z h.peer
      w.room
      w.counts (record { gathered = x.got; srm = srm; confirm = confirm; wait = v.wait; is = refl }) (λ u. refl) refl)
      (get_continues_lem x.got srm confirm v.wait z w.room w.counts))

  headers-fine : (r : Packet) (o : Opcode) (g : Gathered) → sound_gathered (limit_of e) g ≡ true → Fine e (headers_packet e r o g s)
  unfolding headers_packet
  headers-fine r o g c =
      let w = gathers-fit keep.All r.headers g c in
      let x = gathers e keep.All r.headers g s in
      let z = with_gathered s x in
      fine-pick e x.got.full _ _ (fine-ends e s h e.peer end.HeadersTooLarge z h.peer w.room)
      (fine-pick e r.final _ _
      (fine-asks e s h e.peer await.Reply (headers_request o x.got.kept) z h.peer w.room refl (headers-request o x.got.kept z).0)
      (fine-continues e s h (GatheringOp o x.got) false z w.room w.counts refl))

  -- ---- replies

  sent-fine : {n : ℕ} (p : Peer) (x : Option (List ℕ)) → ((q : List ℕ) → x ≡ some q → length q ≤ 65535) → PeerFits n p
      → FineWith n e (sent e p x s)
  sent-fine p none l f = fine-ends e s h p end.ReplyTooLarge s f h.room
  sent-fine p (some q) l f = fine-replies e s h p Nothing await.Taken q s f h.room refl refl refl (l q refl)

  pub sends-fine : (p : Peer) (code : ℕ) (hs : List ℕ) → PeerFits e.peer.nonces p → Fine e (sends e p code hs s)
  unfolding sends
  sends-fine p code hs f = sent-fine p _ (λ q i. send_length p.remote_max_packet_length code [] hs q (omega arith) i) f

  pub sends_connect_fine : {n : ℕ} (p : Peer) (code : ℕ) (hs : List ℕ) → PeerFits n p → FineWith n e (sends_connect e p code hs s)
  unfolding sends_connect
  sends_connect_fine p code hs f =
      sent-fine p _ (λ q i. send_length p.remote_max_packet_length code (fields_of e.settings.max_packet_length) hs q (omega arith) i) f

  -- ---- an object

  made-fine : (o : Outgoing) (srm wait : Bool) (n : Next) (m : Made) → o.total ≤ 65535 → SendsFrom o s.reply m
      → Fine e (sends_made e srm wait n m s)
  made-fine o srm wait n m t w = go n
    where
      filled : Room (limit_of e) (with_reply s m.reply)
      filled = room-reply (limit_of e) s m.reply w.same_length h.room

      counts : sound_outgoing m.packet.outgoing m.packet.chunk ≡ true
      counts =
          outgoing_sound m.packet.outgoing m.packet.chunk
          (record { total = rw w.total t; sent = rw w.total w.sent; begun = w.begun; chunk = w.chunk })

      go : (n : Next) → Fine e (sends_made e srm wait n m s)
      go (next.Send n true) = fine-done e s h e.peer Nothing await.Taken (outcome.Reply n) _ h.peer filled refl refl (λ u. refl) refl
      go (next.Send n false) =
          fine-done e s h e.peer (Sending m.packet.outgoing m.packet.chunk srm wait) await.Taken (outcome.Reply n) _
          h.peer filled counts refl (λ u. refl) refl
      go next.Read =
          fine-done e s h e.peer (Sending m.packet.outgoing m.packet.chunk srm wait) await.Body
          (outcome.Request (request.Read m.packet.chunk.room)) _ h.peer filled counts
          (record { outgoing = m.packet.outgoing; chunk = m.packet.chunk; srm = srm; wait = wait; is = refl }) (λ u. refl) refl
      go next.TooLarge = fine-code e s h e.peer 0x50 _ h.peer filled

  pub sends-packet-fine : (o : Outgoing) (srm wait : Bool) (m : Made) → o.total ≤ 65535 → SendsFrom o s.reply m
      → Fine e (sends_packet e srm wait m s)
  sends-packet-fine o srm wait m t w = made-fine o srm wait m.packet.next m t w

  pub next-made : (o : Outgoing) → o.sent ≤ o.total → o.total ≤ 65535
      → SendsFrom o s.reply (next_packet (capacity_of e) o s.headers s.reply)
  next-made o k t =
      next-sends (capacity_of e) o s.headers s.reply (omega (arith, h.peer.least)) (omega (arith, h.peer.most)) h.room.reply k t
      (omega (arith, h.room.headers))

  pub sends-next-fine : (o : Outgoing) (srm wait : Bool) → o.sent ≤ o.total → o.total ≤ 65535 → Fine e (sends_next e o srm wait s)
  unfolding sends_next
  sends-next-fine o srm wait k t = sends-packet-fine o srm wait _ t (next-made o k t)

  -- ---- Connect

  verifies-fine : (p : Peer) (c : Challenge) (r : Option Response) → PeerFits e.peer.nonces p → Fine e (verifies e p c r s)
  verifies-fine p None r f = fine-asks e s h p await.Nonce request.Nonce s f h.room refl refl
  verifies-fine p (Some n) none f = fine-asks e s h p await.Nonce request.Nonce s f h.room refl refl
  verifies-fine p (Some n) (some r) f = fine-asks e s h p await.Password (request.Password (user_place e s)) s f h.room refl refl

  fields_fine : (p : Peer) (code : ℕ) → PeerFits e.peer.nonces p → Fine e (replies_fields e p code s)
  unfolding packet_bytes
  fields_fine p code f =
      fine-replies e s h p Nothing await.Taken (packet_bytes (sent_code code) (fields_of e.settings.max_packet_length) []) s f
      h.room refl refl refl
      (omega arith)

  connect_fine : Octets (last_packet e s) → Fine e (connect_packet e s)
  unfolding connect_packet
  connect_fine o =
      let p = limited e.peer (connect_limit (last_packet e s)) in
      let f = limited-fits e.peer (connect_limit (last_packet e s)) (limit-small (last_packet e s) o) h.peer in
      fine-pick e e.settings.authentication _ _
      (fine-pick e (stops p (last_headers e s)) _ _ (fields_fine (checked_peer p false) 0x53 (checked-fits p false f))
      (verifies-fine p p.challenge (client_response e s) f))
      (fine-asks e s h p await.Connect (request.Connect e.length) s f h.room refl refl)

  pub connect_sends-fine : (p : Peer) (code : ℕ) (f : ConnectionId) (answer : List Header) (c : Option Credentials) → PeerFits e.peer.nonces p
      → Fine e (connect_sends e p code f answer c s)
  unfolding connect_sends
  connect_sends-fine p code f answer c k = sends_connect_fine p code _ k

  connect_challenged-fine : (p : Peer) (code : ℕ) (f : ConnectionId) (hs : List ℕ) (c : Option PeerChallenge) → PeerFits e.peer.nonces p
      → length hs ≤ 65535
      → Fine e (connect_challenged e p code f hs c s)
  connect_challenged-fine p code f hs none k l = connect_sends-fine p code f _ none k
  connect_challenged-fine p code f hs (some c) k l =
      fine-done e s h p (Connecting code f (length hs)) await.Credentials (outcome.Request (credentials_for (last_packet e s) c))
      (with_headers s (front hs s.headers)) k
      (room-headers (limit_of e) s hs l h.room) (le-leb _ _ l) (record { code = code; front = f; size = length hs; is = refl }) (λ u. refl) refl

  module _ (t : List ℕ) (room : 64 ≤ length t) where
    connect_opened-fine : (p : Option Linked) (code : ℕ) (f : ConnectionId) (hs : List ℕ)
        → ((q : Linked) → p ≡ some q → PeerFits e.peer.nonces q.peer × (length q.tables ≡ length t) × SameNonces q.tables t)
        → length hs ≤ 65535
        → FineTabled e t (connect_opened e t p code f hs s)
    connect_opened-fine none code f hs k l = record { done = sends_connect_fine e.peer 0x53 [] h.peer; tables = refl; nonces = λ n l. refl }
    connect_opened-fine (some q) code f hs k l =
        record {
          done = connect_challenged-fine q.peer code f hs (answered_challenge (last_headers e s)) (k q refl).0 l;
          tables = (k q refl).1;
          nonces = (k q refl).2;
        }

    connect_answer-fine : (code : ℕ) (hs : List ℕ) → length hs ≤ 65535 → FineTabled e t (connect_answer e code hs s t)
    unfolding connect_answer
    connect_answer-fine code hs l =
        let answer = first 0xCB (list_of (read_headers hs 0)) in
        let target = first 0x46 (last_headers e s) in
        let srm = e.peer.srm_enabled || srm_asked e (survey_of (some (last_headers e s))) in
        tabled-pick e t (is_success code) _ _
        (connect_opened-fine (opened_for e.peer t srm answer target) code (front_for e.peer t answer target) hs
        (λ q i. (
          opened-fits e.peer t [] srm h.peer room q answer target i,
          opened-length e.peer t [] srm h.peer room q answer target i,
          opened-nonces e.peer t [] srm h.peer room q answer target i,
        ))
        l)
        (record { done = sends_connect_fine e.peer code hs h.peer; tables = refl; nonces = λ n l. refl })

    pub reply-fine : (code : ℕ) (hs : List ℕ) → length hs ≤ 65535 → FineTabled e t (reply_answer e code hs s t)
    unfolding reply_answer
    reply-fine code hs l =
        let named = first 0xCB (last_headers e s) in
        tabled-pick e t (same_await e.awaits await.Connect) _ _ (connect_answer-fine code hs l)
        (tabled-pick e t (same_await e.awaits await.Disconnect) _ _
        (record {
          done = sends-fine (disconnected_peer e.peer t named).peer code hs (disconnected-fits e.peer t named h.peer);
          tables = disconnected-length e.peer t named h.peer room;
          nonces = disconnected-nonces e.peer t named h.peer;
        })
        (record { done = sends-fine e.peer code hs h.peer; tables = refl; nonces = λ n l. refl }))

  pub password-fine : (p : Option (List ℕ)) → Fine e (password_answer e p s)
  unfolding password_answer password_answered
  password-fine p =
      fine-pick e (checks e.peer.challenge (client_response e s) (demands_user e.settings) p) _ _
      (fine-asks e s h (verified_peer (checked_peer e.peer false)) await.Connect (request.Connect e.length) s
      (verified-fits (checked_peer e.peer false) (checked-fits e.peer false h.peer)) h.room refl refl)
      (fine-asks e s h (checked_peer e.peer true) await.Nonce request.Nonce s (checked-fits e.peer true h.peer) h.room refl refl)

  -- there is a nonce more
  pub nonce-fine : (n : Octets16) (l : List ℕ) → FineWith (counted e.peer.nonces) e (nonce_answer e n l s)
  unfolding nonce_answer
  nonce-fine n l = sends_connect_fine (challenged_peer e.peer n) 0x41 _ (challenged-fits e.peer n h.peer)

  -- ---- a packet

  none_gathered : sound_gathered (limit_of e) nothing_gathered ≡ true
  none_gathered = gathered_sound (limit_of e) nothing_gathered (omega arith) (omega arith)

  module _ (octets : Octets (last_packet e s)) (r : Packet) (v : Survey) where
    dispatches-fine : (o : Opcode) → Fine e (dispatches o e r v s)
    dispatches-fine op.Connect = connect_fine octets
    dispatches-fine op.Abort = fine-asks e s h e.peer await.Acknowledgement (request.Abort e.length) s h.peer h.room refl refl
    dispatches-fine op.Disconnect = fine-asks e s h e.peer await.Disconnect (request.Disconnect e.length) s h.peer h.room refl refl
    dispatches-fine op.SetPath = fine-asks e s h e.peer await.Reply _ s h.peer h.room refl refl
    dispatches-fine op.Put = put-fine r v _ _ nothing_gathered none_gathered
    dispatches-fine op.Get = get_fine r v _ _ nothing_gathered none_gathered
    dispatches-fine op.Action = headers-fine r op.Action nothing_gathered none_gathered
    dispatches-fine op.Session = headers-fine r op.Session nothing_gathered none_gathered
    dispatches-fine (op.UserDefined x) = headers-fine r (op.UserDefined x) nothing_gathered none_gathered

    admitted-fine : (x : Rejection) → Fine e (admitted_as x e r v s)
    admitted-fine admits = dispatches-fine r.opcode
    admitted-fine (rejects code) =
        fine-pick e (e.peer.srm_enabled && (drains r.opcode && not r.final)) _ _
        (fine-wants e s h e.peer (Draining code) s h.peer h.room refl refl)
        (fine-code e s h e.peer code s h.peer h.room)

    dispatch-fine : (known : Bool) → Fine e (dispatch e r v known s)
    unfolding dispatch
    dispatch-fine known =
        fine-pick e (same_opcode r.opcode op.Connect) _ _ (connect_fine octets) (admitted-fine (rejection e r.opcode v known))

    interrupts-fine : Fine e (interrupts e s)
    unfolding packet_bytes
    interrupts-fine =
        fine-replies e s h e.peer Nothing await.Last (packet_bytes (sent_code 0x40) [] []) s h.peer h.room refl refl refl (omega arith)

    inside-fine : (o : Operation) (known : Bool) → sound_operation (limit_of e) o ≡ true → Fine e (inside o e r v known s)
    inside-fine Nothing known c = dispatch-fine known
    inside-fine Trailing known c =
        fine-pick e (trails r) _ _ (trailed-fine r.final) (dispatch-fine known)
    inside-fine (Putting g srm) known c = fine-pick e (same_opcode r.opcode op.Put) _ _ (put-fine r v srm false g c) interrupts-fine
    inside-fine (Getting g srm confirm wait) known c = fine-pick e (same_opcode r.opcode op.Get) _ _ (get_fine r v srm confirm g c) interrupts-fine
    inside-fine (Sending o k srm wait) known c =
        let w = outgoing_within o k c in
        fine-pick e (same_opcode r.opcode op.Get) _ _ (sends-next-fine o srm v.wait w.sent w.total) interrupts-fine
    inside-fine (GatheringOp o g) known c = fine-pick e (same_opcode r.opcode o) _ _ (headers-fine r o g c) interrupts-fine
    inside-fine (Connecting k f n) known c = interrupts-fine
    inside-fine (Draining code) known c =
        fine-pick e r.final _ _ (fine-code e s h e.peer code s h.peer h.room)
        (fine-wants e s h e.peer (Draining code) s h.peer h.room refl refl)

  pub read-fine : Octets (last_packet e s) → sound_operation (limit_of e) e.operation ≡ true → (q t : List ℕ) (x : Option Packet)
      → Fine e (read_as x e q s t)
  read-fine o c q t none = go (busy e.operation) refl
    where
      go : (b : Bool) → busy e.operation ≡ b
          → Fine e (pick b (ends e e.peer end.Unreadable s)
          (replies_code e e.peer e.operation (pick (unknown_byte (first_byte (get_or q 0 0))) 0x51 0x40) s))
      go true m = fine-ends e s h e.peer end.Unreadable s h.peer h.room
      go false m = fine-code_in e s h e.peer e.operation _ s h.peer h.room c (idle_shape e.operation m)
  read-fine o c q t (some r) =
      fine-pick e (same_opcode r.opcode op.Abort) _ _
      (fine-asks e s h e.peer await.Acknowledgement (request.Abort e.length) s h.peer h.room refl refl)
      (inside-fine o r (survey_of (some r.headers)) e.operation (known_in e t (survey_of (some r.headers))) c)
