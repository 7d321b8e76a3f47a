-- What the server makes of a Connect and of a Disconnect, and of its host's answers to them: it asks its host, or replies with bytes that the
-- client can read, or ends; its state stays sound, and the ids that are open stay open until a Disconnect. Assumes nothing.
use mathlib.Core.Path.{◌≡◌, refl, sym, ap, subst, ◌∙◌}
use mathlib.Core.List.{List, [], ◌∷◌, ◌++◌}
use mathlib.Core.Bool.{Bool, true, false, ◌&&◌, ◌||◌, not, true≢false, false≢true}
use mathlib.Core.Option.{Option, none, some}
use Prim.Native.Nat.{ℕ, zero, suc, ◌+◌, ◌*◌, ◌/◌, ◌%◌, ◌^◌, ◌≤◌, ◌<◌}
use native.Mathlib.Omega.{arith}
use native.Mathlib.Numerals.{add-one}
use lib.ListN.{length, take, drop, set}
use lib.Seq.{take-suc-set, take-append_seam}
use lib.Dec.{leb, eqb}
use borrow.Author.Tests.{leb-false, le-leb, eq-eqb}
use Rattle.std.specs.Prelude.{Some, None}
use Rattle.base.specs.Pick.{pick}
use Rattle.base.specs.Bytes.{be32, bytes32}
use Rattle.digest.specs.Md5.{octets16}
use Rattle.digest.specs.declared.md5.Octets16.{Octets16}
use Rattle.text.specs.Unicode.{Octets}
use Rattle.packet.specs.HeaderIds as header_id
use Rattle.packet.specs.Codes.{codes, is_code, is_success, sent_code}
use Rattle.packet.specs.FirstByte.{same_opcode}
use Rattle.packet.specs.Header.{Header, read_headers, first, bytes_of, all_bytes}
use Rattle.packet.specs.Packet.{Request as Packet, request_of, connect_limit, packet_bytes}
use Rattle.packet.specs.Auth.{Challenge as PeerChallenge, Response}
use Rattle.packet.specs.declared.opcode.Opcode.TheVariants as op
use Rattle.packet.proofs.HeaderBytes.{header-bytes}
use Rattle.packet.proofs.HeaderWrites.{AllShaped, read_shaped}
use Rattle.journal.specs.Calls.{Credentials}
use Rattle.journal.specs.Ids.{member, without, taken, first_free}
use Rattle.journal.specs.Journal.{is_enable, headers_of, list_of}
use Rattle.incoming.specs.Survey.{survey_of}
use Rattle.incoming.specs.declared.survey.Survey.{Survey}
use Rattle.table.specs.Nonces.{remembered_with}
use Rattle.table.specs.Targets.{place_of, target_by, target_set}
use Rattle.table.specs.declared.targets.Target.{Target}
use Rattle.table.proofs.Remembering.{remembered-length, remembered-front}
use Rattle.table.proofs.Naming.{target-set-front}
use Rattle.connection.specs.Peer.{peer_with, ids_of, id_in, Linked, linked, at_least255, limited, checked_peer, verified_peer, challenged_peer, srm_peer, added_peer, opened, target_given, searched, opened_for, left_peer, cleared_peer, disconnected_peer, ConnectionId, Challenge}
use Rattle.connection.specs.Pieces.{id_given}
use Rattle.connection.specs.Reply.{fields_of, send_bytes, front}
use Rattle.connection.specs.ConnectReply.{answered_challenge, connect_headers, challenge_header}
use Rattle.connection.specs.declared.peer.Peer.{Peer}
use Rattle.connection.proofs.Front.{front_length}
use Rattle.connection.proofs.Closing.{with_count}
use Rattle.connection.proofs.Standings.{PeerFits, own_fits, limited-fits, checked-fits, verified-fits, challenged-fits, disconnected-fits, disconnected-length, opened-fits, opened-length}
use Rattle.server.specs.declared.Operation.{Operation}
use Rattle.server.specs.declared.Operation.TheVariants.{Nothing, Trailing, Putting, Getting, Sending, Gathering as GatheringOp, Connecting as ConnectingOp, Draining}
use Rattle.server.specs.declared.Await.{Await}
use Rattle.server.specs.declared.Await.TheVariants as waits
use Rattle.server.specs.declared.End.{End}
use Rattle.server.specs.declared.End.TheVariants as end
use Rattle.server.specs.declared.Engine.{Engine}
use Rattle.server.specs.declared.HostRequest.{HostRequest}
use Rattle.server.specs.declared.HostRequest.TheVariants as request
use Rattle.server.specs.declared.Outcome.TheVariants as told
use Rattle.model.specs.Step.{Stores, with_reply, with_headers, engine_with, Done, asks as asksHost, ends, replies as repliesWith, replies_code, sent, sends, sends_connect, limit_of}
use Rattle.model.specs.Request.{last_packet, last_headers, client_response, user_place}
use Rattle.model.specs.Connect.{verifies, stops as is_stopped, replies_fields, connect_packet, srm_asked, connect_sends, front_for, credentials_for, connect_challenged, connect_opened, connect_answer, demands_user, checks, password_answered, password_answer, options_of, realm_of, nonce_answer}
use Rattle.model.specs.Dispatch.{known_in, rejection, dispatch, trails, inside, busy, read_as}
use Rattle.model.specs.Guard.{sound_operation}
use Rattle.model.specs.Runs.{State}
use Rattle.model.proofs.Fit.{Room, room-reply, room-headers}
use Rattle.client_model.specs.declared.Settings.{Settings}
use Rattle.client_model.proofs.Conveyed.{bytes-none, bytes_one}
use Rattle.link.proofs.Joint.{Serves}
use Rattle.link.proofs.ConnectJoint.{Kind, connecting, disconnecting, Ids, Settled, fronted, open_at, host_connect, host-password, host-nonce, host-credentials, Asked, Replies, Did, asks, replies, stops}
use Rattle.link.proofs.ConnectReplies.{response_of, Read, fields_read, fields_limit, plain-read, Sends, as_given, replaced, sends_by, internal_code, challenge_shaped, connect_shaped, listed_shaped, first_connect}

-- ---- the peer

-- what is known of the peer and of the table store beside it, once a Connect has told the client's limit
pub record PeerStands (k : Kind) (cs : Settings) (id : ConnectionId) (p : Peer) (t : List ℕ) : Type 0 where
  pub fits : PeerFits p.nonces p
  pub long : 320 ≤ length t
  pub srm : p.srm_enabled ≡ false
  pub settled : Settled k cs p.remote_max_packet_length
  pub ids : Ids id p t

-- an id is open by the ids alone
open-same : (id : ConnectionId) (p q : Peer) (t u : List ℕ) → ids_of q u ≡ ids_of p t → open_at id p t ≡ true → open_at id q u ≡ true
open-same None p q t u e o = refl
open-same (Some i) p q t u e o = ap (member i) e ∙ o

ids-same : (id : ConnectionId) (p q : Peer) (t u : List ℕ) → q.next_connection_id ≡ p.next_connection_id → ids_of q u ≡ ids_of p t → Ids id p t
    → Ids id q u
ids-same id p q t u n e i = record { next = subst (λ (x : ℕ). x < 2 ^ 32) (sym n) i.next; is_open = open-same id p q t u e i.is_open }

module _ (k : Kind) (cs : Settings) (id : ConnectionId) where
  peer_as : (p q : Peer) (t u : List ℕ) → PeerStands k cs id p t → PeerFits q.nonces q → length u ≡ length t
      → q.srm_enabled ≡ p.srm_enabled
      → q.remote_max_packet_length ≡ p.remote_max_packet_length → q.next_connection_id ≡ p.next_connection_id → ids_of q u ≡ ids_of p t
      → PeerStands k cs id q u
  peer_as p q t u h f l s r n e =
      record {
        fits = f;
        long = omega (arith, h.long, l);
        srm = s ∙ h.srm;
        settled = subst (Settled k cs) (sym r) h.settled;
        ids = ids-same id p q t u n e h.ids;
      }

  checked-stands : (p : Peer) (t : List ℕ) (b : Bool) → PeerStands k cs id p t → PeerStands k cs id (checked_peer p b) t
  unfolding peer_with
  checked-stands p t b h = peer_as p (checked_peer p b) t t h (own_fits (checked-fits p b h.fits)) refl refl refl refl refl

  verified-stands : (p : Peer) (t : List ℕ) → PeerStands k cs id p t → PeerStands k cs id (verified_peer p) t
  unfolding peer_with
  verified-stands p t h = peer_as p (verified_peer p) t t h (own_fits (verified-fits p h.fits)) refl refl refl refl refl

  challenged-stands : (p : Peer) (t : List ℕ) (n : Octets16) → PeerStands k cs id p t
      → PeerStands k cs id (challenged_peer p n) (remembered_with n t)
  unfolding peer_with
  challenged-stands p t n h =
      let r : 128 ≤ length t = omega (arith, h.long) in
      peer_as p (challenged_peer p n) t (remembered_with n t) h (own_fits (challenged-fits p n h.fits)) (remembered-length n t r) refl refl refl
      (remembered-front n t r p.count h.fits.count)

-- a Connect names the limit
pub limited-stands : (cs : Settings) (id : ConnectionId) (p : Peer) (t : List ℕ) (n : ℕ) → PeerFits p.nonces p → 320 ≤ length t
    → p.srm_enabled ≡ false → (Ids id p t) → n ≡ cs.max_packet_length → cs.max_packet_length ≤ 65535
    → PeerStands connecting cs id (limited p n) t
unfolding peer_with
limited-stands cs id p t n f l s i e m =
    record {
      fits = own_fits (limited-fits p n (omega (arith, e, m)) f);
      long = l;
      srm = s;
      settled = ap at_least255 e;
      ids = ids-same id p (limited p n) t t refl refl i;
    }

-- ---- an id is opened

member-left : (x : ℕ) (a b : List ℕ) → member x a ≡ true → member x (a ++ b) ≡ true
member-left x [] b e = absurd (false≢true e)
member-left x (y ∷ a) b e = go (eqb x y) e (λ w. member-left x a b w)
  where
    go : (t : Bool) → (t || member x a) ≡ true → (member x a ≡ true → member x (a ++ b) ≡ true) → (t || member x (a ++ b)) ≡ true
    go true w rest = refl
    go false w rest = rest w

member-last : (x : ℕ) (a : List ℕ) → member x (a ++ (x ∷ [])) ≡ true
member-last x [] = rw (eq-eqb x x refl) refl
member-last x (y ∷ a) = go (eqb x y) (member-last x a)
  where
    go : (t : Bool) → member x (a ++ (x ∷ [])) ≡ true → (t || member x (a ++ (x ∷ []))) ≡ true
    go true w = refl
    go false w = w

-- what opening the id `i` leaves
record Opened (p : Peer) (t : List ℕ) (i : ℕ) (q : Linked) : Type 0 where
  remote : q.peer.remote_max_packet_length ≡ p.remote_max_packet_length
  srm : q.peer.srm_enabled ≡ false
  next : p.next_connection_id < 2 ^ 32 → q.peer.next_connection_id < 2 ^ 32
  stays : (x : ℕ) → member x (ids_of p t) ≡ true → member x (ids_of q.peer q.tables) ≡ true
  new : member i (ids_of q.peer q.tables) ≡ true

opened-did : (p : Peer) (t : List ℕ) (i next : ℕ) (g : Target) (q : Linked) → PeerFits p.nonces p → 320 ≤ length t
    → (p.next_connection_id < 2 ^ 32 → next < 2 ^ 32)
    → opened p t false i next g ≡ some q → Opened p t i q
unfolding opened peer_with
opened-did p t i next g q f l n e = go (member i (ids_of p t)) (leb 64 p.count) refl refl e
  where
    front-stays : (u : List ℕ) (at m : ℕ) → m ≤ 64 → take m (target_set u at g) ≡ take m u
    front-stays u at m h = target-set-front u at g m (omega arith)

    go : (x y : Bool) → member i (ids_of p t) ≡ x → leb 64 p.count ≡ y
        → pick x (some (linked (srm_peer p false) (target_set t (place_of i (ids_of p t)) g)))
        (pick y none (some (linked (added_peer p false next) (target_set (set t p.count i) p.count g)))) ≡ some q
        → Opened p t i q
    go true y m c w =
        let z : linked (srm_peer p false) (target_set t (place_of i (ids_of p t)) g) ≡ q = cc in
        let s = front-stays t (place_of i (ids_of p t)) p.count f.count in
        subst (Opened p t i) z
        (record { remote = refl; srm = refl; next = λ h. h; stays = λ x h. ap (member x) s ∙ h; new = ap (member i) s ∙ m })
    go false true m c w = absurd (let z : ◌≡◌ {A = ℕ} 0 1 = cc in omega arith)
    go false false m c w =
        let z : linked (added_peer p false next) (target_set (set t p.count i) p.count g) ≡ q = cc in
        let h : p.count < 64 = leb-false _ _ c in
        let a : take (p.count + 1) (target_set (set t p.count i) p.count g) ≡ ids_of p t ++ (i ∷ []) =
        front-stays (set t p.count i) p.count (p.count + 1) (omega (arith, h))
        ∙ rw (add-one p.count) (take-suc-set t p.count i (omega (arith, h, l))) in
        subst (Opened p t i) z
        (record {
          remote = refl;
          srm = refl;
          next = n;
          stays = λ x k. ap (member x) a ∙ member-left x (ids_of p t) (i ∷ []) k;
          new = ap (member i) a ∙ member-last i (ids_of p t);
        })

-- an id that the search yields has 32 bits
free-small : (n : ℕ) (ids : List ℕ) (c : ℕ) → c < 2 ^ 32 → first_free n ids c < 2 ^ 32
unfolding first_free
free-small zero ids c h = h
free-small (suc n) ids c h = go (taken ids c) (free-small n ids ((c + 1) % 2 ^ 32) (omega arith))
  where
    go : (t : Bool) → first_free n ids ((c + 1) % 2 ^ 32) < 2 ^ 32 → pick t (first_free n ids ((c + 1) % 2 ^ 32)) c < 2 ^ 32
    go true w = w
    go false w = h

id_back : (i : ℕ) → i < 2 ^ 32 → be32 (bytes32 i) 0 ≡ i
id_back i h =
    let a : i / 16777216 % 256 ≡ i / 16777216 = omega (arith, h) in
    let b : i / 65536 % 256 + 256 * (i / 16777216) ≡ i / 65536 = omega arith in
    let c : i / 256 % 256 + 256 * (i / 65536) ≡ i / 256 = omega arith in
    let d : i % 256 + 256 * (i / 256) ≡ i = omega arith in
    omega (arith, a, b, c, d)

-- the ConnectionID that the reply names, and all that were open, are open
pub record OpenedFor (cs : Settings) (id : ConnectionId) (named : ConnectionId) (q : Linked) : Type 0 where
  pub stands : PeerStands connecting cs id q.peer q.tables
  pub names : Ids named q.peer q.tables

module _ (cs : Settings) (id : ConnectionId) (p : Peer) (t : List ℕ) (h : PeerStands connecting cs id p t) where
  stays_open : (i : ℕ) (q : Linked) → Opened p t i q → (j : ConnectionId) → open_at j p t ≡ true → open_at j q.peer q.tables ≡ true
  stays_open i q o None e = refl
  stays_open i q o (Some j) e = o.stays j e

  opened-stands : (a v : Option (List ℕ)) (q : Linked) (i : ℕ) (named : ConnectionId) → opened_for p t false a v ≡ some q → Opened p t i q
      → (p.next_connection_id < 2 ^ 32 → open_at named q.peer q.tables ≡ true) → OpenedFor cs id named q
  opened-stands a v q i named e o n =
      record {
        stands =
            record {
              fits = own_fits (opened-fits p t [] false h.fits (omega (arith, h.long)) q a v e);
              long = omega (arith, h.long, opened-length p t [] false h.fits (omega (arith, h.long)) q a v e);
              srm = o.srm;
              settled = o.remote ∙ h.settled;
              ids = let x = h.ids in record { next = o.next x.next; is_open = stays_open i q o id x.is_open };
            };
        names = let x = h.ids in record { next = o.next x.next; is_open = n x.next };
      }

  pub opened_for_lem : (a v : Option (List ℕ)) (q : Linked) → opened_for p t false a v ≡ some q
      → OpenedFor cs id (id_in (fronted (id_given (front_for p t a v)) a)) q
  unfolding peer_with
  opened_for_lem (some i) v q e =
      let o = opened-did p t (be32 i 0) p.next_connection_id (target_given v) q h.fits h.long (λ n. n) e in
      opened-stands (some i) v q (be32 i 0) (Some (be32 i 0)) e o (λ n. o.new)
  opened_for_lem none (some v) q e =
      let i = searched p t in
      let o = opened-did p t i ((i + 1) % 2 ^ 32) (target_by v) q h.fits h.long (λ n. omega arith) e in
      opened-stands none (some v) q i (Some (be32 (bytes32 i) 0)) e o
      (λ n. ap (λ (x : ℕ). member x (ids_of q.peer q.tables)) (id_back i (free-small 66 (ids_of p t) p.next_connection_id n)) ∙ o.new)
  opened_for_lem none none q e = go q e
    where
      go : (q : Linked) → some (linked (srm_peer p false) t) ≡ some q → OpenedFor cs id None q
      go q e =
          let z : linked (srm_peer p false) t ≡ q = cc in
          subst (OpenedFor cs id None) z
          (record {
            stands =
                record {
                  fits = record { count = h.fits.count; least = h.fits.least; most = h.fits.most; nonces = refl; few = h.fits.few };
                  long = h.long;
                  srm = refl;
                  settled = h.settled;
                  ids = ids-same id p (srm_peer p false) t t refl refl h.ids;
                };
            names = record { next = h.ids.next; is_open = refl };
          })

-- ---- what a step leads to

-- the state after it
abbrev pub state_at : Done → List ℕ → State
state_at d t = record { engine = d.engine; stores = d.stores; tables = t }

-- the engine with the last packet, and its stores
pub record Stood (e : Engine) (z : Stores) : Type 0 where
  pub room : Room (limit_of e) z
  pub last : e.length ≤ 65535
  pub most : e.settings.max_packet_length ≤ 65535

module _ (k : Kind) (cs : Settings) (id : ConnectionId) (e : Engine) (z : Stores) (w : Stood e z) where
  serves_at : (p : Peer) (t : List ℕ) (o : Operation) (a : Await) (y : Stores) → PeerStands k cs id p t → Room (limit_of e) y
      → sound_operation (limit_of e) o ≡ true
      → Serves p.remote_max_packet_length
      (record { engine = engine_with e.settings p o a 0 e.length e.target; stores = y; tables = t })
  unfolding engine_with
  serves_at p t o a y h x c =
      record {
        base = record { room = x; peer = h.fits; last = w.last };
        begun = omega arith;
        counts = c;
        tables = h.long;
        srm = h.srm;
        remote =
            refl;
      }

  pub asks-did : (p : Peer) (t : List ℕ) (o : Operation) (a : Await) (q : HostRequest) (y : Stores) → PeerStands k cs id p t
      → Room (limit_of e) y
      → sound_operation (limit_of e) o ≡ true → Asked k (state_at (asksHost e p o a q y) t)
      → Did k cs id (state_at (asksHost e p o a q y) t) (told.Request q)
  unfolding engine_with
  asks-did p t o a q y h x c i = asks q refl (serves_at p t o a y h x c) i (record { most = w.most; ids = h.ids }) h.settled

  pub replies-did : (p : Peer) (t y : List ℕ) → PeerStands k cs id p t → Replies k p t y
      → Did k cs id (state_at (repliesWith e p Nothing waits.Taken y z) t) (told.Reply (length y))
  unfolding engine_with
  replies-did p t y h a =
      let x = room-reply (limit_of e) z (front y z.reply) (front_length y z.reply (omega (arith, w.room.reply, a.whole-packet.most)))
      w.room in
      replies y refl (serves_at p t Nothing waits.Taken (with_reply z (front y z.reply)) h x refl) refl refl refl
      (take-append_seam y (drop (length y) z.reply)) a (record { most = w.most; ids = h.ids }) h.settled

  ends-did : (p : Peer) (t : List ℕ) (x : End) → Did k cs id (state_at (ends e p x z) t) (told.End x)
  unfolding engine_with
  ends-did p t x = stops x refl refl

  sent-did : (p : Peer) (t : List ℕ) (x : Option (List ℕ)) → PeerStands k cs id p t → ((y : List ℕ) → x ≡ some y → Replies k p t y)
      → Did k cs id (state_at (sent e p x z) t) (sent e p x z).outcome
  sent-did p t none h a = ends-did p t end.ReplyTooLarge
  sent-did p t (some y) h a = replies-did p t y h (a y refl)

fails_internal : is_success 0x50 ≡ false
unfolding is_success
fails_internal = refl

-- ---- replies to a Connect

module _ (cs : Settings) (id : ConnectionId) (e : Engine) (z : Stores) (w : Stood e z) where
  -- a reply with Connect's fields
  fields_replies : (p : Peer) (t : List ℕ) (code : ℕ) (l : List Header) → is_code code ≡ true → AllShaped l → 7 + length (all_bytes l) ≤ 65535
      → (is_success code ≡ true → Ids (id_in (first header_id.connection_id l)) p t)
      → Replies connecting p t (packet_bytes (sent_code code) (fields_of e.settings.max_packet_length) (all_bytes l))
  fields_replies p t code l c s n i =
      let m = e.settings.max_packet_length in
      let y = packet_bytes (sent_code code) (fields_of m) (all_bytes l) in
      let x = fields_read code m l c s n in
      let q = fields_limit (sent_code code) m (all_bytes l) in
      record { whole-packet = x.whole-packet; response = response_of code y l; reads = x.reads; gives = (omega (arith, q, w.most), i) }

  none-replies : (p : Peer) (t : List ℕ) (code : ℕ) → is_code code ≡ true → is_success code ≡ false
      → Replies connecting p t (packet_bytes (sent_code code) (fields_of e.settings.max_packet_length) [])
  none-replies p t code c f =
      subst (λ (hs : List ℕ). Replies connecting p t (packet_bytes (sent_code code) (fields_of e.settings.max_packet_length) hs)) bytes-none
      (fields_replies p t code [] c tt (subst (λ (hs : List ℕ). 7 + length hs ≤ 65535) (sym bytes-none) (omega arith))
      (λ g. absurd (true≢false (sym g ∙ f))))

  connect_did : (p : Peer) (t : List ℕ) (code : ℕ) (hs : List ℕ) (l : List Header) → hs ≡ all_bytes l → PeerStands connecting cs id p t
      → is_code code ≡ true → AllShaped l
      → (is_success code ≡ true → Ids (id_in (first header_id.connection_id l)) p t)
      → let d = sends_connect e p code hs z in Did connecting cs id (state_at d t) d.outcome
  unfolding sends_connect
  connect_did p t code hs l eq h c s i =
      let fields = fields_of e.settings.max_packet_length in
      sent-did connecting cs id e z w p t (send_bytes p.remote_max_packet_length code fields hs) h
      (λ y g. by y (sends_by p.remote_max_packet_length code fields hs y g))
    where
      by : (y : List ℕ) → Sends code (fields_of e.settings.max_packet_length) hs y → Replies connecting p t y
      by y (as_given q n) =
          subst (Replies connecting p t) (sym (q ∙ ap (packet_bytes (sent_code code) (fields_of e.settings.max_packet_length)) eq))
          (fields_replies p t code l c s (subst (λ (x : List ℕ). 7 + length x ≤ 65535) eq (omega (arith, n))) i)
      by y (replaced q) = subst (Replies connecting p t) (sym q) (none-replies p t 0x50 internal_code fails_internal)

  -- the reply that the engine makes of an answer that accepts
  sends-did : (p : Peer) (t : List ℕ) (code : ℕ) (f : ConnectionId) (answer : List Header) (c : Option Credentials)
      → PeerStands connecting cs id p t
      → is_code code ≡ true → AllShaped answer
      → (Ids (id_in (fronted (id_given f) (first header_id.connection_id answer))) p t)
      → let d = connect_sends e p code f answer c z in Did connecting cs id (state_at d t) d.outcome
  unfolding connect_sends
  sends-did p t code f answer c h i s n =
      let srm = srm_asked e (survey_of (some (last_headers e z))) in
      let l = connect_headers (id_given f) (last_headers e z) answer c srm in
      connect_did p t code (all_bytes l) l refl h i (connect_shaped (id_given f) (last_headers e z) answer c srm s)
      (λ g. subst (λ (v : Option (List ℕ)). Ids (id_in v) p t) (sym (first_connect (id_given f) (last_headers e z) answer c srm)) n)

  -- ---- the packet

  unavailable_code : (is_code 0x53 ≡ true) × (is_success 0x53 ≡ false)
  unfolding is_code codes is_success
  unavailable_code = (refl, refl)

  -- the client does not ask for Single Response Mode
  module _ (quiet : is_enable (first header_id.single_response_mode (last_headers e z)) ≡ false) where
    -- the same of the state that asks the host
    asked_as : (p : Peer) (t : List ℕ) (o : Operation) (a : Await) (y : Stores) → y.packet ≡ z.packet
        → is_enable (first header_id.single_response_mode (last_headers (engine_with e.settings p o a 0 e.length e.target) y)) ≡ false
    unfolding engine_with last_headers last_packet
    asked_as p t o a y i = ap (λ (q : List ℕ). is_enable
        (first header_id.single_response_mode (headers_of (request_of (take e.length q))))) i ∙ quiet

    verifies-did : (p : Peer) (t : List ℕ) (c : Challenge) (x : Option Response) → PeerStands connecting cs id p t
        → let d = verifies e p c x z in Did connecting cs id (state_at d t) d.outcome
    unfolding engine_with
    verifies-did p t None x h =
        asks-did connecting cs id e z w p t Nothing waits.Nonce request.Nonce z h w.room refl
        (host-nonce refl refl, asked_as p t Nothing waits.Nonce z refl)
    verifies-did p t (Some n) none h =
        asks-did connecting cs id e z w p t Nothing waits.Nonce request.Nonce z h w.room refl
        (host-nonce refl refl, asked_as p t Nothing waits.Nonce z refl)
    verifies-did p t (Some n) (some x) h =
        asks-did connecting cs id e z w p t Nothing waits.Password (request.Password (user_place e z)) z h w.room refl
        (host-password refl refl, asked_as p t Nothing waits.Password z refl)

    asks_connect : (p : Peer) (t : List ℕ) → PeerStands connecting cs id p t
        → Did connecting cs id (state_at (asksHost e p Nothing waits.Connect (request.Connect e.length) z) t)
        (told.Request (request.Connect e.length))
    unfolding engine_with
    asks_connect p t h =
        asks-did connecting cs id e z w p t Nothing waits.Connect (request.Connect e.length) z h w.room refl
        (host_connect refl refl, asked_as p t Nothing waits.Connect z refl)

    pub packet-did : (t : List ℕ) → PeerStands connecting cs id (limited e.peer (connect_limit (last_packet e z))) t
        → let d = connect_packet e z in Did connecting cs id (state_at d t) d.outcome
    unfolding connect_packet
    packet-did t h = go e.settings.authentication (is_stopped p (last_headers e z))
      where
        p : Peer
        p = limited e.peer (connect_limit (last_packet e z))

        go : (a s : Bool) → let d = pick a
            (pick s (replies_fields e (checked_peer p false) 0x53 z) (verifies e p p.challenge (client_response e z) z))
            (asksHost e p Nothing waits.Connect (request.Connect e.length) z) in Did connecting cs id (state_at d t) d.outcome
        go true true =
            let y = packet_bytes (sent_code 0x53) (fields_of e.settings.max_packet_length) [] in
            replies-did connecting cs id e z w (checked_peer p false) t y (checked-stands connecting cs id p t false h)
            (none-replies (checked_peer p false) t 0x53 unavailable_code.0 unavailable_code.1)
        go true false = verifies-did p t p.challenge (client_response e z) h
        go false s = asks_connect p t h

    -- ---- the host's answers

    pub password-did : (t : List ℕ) (x : Option (List ℕ)) → PeerStands connecting cs id e.peer t
        → let d = password_answer e x z in Did connecting cs id (state_at d t) d.outcome
    unfolding password_answer password_answered engine_with
    password-did t x h = go (checks e.peer.challenge (client_response e z) (demands_user e.settings) x)
      where
        go : (b : Bool) → let d = pick b
            (asksHost e (verified_peer (checked_peer e.peer false)) Nothing waits.Connect (request.Connect e.length) z)
            (asksHost e (checked_peer e.peer true) Nothing waits.Nonce request.Nonce z) in Did connecting cs id (state_at d t) d.outcome
        go true =
            asks_connect (verified_peer (checked_peer e.peer false)) t
            (verified-stands connecting cs id (checked_peer e.peer false) t (checked-stands connecting cs id e.peer t false h))
        go false =
            asks-did connecting cs id e z w (checked_peer e.peer true) t Nothing waits.Nonce request.Nonce z
            (checked-stands connecting cs id e.peer t true h) w.room refl
            (host-nonce refl refl, asked_as (checked_peer e.peer true) t Nothing waits.Nonce z refl)

    pub nonce-did : (t : List ℕ) (n : Octets16) (l : List ℕ) → PeerStands connecting cs id e.peer t
        → let d = nonce_answer e n l z in Did connecting cs id (state_at d (remembered_with n t)) d.outcome
    unfolding nonce_answer is_code codes is_success
    nonce-did t n l h =
        let x = challenge_header (octets16 n) (options_of e.settings) (realm_of e.settings l) in
        connect_did (challenged_peer e.peer n) (remembered_with n t) 0x41 (bytes_of x) (x ∷ []) (sym (bytes_one x))
        (challenged-stands connecting cs id e.peer t n h) refl
        (challenge_shaped (octets16 n) (options_of e.settings) (realm_of e.settings l)) (λ g. absurd (false≢true g))

    pub credentials-did : (t : List ℕ) (code : ℕ) (f : ConnectionId) (n : ℕ) (c : Option Credentials) → PeerStands connecting cs id e.peer t
        → is_code code ≡ true
        → (Ids (id_in (fronted (id_given f) (first header_id.connection_id (list_of (read_headers (take n z.headers) 0))))) e.peer t)
        → let d = connect_sends e e.peer code f (list_of (read_headers (take n z.headers) 0)) c z in Did connecting cs id (state_at d t)
        d.outcome
    credentials-did t code f n c h i s =
        sends-did e.peer t code f (list_of (read_headers (take n z.headers) 0)) c h i (listed_shaped (take n z.headers)) s

    -- the host's reply, with headers that can be read
    module _ (t : List ℕ) (h : PeerStands connecting cs id e.peer t) (code : ℕ) (hs : List ℕ) (l : List Header) (oct : Octets hs)
        (read : read_headers hs 0 ≡ some l)
        (ok : is_code code ≡ true) (fit : length hs ≤ 65535) where
      listed : list_of (read_headers hs 0) ≡ l
      listed = ap list_of read

      challenged-did : (q : Linked) (f : ConnectionId) (c : Option PeerChallenge) → PeerStands connecting cs id q.peer q.tables
          → (Ids (id_in (fronted (id_given f) (first header_id.connection_id (list_of (read_headers hs 0))))) q.peer q.tables)
          → let d = connect_challenged e q.peer code f hs c z in Did connecting cs id (state_at d q.tables) d.outcome
      unfolding engine_with
      challenged-did q f none g n = sends-did q.peer q.tables code f (list_of (read_headers hs 0)) none g ok (listed_shaped hs) n
      challenged-did q f (some c) g n =
          let y = with_headers z (front hs z.headers) in
          let o = ConnectingOp code f (length hs) in
          asks-did connecting cs id e z w q.peer q.tables o waits.Credentials (credentials_for (last_packet e z) c) y g
          (room-headers (limit_of e) z hs fit w.room) (le-leb _ _ fit) (
            host-credentials code f (length hs) refl refl ok
                (subst (λ (x : List ℕ). Ids (id_in (fronted (id_given f) (first header_id.connection_id (list_of (read_headers x 0))))) q.peer
                q.tables)
                (sym (take-append_seam hs (drop (length hs) z.headers))) n),
            asked_as q.peer q.tables o waits.Credentials y refl,
          )

      opened_as : (x : Option Linked) (f : ConnectionId)
          → ((q : Linked) → x ≡ some q → PeerStands connecting cs id q.peer q.tables
          × (Ids (id_in (fronted (id_given f) (first header_id.connection_id (list_of (read_headers hs 0))))) q.peer q.tables))
          → let d = connect_opened e t x code f hs z in Did connecting cs id (state_at d.done d.tables) d.done.outcome
      opened_as none f n =
          connect_did e.peer t 0x53 [] [] (sym bytes-none) h unavailable_code.0 tt (λ g. absurd (true≢false (sym g ∙ unavailable_code.1)))
      opened_as (some q) f n = challenged-did q f (answered_challenge (last_headers e z)) (n q refl).0 (n q refl).1

      pub answer-did : let d = connect_answer e code hs z t in Did connecting cs id (state_at d.done d.tables) d.done.outcome
      unfolding connect_answer survey_of
      answer-did = go (is_success code) refl
        where
          answer : Option (List ℕ)
          answer = first header_id.connection_id (list_of (read_headers hs 0))

          target : Option (List ℕ)
          target = first header_id.target (last_headers e z)

          srm : Bool
          srm = e.peer.srm_enabled || srm_asked e (survey_of (some (last_headers e z)))

          off : srm ≡ false
          off =
              ap (λ (b : Bool). b || srm_asked e (survey_of (some (last_headers e z)))) h.srm
              ∙ ap (λ (b : Bool). e.settings.srm_supported && b) quiet ∙ none-asked e.settings.srm_supported
            where
              none-asked : (b : Bool) → (b && false) ≡ false
              none-asked true = refl
              none-asked false = refl

          go : (b : Bool) → is_success code ≡ b
              → let d = pick b (connect_opened e t (opened_for e.peer t srm answer target) code (front_for e.peer t answer target) hs z)
              (record { done = sends_connect e e.peer code hs z; tables = t }) in Did connecting cs id (state_at d.done d.tables)
              d.done.outcome
          go true i =
              opened_as (opened_for e.peer t srm answer target) (front_for e.peer t answer target)
              (λ q g. let o = opened_for_lem cs id e.peer t h answer target q
              (ap (λ (b : Bool). opened_for e.peer t b answer target) (sym off) ∙ g) in (o.stands, o.names))
          go false i =
              connect_did e.peer t code hs l (sym (header-bytes hs 0 l oct read)) h ok (read_shaped hs 0 l read)
              (λ g. absurd (true≢false (sym g ∙ i)))

-- ---- a Disconnect

module _ (cs : Settings) (e : Engine) (z : Stores) (w : Stood e z) where
  code-replies : (p : Peer) (t : List ℕ) (code : ℕ) (hs : List ℕ) (l : List Header) → hs ≡ all_bytes l → is_code code ≡ true → AllShaped l
      → 3 + length hs ≤ 65535
      → Replies disconnecting p t (packet_bytes (sent_code code) [] hs)
  code-replies p t code hs l eq c s n =
      let y = packet_bytes (sent_code code) [] hs in
      let x = subst (λ (v : List ℕ). Read false code (packet_bytes (sent_code code) [] v) l) (sym eq)
      (plain-read code l c s (subst (λ (v : List ℕ). 3 + length v ≤ 65535) eq n)) in
      record { whole-packet = x.whole-packet; response = response_of code y l; reads = x.reads; gives = tt }

  pub refused_did : (t : List ℕ) (code : ℕ) → is_code code ≡ true → PeerStands disconnecting cs None e.peer t
      → let d = replies_code e e.peer Nothing code z in Did disconnecting cs None (state_at d t) d.outcome
  refused_did t code c h =
      replies-did disconnecting cs None e z w e.peer t (packet_bytes (sent_code code) [] []) h
      (code-replies e.peer t code [] [] (sym bytes-none) c tt (omega arith))

  pub left-did : (t : List ℕ) → PeerStands disconnecting cs None e.peer t
      → let d = asksHost e e.peer Nothing waits.Disconnect (request.Disconnect e.length) z in Did disconnecting cs None (state_at d t)
      d.outcome
  unfolding engine_with
  left-did t h = asks-did disconnecting cs None e z w e.peer t Nothing waits.Disconnect (request.Disconnect e.length) z h
      w.room refl (refl, refl)

  pub reply-did : (p : Peer) (t : List ℕ) (code : ℕ) (hs : List ℕ) (l : List Header) → hs ≡ all_bytes l → is_code code ≡ true → AllShaped l
      → PeerStands disconnecting cs None p t → let d = sends e p code hs z in Did disconnecting cs None (state_at d t) d.outcome
  unfolding sends
  reply-did p t code hs l eq c s h =
      sent-did disconnecting cs None e z w p t (send_bytes p.remote_max_packet_length code [] hs) h
      (λ y g. by y (sends_by p.remote_max_packet_length code [] hs y g))
    where
      by : (y : List ℕ) → Sends code [] hs y → Replies disconnecting p t y
      by y (as_given q n) = subst (Replies disconnecting p t) (sym q) (code-replies p t code hs l eq c s (omega (arith, n)))
      by y (replaced q) = subst (Replies disconnecting p t) (sym q)
          (code-replies p t 0x50 [] [] (sym bytes-none) internal_code tt (omega arith))

-- what it leaves of the peer
pub left-stands : (cs : Settings) (p : Peer) (t : List ℕ) (v : Option (List ℕ)) → PeerStands disconnecting cs None p t
    → let q = disconnected_peer p t v in PeerStands disconnecting cs None q.peer q.tables
unfolding disconnected_peer peer_with
left-stands cs p t v h =
    record {
      fits = own_fits (disconnected-fits p t v h.fits);
      long = omega (arith, h.long, disconnected-length p t v h.fits (omega (arith, h.long)));
      srm = (rest v).0;
      settled = tt;
      ids = record { next = subst (λ (n : ℕ). n < 2 ^ 32) (sym (rest v).1) h.ids.next; is_open = refl };
    }
  where
    left-rest : (n : ℕ) → ((left_peer p n).srm_enabled ≡ false) × ((left_peer p n).next_connection_id ≡ p.next_connection_id)
    left-rest n = go (eqb n 0)
      where
        go : (b : Bool) → ((pick b (cleared_peer p) (with_count p n)).srm_enabled ≡ false)
            × ((pick b (cleared_peer p) (with_count p n)).next_connection_id ≡ p.next_connection_id)
        go true = (refl, refl)
        go false = (h.srm, refl)

    rest : (v : Option (List ℕ)) → ((disconnected_peer p t v).peer.srm_enabled ≡ false)
        × ((disconnected_peer p t v).peer.next_connection_id ≡ p.next_connection_id)
    rest none = (refl, refl)
    rest (some v) = left-rest (length (without (be32 v 0) (ids_of p t)))

-- ---- a packet, by what is open

-- nothing is open: a Connect is dispatched
pub connect_reads_as : (e : Engine) (q : List ℕ) (z : Stores) (t : List ℕ) (final : Bool) (bytes : List ℕ) (hs : List Header)
    → busy e.operation ≡ false
    → read_as (some (record { opcode = op.Connect; final = final; bytes = bytes; headers = hs })) e q z t ≡ connect_packet e z
unfolding same_opcode dispatch trails
connect_reads_as e q z t final bytes hs b = go e.operation b
  where
    go : (o : Operation) → busy o ≡ false
        → inside o e (record { opcode = op.Connect; final = final; bytes = bytes; headers = hs }) (survey_of (some hs))
        (known_in e t (survey_of (some hs))) z ≡ connect_packet e z
    go Nothing b = refl
    go Trailing b = refl
    go (Putting g srm) b = absurd (true≢false b)
    go (Getting g srm confirm wait) b = absurd (true≢false b)
    go (Sending o c srm wait) b = absurd (true≢false b)
    go (GatheringOp o g) b = absurd (true≢false b)
    go (ConnectingOp c f n) b = absurd (true≢false b)
    go (Draining code) b = absurd (true≢false b)

-- a Disconnect is turned away, or the host is asked
pub data Leaves (e : Engine) (z : Stores) (d : Done) : Type 0 where
  turned : d ≡ replies_code e e.peer Nothing 0x53 z → Leaves e z d
  asked : d ≡ asksHost e e.peer Nothing waits.Disconnect (request.Disconnect e.length) z → Leaves e z d

pub disconnect_reads_as : (e : Engine) (q : List ℕ) (z : Stores) (t : List ℕ) (final : Bool) (bytes : List ℕ) (hs : List Header)
    → busy e.operation ≡ false
    → e.peer.srm_enabled ≡ false
    → Leaves e z (read_as (some (record { opcode = op.Disconnect; final = final; bytes = bytes; headers = hs })) e q z t)
unfolding same_opcode dispatch rejection trails
disconnect_reads_as e q z t final bytes hs b s = go e.operation b
  where
    v : Survey
    v = survey_of (some hs)

    x : Packet
    x = record { opcode = op.Disconnect; final = final; bytes = bytes; headers = hs }

    and_none : (a b : Bool) → (a && (b && false)) ≡ false
    and_none true true = refl
    and_none true false = refl
    and_none false b = refl

    by : (u : Bool) → (v.has_id && not (known_in e t v)) ≡ u → Leaves e z (dispatch e x v (known_in e t v) z)
    by true j = turned (rw (and_none e.settings.authentication (not e.peer.authenticated), j, s) refl)
    by false j = asked (rw (and_none e.settings.authentication (not e.peer.authenticated), j) refl)

    go : (o : Operation) → busy o ≡ false → Leaves e z (inside o e x v (known_in e t v) z)
    go Nothing b = by _ refl
    go Trailing b = by _ refl
    go (Putting g srm) b = absurd (true≢false b)
    go (Getting g srm confirm wait) b = absurd (true≢false b)
    go (Sending o c srm wait) b = absurd (true≢false b)
    go (GatheringOp o g) b = absurd (true≢false b)
    go (ConnectingOp c f n) b = absurd (true≢false b)
    go (Draining code) b = absurd (true≢false b)
