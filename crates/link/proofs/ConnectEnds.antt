-- The reply to a Connect or a Disconnect goes onto the stream and is read, or the server's end is seen; and how the two operations begin.
-- Assumes nothing.
use mathlib.Core.Path.{◌≡◌, refl, sym, ap, ap₂, subst, subst₂, ◌∙◌}
use mathlib.Core.List.{List, [], ◌∷◌, ◌++◌, append-nil}
use mathlib.Core.Bool.{Bool, true, false, ◌||◌, not, true≢false, false≢true}
use mathlib.Core.Option.{Option, none, some}
use Prim.Native.Nat.{ℕ, ◌+◌, ◌≤◌}
use native.Mathlib.Omega.{arith}
use lib.ListN.{length, take, drop}
use lib.Seq.{drop-length, take-append_seam}
use lib.Dec.{ltb, eqb}
use borrow.Author.Tests.{ltb-false, le-leb, lt-ltb}
use Rattle.std.specs.Prelude.{Some, None}
use Rattle.base.specs.Pick.{pick}
use Rattle.text.specs.Unicode.{Octets}
use Rattle.packet.specs.HeaderIds as header_id
use Rattle.packet.specs.Canonical.{canonical_as, canonical}
use Rattle.packet.specs.Codes.{is_success}
use Rattle.packet.specs.FirstByte.{byte_of}
use Rattle.packet.specs.Header.{Header, read_headers, first, all_bytes}
use Rattle.packet.specs.Packet.{request_of, connect_limit, packet_bytes}
use Rattle.packet.specs.ResponsePacket.{ResponsePacket, response_packet}
use Rattle.packet.specs.declared.opcode.Opcode.TheVariants as op
use Rattle.packet.proofs.HeaderBytes.{header-bytes}
use Rattle.packet.proofs.HeaderWrites.{read_shaped}
use Rattle.journal.specs.Journal.{list_of}
use Rattle.journal.specs.Record.{is_body, is_srm}
use Rattle.incoming.specs.Frame.{Frames, framed}
use Rattle.incoming.proofs.Queued.{Half, Came, goes as stillGoes, comes, queued, none_come}
use Rattle.outgoing.specs.Queue.{insert_early}
use Rattle.connection.specs.Peer.{at_least255, id_in, ConnectionId}
use Rattle.connection.specs.Reply.{fields_of, front}
use Rattle.connection.proofs.Front.{front_length}
use Rattle.server.specs.declared.Operation.{Operation as ServerOperation}
use Rattle.server.specs.declared.Operation.TheVariants as server_op
use Rattle.server.specs.declared.Await.{Await as ServerAwait}
use Rattle.server.specs.declared.Await.TheVariants as waits
use Rattle.server.specs.declared.CallKind.TheVariants as kind
use Rattle.server.specs.declared.End.{End}
use Rattle.server.specs.declared.End.TheVariants as server_end
use Rattle.server.specs.declared.Engine.{Engine}
use Rattle.server.specs.declared.Outcome.{Outcome as ServerOutcome}
use Rattle.server.specs.declared.Outcome.TheVariants as told
use Rattle.model.specs.Step as server
use Rattle.model.specs.Step.{engine_with}
use Rattle.model.specs.Object.{goes_on_of}
use Rattle.model.specs.Dispatch.{busy}
use Rattle.model.specs.Guard.{fits, same_await as same_wait}
use Rattle.model.specs.Calls.{reply_taken_step}
use Rattle.model.specs.Runs.{State, keeps}
use Rattle.model.proofs.Fit.{or_left, or_right}
use Rattle.client_model.specs.Leading.{leading, leading_headers}
use Rattle.client_model.specs.Numbers.{same_await}
use Rattle.client_model.specs.Step.{Stores, with_packet, with_request, client_with, goes as goesWith, begun_with, arrived, Done, sends, ends, Stepped, after}
use Rattle.client_model.specs.Request.{id_bytes}
use Rattle.client_model.specs.Answer.{responded, read_as, is_connecting, response_done}
use Rattle.client_model.specs.Guard.{short, sound, awaiting, any_of, is_reserved, bad_headers, checked}
use Rattle.client_model.specs.Calls.{connect_step, disconnect_step, offers, bytes_offered_step, stream_ended_step}
use Rattle.client_model.specs.declared.Settings.{Settings}
use Rattle.client_model.specs.declared.Operation.{Operation}
use Rattle.client_model.specs.declared.Operation.TheVariants.{Nothing, Connecting, Disconnecting}
use Rattle.client_model.specs.declared.Await.{Await}
use Rattle.client_model.specs.declared.Await.TheVariants as await
use Rattle.client_model.specs.declared.Client.{Client}
use Rattle.client_model.specs.declared.End.TheVariants as end
use Rattle.client_model.specs.declared.Outcome.{Outcome}
use Rattle.client_model.specs.declared.Outcome.TheVariants as said
use Rattle.client_model.proofs.Conveyed.{bytes-append, bytes_one, bytes-none, shaped_append}
use Rattle.client_model.proofs.Leads.{lead_shaped, leads_id}
use Rattle.client_model.proofs.Only.{NoSrm}
use Rattle.link.specs.Link.{Link, link_with, connect, disconnect, user, sendDown, offerDown, closeDown, said_after, client_did, server_did, close_after, call_after, sends_down, reply_bytes, move}
use Rattle.link.specs.Told.{is_refused}
use Rattle.link.specs.Told as shown
use Rattle.link.specs.Claims.{named_in, named_by}
use Rattle.link.proofs.Joint.{Serves, Ready, AtRest}
use Rattle.link.proofs.ConnectJoint.{Kind, connecting, disconnecting, operation_of, held_id, Past, named_past, limit_for, Ids, Settled, Follows, Packs, is_connect, Gives, Replies, Awaits, NamesNow, NamesThen, Bound, Phase, turn, coming, Standing, Next, goes, over, gone}
use Rattle.link.proofs.ConnectReplies.{connect_reads, disconnect_reads, fields_limit, packet-whole, packet-octets, fields_octets, octets-append, octets-none, id_octets}
use Rattle.link.proofs.ConnectMoves.{client-passes, calls-sound, passes}

-- ---- a reply goes onto the stream

-- nothing follows it by itself
idle_goes : (o : ServerOperation) (e : Engine) (s : server.Stores) → busy o ≡ false → goes_on_of o e s ≡ server.wants e e.peer e.operation s
idle_goes server_op.Nothing e s i = refl
idle_goes server_op.Trailing e s i = refl
idle_goes (server_op.Putting g srm) e s i = refl
idle_goes (server_op.Getting g srm confirm wait) e s i = refl
idle_goes (server_op.Sending o c srm wait) e s i = absurd (true≢false i)
idle_goes (server_op.Gathering o g) e s i = refl
idle_goes (server_op.Connecting c f n) e s i = refl
idle_goes (server_op.Draining code) e s i = refl

client-packet : (s : Stores) → short s ≡ false → 65535 ≤ length s.packet
unfolding short
client-packet s e = ltb-false (length s.packet) 65535 (or_left (ltb (length s.packet) 65535) _ e)

kind-connects : (k : Kind) → is_connecting (operation_of k) ≡ is_connect k
kind-connects connecting = refl
kind-connects disconnecting = refl

module _ (k : Kind) (cs : Settings) (g : Past) (l : Link) (y : List ℕ) (w : Awaits k cs l) (begun : l.client.begun ≡ 0)
    (v : Serves (limit_for l.server) l.server) (a : l.server.engine.awaits ≡ waits.Taken) (idle : busy l.server.engine.operation ≡ false)
    (t : l.told ≡ told.Reply (length y)) (r : take (length y) l.server.stores.reply ≡ y) (up : l.up ≡ []) (dn : l.down ≡ [])
    (p : Replies k l.server.engine.peer l.server.tables y) (f : Follows (held_id k l.client.connection_id) l.server)
    (st : Settled k cs (limit_for l.server)) (n : NamesNow k g.named l.client.connection_id)
    (bd : Bound k cs g.connected (limit_for l.server)) where
  taken_step : reply_taken_step l.server.engine l.server.stores
      ≡ server.after 0 (server.wants l.server.engine l.server.engine.peer l.server.engine.operation l.server.stores)
  unfolding reply_taken_step
  taken_step =
      let e = l.server.engine in
      let s = l.server.stores in
      passes (limit_for l.server) l.server v kind.ReplyTaken
      (server.after 0 (pick (same_wait e.awaits waits.Taken) (goes_on_of e.operation e s) (server.ends e e.peer server_end.OtherOperation s)))
      (ap (λ (x : ServerAwait). fits kind.ReplyTaken x) a)
      ∙ ap (λ (x : ServerAwait). server.after 0
      (pick (same_wait x waits.Taken) (goes_on_of e.operation e s) (server.ends e e.peer server_end.OtherOperation s))) a
      ∙ ap (server.after 0) (idle_goes e.operation e s idle)

  -- the ConnectionID that it names
  reply-names : NamesThen k (named_by g.named l sendDown) l.client.connection_id p.response
  reply-names = by k (ap is_connecting w.calls.operation ∙ kind-connects k) n p.reads
    where
      by : (k : Kind) → is_connecting l.client.operation ≡ is_connect k → NamesNow k g.named l.client.connection_id
          → response_packet (is_connect k) y ≡ some p.response
          → NamesThen k (named_by g.named l sendDown) l.client.connection_id p.response
      by connecting c n e =
          ap (named_in (some p.response)) n
          ∙ sym (ap (λ (b : Bool). pick b (named_in (response_packet true (reply_bytes l.told l.server.stores.reply)) g.named) g.named) c
          ∙ ap (λ (x : ServerOutcome). named_in (response_packet true (reply_bytes x l.server.stores.reply)) g.named) t
          ∙ ap (λ (x : List ℕ). named_in (response_packet true x) g.named) r ∙ ap (λ (x : Option ResponsePacket). named_in x g.named) e)
      by disconnecting c n e =
          ap (λ (b : Bool). pick b (named_in (response_packet true (reply_bytes l.told l.server.stores.reply)) g.named) g.named) c ∙ n

  abbrev taken_state : State
  taken_state =
      let e = l.server.engine in
      record {
        engine = engine_with e.settings e.peer e.operation waits.Bytes 0 e.length
            e.target;
        stores = l.server.stores;
        tables = l.server.tables;
      }

  sent-down : Phase k cs (named_past g l sendDown) (link_with l.client l.stores l.said taken_state told.WantsBytes l.up y)
  unfolding engine_with
  sent-down =
      coming y
      (record {
        calls =
            record {
              room = w.calls.room;
              begun = w.calls.begun;
              latest = w.calls.latest;
              least = w.calls.least;
              most = w.calls.most;
              operation = w.calls.operation;
              settings = w.calls.settings;
              stays = w.calls.stays;
            };
        awaits = w.awaits;
        said = w.said;
      })
      (record {
        serves =
            record {
              base = record { room = v.base.room; peer = v.base.peer; last = v.base.last };
              begun = omega arith;
              counts = v.counts;
              tables = v.tables;
              srm = v.srm;
              remote = refl;
            };
        awaits = refl;
        told = refl;
        none-begun = refl;
        up = up;
      })
      idle
      (subst (λ (i : ℕ). Half y l.stores.packet y i) (sym begun)
      (none_come y l.stores.packet p.whole-packet (client-packet l.stores w.calls.room)))
      p (record { most = f.most; ids = f.ids }) st reply-names bd

  pub send_down : Phase k cs (named_past g l sendDown) (move l sendDown)
  unfolding move engine_with
  send_down =
      let q = l.server.stores.reply in
      subst (λ (o : ServerOutcome). Phase k cs (named_past g l sendDown) (call_after (sends_down o) l (l.down ++ reply_bytes o q))) (sym t)
      (subst (λ (m : server.Stepped). Phase k cs (named_past g l sendDown)
      (server_did l (keeps l.server m) (drop m.took.taken l.up) (l.down ++ take (length y) q))) (sym taken_step)
      (subst₂ (λ (x d : List ℕ). Phase k cs (named_past g l sendDown)
      (link_with l.client l.stores l.said taken_state told.WantsBytes l.up (d ++ x))) (sym r) (sym dn)
      sent-down))

-- ---- it is read

at_least : (n : ℕ) → (255 ≤ at_least255 n) × (n ≤ 65535 → at_least255 n ≤ 65535)
at_least n = go (ltb n 255) refl
  where
    go : (t : Bool) → ltb n 255 ≡ t → (255 ≤ pick t 255 n) × (n ≤ 65535 → pick t 255 n ≤ 65535)
    go true e = (omega arith, λ h. omega arith)
    go false e = (ltb-false _ _ e, λ h. h)

packet-kept : (s : Stores) (x : List ℕ) → short s ≡ false → length x ≡ length s.packet → short (with_packet s x) ≡ false
unfolding short
packet-kept s x e l = rw l e

module _ (k : Kind) (cs : Settings) (g : Past) (l : Link) (y : List ℕ) (w : Awaits k cs l) (r : Ready (limit_for l.server) l)
    (idle : busy l.server.engine.operation ≡ false) (p : Replies k l.server.engine.peer l.server.tables y)
    (f : Follows (held_id k l.client.connection_id) l.server) (st : Settled k cs (limit_for l.server))
    (n : NamesThen k g.named l.client.connection_id p.response) (bd : Bound k cs g.connected (limit_for l.server)) where
  abbrev came_client : Client
  came_client = arrived l.client (length y)

  abbrev came_link : Done → Link
  came_link d = link_with d.client d.stores (said_after l.said d.outcome) l.server l.told l.up []

  ready-came : (c : Client) (s : Stores) (o : Outcome) → Ready (limit_for l.server) (link_with c s o l.server l.told l.up [])
  ready-came c s o = record { serves = r.serves; awaits = r.awaits; told = r.told; none-begun = r.none-begun; up = r.up }

  -- nothing is open any more, whatever the client keeps
  rests : (x : List ℕ) → length x ≡ length l.stores.packet → (remote : ℕ) (id : ConnectionId) (o : Outcome) → 255 ≤ remote → remote ≤ 65535
      → AtRest (limit_for l.server) (link_with (client_with l.client.settings remote id Nothing await.Call false 0 (length y))
      (with_packet l.stores x) o l.server l.told l.up [])
  unfolding client_with
  rests x le remote id o a b =
      record {
        room = packet-kept l.stores x w.calls.room le;
        begun = omega arith;
        latest = p.whole-packet.most;
        least = a;
        most = b;
        counts = refl;
        awaits = refl;
        stays = refl;
        ready = ready-came (client_with l.client.settings remote id Nothing await.Call false 0 (length y)) (with_packet l.stores x) o;
        idle = idle;
        down = refl;
      }

  stands : (x : List ℕ) (remote : ℕ) (id : ConnectionId) (o : Outcome) (b : Bool)
      → (b ≡ true → limit_for l.server ≡ at_least255 cs.max_packet_length)
      → (id ≡ g.named) → (Ids id l.server.engine.peer l.server.tables)
      → Standing cs (record { connected = b; named = g.named })
      (link_with (client_with l.client.settings remote id Nothing await.Call false 0 (length y)) (with_packet l.stores x) o l.server l.told
      l.up [])
  unfolding client_with
  stands x remote id o b m i j = record { settings = w.calls.settings; most = f.most; limit = m; names = i; ids = j }

  answered : (x : List ℕ) → length x ≡ length l.stores.packet
      → Next k cs g (came_link (responded (operation_of k) came_client p.response (with_packet l.stores x)))
  unfolding client_with
  answered x le = by k p.gives f.ids st n
    where
      o : Outcome
      o = said.Done p.response.code (length y)

      by : (k : Kind) → Gives k p.response l.server.engine.peer l.server.tables
          → (Ids (held_id k l.client.connection_id) l.server.engine.peer l.server.tables)
          → Settled k cs (limit_for l.server)
          → NamesThen k g.named l.client.connection_id p.response
          → Next k cs g (came_link (responded (operation_of k) came_client p.response (with_packet l.stores x)))
      by connecting gives ids st n = go (is_success p.response.code) refl
        where
          id : ConnectionId
          id = id_in (first header_id.connection_id p.response.headers)

          m : ℕ
          m = at_least255 (connect_limit p.response.bytes)

          go : (b : Bool) → is_success p.response.code ≡ b
              → Next connecting cs g (link_with
              (pick b (client_with l.client.settings m id Nothing await.Call false 0 (length y)) (goesWith came_client Nothing await.Call false))
              (with_packet l.stores x) o l.server l.told l.up [])
          go true e =
              let c = at_least (connect_limit p.response.bytes) in
              over (rests x le m id o c.0 (c.1 gives.0))
              (λ b i. stands x m id o b (λ h. st) (ap (λ (t : Bool). pick t id l.client.connection_id) (sym e) ∙ n) (gives.1 e))
          go false e =
              over (rests x le l.client.remote_max_packet_length l.client.connection_id o w.calls.least w.calls.most)
              (λ b i. stands x l.client.remote_max_packet_length l.client.connection_id o b (λ h. st)
              (ap (λ (t : Bool). pick t id l.client.connection_id) (sym e) ∙ n) ids)
      by disconnecting gives ids st n =
          over (rests x le 255 None o (omega arith) (omega arith))
          (λ b i. stands x 255 None o b (λ h. absurd (true≢false (sym h ∙ i))) (sym n) ids)

  response-done : (x : List ℕ) → take (length y) x ≡ y
      → response_done l.client (length y) (with_packet l.stores x) ≡ responded (operation_of k) came_client p.response (with_packet l.stores x)
  unfolding response_done client_with
  response-done x e =
      ap (λ (t : Bool). read_as (response_packet t (take (length y) x)) came_client (with_packet l.stores x))
      (ap is_connecting w.calls.operation ∙ kind-connects k)
      ∙ ap (λ (q : List ℕ). read_as (response_packet (is_connect k) q) came_client (with_packet l.stores x)) e
      ∙ ap (λ (o : Option ResponsePacket). read_as o came_client (with_packet l.stores x)) p.reads
      ∙ ap (λ (o : Operation). responded o came_client p.response (with_packet l.stores x)) w.calls.operation

  bytes-step : (i : List ℕ) → bytes_offered_step l.client i l.stores ≡ offers l.client (framed l.stores.packet l.client.begun 0 i)
      l.stores
  unfolding bytes_offered_step
  bytes-step i =
      client-passes l.client l.stores (awaiting l.client await.Bytes)
      (offers l.client (framed l.stores.packet l.client.begun 0 i) l.stores) w.calls.room
      (calls-sound k cs l w.calls) (ap (λ (x : Await). same_await x await.Bytes) w.awaits)

  came : (m : ℕ) (x : Frames) → Came y l.stores.packet l.down l.client.begun 0 m x
      → Next k cs g (client_did l (offers l.client x l.stores) l.up (drop (offers l.client x l.stores).took.taken l.down))
  unfolding client_with
  came m x (stillGoes s lt e h le) =
      let z : 0 + m ≡ m = omega arith in
      subst (λ (x : Frames). Next k cs g
      (client_did l (offers l.client x l.stores) l.up (drop (offers l.client x l.stores).took.taken l.down))) (sym e)
      (subst (λ (i : ℕ). Next k cs g
      (link_with (begun_with l.client (l.client.begun + m)) (with_packet l.stores s) said.WantsBytes l.server l.told l.up
      (drop i l.down))) (sym z)
      (goes (coming y
      (record {
        calls =
            record {
              room = packet-kept l.stores s w.calls.room le;
              begun = omega (arith, h.count, h.more, h.whole.most);
              latest = w.calls.latest;
              least = w.calls.least;
              most = w.calls.most;
              operation = w.calls.operation;
              settings = w.calls.settings;
              stays = w.calls.stays;
            };
        awaits = w.awaits;
        said = refl;
      })
      (record { serves = r.serves; awaits = r.awaits; told = r.told; none-begun = r.none-begun; up = r.up }) idle h p f st n bd)))
  came m x (comes s ge e h le) =
      let u : 0 + length l.down ≡ length l.down = omega arith in
      let z : drop (0 + length l.down) l.down ≡ [] = ap (λ (i : ℕ). drop i l.down) u ∙ drop-length l.down in
      subst (λ (x : Frames). Next k cs g
      (client_did l (offers l.client x l.stores) l.up (drop (offers l.client x l.stores).took.taken l.down))) (sym e)
      (subst₂ (λ (d : Done) (q : List ℕ). Next k cs g
      (link_with d.client d.stores (said_after l.said d.outcome) l.server l.told l.up q))
      (sym (response-done s h)) (sym z) (answered s le))

  pub offer-down : Half y l.stores.packet l.down l.client.begun → (m : ℕ) → Next k cs g (move l (offerDown m))
  unfolding move
  offer-down half m =
      let i = take m l.down in
      let e : take m (l.down ++ []) ≡ i = ap (take m) (append-nil l.down) in
      subst (λ (x : Stepped). Next k cs g (client_did l x l.up (drop x.took.taken l.down))) (sym (bytes-step i))
      (came m (framed l.stores.packet l.client.begun 0 i)
      (subst (λ (q : List ℕ). Came y l.stores.packet l.down l.client.begun 0 m (framed l.stores.packet l.client.begun 0 q)) e
      (queued l.down y l.stores.packet [] l.client.begun 0 m half)))

-- ---- the server has ended

pub see_end : (k : Kind) (cs : Settings) (g : Past) (l : Link) (x : End) → Awaits k cs l → l.told ≡ told.End x → l.down ≡ []
    → Next k cs g (move l closeDown)
unfolding move stream_ended_step
see_end k cs g l x w t dn =
    let c = l.client in
    let s = l.stores in
    let m = after 0 (ends c (pick (eqb c.begun 0) end.Disconnected end.Truncated) s) in
    let e : stream_ended_step c s ≡ m =
    client-passes c s (awaiting c await.Bytes || awaiting c await.Call) m w.calls.room (calls-sound k cs l w.calls)
    (ap (λ (z : Await). same_await z await.Bytes || same_await z await.Call) w.awaits) in
    let q : close_after l.told l.down l ≡ client_did l m l.up l.down =
    ap (λ (o : ServerOutcome). close_after o l.down l) t ∙ ap (λ (d : List ℕ). close_after (told.End x) d l) dn
    ∙ ap (λ (z : Stepped). client_did l z l.up l.down) e in
    subst (Next k cs g) (sym q) (gone refl)

-- ---- the two operations begin

-- the user's headers
record Own (hs : List ℕ) : Type 0 where
  list : List Header
  reads : read_headers hs 0 ≡ some list
  own : any_of is_reserved list ≡ false

own_headers : (hs : List ℕ) → bad_headers hs ≡ false → Own hs
unfolding bad_headers canonical
own_headers hs b =
    let u = or_right (ltb 65535 (length hs)) (not (canonical_as hs (read_headers hs 0)) || any_of is_reserved (list_of (read_headers hs 0))) b in
    by (read_headers hs 0) refl (or_left (not (canonical_as hs (read_headers hs 0))) (any_of is_reserved (list_of (read_headers hs 0))) u)
    (or_right (not (canonical_as hs (read_headers hs 0))) (any_of is_reserved (list_of (read_headers hs 0))) u)
  where
    by : (r : Option (List Header)) → read_headers hs 0 ≡ r → not (canonical_as hs r) ≡ false → any_of is_reserved (list_of r) ≡ false → Own hs
    by none e c o = absurd (true≢false c)
    by (some l) e c o = record { list = l; reads = e; own = o }

own_plain : (hs : List Header) → any_of is_reserved hs ≡ false → NoSrm hs
unfolding any_of
own_plain [] e = tt
own_plain (h ∷ hs) e =
    let w = or_left (is_reserved h) (any_of is_reserved hs) e in
    let u = or_right (eqb h.id header_id.connection_id) (is_srm h.id || is_body h.id) w in
    (or_left (is_srm h.id) (is_body h.id) u, own_plain hs (or_right (is_reserved h) (any_of is_reserved hs) e))

plain-append : (a b : List Header) → NoSrm a → NoSrm b → NoSrm (a ++ b)
plain-append [] b p q = q
plain-append (h ∷ a) b p q = (p.0, plain-append a b p.1 q)

-- the ConnectionID in front of them
lead_plain : (id : ConnectionId) → NoSrm (leading_headers id false)
unfolding leading_headers insert_early is_srm
lead_plain None = tt
lead_plain (Some i) = (refl, tt)

lead-octets : (id : ConnectionId) → Octets (leading id false)
unfolding leading leading_headers
lead-octets None = subst Octets (sym bytes-none) octets-none
lead-octets (Some i) = subst Octets (sym (ap all_bytes (leads_id i) ∙ bytes_one _)) (id_octets i)

connect_packs : (cs : Settings) (hs : List ℕ) → cs.max_packet_length ≤ 65535 → Octets hs → bad_headers hs ≡ false → length hs ≤ 248
    → Packs connecting cs (packet_bytes (byte_of op.Connect true) (fields_of cs.max_packet_length) hs)
unfolding byte_of
connect_packs cs hs m o b n =
    let w = own_headers hs b in
    let fields = fields_of cs.max_packet_length in
    record {
      whole-packet = packet-whole (byte_of op.Connect true) fields hs (omega arith) (omega (arith, n));
      octets = packet-octets (byte_of op.Connect true) fields hs (omega arith) (omega (arith, n)) (fields_octets cs.max_packet_length m) o;
      headers = w.list;
      reads = connect_reads cs.max_packet_length hs w.list o w.reads;
      plain = own_plain w.list w.own;
      limit = fields_limit (byte_of op.Connect true) cs.max_packet_length hs;
    }

disconnect_packs : (cs : Settings) (id : ConnectionId) (hs : List ℕ) → Octets hs → bad_headers hs ≡ false → length (id_bytes id ++ hs) ≤ 248
    → Packs disconnecting cs (packet_bytes (byte_of op.Disconnect true) [] (id_bytes id ++ hs))
unfolding byte_of leading
disconnect_packs cs id hs o b n =
    let w = own_headers hs b in
    let l = leading_headers id false ++ w.list in
    let e : all_bytes l ≡ id_bytes id ++ hs =
    bytes-append (leading_headers id false) w.list ∙ ap (λ (x : List ℕ). id_bytes id ++ x) (header-bytes hs 0 w.list o w.reads) in
    record {
      whole-packet = packet-whole (byte_of op.Disconnect true) [] (id_bytes id ++ hs) (omega arith) (omega (arith, n));
      octets = packet-octets (byte_of op.Disconnect true) [] (id_bytes id ++ hs) (omega arith) (omega (arith, n)) octets-none
          (octets-append (id_bytes id) hs (lead-octets id) o);
      headers = l;
      reads =
          subst (λ (x : List ℕ). let q = packet_bytes (byte_of op.Disconnect true) [] x in
          request_of q ≡ some (record { opcode = op.Disconnect; final = true; bytes = q; headers = l })) e
          (disconnect_reads l (shaped_append (leading_headers id false) w.list (lead_shaped id false) (read_shaped hs 0 w.list w.reads)));
      plain = plain-append (leading_headers id false) w.list (lead_plain id) (own_plain w.list w.own);
      limit = tt;
    }

pub rest-sound : (box : ℕ) (l : Link) → AtRest box l → sound l.client ≡ true
unfolding sound
rest-sound box l i = simp (lt-ltb _ _ i.begun, le-leb _ _ i.latest, le-leb _ _ i.least, i.counts)

-- a call that is checked goes only if its headers are such as a user may give
passed : (bad long : Bool) (c : Client) (s : Stores) (d : Done) → not (is_refused (checked bad long c s d).took.outcome) ≡ true → (bad ≡ false)
    × (long ≡ false)
passed true long c s d e = absurd (false≢true e)
passed false true c s d e = absurd (false≢true e)
passed false false c s d e = (refl, refl)

kept-short : (s : Stores) (q : List ℕ) → short s ≡ false → length q ≤ length s.request → short (with_request s (front q s.request)) ≡ false
unfolding short
kept-short s q e h = rw (front_length q s.request h) e

request-long : (s : Stores) → short s ≡ false → 65535 ≤ length s.request
unfolding short
request-long s e =
    let p = ltb (length s.packet) 65535 in
    let h = ltb (length s.headers) 65535 in
    let b = ltb (length s.body) 65535 in
    let q = ltb (length s.request) 65535 in
    ltb-false (length s.request) 65535 (or_right b q (or_right h (b || q) (or_right p (h || (b || q)) e)))

module _ (k : Kind) (cs : Settings) (g : Past) (l : Link) (i : AtRest (limit_for l.server) l) (s : Standing cs g l) (q : List ℕ)
    (p : Packs k cs q)
    (h : Past) (n : NamesNow k h.named l.client.connection_id) (bd : Bound k cs h.connected (limit_for l.server)) where
  held-ids : (k : Kind) → Ids (held_id k l.client.connection_id) l.server.engine.peer l.server.tables
  held-ids connecting = s.ids
  held-ids disconnecting = record { next = s.ids.next; is_open = refl }

  begins : Phase k cs h (client_did l (after 0 (sends l.client (operation_of k) q l.stores)) l.up l.down)
  unfolding client_with
  begins =
      let m = request-long l.stores i.room in
      turn q
      (record {
        room = kept-short l.stores q i.room (omega (arith, m, p.whole-packet.most));
        begun = omega arith;
        latest = i.latest;
        least = i.least;
        most = i.most;
        operation = refl;
        settings = s.settings;
        stays = refl;
      })
      p refl refl (take-append_seam q (drop (length q) l.stores.request))
      (record { serves = i.ready.serves; awaits = i.ready.awaits; told = i.ready.told; none-begun = i.ready.none-begun; up = i.ready.up })
      i.idle i.down
      (record { most = s.most; ids = held-ids k }) n bd

-- a Connect
pub connect_begins : (cs : Settings) (g : Past) (l : Link) → cs.max_packet_length ≤ 65535 → AtRest (limit_for l.server) l
    → Standing cs g l → (hs : List ℕ) → Octets hs
    → shown.goes l (connect hs) ≡ true → Phase connecting cs g (move l (user (connect hs)))
unfolding move connect_step
connect_begins cs g l small i s hs o go =
    let c = l.client in
    let q = packet_bytes (byte_of op.Connect true) (fields_of c.settings.max_packet_length) hs in
    let d = sends c Connecting q l.stores in
    let x = checked (bad_headers hs) (ltb 248 (length hs)) c l.stores d in
    let e : connect_step c hs l.stores ≡ x =
    client-passes c l.stores (awaiting c await.Call) x i.room (rest-sound (limit_for l.server) l i)
    (ap (λ (a : Await). same_await a await.Call) i.awaits) in
    let w = passed (bad_headers hs) (ltb 248 (length hs)) c l.stores d (sym (ap (λ (m : Stepped). not (is_refused m.took.outcome)) e) ∙ go) in
    let u : connect_step c hs l.stores ≡ after 0
    (sends c Connecting (packet_bytes (byte_of op.Connect true) (fields_of cs.max_packet_length) hs) l.stores) =
    e ∙ ap₂ (λ (a b : Bool). checked a b c l.stores d) w.0 w.1
    ∙ ap (λ (z : Settings). after 0 (sends c Connecting (packet_bytes (byte_of op.Connect true) (fields_of z.max_packet_length) hs) l.stores))
    s.settings in
    subst (λ (m : Stepped). Phase connecting cs g (client_did l m l.up l.down)) (sym u)
    (begins connecting cs g l i s (packet_bytes (byte_of op.Connect true) (fields_of cs.max_packet_length) hs)
    (connect_packs cs hs small o w.0 (ltb-false _ _ w.1)) g s.names s.limit)

-- a Disconnect, which ends what was before
pub disconnect_begins : (cs : Settings) (g : Past) (l : Link) → AtRest (limit_for l.server) l → Standing cs g l → (hs : List ℕ)
    → Octets hs
    → shown.goes l (disconnect hs) ≡ true
    → Phase disconnecting cs (record { connected = false; named = None }) (move l (user (disconnect hs)))
unfolding move disconnect_step
disconnect_begins cs g l i s hs o go =
    let c = l.client in
    let id = c.connection_id in
    let q = packet_bytes (byte_of op.Disconnect true) [] (id_bytes id ++ hs) in
    let d = sends c Disconnecting q l.stores in
    let m = checked (bad_headers hs) (ltb 248 (length (id_bytes id ++ hs))) c l.stores d in
    let e : disconnect_step c hs l.stores ≡ m =
    client-passes c l.stores (awaiting c await.Call) m i.room (rest-sound (limit_for l.server) l i)
    (ap (λ (a : Await). same_await a await.Call) i.awaits) in
    let w = passed (bad_headers hs) (ltb 248 (length (id_bytes id ++ hs))) c l.stores d
    (sym (ap (λ (m : Stepped). not (is_refused m.took.outcome)) e) ∙ go) in
    let u : disconnect_step c hs l.stores ≡ after 0 d = e ∙ ap₂ (λ (a b : Bool). checked a b c l.stores d) w.0 w.1 in
    subst (λ (m : Stepped). Phase disconnecting cs (record { connected = false; named = None }) (client_did l m l.up l.down)) (sym u)
    (begins disconnecting cs g l i s q (disconnect_packs cs id hs o w.0 (ltb-false _ _ w.1))
    (record { connected = false; named = None }) refl refl)
