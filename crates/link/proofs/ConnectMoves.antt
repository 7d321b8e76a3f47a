-- The moves of a Connect and of a Disconnect: the packet goes onto the stream and is read, the host answers, the reply goes down and is read, or
-- the server's end is seen. Assumes nothing.
use mathlib.Core.Path.{◌≡◌, refl, sym, ap, ap₂, subst, subst₂, ◌∙◌}
use mathlib.Core.List.{List, [], ◌∷◌, ◌++◌, append-nil}
use mathlib.Core.Bool.{Bool, true, false}
use mathlib.Core.Option.{Option, some}
use Prim.Native.Nat.{ℕ, zero, suc, ◌+◌, ◌≤◌}
use native.Mathlib.Omega.{arith}
use lib.ListN.{length, take, drop}
use lib.Seq.{drop-length}
use borrow.Author.Tests.{le-leb, lt-ltb}
use Rattle.std.specs.Prelude.{None}
use Rattle.text.specs.Unicode.{Octets}
use Rattle.packet.specs.HeaderIds as header_id
use Rattle.packet.specs.Codes.{is_code, codes}
use Rattle.packet.specs.Header.{first}
use Rattle.packet.specs.Packet.{Request as Packet, request_of, connect_limit}
use Rattle.journal.specs.Calls.{bytes_offered_of}
use Rattle.journal.specs.Journal.{is_enable, headers_of}
use Rattle.incoming.specs.Frame.{Frames, framed}
use Rattle.incoming.proofs.Queued.{Half, Came, goes as stillGoes, comes, queued, none_come}
use Rattle.server.specs.declared.Await.{Await as ServerAwait}
use Rattle.server.specs.declared.Await.TheVariants as waits
use Rattle.server.specs.declared.CallKind.{CallKind}
use Rattle.server.specs.declared.CallKind.TheVariants as kind
use Rattle.server.specs.declared.Engine.{Engine}
use Rattle.server.specs.declared.Outcome.{Outcome as ServerOutcome}
use Rattle.server.specs.declared.Outcome.TheVariants as told
use Rattle.model.specs.Step as server
use Rattle.model.specs.Step.{engine_with, limit_of, Called}
use Rattle.model.specs.Request.{last_packet, last_headers}
use Rattle.model.specs.Dispatch.{busy, read_as as serverReads, packet_target, arrived as packetArrived, packet_done}
use Rattle.model.specs.Guard.{sound as soundServer, fits, guarded as guardedServer, guarded_tables, guarded_called}
use Rattle.model.specs.Calls.{with_packet as withServerPacket, offers as serverOffers, bytes_offered_step as serverBytesStep}
use Rattle.model.specs.Runs.{State, step_of, keeps}
use Rattle.model.proofs.Fit.{not_short, tables-long}
use Rattle.client_model.specs.Numbers.{same_await}
use Rattle.client_model.specs.Step.{Stores, client_with, goes as goesWith, wants, Stepped, after}
use Rattle.client_model.specs.Guard.{short, sound, sound_operation, awaiting, guarded}
use Rattle.client_model.specs.Calls.{sent_for, request_sent_step}
use Rattle.client_model.specs.declared.Settings.{Settings}
use Rattle.client_model.specs.declared.Operation.{Operation}
use Rattle.client_model.specs.declared.Await.{Await}
use Rattle.client_model.specs.declared.Await.TheVariants as await
use Rattle.client_model.specs.declared.Client.{Client}
use Rattle.client_model.specs.declared.Outcome.{Outcome}
use Rattle.client_model.specs.declared.Outcome.TheVariants as said
use Rattle.client_model.proofs.Only.{none_first}
use Rattle.link.specs.Link.{Link, link_with, sendUp, offerUp, told_after, client_did, server_did, up_after, move}
use Rattle.link.proofs.Joint.{Serves, Ready}
use Rattle.link.proofs.ConnectJoint.{Kind, connecting, disconnecting, operation_of, opcode_for, held_id, Past, limit_for, Settled, Follows, Packs, Did, asks, replies, stops, Calls, Awaits, NamesNow, Bound, Phase, under_way, at_host, replied, ended}
use Rattle.link.proofs.ConnectServer.{PeerStands, limited-stands, state_at, Stood, packet-did, refused_did, left-did, connect_reads_as, Leaves, turned, asked, disconnect_reads_as}

-- ---- the guards

pub client-passes : (c : Client) (s : Stores) (f : Bool) (m : Stepped) → short s ≡ false → sound c ≡ true → f ≡ true → guarded f c s m ≡ m
client-passes c s f m a b e = simp (a, b, e)

kind-sound : (k : Kind) → sound_operation (operation_of k) ≡ true
kind-sound connecting = refl
kind-sound disconnecting = refl

pub calls-sound : (k : Kind) (cs : Settings) (l : Link) → Calls k cs l → sound l.client ≡ true
unfolding sound
calls-sound k cs l c =
    let o : sound_operation l.client.operation ≡ true = ap sound_operation c.operation ∙ kind-sound k in
    simp (lt-ltb _ _ c.begun, le-leb _ _ c.latest, le-leb _ _ c.least, o)

pub serves_sound : (box : ℕ) (s : State) → Serves box s → soundServer s.engine ≡ true
unfolding soundServer
serves_sound box s v =
    simp (
      lt-ltb _ _ v.begun,
      le-leb _ _ v.base.last,
      le-leb _ _ v.base.peer.count,
      le-leb _ _ v.base.peer.least,
      le-leb _ _ v.base.peer.few,
      v.counts,
    )

module _ (box : ℕ) (s : State) (v : Serves box s) where
  pub passes : (k : CallKind) (m : server.Stepped) → fits k s.engine.awaits ≡ true → guardedServer k s.engine s.stores m ≡ m
  passes k m f = simp (not_short (limit_of s.engine) s.stores v.base.room, serves_sound box s v, f)

  passes-tables : (k : CallKind) (m : server.Stepped) → fits k s.engine.awaits ≡ true → guarded_tables k s.engine s.stores s.tables m ≡ m
  passes-tables k m f =
      simp (tables-long s.tables v.tables, not_short (limit_of s.engine) s.stores v.base.room, serves_sound box s v, f)

  pub passes-called : (k : CallKind) (m : Called) → fits k s.engine.awaits ≡ true → guarded_called k s.engine s.stores s.tables m ≡ m
  passes-called k m f =
      simp (tables-long s.tables v.tables, not_short (limit_of s.engine) s.stores v.base.room, serves_sound box s v, f)

-- ---- the packet goes onto the stream

sent_for_lem : (k : Kind) (c : Client) (s : Stores) → sent_for (operation_of k) c s ≡ wants c c.operation false s
sent_for_lem connecting c s = refl
sent_for_lem disconnecting c s = refl

module _ (k : Kind) (cs : Settings) (g : Past) (l : Link) where
  pub send_up : (q : List ℕ) → Calls k cs l → Packs k cs q → l.client.awaits ≡ await.Sent → l.said ≡ said.Send (length q)
      → take (length q) l.stores.request ≡ q → Ready (limit_for l.server) l → busy l.server.engine.operation ≡ false → l.down ≡ []
      → Follows (held_id k l.client.connection_id) l.server → NamesNow k g.named l.client.connection_id
      → Bound k cs g.connected (limit_for l.server)
      → Phase k cs g (move l sendUp)
  unfolding move request_sent_step client_with
  send_up q c p a o t r b dn f n bd =
      let m = after 0 (wants l.client l.client.operation false l.stores) in
      let e : request_sent_step l.client l.stores ≡ m =
      client-passes l.client l.stores (awaiting l.client await.Sent) (after 0 (sent_for l.client.operation l.client l.stores))
      c.room
      (calls-sound k cs l c) (ap (λ (x : Await). same_await x await.Sent) a)
      ∙ ap (λ (x : Operation). after 0 (sent_for x l.client l.stores)) c.operation ∙ ap (after 0) (sent_for_lem k l.client l.stores) in
      let up : l.up ++ take (length q) l.stores.request ≡ q = ap₂ (λ (x y : List ℕ). x ++ y) r.up t in
      let w : up_after l.said l
      ≡ link_with (goesWith l.client l.client.operation await.Bytes false) l.stores said.WantsBytes l.server l.told q l.down =
      ap (λ (x : Outcome). up_after x l) o
      ∙ ap (λ (x : Stepped). client_did l x (l.up ++ take (length q) l.stores.request) l.down) e
      ∙ ap (λ (x : List ℕ). link_with (goesWith l.client l.client.operation await.Bytes false) l.stores said.WantsBytes l.server
      l.told x l.down) up in
      subst (Phase k cs g) (sym w)
      (under_way q
      (record {
        calls =
            record {
              room = c.room;
              begun = omega arith;
              latest = c.latest;
              least = c.least;
              most = c.most;
              operation = c.operation;
              settings = c.settings;
              stays = refl;
            };
        awaits = refl;
        said = refl;
      })
      p refl r.serves r.awaits r.told b
      (subst (λ (x : ℕ). Half q l.server.stores.packet q x) (sym r.none-begun)
      (none_come q l.server.stores.packet p.whole-packet r.serves.base.room.packet))
      dn f n bd p.octets)

-- ---- what the server did, as a phase of the link

pub bound-settled : (k : Kind) (cs : Settings) (b : Bool) (m n : ℕ) → Settled k cs n → Bound k cs b m → Bound k cs b n
bound-settled connecting cs b m n s w = λ e. s
bound-settled disconnecting cs b m n s w = w

-- the link with the server in the state `s`, which said `o`
abbrev served_link : Link → State → ServerOutcome → Link
served_link l s o = link_with l.client l.stores l.said s (told_after l.told o) [] l.down

module _ (k : Kind) (cs : Settings) (g : Past) (l : Link) (w : Awaits k cs l) (begun : l.client.begun ≡ 0) (dn : l.down ≡ [])
    (n : NamesNow k g.named l.client.connection_id) (bd : Bound k cs g.connected (limit_for l.server)) where
  awaits_as : (s : State) (o : ServerOutcome) → Awaits k cs (served_link l s o)
  awaits_as s o =
      let c = w.calls in
      record {
        calls =
            record {
              room = c.room;
              begun = c.begun;
              latest = c.latest;
              least = c.least;
              most = c.most;
              operation = c.operation;
              settings = c.settings;
              stays = c.stays;
            };
        awaits = w.awaits;
        said = w.said;
      }

  pub did_phase : (s : State) (o : ServerOutcome) → Did k cs (held_id k l.client.connection_id) s o → Phase k cs g (served_link l s o)
  did_phase s o (asks r e v a f x) =
      at_host r (awaits_as s o) begun v (ap (told_after l.told) e) refl dn a f x n
      (bound-settled k cs g.connected (limit_for l.server) (limit_for s) x bd)
  did_phase s o (replies y e v a b i t r f x) =
      replied y (awaits_as s o) begun v a b i (ap (told_after l.told) e) t refl dn r f x n
      (bound-settled k cs g.connected (limit_for l.server) (limit_for s) x bd)
  did_phase s o (stops x e a) = ended x (awaits_as s o) begun a (ap (told_after l.told) e) refl dn

-- ---- the packet is read

octets-drop : (n : ℕ) (u : List ℕ) → Octets u → Octets (drop n u)
octets-drop zero u o = o
octets-drop (suc n) [] o = o
octets-drop (suc n) (x ∷ u) o = octets-drop n u (λ i. o (suc i))

module _ (k : Kind) (cs : Settings) (small : cs.max_packet_length ≤ 65535) (g : Past) (l : Link) (q : List ℕ) (w : Awaits k cs l)
    (p : Packs k cs q)
    (begun : l.client.begun ≡ 0) (v : Serves (limit_for l.server) l.server) (a : l.server.engine.awaits ≡ waits.Bytes)
    (idle : busy l.server.engine.operation ≡ false) (dn : l.down ≡ []) (f : Follows (held_id k l.client.connection_id) l.server)
    (n : NamesNow k g.named l.client.connection_id) (bd : Bound k cs g.connected (limit_for l.server)) where
  abbrev packet : Packet
  packet = record { opcode = opcode_for k; final = true; bytes = q; headers = p.headers }

  abbrev took_engine : Engine
  took_engine = packetArrived l.server.engine (length q) (packet_target (some packet) l.server.engine l.server.tables)

  abbrev took_stores : List ℕ → server.Stores
  took_stores s = withServerPacket l.server.stores s

  took-stood : (s : List ℕ) → length s ≡ length l.server.stores.packet → Stood took_engine (took_stores s)
  unfolding engine_with
  took-stood s e =
      record {
        room = record {
          packet = rw e v.base.room.packet;
          headers = v.base.room.headers;
          reply = v.base.room.reply;
          body =
              v.base.room.body;
        };
        last = p.whole-packet.most;
        most = f.most;
      }

  -- the packet as the engine reads it
  packet-done : (s : List ℕ) → take (length q) s ≡ q
      → packet_done l.server.engine (length q) (took_stores s) l.server.tables ≡ serverReads (some packet) took_engine q (took_stores s)
      l.server.tables
  unfolding packet_done engine_with
  packet-done s e =
      let E = l.server.engine in
      let t = l.server.tables in
      ap (λ (y : List ℕ). serverReads (request_of y) (packetArrived E (length q) (packet_target (request_of y) E t)) y (took_stores s) t) e
      ∙ ap (λ (o : Option Packet). serverReads o (packetArrived E (length q) (packet_target o E t)) q (took_stores s) t) p.reads

  came : (m : ℕ) (x : Frames) → Half q l.server.stores.packet l.up l.server.engine.begun → Octets l.up
      → ((s : List ℕ) → take (length q) s ≡ q → length s ≡ length l.server.stores.packet
      → let d = serverReads (some packet) took_engine q (took_stores s) l.server.tables in
      Did k cs (held_id k l.client.connection_id) (state_at d l.server.tables) d.outcome)
      → Came q l.server.stores.packet l.up l.server.engine.begun 0 m x
      → let c = keeps l.server (serverOffers l.server.engine x l.server.stores l.server.tables) in
      Phase k cs g (server_did l c (drop c.took.taken l.up) l.down)
  unfolding engine_with
  came m x half oct did (stillGoes s lt e h le) =
      let E = l.server.engine in
      let z : 0 + m ≡ m = omega arith in
      let y : State = record {
        engine = engine_with E.settings E.peer E.operation E.awaits (E.begun + m) E.length
            E.target;
        stores = took_stores s;
        tables = l.server.tables;
      } in
      subst (λ (x : Frames). let c = keeps l.server (serverOffers E x l.server.stores l.server.tables) in
      Phase k cs g (server_did l c (drop c.took.taken l.up) l.down)) (sym e)
      (subst (λ (i : ℕ). Phase k cs g (link_with l.client l.stores l.said y told.WantsBytes (drop i l.up) l.down)) (sym z)
      (under_way q
      (record {
        calls =
            record {
              room = w.calls.room;
              begun = w.calls.begun;
              latest = w.calls.latest;
              least = w.calls.least;
              most = w.calls.most;
              operation = w.calls.operation;
              settings = w.calls.settings;
              stays = w.calls.stays;
            };
        awaits = w.awaits;
        said = w.said;
      })
      p begun
      (record {
        base =
            record {
              room = record {
                packet = rw le
                    v.base.room.packet;
                headers = v.base.room.headers;
                reply = v.base.room.reply;
                body = v.base.room.body;
              };
              peer = v.base.peer;
              last = v.base.last;
            };
        begun = omega (arith, h.count, h.more, h.whole.most);
        counts = v.counts;
        tables = v.tables;
        srm = v.srm;
        remote = refl;
      })
      a refl idle h dn (record { most = f.most; ids = f.ids }) n bd (octets-drop m l.up oct)))
  came m x half oct did (comes s ge e h le) =
      let E = l.server.engine in
      let t : 0 + length l.up ≡ length l.up = omega arith in
      let z : drop (0 + length l.up) l.up ≡ [] = ap (λ (i : ℕ). drop i l.up) t ∙ drop-length l.up in
      let d = serverReads (some packet) took_engine q (took_stores s) l.server.tables in
      subst (λ (x : Frames). let c = keeps l.server (serverOffers E x l.server.stores l.server.tables) in
      Phase k cs g (server_did l c (drop c.took.taken l.up) l.down)) (sym e)
      (subst₂ (λ (y : server.Done) (u : List ℕ). Phase k cs g
      (link_with l.client l.stores l.said (state_at y l.server.tables) (told_after l.told y.outcome) u l.down))
      (sym (packet-done s h)) (sym z)
      (did_phase k cs g l w begun dn n bd (state_at d l.server.tables) d.outcome (did s h le)))

  server-step : (i : List ℕ) → step_of l.server (bytes_offered_of i)
      ≡ keeps l.server (serverOffers l.server.engine (framed l.server.stores.packet l.server.engine.begun 0 i) l.server.stores
      l.server.tables)
  unfolding serverBytesStep
  server-step i =
      ap (keeps l.server) (passes-tables (limit_for l.server) l.server v kind.FromPeer
      (serverOffers l.server.engine (framed l.server.stores.packet l.server.engine.begun 0 i) l.server.stores l.server.tables)
      (ap (λ (x : ServerAwait). fits kind.FromPeer x) a))

  offer_by : Half q l.server.stores.packet l.up l.server.engine.begun → Octets l.up
      → ((s : List ℕ) → take (length q) s ≡ q → length s ≡ length l.server.stores.packet
      → let d = serverReads (some packet) took_engine q (took_stores s) l.server.tables in
      Did k cs (held_id k l.client.connection_id) (state_at d l.server.tables) d.outcome)
      → (m : ℕ) → Phase k cs g (move l (offerUp m))
  unfolding move
  offer_by half oct did m =
      let i = take m l.up in
      let e : take m (l.up ++ []) ≡ i = ap (take m) (append-nil l.up) in
      subst (λ (c : Called). Phase k cs g (server_did l c (drop c.took.taken l.up) l.down)) (sym (server-step i))
      (came m (framed l.server.stores.packet l.server.engine.begun 0 i) half oct did
      (subst (λ (y : List ℕ). Came q l.server.stores.packet l.up l.server.engine.begun 0 m
      (framed l.server.stores.packet l.server.engine.begun 0 y)) e
      (queued l.up q l.server.stores.packet [] l.server.engine.begun 0 m half)))

-- what the server makes of each of the two packets
module _ (cs : Settings) (small : cs.max_packet_length ≤ 65535) (g : Past) (l : Link) (q : List ℕ) (w : Awaits connecting cs l)
    (p : Packs connecting cs q)
    (begun : l.client.begun ≡ 0) (v : Serves (limit_for l.server) l.server) (a : l.server.engine.awaits ≡ waits.Bytes)
    (idle : busy l.server.engine.operation ≡ false) (dn : l.down ≡ []) (f : Follows l.client.connection_id l.server)
    (n : NamesNow connecting g.named l.client.connection_id) (bd : Bound connecting cs g.connected (limit_for l.server)) where
  connect_reads : (s : List ℕ) → take (length q) s ≡ q → length s ≡ length l.server.stores.packet
      → let e = took_engine connecting cs small g l q w p begun v a idle dn f n bd in
      let z = withServerPacket l.server.stores s in
      let d = serverReads (some (record { opcode = opcode_for connecting; final = true; bytes = q; headers = p.headers })) e q z
      l.server.tables in
      Did connecting cs l.client.connection_id (state_at d l.server.tables) d.outcome
  unfolding engine_with last_packet last_headers
  connect_reads s h le =
      let e = took_engine connecting cs small g l q w p begun v a idle dn f n bd in
      let z = withServerPacket l.server.stores s in
      let t = l.server.tables in
      let id = l.client.connection_id in
      let quiet : is_enable (first header_id.single_response_mode (headers_of (request_of (take (length q) s)))) ≡ false =
      ap (λ (y : List ℕ). is_enable (first header_id.single_response_mode (headers_of (request_of y)))) h
      ∙ ap (λ (o : Option Packet). is_enable (first header_id.single_response_mode (headers_of o))) p.reads
      ∙ ap is_enable (none_first p.headers p.plain) in
      let m : connect_limit (take (length q) s) ≡ cs.max_packet_length = ap connect_limit h ∙ p.limit in
      subst (λ (d : server.Done). Did connecting cs id (state_at d t) d.outcome)
      (sym (connect_reads_as e q z t true q p.headers idle))
      (packet-did cs id e z (took-stood connecting cs small g l q w p begun v a idle dn f n bd s le) quiet t
      (limited-stands cs id l.server.engine.peer t (connect_limit (take (length q) s)) v.base.peer v.tables v.srm
      f.ids m small))

  pub offer_connect : Half q l.server.stores.packet l.up l.server.engine.begun → Octets l.up → (m : ℕ)
      → Phase connecting cs g (move l (offerUp m))
  offer_connect half oct m = offer_by connecting cs small g l q w p begun v a idle dn f n bd half oct connect_reads m

module _ (cs : Settings) (small : cs.max_packet_length ≤ 65535) (g : Past) (l : Link) (q : List ℕ) (w : Awaits disconnecting cs l)
    (p : Packs disconnecting cs q)
    (begun : l.client.begun ≡ 0) (v : Serves (limit_for l.server) l.server) (a : l.server.engine.awaits ≡ waits.Bytes)
    (idle : busy l.server.engine.operation ≡ false) (dn : l.down ≡ []) (f : Follows None l.server)
    (n : NamesNow disconnecting g.named l.client.connection_id)
    (bd : Bound disconnecting cs g.connected (limit_for l.server)) where
  unavailable : is_code 0x53 ≡ true
  unfolding is_code codes
  unavailable = refl

  disconnect_reads : (s : List ℕ) → take (length q) s ≡ q → length s ≡ length l.server.stores.packet
      → let e = took_engine disconnecting cs small g l q w p begun v a idle dn f n bd in
      let z = withServerPacket l.server.stores s in
      let d = serverReads (some (record { opcode = opcode_for disconnecting; final = true; bytes = q; headers = p.headers })) e q z
      l.server.tables in
      Did disconnecting cs None (state_at d l.server.tables) d.outcome
  unfolding engine_with
  disconnect_reads s h le = by (disconnect_reads_as e q z t true q p.headers idle v.srm)
    where
      e : Engine
      e = took_engine disconnecting cs small g l q w p begun v a idle dn f n bd

      z : server.Stores
      z = withServerPacket l.server.stores s

      t : List ℕ
      t = l.server.tables

      d : server.Done
      d = serverReads (some (record { opcode = opcode_for disconnecting; final = true; bytes = q; headers = p.headers })) e q z t

      x : Stood e z
      x = took-stood disconnecting cs small g l q w p begun v a idle dn f n bd s le

      y : PeerStands disconnecting cs None l.server.engine.peer t
      y = record { fits = v.base.peer; long = v.tables; srm = v.srm; settled = tt; ids = f.ids }

      by : Leaves e z d → Did disconnecting cs None (state_at d t) d.outcome
      by (turned i) =
          subst (λ (d : server.Done). Did disconnecting cs None (state_at d t) d.outcome) (sym i)
          (refused_did cs e z x t 0x53 unavailable y)
      by (asked i) =
          subst (λ (d : server.Done). Did disconnecting cs None (state_at d t) d.outcome) (sym i)
          (left-did cs e z x t y)

  pub offer_disconnect : Half q l.server.stores.packet l.up l.server.engine.begun → Octets l.up → (m : ℕ)
      → Phase disconnecting cs g (move l (offerUp m))
  offer_disconnect half oct m = offer_by disconnecting cs small g l q w p begun v a idle dn f n bd half oct disconnect_reads m
