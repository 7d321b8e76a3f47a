-- The moves of the client's side in a Get, outside the streams of Single Response Mode: a packet goes onto the stream, a part is taken, the user aborts, a
-- response comes, the server's end is seen. Assumes nothing.
use mathlib.Core.Path.{◌≡◌, refl, sym, ap, subst, subst₂, ◌∙◌}
use mathlib.Core.List.{List, [], ◌∷◌, ◌++◌, append-nil}
use mathlib.Core.Bool.{Bool, true, false, ◌&&◌, ◌||◌, not, true≢false, false≢true}
use mathlib.Core.Option.{some}
use Prim.Native.Nat.{ℕ, ◌≤◌}
use native.Mathlib.Omega.{arith}
use lib.ListN.{length, take}
use lib.Dec.{eqb}
use Rattle.packet.specs.Codes.{is_success, sent_code}
use Rattle.packet.specs.Header.{Header}
use Rattle.packet.specs.Packet.{packet_bytes}
use Rattle.journal.specs.Record.{bare}
use Rattle.journal.proofs.Laws.{joined-bare}
use Rattle.incoming.proofs.Queued.{Half, none_come}
use Rattle.connection.specs.Reply.{front}
use Rattle.connection.proofs.Front.{front_length}
use Rattle.connection.specs.Peer.{ConnectionId}
use Rattle.client_model.specs.Step.{Stores, with_request, client_with, goes, Done, wants, sends, Stepped, after}
use Rattle.client_model.specs.Numbers.{same_await}
use Rattle.client_model.specs.Request.{sends_abort}
use Rattle.client_model.specs.Answer.{is_connecting}
use Rattle.client_model.specs.Guard.{sound_operation, awaiting, may_abort, abort_fits}
use Rattle.client_model.specs.Calls.{sent_for, request_sent_step, taken_for, part_taken_step, abort_for, abort_step, awaits_first}
use Rattle.client_model.specs.declared.Kind.TheVariants as kind
use Rattle.client_model.specs.declared.Operation.{Operation}
use Rattle.client_model.specs.declared.Operation.TheVariants.{Requesting, Receiving, Aborting, Nothing as NothingOpen}
use Rattle.client_model.specs.declared.Await.{Await}
use Rattle.client_model.specs.declared.Await.TheVariants as await
use Rattle.client_model.specs.declared.Client.{Client}
use Rattle.client_model.specs.declared.Outcome.{Outcome}
use Rattle.client_model.specs.declared.Outcome.TheVariants as said
use Rattle.client_model.proofs.Conveyed.{Holding}
use Rattle.client_model.proofs.Putting.{counts-sound}
use Rattle.client_model.proofs.Sending.{lead-small}
use Rattle.client_model.proofs.Getting.{Fetch, Stands, Waits, stands-sound, stands_on, request-long, made_packet, sent_packet, goes_up, sent-ends, sent-more, next_bytes, next_up, abort_bytes, abort_up, wish}
use Rattle.server.specs.declared.Outcome.{Outcome as ServerOutcome}
use Rattle.model.specs.Dispatch.{busy}
use Rattle.model.specs.Runs.{State}
use Rattle.link.specs.Link.{Link, link_with, user, sendUp, abort, partTaken, said_after, client_did, up_after, move}
use Rattle.link.specs.Told.{is_refused, is_accepted, is_whole, reply_part}
use Rattle.link.specs.Told as shown
use Rattle.link.proofs.ClientCalls.{passes}
use Rattle.link.proofs.ServerMoves.{reply-front}
use Rattle.link.proofs.GetHeard.{GetHeard, get_heard, heard_calls, get_heard_after, silent, or_none_lem, or_joined-none}
use Rattle.link.proofs.GetObject.{Thing, Sends}
use Rattle.link.proofs.GetJoint.{Origin, box_of, is_admitted, Rest, UnderWay, Gathers, Early, Story, Once, Stage, requesting, receiving, aborting, held, Answered, Due, is_waiting, is_requesting, request, asks, stops, Finished, GetJoint, asking, stopping, under_way, Rested, is_idle, GetNext, over as is_over}

-- ---- a packet goes onto the stream

-- the link once the packet `q` has gone
abbrev pub sent_link : Link → List ℕ → Link
sent_link l q =
    link_with (goes l.client l.client.operation await.Bytes false) l.stores said.WantsBytes l.server l.told (l.up ++ q) l.down

module _ (j : Fetch) (l : Link) (op : Operation) (n : ℕ) (q : List ℕ) (k : Stands j false l.client l.stores) (e : l.client.operation ≡ op)
    (w : sound_operation op ≡ true) (v : sent_for op l.client l.stores ≡ wants l.client l.client.operation false l.stores)
    (a : l.client.awaits ≡ await.Sent) (t : l.said ≡ said.Send n) (r : take n l.stores.request ≡ q) where
  pub sent-link : move l sendUp ≡ sent_link l q
  unfolding move request_sent_step
  sent-link =
      let c = l.client in
      let s = l.stores in
      let m = after 0 (sent_for c.operation c s) in
      let i : request_sent_step c s ≡ after 0 (wants c c.operation false s) =
      passes c s (awaiting c await.Sent) m k.room (stands-sound j false c s k (ap sound_operation e ∙ w))
      (ap (λ (x : Await). same_await x await.Sent) a)
      ∙ ap (after 0) (ap (λ (p : Operation). sent_for p c s) e ∙ v) in
      ap (λ (o : Outcome). up_after o l) t
      ∙ ap (λ (m : Stepped). client_did l m (l.up ++ take n s.request) l.down) i
      ∙ ap (λ (x : List ℕ). sent_link l x) r

  pub sent-stands : Stands j false (goes l.client l.client.operation await.Bytes false) l.stores
  unfolding client_with
  sent-stands =
      record { room = k.room; begun = omega arith; latest = k.latest; settings = k.settings; remote = k.remote; id = k.id; aborting = refl }

-- the packet is then under way
under_up : (o : Origin) (q : List ℕ) (s : State) (t : ServerOutcome) (up : List ℕ) → Rest o s t up → Rattle.incoming.proofs.Queued.IsWhole q
    → UnderWay o q s t (up ++ q)
under_up o q s t up r w =
    record {
      stays = r.stays;
      awaits = r.awaits;
      told = r.told;
      half = subst₂ (λ (n : ℕ) (u : List ℕ). Half q s.stores.packet (u ++ q) n) (sym r.none-begun) (sym r.up)
          (none_come q s.stores.packet w r.stays.serves.base.room.packet);
    }

pub send_request : (j : Fetch) (o : Origin) (h : GetHeard) (l : Link) (sent : List (List ℕ)) (xs : List (List Header)) → Holding sent xs
    → Stands j false l.client l.stores → Waits j false sent l.client l.said l.stores → Rest o l.server l.told l.up
    → Gathers false l.server xs → l.down ≡ [] → Early h → h.aborted ≡ false → GetJoint j o (get_heard_after h l sendUp) (move l sendUp)
unfolding client_with
send_request j o h l sent xs hold k a r g dn ea ab =
    let c = l.client in
    let s = l.stores in
    let u = goes_up j false sent c l.said s a in
    let q = sent_packet j false sent c l.said s a in
    let p = made_packet j false sent c l.said s a in
    let made = a.made.packet in
    let op = Requesting kind.Get made.outgoing made.chunk false a.initial a.last in
    let e = sent-link j l op a.size q k a.operation (counts-sound made.outgoing made.chunk a.counts) refl a.awaits a.said
    (ap (take a.size) a.request) in
    let st = sent-stands j l op a.size q k a.operation (counts-sound made.outgoing made.chunk a.counts) refl a.awaits a.said
    (ap (take a.size) a.request) in
    subst₂ (λ (x : GetHeard) (y : Link). GetJoint j o x y) (sym (silent h)) (sym e)
    (under_way (requesting false a.initial a.last) false (sent ++ (p ∷ [])) q
    (record { stands = st; answered = by a.last refl; awaits = refl; said = refl; aborted = ab; only = tt })
    refl (under_up o q l.server l.told l.up r u.1.whole)
    (request sent xs p u.0 a.initial a.last refl a.begins refl hold u.1 u.2 g ea) dn)
  where
    by : (t : Bool) → a.last ≡ t
        → Answered (requesting false a.initial t) j (sent ++ (made_packet j false sent l.client l.said l.stores a ∷ []))
        (goes l.client l.client.operation await.Bytes false) l.stores
    by true e = sent-ends j false sent l.client l.said l.stores a e
    by false e = sent-more j false sent l.client l.said l.stores a refl e

pub send_asking : (j : Fetch) (o : Origin) (h : GetHeard) (l : Link) (t : Thing (box_of o)) (out : List (List ℕ)) (d : List ℕ)
    (zs : List (List Header)) (code n : ℕ)
    → t.on ≡ false → Stands j false l.client l.stores → l.client.operation ≡ Receiving false false code → l.client.awaits ≡ await.Sent → l.said ≡
    said.Send n
    → take n l.stores.request ≡ next_bytes → Rest o l.server l.told l.up → Sends (box_of o) t out d l.server → l.down ≡ [] → Holding
    out zs
    → Story j (box_of o) t d zs h → h.aborted ≡ false → GetJoint j o (get_heard_after h l sendUp) (move l sendUp)
unfolding client_with
send_asking j o h l t out d zs code n off k p a e q r g dn hold ea ab =
    subst₂ (λ (x : GetHeard) (y : Link). GetJoint j o x y) (sym (silent h))
    (sym (sent-link j l (Receiving false false code) n next_bytes k p refl refl a e q))
    (under_way (receiving false) false [] next_bytes
    (record {
      stands = sent-stands j l (Receiving false false code) n next_bytes k p refl refl a e q;
      answered = (code, p);
      awaits = refl;
      said = refl;
      aborted = ab;
      only = tt;
    })
    refl (under_up o next_bytes l.server l.told l.up r next_up.whole) (asks t out d zs refl off refl g hold ea) dn)

pub send_abort : (j : Fetch) (o : Origin) (h : GetHeard) (l : Link) (n : ℕ) → Stands j false l.client l.stores → l.client.operation ≡ Aborting
    → l.client.awaits ≡ await.Sent → l.said ≡ said.Send n → take n l.stores.request ≡ abort_bytes j.id → Rest o l.server l.told l.up
    → l.down ≡ [] → Once j h → h.aborted ≡ true → GetJoint j o (get_heard_after h l sendUp) (move l sendUp)
unfolding client_with
send_abort j o h l n k p a e q r dn on ab =
    let b = abort_bytes j.id in
    subst₂ (λ (x : GetHeard) (y : Link). GetJoint j o x y) (sym (silent h)) (sym (sent-link j l Aborting n b k p refl refl a e q))
    (under_way aborting true [] b
    (record { stands = sent-stands j l Aborting n b k p refl refl a e q; answered = p; awaits = refl; said = refl; aborted = ab; only = refl })
    refl (under_up o b l.server l.told l.up r (abort_up j.id).whole) (stops refl refl on) dn)

-- ---- packets that the client makes of itself

next-short : length next_bytes ≤ 65535
unfolding packet_bytes
next-short = omega arith

pub abort_short : (id : ConnectionId) → length (abort_bytes id) ≤ 65535
unfolding packet_bytes
abort_short id = let k = lead-small id false in omega (arith, k)

-- the client makes one, and waits until it is sent
module _ (j : Fetch) (flag : Bool) (c : Client) (s : Stores) (op : Operation) (q : List ℕ) (k : Stands j flag c s) (n : length q ≤ 65535) where
  pub sends-stands : Stands j false (goes c op await.Sent false) (with_request s (front q s.request))
  sends-stands =
      let l = request-long s k.room in
      stands_on j flag c s op await.Sent (front q s.request) k (omega (arith, l, front_length q s.request (omega (arith, l, n))))

-- ---- a part is taken

module _ (j : Fetch) (l : Link) (op : Operation) (k : Stands j false l.client l.stores) (e : l.client.operation ≡ op)
    (w : sound_operation op ≡ true)
    (a : l.client.awaits ≡ await.Taken) where
  pub taken_step : part_taken_step l.client l.stores ≡ taken_for op l.client l.stores
  unfolding part_taken_step
  taken_step =
      let c = l.client in
      let s = l.stores in
      passes c s (awaiting c await.Taken) (taken_for c.operation c s) k.room (stands-sound j false c s k (ap sound_operation e ∙ w))
      (ap (λ (x : Await). same_await x await.Taken) a)
      ∙ ap (λ (p : Operation). taken_for p c s) e

pub take_part : (j : Fetch) (o : Origin) (h : GetHeard) (l : Link) (t : Thing (box_of o)) (out : List (List ℕ)) (d : List ℕ) (zs : List (List Header))
    (code : ℕ)
    → t.on ≡ false → Stands j false l.client l.stores → l.client.operation ≡ Receiving false false code → l.client.awaits ≡ await.Taken
    → Rest o l.server l.told l.up → Sends (box_of o) t out d l.server → l.down ≡ [] → Holding out zs → Story j (box_of o) t d zs h
    → h.aborted ≡ false → GetJoint j o (get_heard_after h l (user partTaken)) (move l (user partTaken))
unfolding move client_with
take_part j o h l t out d zs code off k p a r g dn hold ea ab =
    let c = l.client in
    let s = l.stores in
    subst₂ (λ (x : GetHeard) (m : Stepped). GetJoint j o x (client_did l m l.up l.down)) (sym (silent h))
    (sym (taken_step j l (Receiving false false code) k p refl a))
    (asking t out d zs code (length next_bytes) off (sends-stands j false c s c.operation next_bytes k next-short) p refl refl
    (reply-front next_bytes s.request) refl
    r g dn hold ea ab)

-- ---- what the end of the Get tells

module _ (j : Fetch) (o : Origin) (h : GetHeard) (code size : ℕ) (hl : h.last ≡ some (sent_code code)) (nc : eqb code 0x10 ≡ false) where
  code-told : (c : ℕ) → some code ≡ some c → (h.last ≡ some (sent_code c)) × (eqb c 0x10 ≡ false)
  code-told c e =
      let q : code ≡ c = cc in
      subst (λ (n : ℕ). (h.last ≡ some (sent_code n)) × (eqb n 0x10 ≡ false)) q (hl, nc)

  pub finished_done : h.aborted ≡ false → Once j h → (is_admitted o j.id ≡ true → length (wish j) ≤ 65535 → h.asked ≡ wish j ∷ [])
      → is_success code ≡ (is_whole h.object h.last || is_accepted (box_of o) h.answer)
      → (is_whole h.object h.last ≡ true → h.object ≡ some h.parts)
      → (is_accepted (box_of o) h.answer ≡ true → h.parts ≡ reply_part h.answer) → Finished j o h (said.Done code size)
  finished_done ab on go su ob re =
      record {
        is_over_lem = refl;
        asked = on;
        asks = λ a. go;
        success = λ a. su;
        object = λ a. ob;
        reply = λ a. re;
        code = code-told;
        number = λ x e. let z : ◌≡◌ {A = ℕ} 0 1 = cc in absurd (omega arith);
        stops = λ c n e. let z : ◌≡◌ {A = ℕ} 0 1 = cc in absurd (omega arith);
        done = λ c n e. ab;
        never = λ c n e. let z : ◌≡◌ {A = ℕ} 0 1 = cc in absurd (omega arith);
      }

  pub finished_aborted : Once j h → h.aborted ≡ true → Finished j o h (said.Aborted code size)
  finished_aborted on ab =
      record {
        is_over_lem = refl;
        asked = on;
        asks = λ a. absurd (true≢false (sym ab ∙ a));
        success = λ a. absurd (true≢false (sym ab ∙ a));
        object = λ a. absurd (true≢false (sym ab ∙ a));
        reply = λ a. absurd (true≢false (sym ab ∙ a));
        code = code-told;
        number = λ x e. let z : ◌≡◌ {A = ℕ} 0 1 = cc in absurd (omega arith);
        stops = λ c n e. ab;
        done = λ c n e. let z : ◌≡◌ {A = ℕ} 0 1 = cc in absurd (omega arith);
        never = λ c n e. let z : ◌≡◌ {A = ℕ} 0 1 = cc in absurd (omega arith);
      }

-- ---- both ends at rest

pub rests : (j : Fetch) (o : Origin) (flag : Bool) (c : Client) (s : Stores) (u : Outcome) (v : State) (t : ServerOutcome) (up down : List ℕ)
    → Stands j flag c s
    → Rest o v t up → busy v.engine.operation ≡ false → down ≡ []
    → Rested j o (link_with (goes c NothingOpen await.Call false) s u v t up down)
unfolding client_with
rests j o flag c s u v t up down k r i dn =
    is_idle
    (record {
      room = k.room;
      begun = omega arith;
      latest = k.latest;
      least = omega (arith, k.remote, j.low);
      most = omega (arith, k.remote, j.top);
      counts = refl;
      awaits = refl;
      stays = refl;
      ready = record { serves = r.stays.serves; awaits = r.awaits; told = r.told; none-begun = r.none-begun; up = r.up };
      idle = i;
      down = dn;
    })
    (record { settings = k.settings; remote = k.remote; id = k.id; server = r.stays.settings; peer = r.stays.peer; tables = r.stays.tables })

pub take_last : (j : Fetch) (o : Origin) (h : GetHeard) (l : Link) (on : Bool) (code : ℕ) → Stands j false l.client l.stores
    → l.client.operation ≡ Receiving on true code → l.client.awaits ≡ await.Taken → Rest o l.server l.told l.up
    → busy l.server.engine.operation ≡ false → l.down ≡ [] → ((n : ℕ) → Finished j o h (said.Done code n))
    → GetNext j o (get_heard_after h l (user partTaken)) (move l (user partTaken))
unfolding move
take_last j o h l on code k p a r i dn fin =
    let c = l.client in
    let s = l.stores in
    subst₂ (λ (x : GetHeard) (m : Stepped). GetNext j o x (client_did l m l.up l.down)) (sym (silent h))
    (sym (taken_step j l (Receiving on true code) k p refl a))
    (is_over (fin c.length) (rests j o false c s (said.Done code c.length) l.server l.told l.up l.down k r i dn))

-- ---- the user aborts

-- with an Abort
abbrev pub abort_heard : GetHeard → GetHeard
abort_heard h = get_heard h.asked h.answer h.object h.last h.parts true

or_true : (a : Bool) → (a || true) ≡ true
or_true true = refl
or_true false = refl

pub heard_abort : (h : GetHeard) → heard_calls h [] h.last bare true ≡ abort_heard h
heard_abort h =
    λ i. get_heard (append-nil h.asked i) (or_none_lem h.answer i) (or_joined-none h.object i) h.last (joined-bare h.parts i)
    (or_true h.aborted i)

module _ (j : Fetch) (flag : Bool) (l : Link) (op : Operation) (a : Await) (k : Stands j false l.client l.stores)
    (e : l.client.operation ≡ op)
    (w : sound_operation op ≡ true) (i : l.client.awaits ≡ a) (m : may_abort op a ≡ true) where
  pub abort_step_lem : abort_step l.client l.stores ≡ after 0 (abort_for a l.client l.stores)
  unfolding abort_step
  abort_step_lem =
      let c = l.client in
      let s = l.stores in
      let f : abort_fits c ≡ true =
      ap (λ (t : Bool). not t && may_abort c.operation c.awaits) k.aborting ∙ ap (λ (p : Operation). may_abort p c.awaits) e ∙ ap
      (may_abort op) i ∙ m in
      passes c s (abort_fits c) (after 0 (abort_for c.awaits c s)) k.room (stands-sound j false c s k (ap sound_operation e ∙ w)) f
      ∙ ap (λ (x : Await). after 0 (abort_for x c s)) i

  -- what is heard of it, and the link
  pub abort_move : (d : Done) (o : Origin) (h : GetHeard) → abort_for a l.client l.stores ≡ d → is_refused d.outcome ≡ false
      → GetJoint j o (abort_heard h) (link_with d.client d.stores (said_after l.said d.outcome) l.server l.told l.up l.down)
      → GetJoint j o (get_heard_after h l (user abort)) (move l (user abort))
  unfolding move
  abort_move d o h q r g =
      let s = abort_step_lem ∙ ap (after 0) q in
      let t : shown.goes l abort ≡ true = ap (λ (x : Stepped). not (is_refused x.took.outcome)) s ∙ ap not r in
      subst₂ (λ (b : Bool) (m : Stepped). GetJoint j o (heard_calls h [] h.last bare b) (client_did l m l.up l.down)) (sym t) (sym s)
      (subst (λ (x : GetHeard). GetJoint j o x (link_with d.client d.stores (said_after l.said d.outcome) l.server l.told l.up
      l.down)) (sym (heard_abort h)) g)

-- the Abort takes the place of what waits
pub abort_sends : (c : Client) (s : Stores) (id : ConnectionId) → c.connection_id ≡ id → sends_abort c s ≡ sends c Aborting (abort_bytes id) s
unfolding sends_abort
abort_sends c s id e = ap (λ (x : ConnectionId). sends c Aborting (abort_bytes x) s) e

-- what follows in which the Abort waits
pub stops-waiting : (j : Fetch) (o : Origin) (h : GetHeard) (flag : Bool) (c : Client) (s : Stores) (u : Outcome) (v : State) (t : ServerOutcome)
    (up down : List ℕ)
    → Stands j flag c s → Rest o v t up → down ≡ [] → Once j h → h.aborted ≡ true
    → let d = sends c Aborting (abort_bytes j.id) s in GetJoint j o h (link_with d.client d.stores (said_after u d.outcome) v t up down)
unfolding client_with
stops-waiting j o h flag c s u v t up down k r dn on ab =
    stopping (length (abort_bytes j.id)) (sends-stands j flag c s Aborting (abort_bytes j.id) k (abort_short j.id)) refl refl refl
    (reply-front (abort_bytes j.id) s.request) refl r dn on ab

pub abort_waiting : (j : Fetch) (o : Origin) (h : GetHeard) (l : Link) (op : Operation) (a : Await) → Stands j false l.client l.stores
    → l.client.operation ≡ op → sound_operation op ≡ true → l.client.awaits ≡ a → may_abort op a ≡ true
    → abort_for a l.client l.stores ≡ sends_abort l.client l.stores → Rest o l.server l.told l.up → l.down ≡ [] → Once j h
    → GetJoint j o (get_heard_after h l (user abort)) (move l (user abort))
abort_waiting j o h l op a k e w i m q r dn on =
    let c = l.client in
    let s = l.stores in
    abort_move j false l op a k e w i m (sends c Aborting (abort_bytes j.id) s) o h (q ∙ abort_sends c s j.id k.id) refl
    (stops-waiting j o (abort_heard h) false c s l.said l.server l.told l.up l.down k r dn on refl)

-- a response is due: it comes first
abbrev pub abort_client : Client → Client
abort_client c = client_with c.settings c.remote_max_packet_length c.connection_id c.operation await.Bytes true c.begun c.length

pub abort_stands : (j : Fetch) (c : Client) (s : Stores) → Stands j false c s → Stands j true (abort_client c) s
unfolding client_with
abort_stands j c s k =
    record { room = k.room; begun = k.begun; latest = k.latest; settings = k.settings; remote = k.remote; id = k.id; aborting = refl }

-- the state is sound, no Connect, and may be aborted unless it is
pub due-sound : (st : Stage) (j : Fetch) (sent : List (List ℕ)) (c : Client) (s : Stores) → Answered st j sent c s
    → (op : Operation) × (c.operation ≡ op) × (sound_operation op ≡ true) × (is_connecting op ≡ false) ×
    (is_waiting st || is_requesting st ≡ may_abort op await.Bytes)
due-sound (requesting on initial true) j sent c s a = (
  Requesting kind.Get a.outgoing a.chunk on initial true,
  a.operation,
  counts-sound a.outgoing a.chunk a.counts,
  refl,
  refl,
)
due-sound (requesting on initial false) j sent c s a = (
  Requesting kind.Get a.rest.outgoing a.rest.chunk false initial false,
  a.operation,
  counts-sound a.rest.outgoing a.rest.chunk a.rest.counts,
  refl,
  refl,
)
due-sound (receiving on) j sent c s a = (Receiving on false a.0, a.1, refl, refl, refl)
due-sound aborting j sent c s a = (Aborting, a, refl, refl, refl)

-- what is awaited stays with the operation
abbrev pub answered_as : (st : Stage) (j : Fetch) (sent : List (List ℕ)) (c e : Client) (s t : Stores) → e.operation ≡ c.operation
    → t.headers ≡ s.headers
    → Answered st j sent c s → Answered st j sent e t
answered_as (requesting on initial true) j sent c e s t i q a =
    record { outgoing = a.outgoing; chunk = a.chunk; so_far = a.so_far; counts = a.counts; operation = i ∙ a.operation }
answered_as (requesting on initial false) j sent c e s t i q a =
    record {
      single = a.single;
      rest =
          record {
            outgoing = a.rest.outgoing;
            chunk = a.rest.chunk;
            gone = a.rest.gone;
            left = a.rest.left;
            at = a.rest.at;
            so_far = a.rest.so_far;
            counts = a.rest.counts;
            headers = q ∙ a.rest.headers;
          };
      operation = i ∙ a.operation;
    }
answered_as (receiving on) j sent c e s t i q a = (a.0, i ∙ a.1)
answered_as aborting j sent c e s t i q a = i ∙ a

pub due-aborted : (st : Stage) (j : Fetch) (sent : List (List ℕ)) (h : GetHeard) (c : Client) (s : Stores) (u : Outcome)
    → is_waiting st || is_requesting st ≡ true
    → Due st false j sent h c s u → Due st true j sent (abort_heard h) (abort_client c) s said.WantsBytes
unfolding client_with
due-aborted (requesting on initial last) j sent h c s u w due =
    record {
      stands = abort_stands j c s due.stands;
      answered = answered_as (requesting on initial last) j sent c (abort_client c) s s refl refl due.answered;
      awaits = refl;
      said = refl;
      aborted = refl;
      only = tt;
    }
due-aborted (receiving on) j sent h c s u w due =
    record {
      stands = abort_stands j c s due.stands;
      answered = answered_as (receiving on) j sent c (abort_client c) s s refl refl due.answered;
      awaits = refl;
      said = refl;
      aborted = refl;
      only = tt;
    }
due-aborted aborting j sent h c s u w due = absurd (false≢true w)

-- the flag is set, and all else stays
pub abort_due : (j : Fetch) (o : Origin) (h : GetHeard) (l : Link) (st : Stage) (sent : List (List ℕ)) → is_waiting st || is_requesting st ≡ true
    → Due st false j sent h l.client l.stores l.said
    → GetJoint j o (abort_heard h) (link_with (abort_client l.client) l.stores said.WantsBytes l.server l.told l.up l.down)
    → GetJoint j o (get_heard_after h l (user abort)) (move l (user abort))
abort_due j o h l st sent w due g =
    let c = l.client in
    let s = l.stores in
    let v = due-sound st j sent c s due.answered in
    abort_move j false l v.0 await.Bytes (stands-held st w due.stands) v.1 v.2 due.awaits (sym v.4 ∙ w) (awaits_first c s) o h refl
    refl g
  where
    stands-held : (st : Stage) → is_waiting st || is_requesting st ≡ true → Stands j (held st false) l.client l.stores
        → Stands j false l.client l.stores
    stands-held (requesting on initial last) w k = k
    stands-held (receiving on) w k = k
    stands-held aborting w k = k
