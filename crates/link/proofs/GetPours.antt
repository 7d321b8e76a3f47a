-- The object of a Get under Single Response Mode (SRM): the server makes its next packet as soon as the last one has gone, and the packets
-- follow one another to the client, which hands on one after the other, or reads and drops them once the user has aborted. Assumes nothing.
use mathlib.Core.Path.{◌≡◌, refl, sym, ap, subst, subst₂, ◌∙◌}
use mathlib.Core.List.{List, [], ◌∷◌, ◌++◌, append-nil, append_assoc}
use mathlib.Core.Bool.{Bool, true, false, ◌&&◌, ◌||◌}
use mathlib.Core.Option.{Option, none, some}
use Prim.Native.Nat.{ℕ, ◌-◌, ◌≤◌}
use lib.ListN.{length, take, drop}
use Rattle.base.specs.Pick.{pick}
use Rattle.packet.specs.Codes.{codes, is_code, sent_code}
use Rattle.packet.specs.HeaderIds as header_id
use Rattle.packet.specs.Header.{Header, first}
use Rattle.packet.specs.Packet.{packet_bytes}
use Rattle.journal.specs.Journal.{is_enable}
use Rattle.journal.specs.Record.{bare, joined}
use Rattle.journal.proofs.Laws.{joined-bare}
use Rattle.outgoing.specs.Object.{Made, next_packet}
use Rattle.outgoing.specs.Packets.{Packets}
use Rattle.outgoing.specs.declared.object.Next.{Next}
use Rattle.outgoing.specs.declared.object.Next.TheVariants as next
use Rattle.outgoing.proofs.Sender.{packets_left}
use Rattle.connection.specs.Reply.{front}
use Rattle.server.specs.declared.Operation.{Operation}
use Rattle.server.specs.declared.Operation.TheVariants.{Nothing, Sending}
use Rattle.server.specs.declared.Await.{Await}
use Rattle.server.specs.declared.Await.TheVariants as waits
use Rattle.server.specs.declared.CallKind.TheVariants as kind
use Rattle.server.specs.declared.End.TheVariants as end
use Rattle.server.specs.declared.Engine.{Engine}
use Rattle.server.specs.declared.HostRequest.TheVariants as hostRequest
use Rattle.server.specs.declared.Outcome.{Outcome}
use Rattle.server.specs.declared.Outcome.TheVariants as told
use Rattle.model.specs.Step.{Stores, with_reply, engine_with, Done, wants, ends, limit_of, Stepped, after}
use Rattle.model.specs.Object.{sends_made, sends_packet, sends_next, goes_on_of}
use Rattle.model.specs.Dispatch.{busy}
use Rattle.model.specs.Guard.{sound_operation, fits, same_await}
use Rattle.model.specs.Calls.{reply_taken_step}
use Rattle.model.specs.Runs.{State, keeps}
use Rattle.model.proofs.Fit.{Base}
use Rattle.client_model.proofs.Conveyed.{Holding}
use Rattle.client_model.proofs.Putting.{is_none, counts-sound}
use Rattle.client_model.proofs.Getting.{Fetch}
use Rattle.client_model.specs.Step.{Stores as ClientStores}
use Rattle.client_model.specs.declared.Client.{Client}
use Rattle.client_model.specs.declared.Outcome.{Outcome as ClientOutcome}
use Rattle.link.specs.Link.{Link, link_with, sendDown, server_did, reply_bytes, sends_down, call_after, performed_by, move}
use Rattle.link.specs.Told.{asked_by, went, first_or}
use Rattle.link.proofs.Moves.{or_else, or_false}
use Rattle.link.proofs.ServerMoves.{passes, did_link, reply-front, base_reply, idle_goes, first_of, client-packet}
use Rattle.link.proofs.Queues.{Queue, queue-more}
use Rattle.link.proofs.GetHeard.{GetHeard, get_heard, or_joined, heard_calls, get_heard_after, or_none_lem, or_joined-none}
use Rattle.link.proofs.GetObject.{Down, code-down, Thing, thing_headers, Sends, Makes', next-made, sent_of, made-down, all-sent, some-sent}
use Rattle.link.proofs.GetJoint.{Origin, box_of, Stays, Story, AllDown, Granting, Taker, awaiting-next, hands, Last, all-gone, breaks, next-waits, last-waits, asks-body, GetJoint, pouring, draining}
use Rattle.link.proofs.GetServerMoves.{Acts, acts, stays_on, base_made}

-- ---- what is made

-- it is no request about a Get
pub made_untold : (e : Engine) (on : Bool) (m : Made) (z : Stores) (n : Next)
    → (went (sends_made e on false n m z).outcome ≡ true) ×
    (asked_by (sends_made e on false n m z).outcome (sends_made e on false n m z).stores ≡ [])
made_untold e on m z (next.Send n true) = (refl, refl)
made_untold e on m z (next.Send n false) = (refl, refl)
made_untold e on m z next.Read = (refl, refl)
made_untold e on m z next.TooLarge = (refl, refl)

-- the first packet grants, if it leads
granting-more : (lead : Bool) (out : List (List ℕ)) (xs : List (List Header)) (x : List Header) → Holding out xs → Granting lead xs
    → is_enable (first header_id.single_response_mode x) ≡ (is_none out && lead) → Granting lead (xs ++ (x ∷ []))
granting-more lead [] [] x h g e = e
granting-more lead [] (y ∷ ys) x h g e = g
granting-more lead (p ∷ ps) [] x h g e = absurd h
granting-more lead (p ∷ ps) (y ∷ ys) x h g e = g

module _ (j : Fetch) (o : Origin) (h : GetHeard) (l : Link) (t : Thing (box_of o)) (out : List (List ℕ)) (d : List ℕ) (zs : List (List Header))
    (ys : List (List ℕ)) (vs : List (List Header)) (on : t.on ≡ true) (taker : Taker j h t.lead zs l.client l.stores l.said)
    (ad : AllDown ys vs) (qu : Queue ys l.stores.packet l.down l.client.begun) (hold : Holding out (zs ++ vs))
    (gr : Granting t.lead (zs ++ vs)) (story : Story j (box_of o) t d zs h) (e : Engine) (k : Acts o l.server.tables e) (m : Made)
    (f : Option (List ℕ) → Packets) (w : Makes' (box_of o) t out d m f) (z : Stores) (b : Base e z) (hd : z.headers ≡ thing_headers (box_of o) t) where
  pour_sound : sound_operation (limit_of e) (Sending m.packet.outgoing m.packet.chunk true false) ≡ true
  pour_sound = counts-sound m.packet.outgoing m.packet.chunk w.counts

  pour_by : (n : Next) → m.packet.next ≡ n → GetJoint j o h (did_link l (sends_made e true false n m z) [])
  unfolding engine_with is_code codes
  pour_by (next.Send n true) q =
      let v = made-down (box_of o) t out d (zs ++ vs) hold m f w n true q in
      let y = sent_of (box_of o) t out d (zs ++ vs) hold m f w n in
      pouring t out d zs ys vs on taker ad qu hold gr refl
      (stays_on o l.server.tables e (with_reply z m.reply) Nothing waits.Taken k
      (base_made e z m.reply b w.making.long) refl)
      (last-waits y 0x20 v.0 n v.1 refl refl refl (all-gone refl refl (all-sent (box_of o) t out d (zs ++ vs) hold m f w n q) v.2)) story
  pour_by (next.Send n false) q =
      let v = made-down (box_of o) t out d (zs ++ vs) hold m f w n false q in
      let y = sent_of (box_of o) t out d (zs ++ vs) hold m f w n in
      let p = Sending m.packet.outgoing m.packet.chunk true false in
      let s : State = record {
        engine = engine_with e.settings e.peer p waits.Taken 0 e.length e.target;
        stores = with_reply z m.reply;
        tables = l.server.tables;
      } in
      pouring t out d zs ys vs on taker ad qu hold gr refl
      (stays_on o l.server.tables e (with_reply z m.reply) p waits.Taken k (base_made e z m.reply b w.making.long)
      pour_sound)
      (next-waits y v.0 n v.1 refl refl refl
      (some-sent (box_of o) t out d (zs ++ vs) hold m f w n q s (ap (λ (b : Bool). Sending m.packet.outgoing m.packet.chunk b false) (sym on)) hd)
      v.2 (granting-more t.lead out (zs ++ vs) v.0 hold gr v.3.asks)) story
  pour_by next.Read q =
      let p = Sending m.packet.outgoing m.packet.chunk true false in
      pouring t out d zs ys vs on taker ad qu hold gr refl
      (stays_on o l.server.tables e (with_reply z m.reply) p waits.Body k (base_made e z m.reply b w.making.long)
      pour_sound)
      (asks-body (hostRequest.Read m.packet.chunk.room) refl
      (record {
        made = m;
        rest = f;
        making = w.making;
        so_far = w.so_far;
        is_next = q;
        counts = w.counts;
        operation = ap (λ (b : Bool). Sending m.packet.outgoing m.packet.chunk b false) (sym on);
        headers = hd;
        reply = refl;
      })
      refl) story
  pour_by next.TooLarge q =
      let y = packet_bytes (sent_code 0x50) [] [] in
      let c : Down y 0x50 [] = code-down 0x50 refl in
      pouring t out d zs ys vs on taker ad qu hold gr refl
      (stays_on o l.server.tables e (with_reply z (front y m.reply)) Nothing waits.Taken k
      (base_reply e (with_reply z m.reply) y (base_made e z m.reply b w.making.long) c.whole.most) refl)
      (last-waits y 0x50 [] (length y) c refl refl (reply-front y m.reply) (breaks refl refl)) story

  pub did_pour : GetJoint j o h (did_link l (sends_packet e true false m z) [])
  did_pour = pour_by m.packet.next refl

-- ---- a packet of the object goes onto the stream

-- what the client awaits does not ask what was sent last
pub taker_as : (j : Fetch) (h h' : GetHeard) (lead : Bool) (zs : List (List Header)) (c : Client) (s : ClientStores) (u : ClientOutcome)
    → h'.aborted ≡ h.aborted → Taker j h lead zs c s u → Taker j h' lead zs c s u
taker_as j h h' lead zs c s u e (awaiting-next st flag sent due w tu) =
    awaiting-next st flag sent
    (record { stands = due.stands; answered = due.answered; awaits = due.awaits; said = due.said; aborted = e ∙ due.aborted; only = due.only }) w tu
taker_as j h h' lead zs c s u e (hands code k b st p a sa bg ab) = hands code k b st p a sa bg (e ∙ ab)

-- the client's packet store is long enough
pub taker_room : (j : Fetch) (h : GetHeard) (lead : Bool) (zs : List (List Header)) (c : Client) (s : ClientStores) (u : ClientOutcome)
    → Taker j h lead zs c s u → 65535 ≤ length s.packet
taker_room j h lead zs c s u (awaiting-next st flag sent due w tu) = client-packet s due.stands.room
taker_room j h lead zs c s u (hands code k b st p a sa bg ab) = client-packet s st.room

down-append : (ys : List (List ℕ)) (vs : List (List Header)) (y : List ℕ) (x : List Header) → AllDown ys vs → Down y 0x10 x
    → AllDown (ys ++ (y ∷ [])) (vs ++ (x ∷ []))
down-append [] [] y x a d = (d, tt)
down-append [] (v ∷ vs) y x a d = absurd a
down-append (z ∷ ys) [] y x a d = absurd a
down-append (z ∷ ys) (v ∷ vs) y x a d = (a.0, down-append ys vs y x a.1 d)

module _ (j : Fetch) (o : Origin) (h : GetHeard) (l : Link) (t : Thing (box_of o)) (out : List (List ℕ)) (d : List ℕ) (zs : List (List Header))
    (ys : List (List ℕ)) (vs : List (List Header)) (on : t.on ≡ true) (taker : Taker j h t.lead zs l.client l.stores l.said)
    (ad : AllDown ys vs) (qu : Queue ys l.stores.packet l.down l.client.begun) (hold : Holding out (zs ++ vs))
    (gr : Granting t.lead (zs ++ vs)) (up : l.up ≡ []) (v : Stays o l.server) (story : Story j (box_of o) t d zs h) (y : List ℕ) (code : ℕ)
    (x : List Header) (n : ℕ) (y' : Down y code x) (a : l.server.engine.awaits ≡ waits.Taken) (tl : l.told ≡ told.Reply n)
    (r : take n l.server.stores.reply ≡ y) where
  taken_step : reply_taken_step l.server.engine l.server.stores
      ≡ after 0 (goes_on_of l.server.engine.operation l.server.engine l.server.stores)
  unfolding reply_taken_step
  taken_step =
      let e = l.server.engine in
      let s = l.server.stores in
      passes (box_of o) l.server v.serves kind.ReplyTaken
      (after 0 (pick (same_await e.awaits waits.Taken) (goes_on_of e.operation e s) (ends e e.peer end.OtherOperation s)))
      (ap (λ (w : Await). fits kind.ReplyTaken w) a)
      ∙ ap (λ (w : Await). after 0 (pick (same_await w waits.Taken) (goes_on_of e.operation e s) (ends e e.peer end.OtherOperation s))) a

  abbrev taken_heard : GetHeard
  taken_heard = get_heard h.asked h.answer h.object (some (sent_code code)) h.parts h.aborted

  -- the link with the packet on the stream
  abbrev flowing : Link
  flowing = link_with l.client l.stores l.said l.server l.told l.up (l.down ++ y)

  story_taken : Story j (box_of o) t d zs taken_heard
  story_taken = record { asked = story.asked; answer = story.answer; object = story.object; parts = story.parts }

  queue-taken : Queue (ys ++ (y ∷ [])) l.stores.packet (l.down ++ y) l.client.begun
  queue-taken =
      subst (λ (q : List ℕ). Queue (ys ++ (y ∷ [])) l.stores.packet (l.down ++ q) l.client.begun) (append-nil y)
      (queue-more ys (y ∷ []) l.stores.packet l.down l.client.begun qu (y'.whole, tt)
      (taker_room j h t.lead zs l.client l.stores l.said taker))

  -- what follows is heard as it is said
  flowed : (w : Done) → goes_on_of l.server.engine.operation l.server.engine l.server.stores ≡ w → asked_by w.outcome w.stores ≡ []
      → GetJoint j o taken_heard (did_link flowing w []) → GetJoint j o (get_heard_after h l sendDown) (move l sendDown)
  unfolding move engine_with
  flowed w e un g =
      let q = l.server.stores.reply in
      subst (λ (u : Outcome). GetJoint j o (heard_calls h (performed_by l.server (sends_down u)) (first_or h.last (reply_bytes u q)) bare false)
      (call_after (sends_down u) l (l.down ++ reply_bytes u q))) (sym tl)
      (subst (λ (m : Stepped). GetJoint j o
      (get_heard (h.asked ++ (asked_by m.took.outcome m.stores ++ [])) (or_else h.answer none) (or_joined h.object bare none)
      (first_or h.last (take n q)) (joined h.parts bare) (h.aborted || false))
      (server_did l (keeps l.server m) (drop m.took.taken l.up) (l.down ++ take n q))) (sym (taken_step ∙ ap (after 0) e))
      (subst₂ (λ (z u : List ℕ). GetJoint j o
      (get_heard (h.asked ++ (asked_by w.outcome w.stores ++ [])) (or_else h.answer none) (or_joined h.object bare none)
      (first_or h.last z) (joined h.parts bare) (h.aborted || false))
      (server_did l (keeps l.server (after 0 w)) u (l.down ++ z))) (sym r) (sym up)
      (subst (λ (z : GetHeard). GetJoint j o z (did_link flowing w []))
      (λ i. get_heard ((sym (append-nil h.asked) ∙ ap (λ (b : List (List ℕ)). h.asked ++ (b ++ [])) (sym un)) i) (sym (or_none_lem h.answer) i)
      (sym (or_joined-none h.object) i) (sym (first_of h.last (sent_code code) y y'.first) i) (sym (joined-bare h.parts) i)
      (sym (or_false h.aborted) i))
      g)))

  -- others follow
  pub next_flows : code ≡ 0x10 → Sends (box_of o) t (out ++ (y ∷ [])) d l.server → Holding (out ++ (y ∷ [])) ((zs ++ vs) ++ (x ∷ []))
      → Granting t.lead ((zs ++ vs) ++ (x ∷ [])) → GetJoint j o (get_heard_after h l sendDown) (move l sendDown)
  unfolding sends_next
  next_flows c s hold' gr' =
      let e = l.server.engine in
      let z = l.server.stores in
      let m = next_packet (box_of o - 3) s.outgoing (thing_headers (box_of o) t) z.reply in
      let re = append_assoc zs vs (x ∷ []) in
      flowed (sends_packet e true false m z)
      (ap (λ (p : Operation). goes_on_of p e z) (s.operation ∙ ap (λ (b : Bool). Sending s.outgoing s.chunk b false) on)
      ∙ ap (λ (n : ℕ). sends_packet e true false (next_packet (n - 3) s.outgoing z.headers z.reply) z) v.serves.remote
      ∙ ap (λ (n : List ℕ). sends_packet e true false (next_packet (box_of o - 3) s.outgoing n z.reply) z) s.headers)
      (made_untold e true m z m.packet.next).1
      (did_pour j o taken_heard flowing t (out ++ (y ∷ [])) d zs (ys ++ (y ∷ [])) (vs ++ (x ∷ [])) on
      (taker_as j h taken_heard t.lead zs l.client l.stores l.said refl taker)
      (down-append ys vs y x ad (subst (λ (n : ℕ). Down y n x) c y')) queue-taken
      (subst (λ (q : List (List Header)). Holding (out ++ (y ∷ [])) q) re hold') (subst (Granting t.lead) re gr') story_taken e
      (acts o l.server v) m (λ b. packets_left (box_of o - 3) s.left b)
      (next-made (box_of o) t (out ++ (y ∷ [])) d l.server z.reply s v.serves.base.room.reply) z v.serves.base s.headers)

  idle_of : Last (box_of o) t (out ++ (y ∷ [])) d (zs ++ vs) code x l.server → busy l.server.engine.operation ≡ false
  idle_of (all-gone c i al ho) = i
  idle_of (breaks c i) = i

  -- it was the last
  pub last_flows : Last (box_of o) t (out ++ (y ∷ [])) d (zs ++ vs) code x l.server → GetJoint j o (get_heard_after h l sendDown) (move l sendDown)
  unfolding engine_with
  last_flows la =
      let e = l.server.engine in
      let z = l.server.stores in
      flowed (wants e e.peer e.operation z) (idle_goes e.operation e z (idle_of la)) refl
      (draining t (out ++ (y ∷ [])) d zs ys vs y code x on
      (taker_as j h taken_heard t.lead zs l.client l.stores l.said refl taker) ad y' queue-taken gr
      (record {
        stays = stays_on o l.server.tables e z e.operation waits.Bytes (acts o l.server v) v.serves.base v.serves.counts;
        awaits = refl;
        told = refl;
        none-begun = refl;
        up = refl;
      })
      (last_as la) story_taken refl)
    where
      last_as : Last (box_of o) t (out ++ (y ∷ [])) d (zs ++ vs) code x l.server
          → Last (box_of o) t (out ++ (y ∷ [])) d (zs ++ vs) code x (record {
            engine = engine_with l.server.engine.settings l.server.engine.peer l.server.engine.operation waits.Bytes 0
                l.server.engine.length l.server.engine.target;
            stores = l.server.stores;
            tables = l.server.tables;
          })
      last_as (all-gone c i al ho) = all-gone c i al ho
      last_as (breaks c i) = breaks c i
