-- The calls of the client in a Put that are not about what comes from the server: a packet or the Abort goes onto the stream, body bytes are given,
-- the user aborts. What follows is said of the client alone, with the packets that it puts onto the stream. Assumes nothing.
use mathlib.Core.Path.{◌≡◌, refl, sym, ap, ap₂, subst, ◌∙◌}
use mathlib.Core.List.{List, [], ◌∷◌, ◌++◌, append-nil}
use mathlib.Core.Bool.{Bool, true, false, ◌&&◌, ◌||◌, not, true≢false, false≢true}
use mathlib.Core.Option.{Option, none, some}
use Prim.Native.Nat.{ℕ, zero, suc, ◌-◌, ◌≤◌, ◌<◌}
use native.Mathlib.Omega.{arith}
use lib.ListN.{length, get_or, take, drop}
use lib.Seq.{get_or-set_same, take-append_seam}
use lib.Dec.{ltb, eqb}
use borrow.Author.Tests.{ltb-false}
use Rattle.base.specs.Pick.{pick}
use Rattle.packet.specs.FirstByte.{named, first_byte, byte_of}
use Rattle.packet.specs.Header.{Header}
use Rattle.packet.specs.Packet.{packet_bytes}
use Rattle.packet.specs.declared.opcode.Opcode.TheVariants as op
use Rattle.packet.proofs.HeaderWrites.{read-written}
use Rattle.incoming.proofs.Queued.{IsWhole}
use Rattle.outgoing.specs.Object.{body_given_of}
use Rattle.outgoing.specs.declared.object.Outgoing.{Outgoing}
use Rattle.outgoing.specs.declared.object.Chunk.{Chunk}
use Rattle.connection.specs.Reply.{front}
use Rattle.connection.specs.Peer.{ConnectionId}
use Rattle.connection.proofs.Front.{front_length}
use Rattle.client_model.specs.Leading.{leading_headers, leading}
use Rattle.client_model.specs.Step.{Stores, with_request, client_with, Done, wants, Stepped, after}
use Rattle.client_model.specs.Numbers.{same_await}
use Rattle.client_model.specs.Request.{requests, requests_next, sends_abort}
use Rattle.client_model.specs.Guard.{short, sound, sound_operation, awaiting, refuse, guarded, may_abort, abort_fits}
use Rattle.client_model.specs.Calls.{sent_for, request_sent_step, body_for, body_given_step, awaits_first, abort_for, abort_step}
use Rattle.client_model.specs.declared.Settings.{Settings}
use Rattle.client_model.specs.declared.Kind.TheVariants as kind
use Rattle.client_model.specs.declared.Operation.{Operation}
use Rattle.client_model.specs.declared.Operation.TheVariants.{Requesting, Aborting}
use Rattle.client_model.specs.declared.Await.{Await}
use Rattle.client_model.specs.declared.Await.TheVariants as await
use Rattle.client_model.specs.declared.Client.{Client}
use Rattle.client_model.specs.declared.Outcome.{Outcome}
use Rattle.client_model.specs.declared.Outcome.TheVariants as said
use Rattle.client_model.specs.declared.Refusal.TheVariants as refusal
use Rattle.client_model.proofs.Leads.{lead_shaped}
use Rattle.client_model.proofs.Requests.{request-read}
use Rattle.client_model.proofs.Sending.{lead-small}
use Rattle.client_model.proofs.Putting.{Job, Keeps, Waits, Asks, Answered, Leads, waits, asks, counts-sound, keeps-sound, room-kept, Up, made_packet, sent_packet, goes_up, sent-rest, sent-answered, given-leads, next-leads, holding-more}
use Rattle.client_model.proofs.Conveyed.{Holding}
use Rattle.link.specs.Link.{Link, link_with, UserCall, connect, get, disconnect, put as putCall, body, abort, partTaken, Move, user, sendUp, said_after, client_did, up_after, move}
use Rattle.link.specs.Told as shown
use Rattle.link.specs.Told.{is_refused, is_final_put}
use Rattle.link.proofs.Moves.{Heard, heard_after, or_else, or_false, silent, Quiet, user_fits, user-refused, quiet-user, quiet-refused, is_send, quiet_send_up}
use Rattle.link.proofs.Joint.{Deal, Mode, sends, reads, aborts, aborted, awaits, Sends, Reads, Due, Aborts, Aborted, abort_bytes, Stands, Post, put, cancel, wires, heads, Cancels, AllGood, AllMore, Streams, Closes, Stops, Order, HoldsIn, IsFinal, Client'}

-- ---- what a call leads to

-- with other bytes given, and the final packet sent or not
abbrev pub heard_of : Heard → List ℕ → Bool → Heard
heard_of h d f = record { records = h.records; answer = h.answer; last = h.last; given = d; final = f }

or_none_lem : {A : Type 0} (a : Option A) → or_else a none ≡ a
or_none_lem none = refl
or_none_lem (some a) = refl

-- nothing; or the client goes on with `x` given and these packets on the stream
pub data Did (g : Deal) (mode : Mode) (srm : Bool) (sent : List (List ℕ)) (ab : Bool) (h : Heard) (l : Link) (m : Move) : Type 0 where
  still : Quiet l m → shown.aborts l m ≡ false → Did g mode srm sent ab h l m
  went : (mode' : Mode) (sent' : List (List ℕ)) (ab' : Bool) (c : Client) (s : Stores) (o : Outcome) (x : List ℕ) (f : Bool) (ps : List Post)
      → move l m ≡ link_with c s o l.server l.told (l.up ++ wires ps) l.down → heard_after h l m ≡ heard_of h (h.given ++ x) f
      → (ab || shown.aborts l m) ≡ ab' → Stands g.job srm sent' ab' (h.given ++ x) f c s o mode' → c.begun ≡ l.client.begun
      → AllGood g.job ps → ((xs : List (List Header)) → HoldsIn mode sent xs → HoldsIn mode' sent' (xs ++ heads ps))
      → ((qs : List Post) → Order mode srm qs → Order mode' srm (qs ++ ps)) → (IsFinal mode → ⊥) → Did g mode srm sent ab h l m

-- a client that awaits a response: nothing, or the user has aborted
pub data Flag (g : Deal) (mode : Mode) (srm : Bool) (sent : List (List ℕ)) (ab : Bool) (h : Heard) (l : Link) (m : Move) : Type 0 where
  stayed : Quiet l m → shown.aborts l m ≡ false → Flag g mode srm sent ab h l m
  flagged : (c : Client) → move l m ≡ link_with c l.stores said.WantsBytes l.server l.told l.up l.down → heard_after h l m ≡ h
      → (ab || shown.aborts l m) ≡ true → Stands g.job srm sent true h.given h.final c l.stores said.WantsBytes mode
      → c.begun ≡ l.client.begun → (IsFinal mode → ⊥) → Flag g mode srm sent ab h l m

-- ---- the guard

-- what a call leaves of the client and of its stores
pub keeps_on : (j : Job) (c e : Client) (s t : Stores) → Keeps j c s → short t ≡ false → e.begun < 65535 → e.length ≤ 65535
    → e.settings ≡ c.settings
    → e.remote_max_packet_length ≡ c.remote_max_packet_length → e.connection_id ≡ c.connection_id → t.headers ≡ s.headers
    → 65535 ≤ length t.request → Keeps j e t
keeps_on j c e s t k room begun latest settings remote id headers request =
    record {
      room = room;
      begun = begun;
      latest = latest;
      least = omega (arith, k.least, remote);
      settings = settings ∙ k.settings;
      remote = remote ∙ k.remote;
      capacity = ap (λ (n : ℕ). n - 3) remote ∙ k.capacity;
      id = id ∙ k.id;
      wanted = ap (λ (x : Settings). x.srm_wanted) settings ∙ k.wanted;
      headers = headers ∙ k.headers;
      request = request;
    }

-- a call that fits goes
pub passes : (c : Client) (s : Stores) (f : Bool) (m : Stepped) → short s ≡ false → sound c ≡ true → f ≡ true → guarded f c s m ≡ m
passes c s f m a b e = simp (a, b, e)

pub keeps_as : (j : Job) (c : Client) (s : Stores) (o : Operation) → Keeps j c s → c.operation ≡ o → sound_operation o ≡ true → sound c ≡ true
keeps_as j c s o k e w = keeps-sound j c s k (ap sound_operation e ∙ w)

waits-sound : (j : Job) (srm : Bool) (sent : List (List ℕ)) (d : List ℕ) (c : Client) (o : Outcome) (s : Stores) → Keeps j c s
    → Waits j srm sent d c o s → sound c ≡ true
waits-sound j srm sent d c o s k a =
    keeps_as j c s (Requesting kind.Put a.made.packet.outgoing a.made.packet.chunk srm a.initial a.last) k a.operation
    (counts-sound a.made.packet.outgoing a.made.packet.chunk a.counts)

asks-sound : (j : Job) (srm : Bool) (sent : List (List ℕ)) (d : List ℕ) (c : Client) (o : Outcome) (s : Stores) → Keeps j c s
    → Asks j srm sent d c o s → sound c ≡ true
asks-sound j srm sent d c o s k a =
    keeps_as j c s (Requesting kind.Put a.made.packet.outgoing a.made.packet.chunk srm a.initial false) k a.operation
    (counts-sound a.made.packet.outgoing a.made.packet.chunk a.counts)

-- a call that does not fit changes nothing
none-aborts : (l : Link) (u : UserCall) → user_fits l.client u ≡ false → shown.aborts l (user u) ≡ false
none-aborts l (connect hs) e = refl
none-aborts l (get hs) e = refl
none-aborts l (disconnect hs) e = refl
none-aborts l (putCall hs has) e = refl
none-aborts l (body d) e = refl
none-aborts l abort e = user-refused l abort e
none-aborts l partTaken e = refl

unfit : (g : Deal) (mode : Mode) (srm : Bool) (sent : List (List ℕ)) (ab : Bool) (h : Heard) (l : Link) (u : UserCall)
    → user_fits l.client u ≡ false
    → Did g mode srm sent ab h l (user u)
unfit g mode srm sent ab h l u e = still (quiet-user l u e) (none-aborts l u e)

-- the user's calls but an Abort, while this is awaited
abbrev fits_at : Await → UserCall → Bool
fits_at a (connect hs) = same_await a await.Call
fits_at a (get hs) = same_await a await.Call
fits_at a (disconnect hs) = same_await a await.Call
fits_at a (putCall hs has) = same_await a await.Call
fits_at a (body d) = same_await a await.Body
fits_at a abort = false
fits_at a partTaken = same_await a await.Taken

-- an Abort fits or not
fits_as : (c : Client) (a : Await) (u : UserCall) → c.awaits ≡ a → fits_at a u ≡ false → abort_fits c ≡ false → user_fits c u ≡ false
fits_as c a (connect hs) e k n = ap (λ (x : Await). same_await x await.Call) e ∙ k
fits_as c a (get hs) e k n = ap (λ (x : Await). same_await x await.Call) e ∙ k
fits_as c a (disconnect hs) e k n = ap (λ (x : Await). same_await x await.Call) e ∙ k
fits_as c a (putCall hs has) e k n = ap (λ (x : Await). same_await x await.Call) e ∙ k
fits_as c a (body d) e k n = ap (λ (x : Await). same_await x await.Body) e ∙ k
fits_as c a abort e k n = n
fits_as c a partTaken e k n = ap (λ (x : Await). same_await x await.Taken) e ∙ k

none-fits : (u : UserCall) → (fits_at await.Bytes u ≡ false) × (fits_at await.Sent u ≡ false)
none-fits (connect hs) = (refl, refl)
none-fits (get hs) = (refl, refl)
none-fits (disconnect hs) = (refl, refl)
none-fits (putCall hs has) = (refl, refl)
none-fits (body d) = (refl, refl)
none-fits abort = (refl, refl)
none-fits partTaken = (refl, refl)

and_no : (t : Bool) → (t && false) ≡ false
and_no true = refl
and_no false = refl

no_abort : (c : Client) (o : Operation) (a : Await) → c.operation ≡ o → c.awaits ≡ a → may_abort o a ≡ false → abort_fits c ≡ false
no_abort c o a e f n = ap (λ (t : Bool). not c.aborting && t) (ap₂ may_abort e f ∙ n) ∙ and_no (not c.aborting)

-- once is enough
pub no_second : (c : Client) → c.aborting ≡ true → abort_fits c ≡ false
no_second c e = ap (λ (t : Bool). not t && may_abort c.operation c.awaits) e

-- ---- an Abort

-- it can be read
pub cancels : (id : ConnectionId) → Cancels (packet_bytes (byte_of op.Abort true) [] (leading id false))
unfolding packet_bytes leading first_byte named byte_of
cancels id =
    let q = packet_bytes (byte_of op.Abort true) [] (leading id false) in
    let n = lead-small id false in
    let w : IsWhole q = record { least = omega arith; most = omega (arith, n); field = omega (arith, n) } in
    record {
      whole = w;
      headers = leading_headers id false;
      reads = request-read q op.Abort true (leading_headers id false) refl refl w.least
          (read-written (leading_headers id false) q 3 (lead_shaped id false) refl);
    }

-- it takes the place of what was made
pub stops : (j : Job) (srm : Bool) (sent : List (List ℕ)) (ab : Bool) (d : List ℕ) (c : Client) (s : Stores) → Keeps j c s → ab ≡ true
    → let x = sends_abort c s in Aborts j srm sent ab d false x.client x.stores x.outcome
unfolding sends_abort client_with
stops j srm sent ab d c s k e =
    let q = packet_bytes (byte_of op.Abort true) [] (leading j.id false) in
    let p = packet_bytes (byte_of op.Abort true) [] (leading c.connection_id false) in
    let i : p ≡ q = ap (λ (x : ConnectionId). packet_bytes (byte_of op.Abort true) [] (leading x false)) k.id in
    let n : length p ≤ 65535 = subst (λ (x : List ℕ). length x ≤ 65535) (sym i) (cancels j.id).whole.most in
    let f : length (front p s.request) ≡ length s.request = front_length p s.request (omega (arith, n, k.request)) in
    record {
      keeps =
          keeps_on j c (sends_abort c s).client s (with_request s (front p s.request)) k
          (room-kept s (front p s.request) k.room (omega (arith, f, k.request))) (omega arith) k.latest refl refl refl refl
          (omega (arith, f, k.request));
      operation = refl;
      awaits = refl;
      said = ap (λ (x : List ℕ). said.Send (length x)) i;
      request = subst (λ (x : List ℕ). take (length x) (front p s.request) ≡ x) i (take-append_seam p (drop (length p) s.request));
      stays = refl;
      gone = e;
      final = refl;
    }

module _ (g : Deal) (srm : Bool) (sent : List (List ℕ)) (h : Heard) (l : Link) (k : Keeps g.job l.client l.stores)
    (stays : l.client.aborting ≡ false)
    (w : sound l.client ≡ true) (may : may_abort l.client.operation l.client.awaits ≡ true) where
  abort_step_lem : abort_step l.client l.stores ≡ after 0 (abort_for l.client.awaits l.client l.stores)
  unfolding abort_step
  abort_step_lem =
      let c = l.client in
      let e : abort_fits c ≡ true = ap (λ (t : Bool). not t && may_abort c.operation c.awaits) stays ∙ may in
      simp (k.room, w, e)

  -- in place of a packet that waits or is being made
  abort_places : (mode : Mode) → ((qs : List Post) → Order mode srm qs → Streams srm qs) → (IsFinal mode → ⊥)
      → abort_for l.client.awaits l.client l.stores ≡ sends_abort l.client l.stores → l.client.begun ≡ 0 → h.final ≡ false
      → Did g mode srm sent false h l (user abort)
  unfolding move sends_abort client_with
  abort_places mode order fin e b hf =
      let x = sends_abort l.client l.stores in
      let m = abort_step_lem ∙ ap (after 0) e in
      went aborts sent true x.client x.stores x.outcome [] false []
      (ap (λ (y : Stepped). client_did l y l.up l.down) m
      ∙ ap (λ (u : List ℕ). link_with x.client x.stores x.outcome l.server l.told u l.down) (sym (append-nil l.up)))
      (λ t. record {
        records = append-nil h.records t;
        answer = or_none_lem h.answer t;
        last = h.last;
        given = h.given ++ [];
        final = (or_false h.final ∙ hf) t;
      })
      (ap (λ (y : Stepped). not (is_refused y.took.outcome)) m)
      (stops g.job srm sent true (h.given ++ []) l.client l.stores k refl)
      (sym b) tt (λ xs w. tt) (λ qs w. subst (Streams srm) (sym (append-nil qs)) (order qs w)) fin

-- ---- a packet waits

pub sent_for_lem : (o : Operation) (c : Client) (s : Stores) (x : Outgoing) (y : Chunk) (srm i last : Bool) → o ≡ Requesting kind.Put x y srm i last
    → sent_for o c s ≡ pick (srm && not last) (requests_next c kind.Put srm i x s) (wants c c.operation false s)
sent_for_lem o c s x y srm i last e = ap (λ (p : Operation). sent_for p c s) e

put-final : (last : Bool) → eqb (byte_of op.Put last) (byte_of op.Put true) ≡ last
unfolding byte_of
put-final true = refl
put-final false = refl

all_more : (ps : List Post) (p : Post) → AllMore ps → AllMore (p ∷ []) → AllMore (ps ++ (p ∷ []))
all_more [] p a b = b
all_more (x ∷ ps) p a b = (a.0, all_more ps p a.1 b)

-- what is heard of a packet that goes
heard-sent : (h : Heard) (l : Link) (f : Bool) → h.final ≡ false → is_final_put l.said l.stores.request ≡ f
    → heard_after h l sendUp ≡ heard_of h (h.given ++ []) f
heard-sent h l f hf e =
    λ t. record {
      records = append-nil h.records t;
      answer = or_none_lem h.answer t;
      last = h.last;
      given = h.given ++ [];
      final = (ap (λ (b : Bool). b || is_final_put l.said l.stores.request) hf ∙ e) t;
    }

-- the link after a call of the client that put bytes onto the stream
send_link : (l : Link) (n : ℕ) (d : Done) (q r : List ℕ) → l.said ≡ said.Send n → short l.stores ≡ false → sound l.client ≡ true
    → l.client.awaits ≡ await.Sent → sent_for l.client.operation l.client l.stores ≡ d → take n l.stores.request ≡ q → r ≡ q ++ []
    → move l sendUp ≡ link_with d.client d.stores (said_after l.said d.outcome) l.server l.told (l.up ++ r) l.down
unfolding move request_sent_step
send_link l n d q r e a b i f t k =
    let c = l.client in
    let s = l.stores in
    ap (λ (o : Outcome). up_after o l) e
    ∙ ap (λ (m : Stepped). client_did l m (l.up ++ take n s.request) l.down)
    (passes c s (awaiting c await.Sent) (after 0 (sent_for c.operation c s)) a b (ap (λ (x : Await). same_await x await.Sent) i) ∙ ap (after 0) f)
    ∙ ap (λ (x : List ℕ). link_with d.client d.stores (said_after l.said d.outcome) l.server l.told (l.up ++ x) l.down) (t
    ∙ sym (append-nil q) ∙ sym k)

module _ (g : Deal) (srm : Bool) (sent : List (List ℕ)) (ab : Bool) (h : Heard) (l : Link) (b : l.client.begun ≡ 0)
    (w : Sends g.job srm sent ab h.given h.final l.client l.stores l.said) where
  sends-sound : sound l.client ≡ true
  sends-sound = waits-sound g.job srm sent h.given l.client l.said l.stores w.keeps w.waits

  -- the packet as it was made and as it goes
  abbrev made' : List ℕ
  made' = made_packet g.job srm sent h.given l.client l.said l.stores w.keeps w.waits

  abbrev wire' : List ℕ
  wire' = sent_packet g.job srm sent h.given l.client l.said l.stores w.keeps w.waits

  up : (x : List Header) × Up g.job w.waits.initial wire' w.waits.last made' x
  up = goes_up g.job srm sent h.given l.client l.said l.stores w.keeps w.waits

  abbrev post : Post
  post = put wire' made' up.0 w.waits.last w.waits.initial

  same-given : h.given ≡ h.given ++ []
  same-given = sym (append-nil h.given)

  final_is : is_final_put l.said l.stores.request ≡ w.waits.last
  final_is =
      let a = w.waits in
      ap (λ (o : Outcome). is_final_put o l.stores.request) a.said
      ∙ ap (λ (y : List ℕ). eqb (get_or y 0 0) (byte_of op.Put true)) a.request
      ∙ ap (λ (n : ℕ). eqb n (byte_of op.Put true)) (get_or-set_same a.made.reply 0 (byte_of op.Put a.last) 0 (omega (arith, a.making.long)))
      ∙ put-final a.last

  sent-link : (d : Done) → sent_for l.client.operation l.client l.stores ≡ d
      → move l sendUp ≡ link_with d.client d.stores (said_after l.said d.outcome) l.server l.told (l.up ++ wires (post ∷ []))
      l.down
  sent-link d e =
      let a = w.waits in
      send_link l a.size d wire' (wires (post ∷ [])) a.said w.keeps.room sends-sound a.awaits e (ap (take a.size) a.request) refl

  holds_more : (xs : List (List Header)) → Holding sent xs → Holding (sent ++ (made' ∷ [])) (xs ++ (up.0 ∷ []))
  holds_more xs e = holding-more sent xs made' up.0 e up.1.holds up.1.shaped

  -- the response is awaited
  sent-due : (srm && not w.waits.last) ≡ false → Did g sends srm sent ab h l sendUp
  unfolding client_with
  sent-due e =
      let a = w.waits in
      let c = l.client in
      let k = w.keeps in
      let d = wants c c.operation false l.stores in
      let f = sent_for_lem c.operation c l.stores a.made.packet.outgoing a.made.packet.chunk srm a.initial a.last a.operation
      ∙ ap (λ (t : Bool). pick t (requests_next c kind.Put srm a.initial a.made.packet.outgoing l.stores) d) e in
      went (awaits a.last a.initial) (sent ++ (made' ∷ [])) ab d.client l.stores said.WantsBytes [] a.last (post ∷ [])
      (sent-link d f) (heard-sent h l a.last w.final final_is) (or_false ab)
      (subst (λ (x : List ℕ). Due g.job srm (sent ++ (made' ∷ [])) ab x a.last d.client l.stores said.WantsBytes a.last a.initial)
      same-given
      (record {
        keeps =
            keeps_on g.job c d.client l.stores l.stores k k.room (omega arith) k.latest refl refl refl refl k.request;
        answered = sent-answered g.job srm sent h.given c l.said l.stores k a a.last refl e;
        awaits = refl;
        said = refl;
        flag = sym w.plain;
        stays = λ i. w.plain;
        final = refl;
      }))
      (sym b) (up.1, tt) holds_more (λ qs o. record {
        wire = wire';
        made = made';
        headers = up.0;
        closing = record
            { before = qs; is = refl; streams = o };
      }) (λ x. x)

  -- under SRM the next packet follows at once
  sent_on : srm ≡ true → w.waits.last ≡ false → Did g sends srm sent ab h l sendUp
  sent_on s e =
      let a = w.waits in
      let c = l.client in
      let k = w.keeps in
      let o = a.made.packet.outgoing in
      let d = requests_next c kind.Put srm false o l.stores in
      let t : (srm && not a.last) ≡ true = ap₂ (λ (x y : Bool). x && not y) s e in
      let f : sent_for c.operation c l.stores ≡ d =
      sent_for_lem c.operation c l.stores o a.made.packet.chunk srm a.initial a.last a.operation
      ∙ ap (λ (t : Bool). pick t (requests_next c kind.Put srm a.initial o l.stores) (wants c c.operation false l.stores)) t
      ∙ ap (λ (i : Bool). requests_next c kind.Put srm i o l.stores) (a.later s) in
      by d f (next-leads g.job srm (sent ++ (made' ∷ [])) h.given c l.stores k
      (sent-rest g.job srm sent h.given c l.said l.stores k a e))
    where
      order : (qs : List Post) → Streams srm qs → Streams srm (qs ++ (post ∷ []))
      order qs o = (all_more qs post o.0 (e, tt), λ n. absurd (true≢false (sym s ∙ n)))

      heard : heard_after h l sendUp ≡ heard_of h (h.given ++ []) false
      heard = heard-sent h l false w.final (final_is ∙ e)

      by : (d : Done) → sent_for l.client.operation l.client l.stores ≡ d → Leads g.job srm (sent ++ (made' ∷ [])) h.given d
          → Did g sends srm sent ab h l sendUp
      by d f (waits k v z) =
          let i : said_after l.said d.outcome ≡ d.outcome = rw v.said in
          went sends (sent ++ (made' ∷ [])) ab d.client d.stores d.outcome [] false (post ∷ [])
          (sent-link d f ∙ ap (λ (o : Outcome). link_with d.client d.stores o l.server l.told (l.up ++ wires (post ∷ [])) l.down) i)
          heard (or_false ab)
          (subst (λ (x : List ℕ). Sends g.job srm (sent ++ (made' ∷ [])) ab x false d.client d.stores d.outcome) same-given
          (record { keeps = k; waits = v; plain = w.plain; final = refl }))
          (z ∙ sym b) (up.1, tt) holds_more order (λ x. x)
      by d f (asks k v z) =
          let i : said_after l.said d.outcome ≡ d.outcome = rw v.said in
          went reads (sent ++ (made' ∷ [])) ab d.client d.stores d.outcome [] false (post ∷ [])
          (sent-link d f ∙ ap (λ (o : Outcome). link_with d.client d.stores o l.server l.told (l.up ++ wires (post ∷ [])) l.down) i)
          heard (or_false ab)
          (subst (λ (x : List ℕ). Reads g.job srm (sent ++ (made' ∷ [])) ab x false d.client d.stores d.outcome) same-given
          (record { keeps = k; asks = v; plain = w.plain; final = refl }))
          (z ∙ sym b) (up.1, tt) holds_more order (λ x. x)

  pub send_did : Did g sends srm sent ab h l sendUp
  send_did = by srm w.waits.last refl refl
    where
      by : (t u : Bool) → srm ≡ t → w.waits.last ≡ u → Did g sends srm sent ab h l sendUp
      by true false s e = sent_on s e
      by true true s e = sent-due (ap₂ (λ (x y : Bool). x && not y) s e)
      by false u s e = sent-due (ap (λ (x : Bool). x && not w.waits.last) s)

  -- the user's calls: an Abort takes the packet's place
  pub sends-user : (u : UserCall) → Did g sends srm sent ab h l (user u)
  sends-user u = by u
    where
      other : (u : UserCall) → user_fits l.client u ≡ false → Did g sends srm sent ab h l (user u)
      other u e = unfit g sends srm sent ab h l u e

      by : (u : UserCall) → Did g sends srm sent ab h l (user u)
      by (connect hs) = other (connect hs) (ap (λ (x : Await). same_await x await.Call) w.waits.awaits)
      by (get hs) = other (get hs) (ap (λ (x : Await). same_await x await.Call) w.waits.awaits)
      by (disconnect hs) = other (disconnect hs) (ap (λ (x : Await). same_await x await.Call) w.waits.awaits)
      by (putCall hs has) = other (putCall hs has) (ap (λ (x : Await). same_await x await.Call) w.waits.awaits)
      by (body d) = other (body d) (ap (λ (x : Await). same_await x await.Body) w.waits.awaits)
      by partTaken = other partTaken (ap (λ (x : Await). same_await x await.Taken) w.waits.awaits)
      by abort =
          subst (λ (t : Bool). Did g sends srm sent t h l (user abort)) (sym w.plain)
          (abort_places g srm sent h l w.keeps w.waits.stays sends-sound (ap₂ may_abort w.waits.operation w.waits.awaits) sends
          (λ qs o. o) (λ x. x) (ap (λ (x : Await). abort_for x l.client l.stores) w.waits.awaits) b w.final)

-- ---- body bytes are asked for

body_for_lem : (o : Operation) (c : Client) (d : List ℕ) (s : Stores) (x : Outgoing)
    (y : Chunk) (srm i last : Bool) → o ≡ Requesting kind.Put x y srm i last
    → body_for o c d s ≡ pick (ltb y.room (length d)) (refuse refusal.WrongMoment c s)
    (after 0 (requests c kind.Put srm i (body_given_of x y d s.request) s))
body_for_lem o c d s x y srm i last e = ap (λ (p : Operation). body_for p c d s) e

module _ (g : Deal) (srm : Bool) (sent : List (List ℕ)) (ab : Bool) (h : Heard) (l : Link) (b : l.client.begun ≡ 0)
    (w : Reads g.job srm sent ab h.given h.final l.client l.stores l.said) where
  reads-sound : sound l.client ≡ true
  reads-sound = asks-sound g.job srm sent h.given l.client l.said l.stores w.keeps w.asks

  -- what is made with the bytes
  abbrev body_made : List ℕ → Done
  body_made d = requests l.client kind.Put srm w.asks.initial
      (body_given_of w.asks.made.packet.outgoing w.asks.made.packet.chunk d l.stores.request) l.stores

  body-step : (d : List ℕ) → body_given_step l.client d l.stores
      ≡ pick (ltb w.asks.made.packet.chunk.room (length d)) (refuse refusal.WrongMoment l.client l.stores) (after 0 (body_made d))
  unfolding body_given_step
  body-step d =
      let c = l.client in
      let s = l.stores in
      let a = w.asks in
      passes c s (awaiting c await.Body) (body_for c.operation c d s) w.keeps.room reads-sound
      (ap (λ (x : Await). same_await x await.Body) a.awaits)
      ∙ body_for_lem c.operation c d s a.made.packet.outgoing a.made.packet.chunk srm a.initial false a.operation

  -- what is heard of bytes that were taken
  heard-given : (d : List ℕ) → shown.goes l (body d) ≡ true → heard_after h l (user (body d)) ≡ heard_of h (h.given ++ d) false
  heard-given d e =
      (λ i. record {
        records = append-nil h.records i;
        answer = or_none_lem h.answer i;
        last = h.last;
        given = ap (λ (t : Bool). h.given ++ pick t d []) e i;
        final = (or_false h.final ∙ w.final) i;
      })

  body-leads : (d : List ℕ) (x : Done) → body_given_step l.client d l.stores ≡ after 0 x → Leads g.job srm sent (h.given ++ d) x
      → Did g reads srm sent ab h l (user (body d))
  unfolding move
  body-leads d x m (waits k v z) =
      let i : said_after l.said x.outcome ≡ x.outcome = rw v.said in
      went sends sent ab x.client x.stores x.outcome d false []
      (ap (λ (y : Stepped). client_did l y l.up l.down) m
      ∙ ap₂ (λ (o : Outcome) (u : List ℕ). link_with x.client x.stores o l.server l.told u l.down) i (sym (append-nil l.up)))
      (heard-given d (ap (λ (y : Stepped). not (is_refused y.took.outcome)) m ∙ ap (λ (o : Outcome). not (is_refused o)) v.said)) (or_false ab)
      (record { keeps = k; waits = v; plain = w.plain; final = refl }) (z ∙ sym b) tt
      (λ xs e. subst (Holding sent) (sym (append-nil xs)) e) (λ qs o. subst (Streams srm) (sym (append-nil qs)) o) (λ y. y)
  body-leads d x m (asks k v z) =
      let i : said_after l.said x.outcome ≡ x.outcome = rw v.said in
      went reads sent ab x.client x.stores x.outcome d false []
      (ap (λ (y : Stepped). client_did l y l.up l.down) m
      ∙ ap₂ (λ (o : Outcome) (u : List ℕ). link_with x.client x.stores o l.server l.told u l.down) i (sym (append-nil l.up)))
      (heard-given d (ap (λ (y : Stepped). not (is_refused y.took.outcome)) m ∙ ap (λ (o : Outcome). not (is_refused o)) v.said)) (or_false ab)
      (record { keeps = k; asks = v; plain = w.plain; final = refl }) (z ∙ sym b) tt
      (λ xs e. subst (Holding sent) (sym (append-nil xs)) e) (λ qs o. subst (Streams srm) (sym (append-nil qs)) o) (λ y. y)

  body-did : (d : List ℕ) → Did g reads srm sent ab h l (user (body d))
  body-did d = by (ltb w.asks.made.packet.chunk.room (length d)) refl
    where
      by : (t : Bool) → ltb w.asks.made.packet.chunk.room (length d) ≡ t → Did g reads srm sent ab h l (user (body d))
      by true e =
          let m = body-step d ∙ ap (λ (t : Bool). pick t (refuse refusal.WrongMoment l.client l.stores) (after 0 (body_made d))) e in
          still (quiet-refused l (body d) (ap (λ (s : Stepped). not (is_refused s.took.outcome)) m)) refl
      by false e =
          body-leads d (body_made d) (body-step d ∙ ap (λ (t : Bool). pick t (refuse refusal.WrongMoment l.client l.stores)
          (after 0 (body_made d))) e)
          (given-leads g.job srm sent h.given d l.client l.said l.stores w.keeps w.asks (ltb-false _ _ e))

  pub reads-user : (u : UserCall) → Did g reads srm sent ab h l (user u)
  reads-user (connect hs) = unfit g reads srm sent ab h l (connect hs) (ap (λ (x : Await). same_await x await.Call) w.asks.awaits)
  reads-user (get hs) = unfit g reads srm sent ab h l (get hs) (ap (λ (x : Await). same_await x await.Call) w.asks.awaits)
  reads-user (disconnect hs) = unfit g reads srm sent ab h l (disconnect hs) (ap (λ (x : Await). same_await x await.Call) w.asks.awaits)
  reads-user (putCall hs has) = unfit g reads srm sent ab h l (putCall hs has) (ap (λ (x : Await). same_await x await.Call) w.asks.awaits)
  reads-user (body d) = body-did d
  reads-user partTaken = unfit g reads srm sent ab h l partTaken (ap (λ (x : Await). same_await x await.Taken) w.asks.awaits)
  reads-user abort =
      subst (λ (t : Bool). Did g reads srm sent t h l (user abort)) (sym w.plain)
      (abort_places g srm sent h l w.keeps w.asks.stays reads-sound (ap₂ may_abort w.asks.operation w.asks.awaits) reads
      (λ qs o. o) (λ x. x) (ap (λ (x : Await). abort_for x l.client l.stores) w.asks.awaits) b w.final)

-- ---- the Abort waits

-- the first byte of what stands at the front
first_of : (n x : ℕ) (y rest : List ℕ) → take n y ≡ x ∷ rest → get_or y 0 0 ≡ x
first_of zero x y rest e = let z : ◌≡◌ {A = ℕ} 0 1 = cc in absurd (omega arith)
first_of (suc n) x [] rest e = let z : ◌≡◌ {A = ℕ} 0 1 = cc in absurd (omega arith)
first_of (suc n) x (a ∷ y) rest e = cc

module _ (g : Deal) (srm : Bool) (sent : List (List ℕ)) (ab : Bool) (h : Heard) (l : Link) (b : l.client.begun ≡ 0)
    (w : Aborts g.job srm sent ab h.given h.final l.client l.stores l.said) where
  abbrev stop : List ℕ
  stop = abort_bytes g.job srm sent ab h.given h.final l.client l.stores l.said

  not-final : is_final_put l.said l.stores.request ≡ false
  unfolding packet_bytes byte_of
  not-final =
      ap (λ (o : Outcome). is_final_put o l.stores.request) w.said
      ∙ ap (λ (n : ℕ). eqb n (byte_of op.Put true)) (first_of (length stop) (byte_of op.Abort true) l.stores.request (drop 1 stop) w.request)

  pub cancel_did : Did g aborts srm sent ab h l sendUp
  unfolding client_with
  cancel_did =
      let c = l.client in
      let k = w.keeps in
      let d = wants c c.operation false l.stores in
      let f : sent_for c.operation c l.stores ≡ d = ap (λ (o : Operation). sent_for o c l.stores) w.operation in
      went aborted sent ab d.client l.stores said.WantsBytes [] false (cancel stop ∷ [])
      (send_link l (length stop) d stop (wires (cancel stop ∷ [])) w.said k.room
      (keeps_as g.job c l.stores Aborting k w.operation refl) w.awaits f w.request refl)
      (heard-sent h l false w.final not-final) (or_false ab)
      (record {
        keeps =
            keeps_on g.job c d.client l.stores l.stores k k.room (omega arith) k.latest refl refl refl refl k.request;
        operation = w.operation;
        awaits = refl;
        said = refl;
        stays = refl;
        gone = w.gone;
        final = refl;
      })
      (sym b) (cancels g.job.id, tt) (λ xs e. tt)
      (λ qs o. record { wire = stop; closing = record { before = qs; is = refl; streams = o } }) (λ x. x)

  pub aborts-user : (u : UserCall) → Did g aborts srm sent ab h l (user u)
  aborts-user u =
      unfit g aborts srm sent ab h l u
      (fits_as l.client await.Sent u w.awaits (none-fits u).1 (no_abort l.client Aborting await.Sent w.operation w.awaits refl))

-- ---- a response is awaited

-- what is awaited stays with the operation
abbrev pub answered_as : (last : Bool) (j : Job) (srm initial : Bool) (sent : List (List ℕ)) (d : List ℕ) (c e : Client) → e.operation ≡ c.operation
    → Answered last j srm initial sent d c → Answered last j srm initial sent d e
answered_as true j srm initial sent d c e i a =
    record { outgoing = a.outgoing; chunk = a.chunk; so_far = a.so_far; counts = a.counts; operation = i ∙ a.operation }
answered_as false j srm initial sent d c e i a = record { single = a.single; rest = a.rest; operation = i ∙ a.operation }

still-flag : (g : Deal) (mode : Mode) (srm : Bool) (sent : List (List ℕ)) (ab : Bool) (h : Heard) (l : Link) (u : UserCall)
    → user_fits l.client u ≡ false
    → Flag g mode srm sent ab h l (user u)
still-flag g mode srm sent ab h l u e = stayed (quiet-user l u e) (none-aborts l u e)

module _ (g : Deal) (srm : Bool) (sent : List (List ℕ)) (ab : Bool) (h : Heard) (l : Link) where
  -- the state is sound, and an Abort fits before the last packet
  due-sound : (last initial : Bool) → Due g.job srm sent ab h.given h.final l.client l.stores l.said last initial
      → (sound l.client ≡ true) × (may_abort l.client.operation l.client.awaits ≡ not last)
  due-sound true initial w =
      let a = w.answered in (
        keeps_as g.job l.client l.stores (Requesting kind.Put a.outgoing a.chunk srm initial true) w.keeps a.operation
            (counts-sound a.outgoing a.chunk a.counts),
        ap₂ may_abort a.operation w.awaits,
      )
  due-sound false initial w =
      let a = w.answered in
      let r = a.rest in (
        keeps_as g.job l.client l.stores (Requesting kind.Put r.outgoing r.chunk false initial false) w.keeps a.operation
            (counts-sound r.outgoing r.chunk r.counts),
        ap₂ may_abort a.operation w.awaits,
      )

  -- the user aborts: the response comes first
  due_abort : (initial : Bool) → Due g.job srm sent ab h.given h.final l.client l.stores l.said false initial → ab ≡ false
      → Flag g (awaits false initial) srm sent ab h l (user abort)
  unfolding move client_with
  due_abort initial w e =
      let c = l.client in
      let k = w.keeps in
      let v = due-sound false initial w in
      let m : abort_step c l.stores ≡ after 0 (awaits_first c l.stores) =
      abort_step_lem g srm sent h l k (w.flag ∙ e) v.0 v.1 ∙ ap (λ (x : Await). after 0 (abort_for x c l.stores)) w.awaits in
      let a : shown.goes l abort ≡ true = ap (λ (x : Stepped). not (is_refused x.took.outcome)) m in
      flagged (awaits_first c l.stores).client (ap (λ (x : Stepped). client_did l x l.up l.down) m) (silent h)
      (ap₂ (λ (x y : Bool). x || y) e a)
      (record {
        keeps =
            keeps_on g.job c (awaits_first c l.stores).client l.stores l.stores k k.room k.begun k.latest refl refl refl refl
            k.request;
        answered = record { single = w.answered.single; rest = w.answered.rest; operation = w.answered.operation };
        awaits = refl;
        said = refl;
        flag = refl;
        stays = λ i. absurd (false≢true i);
        final = w.final;
      })
      refl (λ i. false≢true i)

  -- whether it fits
  due-fits : (last initial : Bool) → Due g.job srm sent ab h.given h.final l.client l.stores l.said last initial
      → abort_fits l.client ≡ (not ab && not last)
  due-fits last initial w = ap₂ (λ (x y : Bool). not x && y) w.flag (due-sound last initial w).1

  pub due-user : (last initial : Bool) → Due g.job srm sent ab h.given h.final l.client l.stores l.said last initial
      → (u : UserCall)
      → Flag g (awaits last initial) srm sent ab h l (user u)
  due-user last initial w u = by last ab refl refl w
    where
      none : (last : Bool) → Due g.job srm sent ab h.given h.final l.client l.stores l.said last initial
          → (not ab && not last) ≡ false
          → Flag g (awaits last initial) srm sent ab h l (user u)
      none last w e =
          still-flag g (awaits last initial) srm sent ab h l u
          (fits_as l.client await.Bytes u w.awaits (none-fits u).0 (due-fits last initial w ∙ e))

      at : (u : UserCall) → Due g.job srm sent ab h.given h.final l.client l.stores l.said false initial → ab ≡ false
          → Flag g (awaits false initial) srm sent ab h l (user u)
      at (connect hs) w e = still-flag g (awaits false initial) srm sent ab h l (connect hs) (ap (λ (x : Await). same_await x await.Call) w.awaits)
      at (get hs) w e = still-flag g (awaits false initial) srm sent ab h l (get hs) (ap (λ (x : Await). same_await x await.Call) w.awaits)
      at (disconnect hs) w e = still-flag g (awaits false initial) srm sent ab h l (disconnect hs)
          (ap (λ (x : Await). same_await x await.Call) w.awaits)
      at (putCall hs has) w e = still-flag g (awaits false initial) srm sent ab h l (putCall hs has)
          (ap (λ (x : Await). same_await x await.Call) w.awaits)
      at (body d) w e = still-flag g (awaits false initial) srm sent ab h l (body d) (ap (λ (x : Await). same_await x await.Body) w.awaits)
      at partTaken w e = still-flag g (awaits false initial) srm sent ab h l partTaken (ap (λ (x : Await). same_await x await.Taken) w.awaits)
      at abort w e = due_abort initial w e

      by : (t v : Bool) → last ≡ t → ab ≡ v → Due g.job srm sent ab h.given h.final l.client l.stores l.said t initial
          → Flag g (awaits t initial) srm sent ab h l (user u)
      by true v i e w = none true w (and_no (not ab))
      by false true i e w = none false w (ap (λ (x : Bool). not x && true) e)
      by false false i e w = at u w e

  pub aborted-user : Aborted g.job srm sent ab h.given h.final l.client l.stores l.said → (u : UserCall)
      → Flag g aborted srm sent ab h l (user u)
  aborted-user w u =
      still-flag g aborted srm sent ab h l u
      (fits_as l.client await.Bytes u w.awaits (none-fits u).0 (no_abort l.client Aborting await.Bytes w.operation w.awaits refl))

-- ---- by what the client does

-- as any call
flag-did : (g : Deal) (mode : Mode) (srm : Bool) (sent : List (List ℕ)) (ab : Bool) (h : Heard) (l : Link) (m : Move)
    → ((xs : List (List Header)) → HoldsIn mode sent xs → HoldsIn mode sent (xs ++ []))
    → ((qs : List Post) → Order mode srm qs → Order mode srm (qs ++ [])) → Flag g mode srm sent ab h l m → Did g mode srm sent ab h l m
flag-did g mode srm sent ab h l m a b (stayed q n) = still q n
flag-did g mode srm sent ab h l m a b (flagged c e i n w z fin) =
    went mode sent true c l.stores said.WantsBytes [] h.final []
    (e ∙ ap (λ (u : List ℕ). link_with c l.stores said.WantsBytes l.server l.told u l.down) (sym (append-nil l.up)))
    (i ∙ ap (λ (d : List ℕ). heard_of h d h.final) (sym (append-nil h.given))) n
    (subst (λ (d : List ℕ). Stands g.job srm sent true d h.final c l.stores said.WantsBytes mode) (sym (append-nil h.given)) w) z tt a b
    fin

module _ (g : Deal) (srm : Bool) (sent : List (List ℕ)) (ab : Bool) (h : Heard) (l : Link) (b : l.client.begun ≡ 0) where
  pub user-did : (mode : Mode) → Client' g mode srm sent ab h l → (u : UserCall) → Did g mode srm sent ab h l (user u)
  user-did sends w u = sends-user g srm sent ab h l b w u
  user-did reads w u = reads-user g srm sent ab h l b w u
  user-did aborts w u = aborts-user g srm sent ab h l b w u
  user-did (awaits last initial) w u =
      flag-did g (awaits last initial) srm sent ab h l (user u) (λ xs e. subst (Holding sent) (sym (append-nil xs)) e)
      (λ qs o. subst (Closes srm last initial) (sym (append-nil qs)) o) (due-user g srm sent ab h l last initial w u)
  user-did aborted w u =
      flag-did g aborted srm sent ab h l (user u) (λ xs e. tt) (λ qs o. subst (Stops srm) (sym (append-nil qs)) o)
      (aborted-user g srm sent ab h l w u)

  pub send_up_did : (mode : Mode) → Client' g mode srm sent ab h l → Did g mode srm sent ab h l sendUp
  send_up_did sends w = send_did g srm sent ab h l b w
  send_up_did reads w = still (quiet_send_up l (ap is_send w.asks.said)) refl
  send_up_did aborts w = cancel_did g srm sent ab h l b w
  send_up_did (awaits last initial) w = still (quiet_send_up l (ap is_send w.said)) refl
  send_up_did aborted w = still (quiet_send_up l (ap is_send w.said)) refl

-- ---- an Abort before the final packet

module _ (g : Deal) (srm : Bool) (sent : List (List ℕ)) (ab : Bool) (h : Heard) (l : Link) (n : ab ≡ false) (hf : h.final ≡ false) where
  goes_as : (d : Done) → abort_step l.client l.stores ≡ after 0 d → is_refused d.outcome ≡ false → shown.goes l abort ≡ true
  goes_as d e r = ap (λ (x : Stepped). not (is_refused x.took.outcome)) e ∙ ap not r

  pub abort_goes : (mode : Mode) → Client' g mode srm sent ab h l → shown.goes l abort ≡ true
  unfolding sends_abort
  abort_goes sends w =
      goes_as (sends_abort l.client l.stores)
      (abort_step_lem g srm sent h l w.keeps w.waits.stays
      (waits-sound g.job srm sent h.given l.client l.said l.stores w.keeps w.waits)
      (ap₂ may_abort w.waits.operation w.waits.awaits)
      ∙ ap (λ (x : Await). after 0 (abort_for x l.client l.stores)) w.waits.awaits) refl
  abort_goes reads w =
      goes_as (sends_abort l.client l.stores)
      (abort_step_lem g srm sent h l w.keeps w.asks.stays
      (asks-sound g.job srm sent h.given l.client l.said l.stores w.keeps w.asks)
      (ap₂ may_abort w.asks.operation w.asks.awaits)
      ∙ ap (λ (x : Await). after 0 (abort_for x l.client l.stores)) w.asks.awaits) refl
  abort_goes (awaits true initial) w = absurd (true≢false (sym w.final ∙ hf))
  abort_goes (awaits false initial) w =
      let v = due-sound g srm sent ab h l false initial w in
      goes_as (awaits_first l.client l.stores)
      (abort_step_lem g srm sent h l w.keeps (w.flag ∙ n) v.0 v.1
      ∙ ap (λ (x : Await). after 0 (abort_for x l.client l.stores)) w.awaits) refl
  abort_goes aborts w = absurd (true≢false (sym w.gone ∙ n))
  abort_goes aborted w = absurd (true≢false (sym w.gone ∙ n))
