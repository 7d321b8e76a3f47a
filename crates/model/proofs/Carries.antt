-- Each step of the engine hands the Target, the length of the last packet and the packet store on, and only a packet of a Connect or an Abort
-- leads to a request that carries the mark, or to waiting for an answer about a Connect. Assumes nothing.
use mathlib.Core.Path.{◌≡◌, refl, ap}
use mathlib.Core.List.{List, []}
use mathlib.Core.Bool.{Bool, true, false, ◌&&◌, ◌||◌, not}
use mathlib.Core.Option.{Option, none, some}
use Prim.Native.Nat.{ℕ}
use lib.ListN.{length}
use Rattle.std.specs.Prelude.{Some, None}
use Rattle.base.specs.Pick.{pick}
use Rattle.digest.specs.declared.md5.Octets16.{Octets16}
use Rattle.packet.specs.FirstByte.{same_opcode}
use Rattle.packet.specs.Codes.{is_success}
use Rattle.packet.specs.Header.{Header, read_headers, first}
use Rattle.packet.specs.Packet.{Request as Packet, connect_limit}
use Rattle.packet.specs.Auth.{Challenge as PeerChallenge, Response}
use Rattle.packet.specs.declared.opcode.Opcode.{Opcode}
use Rattle.packet.specs.declared.opcode.Opcode.TheVariants as op
use Rattle.journal.specs.Calls.{Credentials, goes}
use Rattle.journal.specs.Journal.{list_of}
use Rattle.incoming.specs.Survey.{survey_of}
use Rattle.incoming.specs.declared.survey.Survey.{Survey}
use Rattle.incoming.specs.declared.gather.Keep.TheVariants as keep
use Rattle.incoming.specs.declared.gather.Gathered.{Gathered}
use Rattle.outgoing.specs.Object.{Made, next_packet}
use Rattle.outgoing.specs.declared.object.Outgoing.{Outgoing}
use Rattle.outgoing.specs.declared.object.Next.{Next}
use Rattle.outgoing.specs.declared.object.Next.TheVariants as next
use Rattle.connection.specs.Reply.{fields_of, send_bytes, front}
use Rattle.connection.specs.Peer.{Linked, limited, checked_peer, verified_peer, challenged_peer, opened_for, ConnectionId, Challenge}
use Rattle.connection.specs.ConnectReply.{answered_challenge}
use Rattle.connection.specs.declared.peer.Peer.{Peer}
use Rattle.server.specs.declared.Operation.{Operation}
use Rattle.server.specs.declared.Operation.TheVariants.{Nothing, Trailing, Putting, Getting, Sending, Gathering as GatheringOp, Connecting, Draining}
use Rattle.server.specs.declared.Await.{Await}
use Rattle.server.specs.declared.Await.TheVariants as await
use Rattle.server.specs.declared.Engine.{Engine}
use Rattle.server.specs.declared.HostRequest.TheVariants as request
use Rattle.server.specs.declared.Outcome.{Outcome}
use Rattle.server.specs.declared.Outcome.TheVariants as outcome
use Rattle.model.specs.Step.{Stores, with_reply, with_gathered, engine_with, Done, done, done_tabled, asks, sent, sends, sends_connect, capacity_of}
use Rattle.model.specs.Request.{last_packet, last_headers, client_response}
use Rattle.model.specs.Operation.{gathers, put_continues, put_packet, get_continues, get_packet, headers_request, headers_packet}
use Rattle.model.specs.Object.{sends_made, sends_packet, sends_next, goes_on_of}
use Rattle.model.specs.Connect.{verifies, stops, connect_packet, srm_asked, connect_sends, front_for, connect_challenged, connect_opened, connect_answer, demands_user, checks, password_answered, password_answer, nonce_answer}
use Rattle.model.specs.Dispatch.{known_in, Rejection, admits, rejects, rejection, drains, dispatches, admitted_as, dispatch, interrupts, trails, inside, busy, read_as, is_marked}
use Rattle.model.specs.Refusals.{verdict_of}
use Rattle.model.specs.Targets.{carries_mark}

-- an answer about a Connect is awaited
abbrev pub connecting : Await → Bool
connecting await.Connect = true
connecting await.Password = true
connecting await.Nonce = true
connecting await.Credentials = true
connecting await.Bytes = false
connecting await.Taken = false
connecting await.Last = false
connecting await.Disconnect = false
connecting await.Get = false
connecting await.Reply = false
connecting await.Acknowledgement = false
connecting await.Body = false
connecting await.Nothing = false

-- a request that carries the mark is returned
abbrev pub asks_marked : Outcome → Bool
asks_marked (outcome.Request r) = carries_mark r
asks_marked outcome.WantsBytes = false
asks_marked (outcome.Reply n) = false
asks_marked (outcome.End n) = false
asks_marked (outcome.Refused r) = false

-- neither
abbrev pub is_plain : Await → Outcome → Bool
is_plain a c = not (connecting a) && not (asks_marked c)

-- what a step from the state `e` and the stores `s` hands on; `m` says that it may lead to such a request
pub record Carries (m : Bool) (e : Engine) (s : Stores) (d : Done) : Type 0 where
  pub target : d.engine.target ≡ e.target
  pub size : d.engine.length ≡ e.length
  pub packet : d.stores.packet ≡ s.packet
  pub goes : verdict_of d.outcome ≡ goes
  pub plain : (m || is_plain d.engine.awaits d.outcome) ≡ true

or_true : (m b : Bool) → b ≡ true → (m || b) ≡ true
or_true true b e = refl
or_true false b e = e

pub carries-pick : (m : Bool) (e : Engine) (s : Stores) (t : Bool) (a b : Done) → Carries m e s a → Carries m e s b → Carries m e s (pick t a b)
carries-pick m e s true a b x y = x
carries-pick m e s false a b x y = y

-- a step that may lead to such a request
marked_leaf : (m : Bool) (e : Engine) (s : Stores) (p : Peer) (o : Operation) (a : Await) (c : Outcome) (z : Stores) → m ≡ true
    → z.packet ≡ s.packet
    → verdict_of c ≡ goes
    → Carries m e s (done (engine_with e.settings p o a 0 e.length e.target) c z)
unfolding engine_with
marked_leaf m e s p o a c z i k g = record { target = refl; size = refl; packet = k; goes = g; plain = ap (λ (t : Bool). t || is_plain a c) i }

module _ (m : Bool) (e : Engine) (s : Stores) where
  -- one that does not
  pub leaf : (p : Peer) (o : Operation) (a : Await) (c : Outcome) (z : Stores) → z.packet ≡ s.packet → is_plain a c ≡ true → verdict_of c ≡ goes
      → Carries m e s (done (engine_with e.settings p o a 0 e.length e.target) c z)
  unfolding engine_with
  leaf p o a c z k l g = record { target = refl; size = refl; packet = k; goes = g; plain = or_true m (is_plain a c) l }

  either : (t : Bool) (a b : Done) → Carries m e s a → Carries m e s b → Carries m e s (pick t a b)
  either t a b x y = carries-pick m e s t a b x y

  -- ---- replies with headers

  sent-carries : (p : Peer) (x : Option (List ℕ)) → Carries m e s (sent e p x s)
  sent-carries p none = leaf p _ await.Nothing _ _ refl refl refl
  sent-carries p (some q) = leaf p _ await.Taken (outcome.Reply (length q)) (with_reply s (front q s.reply)) refl refl refl

  pub sends-carries : (p : Peer) (code : ℕ) (hs : List ℕ) → Carries m e s (sends e p code hs s)
  unfolding sends
  sends-carries p code hs = sent-carries p (send_bytes p.remote_max_packet_length code [] hs)

  sends_connect_carries : (p : Peer) (code : ℕ) (hs : List ℕ) → Carries m e s (sends_connect e p code hs s)
  unfolding sends_connect
  sends_connect_carries p code hs = sent-carries p (send_bytes p.remote_max_packet_length code (fields_of e.settings.max_packet_length) hs)

  pub connect_sends-carries : (p : Peer) (code : ℕ) (f : ConnectionId) (a : List Header) (c : Option Credentials)
      → Carries m e s (connect_sends e p code f a c s)
  unfolding connect_sends
  connect_sends-carries p code f a c = sends_connect_carries p code _

  pub nonce-carries : (n : Octets16) (l : List ℕ) → Carries m e s (nonce_answer e n l s)
  unfolding nonce_answer
  nonce-carries n l = sends_connect_carries (challenged_peer e.peer n) 0x41 _

  -- ---- packets of an operation

  put-continues : (g : Gathered) (srm confirm additional : Bool) (z : Stores) → z.packet ≡ s.packet
      → Carries m e s (put_continues e g srm confirm additional z)
  put-continues g true confirm additional z k =
      either additional _ _ (leaf e.peer _ await.Taken _ _ k refl refl) (leaf e.peer _ await.Bytes _ _ k refl refl)
  put-continues g false confirm additional z k =
      either g.over _ _ (leaf e.peer _ await.Taken _ _ k refl refl) (leaf e.peer _ await.Taken _ _ k refl refl)

  put-carries : (r : Packet) (v : Survey) (srm confirm : Bool) (g : Gathered) → Carries m e s (put_packet e r v srm confirm g s)
  unfolding put_packet
  put-carries r v srm confirm g =
      let x = gathers e keep.Put r.headers g s in
      either x.got.full _ _ (leaf e.peer _ await.Nothing _ _ refl refl refl)
      (either r.final _ _
      (either x.got.over _ _ (leaf e.peer _ await.Taken _ _ refl refl refl) (leaf e.peer _ await.Reply _ _ refl refl refl))
      (put-continues x.got srm confirm v.additional (with_gathered s x) refl))

  get_continues_lem : (g : Gathered) (srm confirm wait : Bool) (z : Stores) → z.packet ≡ s.packet → Carries m e s (get_continues e g srm confirm wait z)
  get_continues_lem g true confirm wait z k = leaf e.peer _ await.Bytes _ _ k refl refl
  get_continues_lem g false confirm wait z k = leaf e.peer _ await.Taken _ _ k refl refl

  get_carries : (r : Packet) (v : Survey) (srm confirm : Bool) (g : Gathered) → Carries m e s (get_packet e r v srm confirm g s)
  unfolding get_packet
  get_carries r v srm confirm g =
      let x = gathers e keep.Get r.headers g s in
      either x.got.full _ _ (leaf e.peer _ await.Nothing _ _ refl refl refl)
      (either r.final _ _ (leaf e.peer _ await.Get _ _ refl refl refl) (get_continues_lem x.got srm confirm v.wait (with_gathered s x) refl))

  headers-plain : (o : Opcode) (n : ℕ) → is_plain await.Reply (outcome.Request (headers_request o n)) ≡ true
  headers-plain op.Action n = refl
  headers-plain op.Session n = refl
  headers-plain (op.UserDefined x) n = refl
  headers-plain op.Connect n = refl
  headers-plain op.Disconnect n = refl
  headers-plain op.Put n = refl
  headers-plain op.Get n = refl
  headers-plain op.SetPath n = refl
  headers-plain op.Abort n = refl

  headers-carries : (r : Packet) (o : Opcode) (g : Gathered) → Carries m e s (headers_packet e r o g s)
  unfolding headers_packet
  headers-carries r o g =
      let x = gathers e keep.All r.headers g s in
      either x.got.full _ _ (leaf e.peer _ await.Nothing _ _ refl refl refl)
      (either r.final _ _ (leaf e.peer _ await.Reply _ _ refl (headers-plain o x.got.kept) refl)
      (leaf e.peer _ await.Taken _ _ refl refl refl))

  -- ---- an object

  made-carries : (z : Stores) → z.packet ≡ s.packet → (srm wait : Bool) (x : Next) (d : Made) → Carries m e s (sends_made e srm wait x d z)
  made-carries z k srm wait (next.Send n true) d = leaf e.peer _ await.Taken _ _ k refl refl
  made-carries z k srm wait (next.Send n false) d = leaf e.peer _ await.Taken _ _ k refl refl
  made-carries z k srm wait next.Read d = leaf e.peer _ await.Body _ _ k refl refl
  made-carries z k srm wait next.TooLarge d = leaf e.peer _ await.Taken _ _ k refl refl

  pub packet-carries : (srm wait : Bool) (d : Made) → Carries m e s (sends_packet e srm wait d s)
  packet-carries srm wait d = made-carries s refl srm wait d.packet.next d

  pub next-carries : (z : Stores) → z.packet ≡ s.packet → (o : Outgoing) (srm wait : Bool) → Carries m e s (sends_next e o srm wait z)
  unfolding sends_next
  next-carries z k o srm wait =
      let d = next_packet (capacity_of e) o z.headers z.reply in made-carries z k srm wait d.packet.next d

  pub goes_on_carries : (o : Operation) → Carries m e s (goes_on_of o e s)
  goes_on_carries (Sending o c srm wait) =
      either (srm && not wait) _ _ (next-carries s refl o srm wait) (leaf e.peer _ await.Bytes _ _ refl refl refl)
  goes_on_carries Nothing = leaf e.peer _ await.Bytes _ _ refl refl refl
  goes_on_carries Trailing = leaf e.peer _ await.Bytes _ _ refl refl refl
  goes_on_carries (Putting g srm) = leaf e.peer _ await.Bytes _ _ refl refl refl
  goes_on_carries (Getting g srm confirm wait) = leaf e.peer _ await.Bytes _ _ refl refl refl
  goes_on_carries (GatheringOp o g) = leaf e.peer _ await.Bytes _ _ refl refl refl
  goes_on_carries (Connecting code f n) = leaf e.peer _ await.Bytes _ _ refl refl refl
  goes_on_carries (Draining code) = leaf e.peer _ await.Bytes _ _ refl refl refl

  -- ---- a Connect and the answers about it

  connect_carries : m ≡ true → Carries m e s (connect_packet e s)
  unfolding connect_packet
  connect_carries i =
      either e.settings.authentication _ _
      (either (stops p (last_headers e s)) _ _ (leaf (checked_peer p false) _ await.Taken _ _ refl refl refl) (go p.challenge (client_response e s)))
      (marked_leaf m e s p Nothing await.Connect (outcome.Request (request.Connect e.length)) s i refl refl)
    where
      p : Peer
      p = limited e.peer (connect_limit (last_packet e s))

      go : (c : Challenge) (x : Option Response) → Carries m e s (verifies e p c x s)
      go None x = marked_leaf m e s p _ await.Nonce _ _ i refl refl
      go (Some n) none = marked_leaf m e s p _ await.Nonce _ _ i refl refl
      go (Some n) (some x) = marked_leaf m e s p _ await.Password _ _ i refl refl

  pub password-carries : m ≡ true → (p : Option (List ℕ)) → Carries m e s (password_answer e p s)
  unfolding password_answer password_answered
  password-carries i p =
      either (checks e.peer.challenge (client_response e s) (demands_user e.settings) p) _ _
      (marked_leaf m e s (verified_peer (checked_peer e.peer false)) _ await.Connect _ _ i refl refl)
      (marked_leaf m e s (checked_peer e.peer true) _ await.Nonce _ _ i refl refl)

  challenged-carries : m ≡ true → (p : Peer) (code : ℕ) (f : ConnectionId) (hs : List ℕ) (c : Option PeerChallenge)
      → Carries m e s (connect_challenged e p code f hs c s)
  challenged-carries i p code f hs none = connect_sends-carries p code f _ none
  challenged-carries i p code f hs (some c) = marked_leaf m e s p _ await.Credentials _ _ i refl refl

  opened-carries : m ≡ true → (t : List ℕ) (l : Option Linked) (code : ℕ) (f : ConnectionId) (hs : List ℕ)
      → Carries m e s (connect_opened e t l code f hs s).done
  opened-carries i t none code f hs = sends_connect_carries e.peer 0x53 []
  opened-carries i t (some l) code f hs = challenged-carries i l.peer code f hs (answered_challenge (last_headers e s))

  pub answer-carries : m ≡ true → (code : ℕ) (hs t : List ℕ) → Carries m e s (connect_answer e code hs s t).done
  unfolding connect_answer
  answer-carries i code hs t = go (is_success code)
    where
      target : Option (List ℕ)
      target = first 0x46 (last_headers e s)

      answer : Option (List ℕ)
      answer = first 0xCB (list_of (read_headers hs 0))

      srm : Bool
      srm = e.peer.srm_enabled || srm_asked e (survey_of (some (last_headers e s)))

      go : (b : Bool)
          → Carries m e s
          (pick b (connect_opened e t (opened_for e.peer t srm answer target) code (front_for e.peer t answer target) hs s)
          (done_tabled (sends_connect e e.peer code hs s) t)).done
      go true = opened-carries i t (opened_for e.peer t srm answer target) code (front_for e.peer t answer target) hs
      go false = sends_connect_carries e.peer code hs

-- ---- a packet

module _ (e : Engine) (s : Stores) (r : Packet) (v : Survey) where
  abbrev marked : Bool
  marked = is_marked r.opcode

  abbrev by : (t : Bool) (a b : Done) → Carries marked e s a → Carries marked e s b → Carries marked e s (pick t a b)
  by t a b x y = carries-pick marked e s t a b x y

  abbrev last : Carries marked e s (interrupts e s)
  last = leaf marked e s e.peer Nothing await.Last _ _ refl refl refl

  dispatches-carries : (o : Opcode) → Carries (is_marked o) e s (dispatches o e r v s)
  unfolding same_opcode
  dispatches-carries op.Connect = connect_carries true e s refl
  dispatches-carries op.Abort = marked_leaf true e s e.peer _ await.Acknowledgement _ _ refl refl refl
  dispatches-carries op.Disconnect = leaf false e s e.peer _ await.Disconnect _ _ refl refl refl
  dispatches-carries op.SetPath = leaf false e s e.peer _ await.Reply _ _ refl refl refl
  dispatches-carries op.Put = put-carries false e s r v _ _ _
  dispatches-carries op.Get = get_carries false e s r v _ _ _
  dispatches-carries op.Action = headers-carries false e s r op.Action _
  dispatches-carries op.Session = headers-carries false e s r op.Session _
  dispatches-carries (op.UserDefined x) = headers-carries false e s r (op.UserDefined x) _

  admitted-carries : (x : Rejection) → Carries marked e s (admitted_as x e r v s)
  admitted-carries admits = dispatches-carries r.opcode
  admitted-carries (rejects code) =
      by (e.peer.srm_enabled && (drains r.opcode && not r.final)) _ _ (leaf marked e s e.peer _ await.Bytes _ _ refl refl refl)
      (leaf marked e s e.peer _ await.Taken _ _ refl refl refl)

  dispatch-carries : (known : Bool) → Carries marked e s (dispatch e r v known s)
  unfolding dispatch
  dispatch-carries known = go (same_opcode r.opcode op.Connect) refl
    where
      go : (t : Bool) → same_opcode r.opcode op.Connect ≡ t
          → Carries marked e s (pick t (connect_packet e s) (admitted_as (rejection e r.opcode v known) e r v s))
      go true i = connect_carries marked e s (ap (λ (t : Bool). t || same_opcode r.opcode op.Abort) i)
      go false i = admitted-carries (rejection e r.opcode v known)

  inside-carries : (o : Operation) (known : Bool) → Carries marked e s (inside o e r v known s)
  inside-carries Nothing known = dispatch-carries known
  inside-carries Trailing known = by (trails r) _ _ (leaf marked e s e.peer _ await.Taken _ _ refl refl refl) (dispatch-carries known)
  inside-carries (Putting g srm) known = by (same_opcode r.opcode op.Put) _ _ (put-carries marked e s r v srm false g) last
  inside-carries (Getting g srm confirm wait) known = by (same_opcode r.opcode op.Get) _ _ (get_carries marked e s r v srm confirm g) last
  inside-carries (Sending o c srm wait) known = by (same_opcode r.opcode op.Get) _ _ (next-carries marked e s s refl o srm v.wait) last
  inside-carries (GatheringOp o g) known = by (same_opcode r.opcode o) _ _ (headers-carries marked e s r o g) last
  inside-carries (Connecting c f n) known = last
  inside-carries (Draining code) known =
      by r.final _ _ (leaf marked e s e.peer _ await.Taken _ _ refl refl refl) (leaf marked e s e.peer _ await.Bytes _ _ refl refl refl)

-- whether a packet goes under the mark
abbrev pub marked_in : Option Packet → Bool
marked_in none = false
marked_in (some r) = is_marked r.opcode

pub read-carries : (e : Engine) (s : Stores) (q t : List ℕ) (x : Option Packet) → Carries (marked_in x) e s (read_as x e q s t)
read-carries e s q t none =
    carries-pick false e s (busy e.operation) _ _ (leaf false e s e.peer _ await.Nothing _ _ refl refl refl)
    (leaf false e s e.peer _ await.Taken _ _ refl refl refl)
read-carries e s q t (some r) = go (same_opcode r.opcode op.Abort) refl
  where
    or_second : (a b : Bool) → b ≡ true → (a || b) ≡ true
    or_second true b i = refl
    or_second false b i = i

    v : Survey
    v = survey_of (some r.headers)

    go : (b : Bool) → same_opcode r.opcode op.Abort ≡ b
        → Carries (is_marked r.opcode) e s
        (pick b (asks e e.peer Nothing await.Acknowledgement (request.Abort e.length) s) (inside e.operation e r v (known_in e t v) s))
    go true i =
        marked_leaf (is_marked r.opcode) e s e.peer Nothing await.Acknowledgement (outcome.Request (request.Abort e.length)) s
        (or_second (same_opcode r.opcode op.Connect) (same_opcode r.opcode op.Abort) i) refl refl
    go false i = inside-carries e s r v e.operation (known_in e t v)
