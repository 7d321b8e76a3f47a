-- The host's answers in a Connect and a Disconnect: each is refused and changes nothing, or leads to a request, a reply or the server's end.
-- Assumes nothing.
use mathlib.Core.Path.{◌≡◌, refl, sym, ap, subst, ◌∙◌}
use mathlib.Core.List.{List, []}
use mathlib.Core.Bool.{Bool, true, false, ◌||◌, not, true≢false}
use mathlib.Core.Option.{Option, none, some}
use Prim.Native.Nat.{ℕ, ◌≤◌}
use lib.ListN.{length, take, drop}
use lib.Dec.{ltb}
use borrow.Author.Tests.{ltb-false}
use Rattle.std.specs.Prelude.{None}
use Rattle.base.specs.Pick.{pick}
use Rattle.text.specs.Unicode.{Octets}
use Rattle.digest.specs.declared.md5.Octets16.{Octets16}
use Rattle.packet.specs.HeaderIds as header_id
use Rattle.packet.specs.Canonical.{canonical_as, canonical}
use Rattle.packet.specs.Codes.{is_code}
use Rattle.packet.specs.Header.{Header, read_headers, first}
use Rattle.packet.proofs.HeaderBytes.{header-bytes}
use Rattle.packet.proofs.HeaderWrites.{read_shaped}
use Rattle.journal.specs.Calls.{Call, Credentials, bytes_offered_of, stream_ended_of, reply_taken_of, reply_given_of, object_given_of, body_given_of, body_failed_of, abort_acknowledged_of, password_given_of, nonce_given_of, credentials_given_of, connections_closed_of}
use Rattle.journal.specs.Journal.{list_of}
use Rattle.table.specs.Nonces.{remembered_with, remembered, among}
use Rattle.connection.specs.Peer.{linked, id_in, disconnected_peer, ConnectionId}
use Rattle.connection.specs.Pieces.{id_given}
use Rattle.server.specs.declared.Operation.{Operation}
use Rattle.server.specs.declared.Operation.TheVariants as server_op
use Rattle.server.specs.declared.Await.{Await}
use Rattle.server.specs.declared.Await.TheVariants as waits
use Rattle.server.specs.declared.Engine.{Engine}
use Rattle.server.specs.declared.CallKind.TheVariants as kind
use Rattle.server.specs.declared.Refusal.{Refusal}
use Rattle.server.specs.declared.Refusal.TheVariants as why
use Rattle.model.specs.Step.{Stores, Stepped, Called, called, Done, after, sends}
use Rattle.model.specs.Request.{last_headers}
use Rattle.model.specs.Connect.{connect_answer, password_answer, nonce_answer, connect_sends}
use Rattle.model.specs.Guard.{long_realm, fits, same_await, refuse, bad_headers, bad_reply, long_user}
use Rattle.model.specs.Calls.{sends_linked, reply_answer, reply_checked, reply_given_step, password_given_step, nonce_checked, nonce_given_step, credentials_with, credentials_given_step}
use Rattle.model.specs.Runs.{State, step_of, keeps}
use Rattle.model.proofs.Fit.{or_left, or_right}
use Rattle.client_model.specs.declared.Settings.{Settings}
use Rattle.link.specs.Link.{Link, link_with, host, told_after, server_did, is_answer, call_after, move}
use Rattle.link.specs.Claims.{PlainCall}
use Rattle.link.proofs.Moves.{host_fits, quiet-host}
use Rattle.link.proofs.Joint.{Serves}
use Rattle.link.proofs.ConnectJoint.{Kind, connecting, disconnecting, held_id, Past, limit_for, Ids, fronted, Settled, Follows, AskedConnect, host_connect, host-password, host-nonce, host-credentials, Asked, Did, Awaits, NamesNow, Bound, Phase}
use Rattle.link.proofs.ConnectServer.{PeerStands, state_at, Stood, password-did, nonce-did, credentials-did, answer-did, reply-did, left-stands}
use Rattle.link.proofs.ConnectMoves.{passes, passes-called, did_phase}

-- ---- an answer that a host may give

record Fair (code : ℕ) (hs : List ℕ) : Type 0 where
  is_code_lem : is_code code ≡ true
  headers : List Header
  reads : read_headers hs 0 ≡ some headers
  within : length hs ≤ 65535

fair : (code : ℕ) (hs : List ℕ) → bad_reply code hs ≡ false → Fair code hs
unfolding bad_reply bad_headers canonical
fair code hs e =
    let b = or_right (not (is_code code)) (ltb 65535 (length hs) || not (canonical_as hs (read_headers hs 0))) e in
    let r = canonical-reads (read_headers hs 0) refl (or_right (ltb 65535 (length hs)) (not (canonical_as hs (read_headers hs 0))) b) in
    record {
      is_code_lem = not-false (is_code code) (or_left (not (is_code code)) (ltb 65535 (length hs) || not (canonical_as hs (read_headers hs 0))) e);
      headers = r.0;
      reads = r.1;
      within = ltb-false 65535 (length hs) (or_left (ltb 65535 (length hs)) (not (canonical_as hs (read_headers hs 0))) b);
    }
  where
    not-false : (t : Bool) → not t ≡ false → t ≡ true
    not-false true e = refl
    not-false false e = absurd (true≢false e)

    canonical-reads : (r : Option (List Header)) → read_headers hs 0 ≡ r → not (canonical_as hs r) ≡ false → (x : List Header)
        × (read_headers hs 0 ≡ some x)
    canonical-reads none e c = absurd (true≢false c)
    canonical-reads (some x) e c = (x, e)

keeps-pick : (s : State) (b : Bool) (x y : Stepped) → keeps s (pick b x y) ≡ pick b (keeps s x) (keeps s y)
keeps-pick s true x y = refl
keeps-pick s false x y = refl

-- ---- in the link

module _ (k : Kind) (cs : Settings) (g : Past) (l : Link) (w : Awaits k cs l) (begun : l.client.begun ≡ 0)
    (v : Serves (limit_for l.server) l.server) (up : l.up ≡ []) (dn : l.down ≡ [])
    (f : Follows (held_id k l.client.connection_id) l.server) (st : Settled k cs (limit_for l.server))
    (n : NamesNow k g.named l.client.connection_id) (bd : Bound k cs g.connected (limit_for l.server))
    (now : Phase k cs g l) where
  -- a call that is refused, or leads on
  answered : (c : Call) → is_answer c ≡ true → (bad : Bool) (r : Refusal) (d : Done) (t : List ℕ)
      → step_of l.server c ≡ pick bad (called (refuse r l.server.engine l.server.stores) l.server.tables) (called (after 0 d) t)
      → (bad ≡ false → Did k cs (held_id k l.client.connection_id) (state_at d t) d.outcome)
      → Phase k cs g (move l (host c))
  unfolding move
  answered c i bad r d t e did =
      subst (λ (b : Bool). Phase k cs g (call_after (pick b (some c) none) l l.down)) (sym i)
      (subst (λ (m : Called). Phase k cs g (server_did l m (drop m.took.taken l.up) l.down)) (sym e) (by bad did))
    where
      by : (b : Bool) → (b ≡ false → Did k cs (held_id k l.client.connection_id) (state_at d t) d.outcome)
          → let m = pick b (called (refuse r l.server.engine l.server.stores) l.server.tables) (called (after 0 d) t) in
          Phase k cs g (server_did l m (drop m.took.taken l.up) l.down)
      by true did = now
      by false did =
          subst (λ (u : List ℕ). Phase k cs g
          (link_with l.client l.stores l.said (state_at d t) (told_after l.told d.outcome) u l.down)) (sym up)
          (did_phase k cs g l w begun dn n bd (state_at d t) d.outcome (did refl))

  -- one that does not fit
  pub unanswered : (a : Await) (c : Call) → l.server.engine.awaits ≡ a → host_fits a c ≡ false → Phase k cs g (move l (host c))
  unanswered a c e i = subst (Phase k cs g) (sym (quiet-host l c (ap (λ (x : Await). host_fits x c) e ∙ i)).still) now

  peer-stands : PeerStands k cs (held_id k l.client.connection_id) l.server.engine.peer l.server.tables
  peer-stands = record { fits = v.base.peer; long = v.tables; srm = v.srm; settled = st; ids = f.ids }

  stood : Stood l.server.engine l.server.stores
  stood = record { room = v.base.room; last = v.base.last; most = f.most }

  -- the host's reply, by what it answers
  reply-step : (code : ℕ) (hs : List ℕ) (a : Await) → l.server.engine.awaits ≡ a → fits kind.ReplyGiven a ≡ true
      → let e = l.server.engine in
      let s = l.server.stores in
      let t = l.server.tables in
      let x = pick (same_await a waits.Connect) (connect_answer e code hs s t)
      (pick (same_await a waits.Disconnect) (sends_linked e (disconnected_peer e.peer t (first header_id.connection_id (last_headers e s))) code hs s)
      (sends_linked e (linked e.peer t) code hs s)) in
      step_of l.server (reply_given_of code hs) ≡ pick (bad_reply code hs) (called (refuse why.BadAnswer e s) t) (called (after 0 x.done) x.tables)
  unfolding reply_given_step reply_answer
  reply-step code hs a i y =
      let e = l.server.engine in
      let s = l.server.stores in
      let t = l.server.tables in
      passes-called (limit_for l.server) l.server v kind.ReplyGiven (reply_checked e code hs s t)
      (ap (λ (z : Await). fits kind.ReplyGiven z) i ∙ y)
      ∙ ap (λ (z : Await). let x = pick (same_await z waits.Connect) (connect_answer e code hs s t)
      (pick (same_await z waits.Disconnect) (sends_linked e (disconnected_peer e.peer t (first header_id.connection_id (last_headers e s))) code hs s)
      (sends_linked e (linked e.peer t) code hs s)) in
      pick (bad_reply code hs) (called (refuse why.BadAnswer e s) t) (called (after 0 x.done) x.tables)) i

-- ---- a Connect

module _ (cs : Settings) (g : Past) (l : Link) (w : Awaits connecting cs l) (begun : l.client.begun ≡ 0)
    (v : Serves (limit_for l.server) l.server) (up : l.up ≡ []) (dn : l.down ≡ [])
    (f : Follows l.client.connection_id l.server) (st : Settled connecting cs (limit_for l.server))
    (n : NamesNow connecting g.named l.client.connection_id) (bd : Bound connecting cs g.connected (limit_for l.server))
    (now : Phase connecting cs g l)
    (q : Asked connecting l.server) where
  abbrev id : ConnectionId
  id = l.client.connection_id

  abbrev else_refused : (a : Await) (c : Call) → l.server.engine.awaits ≡ a → host_fits a c ≡ false → Phase connecting cs g (move l (host c))
  else_refused = unanswered connecting cs g l w begun v up dn f st n bd now

  given-reply : (code : ℕ) (hs : List ℕ) → Octets hs → l.server.engine.awaits ≡ waits.Connect
      → Phase connecting cs g (move l (host (reply_given_of code hs)))
  given-reply code hs oct a =
      let e = l.server.engine in
      let s = l.server.stores in
      let t = l.server.tables in
      let d = connect_answer e code hs s t in
      answered connecting cs g l w begun v up dn f st n bd now (reply_given_of code hs) refl (bad_reply code hs) why.BadAnswer d.done d.tables
      (reply-step connecting cs g l w begun v up dn f st n bd now code hs waits.Connect a refl)
      (λ i. let x = fair code hs i in
      answer-did cs id e s (stood connecting cs g l w begun v up dn f st n bd now) q.1 t
      (peer-stands connecting cs g l w begun v up dn f st n bd now) code hs x.headers oct x.reads x.is_code_lem x.within)

  given-password : (x : Option (List ℕ)) → l.server.engine.awaits ≡ waits.Password → Phase connecting cs g (move l (host (password_given_of x)))
  unfolding password_given_step
  given-password x a =
      let e = l.server.engine in
      let s = l.server.stores in
      let t = l.server.tables in
      let d = password_answer e x s in
      answered connecting cs g l w begun v up dn f st n bd now (password_given_of x) refl false why.BadAnswer d t
      (ap (keeps l.server) (passes (limit_for l.server) l.server v kind.PasswordGiven (after 0 d)
      (ap (λ (z : Await). fits kind.PasswordGiven z) a)))
      (λ i. password-did cs id e s (stood connecting cs g l w begun v up dn f st n bd now) q.1 t x
      (peer-stands connecting cs g l w begun v up dn f st n bd now))

  given-nonce : (x : Octets16) (realm : List ℕ) → l.server.engine.awaits ≡ waits.Nonce
      → Phase connecting cs g (move l (host (nonce_given_of x realm)))
  unfolding nonce_given_step
  given-nonce x realm a = by (long_realm e.settings realm) refl
    where
      e : Engine
      e = l.server.engine

      s : Stores
      s = l.server.stores

      t : List ℕ
      t = l.server.tables

      d : Done
      d = nonce_answer e x realm s

      step : step_of l.server (nonce_given_of x realm) ≡ nonce_checked e x realm s t
      step =
          passes-called (limit_for l.server) l.server v kind.NonceGiven (nonce_checked e x realm s t)
          (ap (λ (z : Await). fits kind.NonceGiven z) a)

      by : (b : Bool) → long_realm e.settings realm ≡ b → Phase connecting cs g (move l (host (nonce_given_of x realm)))
      by true i =
          answered connecting cs g l w begun v up dn f st n bd now (nonce_given_of x realm) refl true why.BadAnswer d (remembered_with x t)
          (step ∙ ap (λ (b : Bool). pick b (called (refuse why.BadAnswer e s) t)
          (pick (among x (remembered e.peer.nonces t)) (called (refuse why.NonceUsed e s) t) (called (after 0 d) (remembered_with x t)))) i)
          (λ j. absurd (true≢false j))
      by false i =
          answered connecting cs g l w begun v up dn f st n bd now (nonce_given_of x realm) refl
          (among x (remembered e.peer.nonces t)) why.NonceUsed d (remembered_with x t)
          (step ∙ ap (λ (b : Bool). pick b (called (refuse why.BadAnswer e s) t)
          (pick (among x (remembered e.peer.nonces t)) (called (refuse why.NonceUsed e s) t) (called (after 0 d) (remembered_with x t)))) i)
          (λ j. nonce-did cs id e s (stood connecting cs g l w begun v up dn f st n bd now) q.1 t x
          realm
          (peer-stands connecting cs g l w begun v up dn f st n bd now))

  given-credentials : (code : ℕ) (h : ConnectionId) (m : ℕ) (c : Option Credentials) → l.server.engine.awaits ≡ waits.Credentials
      → l.server.engine.operation ≡ server_op.Connecting code h m → is_code code ≡ true
      → (Ids (id_in (fronted (id_given h)
      (first header_id.connection_id (list_of (read_headers (take m l.server.stores.headers) 0))))) l.server.engine.peer l.server.tables)
      → Phase connecting cs g (move l (host (credentials_given_of c)))
  unfolding credentials_given_step
  given-credentials code h m c a o i u =
      let e = l.server.engine in
      let s = l.server.stores in
      let t = l.server.tables in
      let d = connect_sends e e.peer code h (list_of (read_headers (take m s.headers) 0)) c s in
      answered connecting cs g l w begun v up dn f st n bd now (credentials_given_of c) refl (long_user c) why.BadAnswer d t
      (ap (keeps l.server)
      (passes (limit_for l.server) l.server v kind.CredentialsGiven (credentials_with e.operation e c s)
      (ap (λ (z : Await). fits kind.CredentialsGiven z) a)
      ∙ ap (λ (z : Operation). credentials_with z e c s) o)
      ∙ keeps-pick l.server (long_user c) (refuse why.BadAnswer e s) (after 0 d))
      (λ j. credentials-did cs id e s (stood connecting cs g l w begun v up dn f st n bd now) q.1 t code h m c
      (peer-stands connecting cs g l w begun v up dn f st n bd now) i u)

  pub connect_answered : (c : Call) → PlainCall c → Phase connecting cs g (move l (host c))
  connect_answered c pl = by q.0 c pl
    where
      at_connect : l.server.engine.awaits ≡ waits.Connect → (c : Call) → PlainCall c → Phase connecting cs g (move l (host c))
      at_connect a (reply_given_of code hs) pl = given-reply code hs pl.0 a
      at_connect a (bytes_offered_of i) pl = else_refused waits.Connect (bytes_offered_of i) a refl
      at_connect a stream_ended_of pl = else_refused waits.Connect stream_ended_of a refl
      at_connect a reply_taken_of pl = else_refused waits.Connect reply_taken_of a refl
      at_connect a (connections_closed_of x) pl = else_refused waits.Connect (connections_closed_of x) a refl
      at_connect a (object_given_of hs b) pl = else_refused waits.Connect (object_given_of hs b) a refl
      at_connect a (body_given_of d) pl = else_refused waits.Connect (body_given_of d) a refl
      at_connect a body_failed_of pl = else_refused waits.Connect body_failed_of a refl
      at_connect a abort_acknowledged_of pl = else_refused waits.Connect abort_acknowledged_of a refl
      at_connect a (password_given_of p) pl = else_refused waits.Connect (password_given_of p) a refl
      at_connect a (nonce_given_of x realm) pl = else_refused waits.Connect (nonce_given_of x realm) a refl
      at_connect a (credentials_given_of x) pl = else_refused waits.Connect (credentials_given_of x) a refl

      at_password : l.server.engine.awaits ≡ waits.Password → (c : Call) → Phase connecting cs g (move l (host c))
      at_password a (password_given_of p) = given-password p a
      at_password a (reply_given_of code hs) = else_refused waits.Password (reply_given_of code hs) a refl
      at_password a (bytes_offered_of i) = else_refused waits.Password (bytes_offered_of i) a refl
      at_password a stream_ended_of = else_refused waits.Password stream_ended_of a refl
      at_password a reply_taken_of = else_refused waits.Password reply_taken_of a refl
      at_password a (connections_closed_of x) = else_refused waits.Password (connections_closed_of x) a refl
      at_password a (object_given_of hs b) = else_refused waits.Password (object_given_of hs b) a refl
      at_password a (body_given_of d) = else_refused waits.Password (body_given_of d) a refl
      at_password a body_failed_of = else_refused waits.Password body_failed_of a refl
      at_password a abort_acknowledged_of = else_refused waits.Password abort_acknowledged_of a refl
      at_password a (nonce_given_of x realm) = else_refused waits.Password (nonce_given_of x realm) a refl
      at_password a (credentials_given_of x) = else_refused waits.Password (credentials_given_of x) a refl

      at_nonce : l.server.engine.awaits ≡ waits.Nonce → (c : Call) → Phase connecting cs g (move l (host c))
      at_nonce a (nonce_given_of x realm) = given-nonce x realm a
      at_nonce a (reply_given_of code hs) = else_refused waits.Nonce (reply_given_of code hs) a refl
      at_nonce a (bytes_offered_of i) = else_refused waits.Nonce (bytes_offered_of i) a refl
      at_nonce a stream_ended_of = else_refused waits.Nonce stream_ended_of a refl
      at_nonce a reply_taken_of = else_refused waits.Nonce reply_taken_of a refl
      at_nonce a (connections_closed_of x) = else_refused waits.Nonce (connections_closed_of x) a refl
      at_nonce a (object_given_of hs b) = else_refused waits.Nonce (object_given_of hs b) a refl
      at_nonce a (body_given_of d) = else_refused waits.Nonce (body_given_of d) a refl
      at_nonce a body_failed_of = else_refused waits.Nonce body_failed_of a refl
      at_nonce a abort_acknowledged_of = else_refused waits.Nonce abort_acknowledged_of a refl
      at_nonce a (password_given_of p) = else_refused waits.Nonce (password_given_of p) a refl
      at_nonce a (credentials_given_of x) = else_refused waits.Nonce (credentials_given_of x) a refl

      by : AskedConnect l.server → (c : Call) → PlainCall c → Phase connecting cs g (move l (host c))
      by (host_connect a o) c pl = at_connect a c pl
      by (host-password a o) c pl = at_password a c
      by (host-nonce a o) c pl = at_nonce a c
      by (host-credentials code h m a o i u) (credentials_given_of x) pl = given-credentials code h m x a o i u
      by (host-credentials code h m a o i u) (reply_given_of k hs) pl = else_refused waits.Credentials (reply_given_of k hs) a refl
      by (host-credentials code h m a o i u) (bytes_offered_of x) pl = else_refused waits.Credentials (bytes_offered_of x) a refl
      by (host-credentials code h m a o i u) stream_ended_of pl = else_refused waits.Credentials stream_ended_of a refl
      by (host-credentials code h m a o i u) reply_taken_of pl = else_refused waits.Credentials reply_taken_of a refl
      by (host-credentials code h m a o i u) (connections_closed_of x) pl = else_refused waits.Credentials (connections_closed_of x) a refl
      by (host-credentials code h m a o i u) (object_given_of hs b) pl = else_refused waits.Credentials (object_given_of hs b) a refl
      by (host-credentials code h m a o i u) (body_given_of d) pl = else_refused waits.Credentials (body_given_of d) a refl
      by (host-credentials code h m a o i u) body_failed_of pl = else_refused waits.Credentials body_failed_of a refl
      by (host-credentials code h m a o i u) abort_acknowledged_of pl = else_refused waits.Credentials abort_acknowledged_of a refl
      by (host-credentials code h m a o i u) (password_given_of p) pl = else_refused waits.Credentials (password_given_of p) a refl
      by (host-credentials code h m a o i u) (nonce_given_of x realm) pl = else_refused waits.Credentials (nonce_given_of x realm) a refl

-- ---- a Disconnect

module _ (cs : Settings) (g : Past) (l : Link) (w : Awaits disconnecting cs l) (begun : l.client.begun ≡ 0)
    (v : Serves (limit_for l.server) l.server) (up : l.up ≡ []) (dn : l.down ≡ [])
    (f : Follows None l.server) (st : Settled disconnecting cs (limit_for l.server))
    (n : NamesNow disconnecting g.named l.client.connection_id) (bd : Bound disconnecting cs g.connected (limit_for l.server))
    (now : Phase disconnecting cs g l) (q : Asked disconnecting l.server) where
  given-left : (code : ℕ) (hs : List ℕ) → Octets hs → Phase disconnecting cs g (move l (host (reply_given_of code hs)))
  given-left code hs oct =
      let e = l.server.engine in
      let s = l.server.stores in
      let t = l.server.tables in
      let p = disconnected_peer e.peer t (first header_id.connection_id (last_headers e s)) in
      answered disconnecting cs g l w begun v up dn f st n bd now (reply_given_of code hs) refl (bad_reply code hs) why.BadAnswer
      (sends e p.peer code hs s) p.tables
      (reply-step disconnecting cs g l w begun v up dn f st n bd now code hs waits.Disconnect q.0 refl)
      (λ i. let x = fair code hs i in
      reply-did cs e s (stood disconnecting cs g l w begun v up dn f st n bd now) p.peer p.tables code hs
      x.headers
      (sym (header-bytes hs 0 x.headers oct x.reads)) x.is_code_lem (read_shaped hs 0 x.headers x.reads)
      (left-stands cs e.peer t (first header_id.connection_id (last_headers e s))
      (peer-stands disconnecting cs g l w begun v up dn f st n bd now)))

  abbrev else_stays : (c : Call) → host_fits waits.Disconnect c ≡ false → Phase disconnecting cs g (move l (host c))
  else_stays c i = unanswered disconnecting cs g l w begun v up dn f st n bd now waits.Disconnect c q.0 i

  pub disconnect_answered : (c : Call) → PlainCall c → Phase disconnecting cs g (move l (host c))
  disconnect_answered (reply_given_of code hs) pl = given-left code hs pl.0
  disconnect_answered (bytes_offered_of i) pl = else_stays (bytes_offered_of i) refl
  disconnect_answered stream_ended_of pl = else_stays stream_ended_of refl
  disconnect_answered reply_taken_of pl = else_stays reply_taken_of refl
  disconnect_answered (connections_closed_of x) pl = else_stays (connections_closed_of x) refl
  disconnect_answered (object_given_of hs b) pl = else_stays (object_given_of hs b) refl
  disconnect_answered (body_given_of d) pl = else_stays (body_given_of d) refl
  disconnect_answered body_failed_of pl = else_stays body_failed_of refl
  disconnect_answered abort_acknowledged_of pl = else_stays abort_acknowledged_of refl
  disconnect_answered (password_given_of p) pl = else_stays (password_given_of p) refl
  disconnect_answered (nonce_given_of x realm) pl = else_stays (nonce_given_of x realm) refl
  disconnect_answered (credentials_given_of x) pl = else_stays (credentials_given_of x) refl
