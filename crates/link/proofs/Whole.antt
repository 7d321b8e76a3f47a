-- Every run of two ends that have just started: at each moment nothing is open, or a Put, a Get, a Connect or a Disconnect goes on, or the client
-- has ended. A Put and a Get come in by what `Parts` asks of them. So whenever a Put or a Get goes, nothing is open, the server knows the
-- client's limit if the client is connected, and the ConnectionID is the one that the server gave. Assumes nothing.
use mathlib.Core.Path.{◌≡◌, refl, sym, ap, subst, ◌∙◌}
use mathlib.Core.List.{List, [], ◌∷◌, ◌++◌}
use mathlib.Core.Bool.{Bool, true, false, ◌&&◌, ◌||◌, not, true≢false, false≢true}
use mathlib.Core.Option.{Option, none, some}
use Prim.Native.Nat.{ℕ, ◌^◌, ◌≤◌, ◌<◌}
use native.Mathlib.Omega.{arith}
use lib.Dec.{eqb}
use Rattle.std.specs.Prelude.{None}
use Rattle.base.specs.Pick.{pick}
use Rattle.text.specs.Unicode.{Octets}
use Rattle.packet.specs.ResponsePacket.{response_packet}
use Rattle.journal.specs.Calls.{Call}
use Rattle.connection.specs.Peer.{peer_with, ConnectionId}
use Rattle.connection.specs.declared.peer.Peer.{Peer}
use Rattle.server.specs.declared.Engine.{Engine}
use Rattle.server.specs.declared.Outcome.{Outcome as ServerOutcome}
use Rattle.server.specs.declared.Outcome.TheVariants as told
use Rattle.server.specs.declared.Settings.{Settings as ServerSettings}
use Rattle.model.specs.Step.{engine_with}
use Rattle.model.specs.Calls.{started as serverStarted}
use Rattle.client_model.specs.Numbers.{same_await}
use Rattle.client_model.specs.Step.{client_with, ends, after}
use Rattle.client_model.specs.Guard.{short, sound, awaiting, refuse, guarded, may_abort}
use Rattle.client_model.specs.Answer.{is_connecting}
use Rattle.client_model.specs.Calls.{stream_ended_step, started}
use Rattle.client_model.specs.declared.Settings.{Settings}
use Rattle.client_model.specs.declared.Operation.{Operation}
use Rattle.client_model.specs.declared.Operation.TheVariants.{Nothing, Connecting, Disconnecting, Requesting, Receiving, Aborting}
use Rattle.client_model.specs.declared.Await.{Await}
use Rattle.client_model.specs.declared.Await.TheVariants as await
use Rattle.client_model.specs.declared.Client.{Client}
use Rattle.client_model.specs.declared.End.TheVariants as end
use Rattle.client_model.specs.declared.Refusal.TheVariants as refusal
use Rattle.client_model.specs.declared.Outcome.{Outcome}
use Rattle.client_model.specs.declared.Outcome.TheVariants as said
use Rattle.link.specs.Link.{Link, UserCall, connect, get, disconnect, put, body, abort, partTaken, Move, user, host, sendUp, sendDown, offerUp, offerDown, closeUp, closeDown, said_after, reply_bytes, call_after, server_call, close_after, move, moves}
use Rattle.link.specs.Told.{succeeded}
use Rattle.link.specs.Told as shown
use Rattle.link.specs.Claims.{PlainUser, PlainMove, Plain, Fresh, connected_by, connected_in, named_in, named_by, named_after}
use Rattle.link.proofs.Moves.{Quiet, user-refused, quiet-user, quiet-refused, quiet-offer-down, quiet-none_up, is_send, quiet_send_up, is_reply, quiet_send_down, is_end, quiet_close_up, has_ended, quiet_close_down}
use Rattle.link.proofs.Joint.{AtRest}
use Rattle.link.proofs.ConnectJoint.{connecting, disconnecting, Past, named_past, limit_for, open_at, Ids, Phase, Standing, Next, goes, over, gone}
use Rattle.link.proofs.ConnectEnds.{connect_begins, disconnect_begins}
use Rattle.link.proofs.ConnectRuns.{silent-named, user-named, host-quiet, connect_move, phase_goes, phase_octets}
use Rattle.link.proofs.ClientKeeps.{Tidy, tidy_moved}
use Rattle.link.proofs.Parts.{Busy, Kept, SendsOctets, At, After, still, rests, Part}
use Rattle.link.proofs.Parts as parts
use Rattle.link.proofs.Keeping.{octets-moved}

-- ---- what was before, along a run

abbrev pub past_after : Past → Link → Move → Past
past_after g l m = record { connected = connected_by g.connected l m; named = named_by g.named l m }

abbrev pub past_in : Past → Link → List Move → Past
past_in g l [] = g
past_in g l (m ∷ ms) = past_in (past_after g l m) (move l m) ms

pub past-connected : (ms : List Move) (g : Past) (l : Link) → (past_in g l ms).connected ≡ connected_in g.connected l ms
past-connected [] g l = refl
past-connected (m ∷ ms) g l = past-connected ms (past_after g l m) (move l m)

pub past-named : (ms : List Move) (g : Past) (l : Link) → (past_in g l ms).named ≡ named_after g.named l ms
past-named [] g l = refl
past-named (m ∷ ms) g l = past-named ms (past_after g l m) (move l m)

-- ---- the client stays as connected as it was

or_false : (b : Bool) → (b || false) ≡ b
or_false true = refl
or_false false = refl

and_true : (b : Bool) → (b && true) ≡ b
and_true true = refl
and_true false = refl

and_false : (b : Bool) → (b && false) ≡ false
and_false true = refl
and_false false = refl

-- a user's call, while no operation may be called
user-connected : (b : Bool) (l : Link) (u : UserCall) → (shown.goes l u ≡ false) → connected_by b l (user u) ≡ b
user-connected b l (disconnect hs) e = ap (λ (t : Bool). b && not t) e ∙ and_true b
user-connected b l (connect hs) e = refl
user-connected b l (get hs) e = refl
user-connected b l (put hs has) e = refl
user-connected b l (body d) e = refl
user-connected b l abort e = refl
user-connected b l partTaken e = refl

refused-named : (i : ConnectionId) (l : Link) (u : UserCall) → (shown.goes l u ≡ false) → named_by i l (user u) ≡ i
refused-named i l (disconnect hs) e = ap (λ (t : Bool). pick t None i) e
refused-named i l (connect hs) e = refl
refused-named i l (get hs) e = refl
refused-named i l (put hs has) e = refl
refused-named i l (body d) e = refl
refused-named i l abort e = refl
refused-named i l partTaken e = refl

-- a call of the user that is no operation, or one while none may be called, connects nothing
waiting-connected : (b : Bool) (l : Link) (u : UserCall) → awaiting l.client await.Call ≡ false → connected_by b l (user u) ≡ b
waiting-connected b l (disconnect hs) e = user-connected b l (disconnect hs) (user-refused l (disconnect hs) e)
waiting-connected b l (connect hs) e = refl
waiting-connected b l (get hs) e = refl
waiting-connected b l (put hs has) e = refl
waiting-connected b l (body d) e = refl
waiting-connected b l abort e = refl
waiting-connected b l partTaken e = refl

-- a response that is not read as that to a Connect, or that says nothing of success
offered-connected : (b : Bool) (l : Link) (n : ℕ) → (is_connecting l.client.operation && succeeded (move l (offerDown n)).said) ≡ false
    → connected_by b l (offerDown n) ≡ b
offered-connected b l n e = ap (λ (t : Bool). b || t) e ∙ or_false b

pub stays-connected : (b : Bool) (l : Link) (m : Move) → awaiting l.client await.Call ≡ false
    → (is_connecting l.client.operation && succeeded (move l m).said) ≡ false → connected_by b l m ≡ b
stays-connected b l (user u) a e = waiting-connected b l u a
stays-connected b l (host c) a e = refl
stays-connected b l sendUp a e = refl
stays-connected b l sendDown a e = refl
stays-connected b l (offerUp n) a e = refl
stays-connected b l (offerDown n) a e = offered-connected b l n e
stays-connected b l closeUp a e = refl
stays-connected b l closeDown a e = refl

-- in an operation that is no Connect
busy-past : (g : Past) (l : Link) (m : Move) → Busy l → past_after g l m ≡ g
busy-past g l m w =
    λ i. record {
      connected = stays-connected g.connected l m w.awaits (ap (λ (t : Bool). t && succeeded (move l m).said) w.operation) i;
      named = named m i;
    }
  where
    named : (m : Move) → named_by g.named l m ≡ g.named
    named (user u) = user-named g.named l u w.awaits
    named sendDown = ap (λ (t : Bool). pick t (named_in (response_packet true (reply_bytes l.told l.server.stores.reply)) g.named) g.named)
        w.operation
    named (host c) = refl
    named sendUp = refl
    named (offerUp n) = refl
    named (offerDown n) = refl
    named closeUp = refl
    named closeDown = refl

-- ---- the two calls that begin an operation of many packets

pub data Many : UserCall → Type 0 where
  puts : {hs : List ℕ} {has : Bool} → Many (put hs has)
  gets : {hs : List ℕ} → Many (get hs)

module _ (cs : Settings) (small : cs.max_packet_length ≤ 65535) (Inside : UserCall → ℕ → Link → Link → Type 0)
    (part : (u : UserCall) → Many u → Part cs (Inside u) u) where
  -- ---- the moments of a run

  pub data Moment (g : Past) (l : Link) : Type 0 where
    resting : AtRest (limit_for l.server) l → Standing cs g l → Moment g l
    inside : (u : UserCall) → Many u → (box : ℕ) (before : Link) → Inside u box before l → limit_for before.server ≡ box → Standing cs g before
        → Moment g l
    connects : Phase connecting cs g l → Moment g l
    disconnects : Phase disconnecting cs g l → g.connected ≡ false → Moment g l
    finished : is_end l.said ≡ true → Moment g l

  pub record Whole (g : Past) (l : Link) : Type 0 where
    pub tidy : Tidy l.client l.said
    pub octets : Octets l.up
    pub moment : Moment g l

  moment_as : (g h : Past) (l : Link) → h ≡ g → Moment g l → Moment h l
  moment_as g h l e w = subst (λ (x : Past). Moment x l) (sym e) w

  -- ---- nothing is open

  rest-call : (l : Link) → AtRest (limit_for l.server) l → awaiting l.client await.Call ≡ true
  rest-call l i = ap (λ (a : Await). same_await a await.Call) i.awaits

  rest_send : (l : Link) → Tidy l.client l.said → AtRest (limit_for l.server) l → is_send l.said ≡ false
  rest_send l t i = by (is_send l.said) refl
    where
      by : (b : Bool) → is_send l.said ≡ b → is_send l.said ≡ false
      by true e = absurd (false≢true (sym (ap (λ (a : Await). same_await a await.Call) (t.sent e)) ∙ rest-call l i))
      by false e = e

  rest_end : (l : Link) → Tidy l.client l.said → AtRest (limit_for l.server) l → is_end l.said ≡ false
  rest_end l t i = by (is_end l.said) refl
    where
      by : (b : Bool) → is_end l.said ≡ b → is_end l.said ≡ false
      by true e = absurd (false≢true (sym (ap (λ (a : Await). same_await a await.Call) (t.end e)) ∙ rest-call l i))
      by false e = e

  no_abort : (o : Operation) → may_abort o await.Call ≡ false
  no_abort Nothing = refl
  no_abort Connecting = refl
  no_abort Disconnecting = refl
  no_abort (Requesting k o h srm first last) = refl
  no_abort (Receiving srm last code) = refl
  no_abort Aborting = refl

  module _ (g : Past) (l : Link) (t : Tidy l.client l.said) (i : AtRest (limit_for l.server) l) (s : Standing cs g l) where
    quietly : (m : Move) → Quiet l m → past_after g l m ≡ g → Moment (past_after g l m) (move l m)
    quietly m q e = moment_as g (past_after g l m) (move l m) e (subst (Moment g) (sym q.still) (resting i s))

    user-past : (u : UserCall) → shown.goes l u ≡ false → past_after g l (user u) ≡ g
    user-past u e = λ j. record { connected = user-connected g.connected l u e j; named = refused-named g.named l u e j }

    begun : (u : UserCall) → Many u → PlainUser u → shown.goes l u ≡ true → Moment g (move l (user u))
    begun u m pl e =
        inside u m (limit_for l.server) l
        ((part u m).begins (limit_for l.server) l (i, s.settings) pl e) refl s

    -- a call of the user, by whether it goes
    calls : (u : UserCall) → PlainUser u → (b : Bool) → shown.goes l u ≡ b → Moment (past_after g l (user u)) (move l (user u))
    calls u pl false e = quietly (user u) (quiet-refused l u e) (user-past u e)
    calls (connect hs) pl true e = connects (connect_begins cs g l small i s hs pl e)
    calls (disconnect hs) pl true e =
        let c : connected_by g.connected l (user (disconnect hs)) ≡ false = ap (λ (b : Bool). g.connected && not b) e ∙ and_false g.connected in
        let n : named_by g.named l (user (disconnect hs)) ≡ None = ap (λ (b : Bool). pick b None g.named) e in
        disconnects (subst (λ (h : Past). Phase disconnecting cs h (move l (user (disconnect hs))))
        (λ j. record { connected = sym c j; named = sym n j }) (disconnect_begins cs g l i s hs pl e)) c
    calls (put hs has) pl true e = begun (put hs has) puts pl e
    calls (get hs) pl true e = begun (get hs) gets pl e
    calls (body d) pl true e =
        absurd (false≢true (sym (user-refused l (body d) (ap (λ (a : Await). same_await a await.Body) i.awaits)) ∙ e))
    calls abort pl true e =
        absurd (false≢true (sym (user-refused l abort
        (ap (λ (a : Await). not l.client.aborting && may_abort l.client.operation a) i.awaits
        ∙ ap (λ (b : Bool). not l.client.aborting && b) (no_abort l.client.operation) ∙ and_false (not l.client.aborting))) ∙ e))
    calls partTaken pl true e =
        absurd (false≢true (sym (user-refused l partTaken (ap (λ (a : Await). same_await a await.Taken) i.awaits)) ∙ e))

    pub rest-move : (m : Move) → PlainMove m → Moment (past_after g l m) (move l m)
    rest-move (user u) pl = calls u pl (shown.goes l u) refl
    rest-move (host c) pl = quietly (host c) (host-quiet l c i.ready.awaits) refl
    rest-move sendUp pl = quietly sendUp (quiet_send_up l (rest_send l t i)) refl
    rest-move sendDown pl =
        quietly sendDown (quiet_send_down l (ap is_reply i.ready.told))
        (λ j. record { connected = g.connected; named = silent-named g.named l (ap is_reply i.ready.told) j })
    rest-move (offerUp n) pl = quietly (offerUp n) (quiet-none_up l n i.ready.told i.ready.up) refl
    rest-move (offerDown n) pl =
        quietly (offerDown n) (quiet-offer-down l n (ap (λ (a : Await). same_await a await.Bytes) i.awaits))
        (λ j. record {
          connected = offered-connected g.connected l n
              (ap (λ (b : Bool). b && succeeded (move l (offerDown n)).said) (ap is_connecting (t.call (rest-call l i)))) j;
          named = g.named;
        })
    rest-move closeUp pl = quietly closeUp (quiet_close_up l (rest_end l t i)) refl
    rest-move closeDown pl = quietly closeDown (quiet_close_down l (ap has_ended i.ready.told)) refl

  -- ---- inside a Put or a Get

  stands_after : (g : Past) (before l : Link) (box : ℕ) → limit_for before.server ≡ box → Standing cs g before → Kept before l → AtRest box l
      → AtRest (limit_for l.server) l × Standing cs g l
  stands_after g before l box e s k i =
      let r : limit_for l.server ≡ box = i.ready.serves.remote in (
        subst (λ (n : ℕ). AtRest n l) (sym r) i,
        record {
          settings = k.client ∙ s.settings;
          most = subst (λ (x : ServerSettings). x.max_packet_length ≤ 65535) (sym k.server) s.most;
          limit = λ c. r ∙ sym e ∙ s.limit c;
          names = k.id ∙ s.names;
          ids =
              subst (λ (x : ConnectionId). Ids x l.server.engine.peer l.server.tables) (sym k.id)
              (subst (λ (p : Peer). Ids before.client.connection_id p l.server.tables) (sym k.peer)
              (subst (λ (x : List ℕ). Ids before.client.connection_id before.server.engine.peer x) (sym k.tables) s.ids));
        },
      )

  inside-move : (g : Past) (l : Link) (u : UserCall) (y : Many u) (box : ℕ) (before : Link) → Inside u box before l
      → limit_for before.server ≡ box → Standing cs g before → (m : Move) → PlainMove m → Moment (past_after g l m) (move l m)
  inside-move g l u y box before w e s m pl =
      moment_as g (past_after g l m) (move l m) (busy-past g l m ((part u y).busy box before l w)) (by ((part u y).goes_on box before l w m pl))
    where
      by : After cs (Inside u) box before (move l m) → Moment g (move l m)
      by (still x) = inside u y box before x e s
      by (rests x k) = let r = stands_after g before (move l m) box e s k x.0 in resting r.0 r.1
      by (parts.gone x) = finished x

  -- ---- in a Connect or a Disconnect

  connect_on : (g : Past) (l : Link) → Phase connecting cs g l → (m : Move) → Next connecting cs (named_past g l m) (move l m)
      → Moment (past_after g l m) (move l m)
  connect_on g l w m (goes x) =
      let a = phase_goes connecting cs g l w in
      let b = phase_goes connecting cs (named_past g l m) (move l m) x in
      let e : connected_by g.connected l m ≡ g.connected =
      stays-connected g.connected l m a.awaits
      (ap (λ (t : Bool). is_connecting l.client.operation && t) b.said ∙ and_false (is_connecting l.client.operation)) in
      moment_as (named_past g l m) (past_after g l m) (move l m) (λ j. record { connected = e j; named = named_by g.named l m }) (connects x)
  connect_on g l w m (over r s) = resting r (s (connected_by g.connected l m) tt)
  connect_on g l w m (gone e) = finished e

  disconnect_on : (g : Past) (l : Link) → Phase disconnecting cs g l → g.connected ≡ false → (m : Move)
      → Next disconnecting cs (named_past g l m) (move l m)
      → Moment (past_after g l m) (move l m)
  disconnect_on g l w c m x =
      let a = phase_goes disconnecting cs g l w in
      let e : connected_by g.connected l m ≡ g.connected =
      stays-connected g.connected l m a.awaits (ap (λ (o : Operation). is_connecting o && succeeded (move l m).said) a.operation) in
      moment_as (named_past g l m) (past_after g l m) (move l m) (λ j. record { connected = e j; named = named_by g.named l m }) (by x)
    where
      by : Next disconnecting cs (named_past g l m) (move l m) → Moment (named_past g l m) (move l m)
      by (goes x) = disconnects x c
      by (over r s) = resting r (s g.connected c)
      by (gone e) = finished e

  -- ---- the client has ended

  gone_abort : (o : Operation) → may_abort o await.Nothing ≡ false
  gone_abort Nothing = refl
  gone_abort Connecting = refl
  gone_abort Disconnecting = refl
  gone_abort (Requesting k o h srm first last) = refl
  gone_abort (Receiving srm last code) = refl
  gone_abort Aborting = refl

  ended-said : (o : Outcome) → is_end o ≡ true → is_send o ≡ false
  ended-said (said.End x) e = refl
  ended-said (said.Send n) e = absurd (false≢true e)
  ended-said said.Ready e = refl
  ended-said said.WantsBytes e = refl
  ended-said (said.Read n) e = refl
  ended-said (said.Part k b) e = refl
  ended-said (said.Done c n) e = refl
  ended-said (said.Stopped c n) e = refl
  ended-said (said.Aborted c n) e = refl
  ended-said (said.Refused r) e = refl

  module _ (l : Link) (t : Tidy l.client l.said) (e : is_end l.said ≡ true) where
    quiet-end : (m : Move) → Quiet l m → is_end (move l m).said ≡ true
    quiet-end m q = ap (λ (k : Link). is_end k.said) q.still ∙ e

    no_call : (a : Await) → same_await await.Nothing a ≡ false → awaiting l.client a ≡ false
    no_call a i = ap (λ (x : Await). same_await x a) (t.end e) ∙ i

    gone-user : (u : UserCall) → Quiet l (user u)
    gone-user (connect hs) = quiet-user l (connect hs) (no_call await.Call refl)
    gone-user (get hs) = quiet-user l (get hs) (no_call await.Call refl)
    gone-user (disconnect hs) = quiet-user l (disconnect hs) (no_call await.Call refl)
    gone-user (put hs has) = quiet-user l (put hs has) (no_call await.Call refl)
    gone-user (body d) = quiet-user l (body d) (no_call await.Body refl)
    gone-user abort =
        quiet-user l abort
        (ap (λ (a : Await). not l.client.aborting && may_abort l.client.operation a) (t.end e)
        ∙ ap (λ (b : Bool). not l.client.aborting && b) (gone_abort l.client.operation) ∙ and_false (not l.client.aborting))
    gone-user partTaken = quiet-user l partTaken (no_call await.Taken refl)

    called-said : (c : Option Call) (down : List ℕ) → is_end (call_after c l down).said ≡ true
    called-said none down = e
    called-said (some c) down = e

    closed_said : (o : ServerOutcome) (down : List ℕ) → is_end (close_after o down l).said ≡ true
    unfolding stream_ended_step
    closed_said (told.End x) [] =
        subst (λ (b : Bool). is_end (said_after l.said
        (guarded b l.client l.stores
        (after 0 (ends l.client (pick (eqb l.client.begun 0) end.Disconnected end.Truncated) l.stores))).took.outcome) ≡ true)
        (sym (ap (λ (a : Await). same_await a await.Bytes || same_await a await.Call) (t.end e))) (by (short l.stores) (sound l.client))
      where
        by : (a b : Bool) → is_end (said_after l.said (pick a (refuse refusal.StoreTooShort l.client l.stores)
            (pick (b && false) (after 0 (ends l.client (pick (eqb l.client.begun 0) end.Disconnected end.Truncated) l.stores))
            (refuse refusal.WrongMoment l.client l.stores))).took.outcome) ≡ true
        by true b = e
        by false true = e
        by false false = e
    closed_said (told.End x) (b ∷ down) = e
    closed_said told.WantsBytes down = e
    closed_said (told.Reply n) down = e
    closed_said (told.Request r) down = e
    closed_said (told.Refused r) down = e

    gone-move : (m : Move) → is_end (move l m).said ≡ true
    unfolding move
    gone-move (user u) = quiet-end (user u) (gone-user u)
    gone-move (host c) = called-said (server_call l (host c)) l.down
    gone-move sendUp = quiet-end sendUp (quiet_send_up l (ended-said l.said e))
    gone-move sendDown = called-said (server_call l sendDown) (l.down ++ reply_bytes l.told l.server.stores.reply)
    gone-move (offerUp n) = called-said (server_call l (offerUp n)) l.down
    gone-move (offerDown n) = quiet-end (offerDown n) (quiet-offer-down l n (no_call await.Bytes refl))
    gone-move closeUp = called-said (server_call l closeUp) l.down
    gone-move closeDown = closed_said l.told l.down

  -- ---- any move

  moment-move : (g : Past) (l : Link) → Tidy l.client l.said → Moment g l → (m : Move) → PlainMove m
      → Moment (past_after g l m) (move l m)
  moment-move g l t (resting i s) m pl = rest-move g l t i s m pl
  moment-move g l t (inside u y box before w e s) m pl = inside-move g l u y box before w e s m pl
  moment-move g l t (connects w) m pl = connect_on g l w m (connect_move connecting cs small g l w m pl)
  moment-move g l t (disconnects w c) m pl = disconnect_on g l w c m (connect_move disconnecting cs small g l w m pl)
  moment-move g l t (finished e) m pl = finished (gone-move l t e m)

  -- a packet that waits is of bytes
  moment-octets : (g : Past) (l : Link) → Tidy l.client l.said → Moment g l → SendsOctets l
  moment-octets g l t (resting i s) n e = absurd (true≢false (sym (ap is_send e) ∙ rest_send l t i))
  moment-octets g l t (inside u y box before x d s) n e = (part u y).octets box before l x n e
  moment-octets g l t (connects x) n e = phase_octets connecting cs g l x n e
  moment-octets g l t (disconnects x c) n e = phase_octets disconnecting cs g l x n e
  moment-octets g l t (finished x) n e = absurd (true≢false (sym x ∙ ap is_end e))

  pub whole-move : (g : Past) (l : Link) → Whole g l → (m : Move) → PlainMove m → Whole (past_after g l m) (move l m)
  whole-move g l w m pl =
      record {
        tidy = tidy_moved l w.tidy m;
        octets = octets-moved l w.octets (moment-octets g l w.tidy w.moment) m;
        moment = moment-move g l w.tidy w.moment m pl;
      }

  pub whole_run : (ms : List Move) (g : Past) (l : Link) → Whole g l → Plain ms → Whole (past_in g l ms) (moves l ms)
  whole_run [] g l w pl = w
  whole_run (m ∷ ms) g l w pl = whole_run ms (past_after g l m) (move l m) (whole-move g l w m pl.0) pl.1

  -- ---- whenever an operation may be called, nothing is open

  pub rested : (g : Past) (l : Link) → Whole g l → awaiting l.client await.Call ≡ true → AtRest (limit_for l.server) l × Standing cs g l
  rested g l w c = by w.moment
    where
      by : Moment g l → AtRest (limit_for l.server) l × Standing cs g l
      by (resting i s) = (i, s)
      by (inside u y box before x e s) = absurd (false≢true (sym ((part u y).busy box before l x).awaits ∙ c))
      by (connects x) = absurd (false≢true (sym (phase_goes connecting cs g l x).awaits ∙ c))
      by (disconnects x d) = absurd (false≢true (sym (phase_goes disconnecting cs g l x).awaits ∙ c))
      by (finished e) = absurd (false≢true (sym (ap (λ (a : Await). same_await a await.Call) (w.tidy.end e)) ∙ c))

  pub at_rest : (box : ℕ) (g : Past) (l : Link) → Whole g l → awaiting l.client await.Call ≡ true → limit_for l.server ≡ box → At cs box l
  at_rest box g l w c e = let r = rested g l w c in (subst (λ (n : ℕ). AtRest n l) e r.0, r.1.settings)

-- ---- two ends that have just started

abbrev pub nothing_past : Past
nothing_past = record { connected = false; named = None }

pub fresh-standing : (st : ServerSettings) (cs : Settings) (l : Link) → Fresh st cs l → Standing cs nothing_past l
unfolding started client_with serverStarted engine_with peer_with
fresh-standing st cs l f =
    let c = f.client in
    let e = f.server.fresh in
    record {
      settings = ap (λ (x : Client). x.settings) c;
      most = subst (λ (x : Engine). x.settings.max_packet_length ≤ 65535) (sym e) f.server-limit;
      limit = λ h. absurd (false≢true h);
      names = ap (λ (x : Client). x.connection_id) c;
      ids =
          record {
            next = subst (λ (x : Engine). x.peer.next_connection_id < 2 ^ 32) (sym e) (omega arith);
            is_open = ap (λ (x : Client). open_at x.connection_id l.server.engine.peer l.server.tables) c;
          };
    }

pub fresh_tidy : (st : ServerSettings) (cs : Settings) (l : Link) → Fresh st cs l → Tidy l.client l.said
unfolding started client_with
fresh_tidy st cs l f =
    record {
      call = λ h. ap (λ (x : Client). x.operation) f.client;
      sent = λ h. absurd (false≢true (sym (ap is_send f.said) ∙ h));
      end = λ h. absurd (false≢true (sym (ap is_end f.said) ∙ h));
    }
