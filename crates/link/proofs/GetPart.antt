-- A Get as a part of a longer run: it begins where nothing is open, each move keeps it or ends it, and inside it the client awaits no call of an
-- operation, nothing is about that sets a ConnectionID, and what goes up is of bytes. Assumes nothing.
use mathlib.Core.Path.{◌≡◌, refl, sym, ap, subst, ◌∙◌}
use mathlib.Core.List.{List, [], ◌∷◌, ◌++◌, append-nil}
use mathlib.Core.Bool.{Bool, true, false, true≢false, false≢true}
use mathlib.Core.Option.{some}
use mathlib.Core.Logic.{◌⊎◌, inl, inr}
use Prim.Native.Nat.{ℕ, zero, suc}
use native.Mathlib.Omega.{arith}
use lib.ListN.{take}
use Rattle.text.specs.Unicode.{Octets}
use Rattle.packet.specs.Header.{Header}
use Rattle.packet.specs.Packet.{Request, request_of}
use Rattle.packet.specs.declared.opcode.Opcode.TheVariants as op
use Rattle.incoming.specs.Frame.{Frames, framed}
use Rattle.incoming.specs.declared.frame.Frame.{Frame}
use Rattle.incoming.specs.declared.frame.Frame.TheVariants.{More, Whole, Short}
use Rattle.incoming.proofs.Queued.{Came, goes as stillGoes, comes, queued}
use Rattle.server.specs.declared.Await.{Await as ServerAwait}
use Rattle.server.specs.declared.Await.TheVariants as waits
use Rattle.server.specs.declared.CallKind.TheVariants as kind
use Rattle.model.specs.Guard.{fits}
use Rattle.model.specs.Runs.{State}
use Rattle.client_model.specs.Numbers.{same_await}
use Rattle.client_model.specs.Guard.{awaiting}
use Rattle.client_model.specs.Answer.{is_connecting}
use Rattle.client_model.specs.declared.Kind.TheVariants as opKind
use Rattle.client_model.specs.declared.Operation.{Operation}
use Rattle.client_model.specs.declared.Operation.TheVariants.{Requesting, Receiving, Aborting}
use Rattle.outgoing.specs.declared.object.Outgoing.{Outgoing}
use Rattle.outgoing.specs.declared.object.Chunk.{Chunk}
use Rattle.client_model.specs.declared.Await.{Await}
use Rattle.client_model.specs.declared.Await.TheVariants as await
use Rattle.client_model.specs.declared.Outcome.{Outcome}
use Rattle.client_model.specs.declared.Outcome.TheVariants as said
use Rattle.client_model.proofs.Getting.{Fetch, next_up, abort_up, sent-octets, next-octets, abort_octets}
use Rattle.link.specs.Link.{Link, get, Move, user, move}
use Rattle.link.specs.Told.{goes}
use Rattle.link.specs.Claims.{PlainMove}
use Rattle.link.proofs.Moves.{is_send, is_end}
use Rattle.link.proofs.Joint.{AtRest, Begun}
use Rattle.link.proofs.Queues.{join_all}
use Rattle.link.proofs.GetHeard.{GetHeard, none_heard, get_heard_after}
use Rattle.link.proofs.GetJoint.{Origin, Stage, requesting, receiving, aborting, Answered, Carries, request, asks, stops, GetJoint, turn, handing, last-part, asking, stopping, under_way, at_host, reading, acknowledging, replied, coming, ended, Busy, sending, cancelling, Closes, last_one, cancels, Taker, awaiting-next, hands, next-waits, last-waits, asks-body, streaming, closing, lost, pouring, draining, both-ended, is_idle, GetNext, goes as goes_on_of, over}
use Rattle.link.proofs.GetRuns.{busy-awaits, taker_said, get_move}
use Rattle.link.proofs.GetSlice.{origin_of, fetch, get_begins}

-- ---- begun, and led on

-- a Get with the headers `hs` that was called in `before`, where nothing was open, and has led to `l`
pub record GetInside (hs : List ℕ) (box : ℕ) (before l : Link) : Type 0 where
  pub idle : AtRest box before
  pub octets : Octets hs
  pub called : goes before (get hs) ≡ true
  pub heard : GetHeard
  pub joint : GetJoint (fetch box before idle hs octets called) (origin_of before) heard l

pub inside-begins : (hs : List ℕ) (box : ℕ) (l : Link) → AtRest box l → Octets hs → goes l (get hs) ≡ true
    → GetInside hs box l (move l (user (get hs)))
inside-begins hs box l i oct go =
    record { idle = i; octets = oct; called = go; heard = none_heard; joint = get_begins box l i hs oct go }

-- a move leads on, or nothing is open, or the client has ended
pub data GetAfter (hs : List ℕ) (box : ℕ) (before l : Link) : Type 0 where
  still : GetInside hs box before l → GetAfter hs box before l
  rests : AtRest box l → GetAfter hs box before l
  gone : is_end l.said ≡ true → GetAfter hs box before l

pub inside-goes : (hs : List ℕ) (box : ℕ) (before l : Link) → GetInside hs box before l → (m : Move) → PlainMove m → GetAfter hs box before (move l m)
inside-goes hs box before l w m pl = by (get_move (fetch box before w.idle hs w.octets w.called) (origin_of before) w.heard l w.joint m
    pl)
  where
    by : GetNext (fetch box before w.idle hs w.octets w.called) (origin_of before) (get_heard_after w.heard l m) (move l m)
        → GetAfter hs box before (move l m)
    by (goes_on_of g) = still (record {
      idle = w.idle;
      octets = w.octets;
      called = w.called;
      heard = get_heard_after
          w.heard l m;
      joint = g;
    })
    by (over f (both-ended x e t lg)) = gone e
    by (over f (is_idle i s)) = rests (subst (λ (n : ℕ). AtRest n (move l m)) w.idle.ready.serves.remote i)

-- ---- the client inside it

-- its operation
pub data GetOperation (p : Operation) : Type 0 where
  is_requesting_lem : (o : Outgoing) (h : Chunk) (srm initial last : Bool) → p ≡ Requesting opKind.Get o h srm initial last → GetOperation p
  is_receiving : (srm last : Bool) (code : ℕ) → p ≡ Receiving srm last code → GetOperation p
  is_aborting : p ≡ Aborting → GetOperation p

answered-operation : (st : Stage) (j : Fetch) (sent : List (List ℕ)) (l : Link) → Answered st j sent l.client l.stores
    → GetOperation l.client.operation
answered-operation (requesting on initial true) j sent l a = is_requesting_lem a.outgoing a.chunk on initial true a.operation
answered-operation (requesting on initial false) j sent l a = is_requesting_lem a.rest.outgoing a.rest.chunk false initial false a.operation
answered-operation (receiving on) j sent l a = is_receiving on false a.0 a.1
answered-operation aborting j sent l a = is_aborting a

-- under Single Response Mode, while it sends and while it takes parts
busy-operation : (j : Fetch) (h : GetHeard) (sent : List (List ℕ)) (l : Link) → Busy j h sent l.client l.stores l.said
    → GetOperation l.client.operation
busy-operation j h sent l (sending k a ab) =
    is_requesting_lem a.made.packet.outgoing a.made.packet.chunk true a.initial a.last a.operation
busy-operation j h sent l (cancelling n k p a e q ab) = is_aborting p

taker_operation : (j : Fetch) (h : GetHeard) (lead : Bool) (zs : List (List Header)) (l : Link)
    → Taker j h lead zs l.client l.stores l.said → GetOperation l.client.operation
taker_operation j h lead zs l (awaiting-next st flag sent due wt tu) = answered-operation st j sent l due.answered
taker_operation j h lead zs l (hands code n x k p a e bg ab) = is_receiving true false code p

pub get_operation : (j : Fetch) (o : Origin) (h : GetHeard) (l : Link) → GetJoint j o h l → GetOperation l.client.operation
get_operation j o h l (turn sent xs hold k a b r g dn ea ab) =
    is_requesting_lem a.made.packet.outgoing a.made.packet.chunk false a.initial a.last a.operation
get_operation j o h l (handing t out d zs code n x off k p a e b r g dn hold w ab) = is_receiving false false code p
get_operation j o h l (last-part on code n x k p a e b r g dn fin) = is_receiving on true code p
get_operation j o h l (asking t out d zs code n off k p a e q b r g dn hold w ab) = is_receiving false false code p
get_operation j o h l (stopping n k p a e q b r dn on ab) = is_aborting p
get_operation j o h l (under_way st flag sent q due b v c dn) = answered-operation st j sent l due.answered
get_operation j o h l (at_host flag srm initial confirm sent g r due may b v a p t up dn on) = answered-operation (requesting srm initial true) j sent l
    due.answered
get_operation j o h l (reading st flag sent th out d zs r due wt off low b v a rd t up dn hold w) = answered-operation st j sent l due.answered
get_operation j o h l (acknowledging sent r due b v a t up dn on) = answered-operation aborting j sent l due.answered
get_operation j o h l (replied st flag sent y code x n due b y' mean v a t r up dn) = answered-operation st j sent l due.answered
get_operation j o h l (coming st flag sent y code x due y' mean r half hl) = answered-operation st j sent l due.answered
get_operation j o h l (ended st flag sent x due b a t lg dn on ob fa) = answered-operation st j sent l due.answered
get_operation j o h l (streaming sent xs qs vs bu b pre hold au rd ga qu dn ea) = busy-operation j h sent l bu
get_operation j o h l (closing st flag sent xs qs vs q ws due b pre hold au cl rd ga qu dn ea) = answered-operation st j sent l due.answered
get_operation j o h l (lost sent x bu b a t lg dn ea k) = busy-operation j h sent l bu
get_operation j o h l (pouring t out d zs ys vs on tk ad qu hold gr up v src w) = taker_operation j h t.lead zs l tk
get_operation j o h l (draining t out d zs ys vs y code x on tk ad y' qu gr r la w hl) = taker_operation j h t.lead zs l tk

-- it is no Connect
pub none-connects : (p : Operation) → GetOperation p → is_connecting p ≡ false
none-connects p (is_requesting_lem o h srm initial last e) = ap is_connecting e
none-connects p (is_receiving srm last code e) = ap is_connecting e
none-connects p (is_aborting e) = ap is_connecting e

taker_uncalled : (j : Fetch) (h : GetHeard) (lead : Bool) (zs : List (List Header)) (l : Link)
    → Taker j h lead zs l.client l.stores l.said → awaiting l.client await.Call ≡ false
taker_uncalled j h lead zs l (awaiting-next st flag sent due wt tu) = ap (λ (x : Await). same_await x await.Call) due.awaits
taker_uncalled j h lead zs l (hands code n x k p a e bg ab) = ap (λ (x : Await). same_await x await.Call) a

-- no operation may be called
pub none-called : (j : Fetch) (o : Origin) (h : GetHeard) (l : Link) → GetJoint j o h l → awaiting l.client await.Call ≡ false
none-called j o h l (turn sent xs hold k a b r g dn ea ab) = ap (λ (x : Await). same_await x await.Call) a.awaits
none-called j o h l (handing t out d zs code n x off k p a e b r g dn hold w ab) = ap (λ (x : Await). same_await x await.Call) a
none-called j o h l (last-part on code n x k p a e b r g dn fin) = ap (λ (x : Await). same_await x await.Call) a
none-called j o h l (asking t out d zs code n off k p a e q b r g dn hold w ab) = ap (λ (x : Await). same_await x await.Call) a
none-called j o h l (stopping n k p a e q b r dn on ab) = ap (λ (x : Await). same_await x await.Call) a
none-called j o h l (under_way st flag sent q due b v c dn) = ap (λ (x : Await). same_await x await.Call) due.awaits
none-called j o h l (at_host flag srm initial confirm sent g r due may b v a p t up dn on) = ap (λ (x : Await). same_await x await.Call) due.awaits
none-called j o h l (reading st flag sent th out d zs r due wt off low b v a rd t up dn hold w) = ap (λ (x : Await). same_await x await.Call)
    due.awaits
none-called j o h l (acknowledging sent r due b v a t up dn on) = ap (λ (x : Await). same_await x await.Call) due.awaits
none-called j o h l (replied st flag sent y code x n due b y' mean v a t r up dn) = ap (λ (x : Await). same_await x await.Call) due.awaits
none-called j o h l (coming st flag sent y code x due y' mean r half hl) = ap (λ (x : Await). same_await x await.Call) due.awaits
none-called j o h l (ended st flag sent x due b a t lg dn on ob fa) = ap (λ (x : Await). same_await x await.Call) due.awaits
none-called j o h l (streaming sent xs qs vs bu b pre hold au rd ga qu dn ea) =
    ap (λ (x : Await). same_await x await.Call) (busy-awaits j h sent l.client l.stores l.said bu)
none-called j o h l (closing st flag sent xs qs vs q ws due b pre hold au cl rd ga qu dn ea) =
    ap (λ (x : Await). same_await x await.Call) due.awaits
none-called j o h l (lost sent x bu b a t lg dn ea k) =
    ap (λ (x : Await). same_await x await.Call) (busy-awaits j h sent l.client l.stores l.said bu)
none-called j o h l (pouring t out d zs ys vs on tk ad qu hold gr up v src w) = taker_uncalled j h t.lead zs l tk
none-called j o h l (draining t out d zs ys vs y code x on tk ad y' qu gr r la w hl) = taker_uncalled j h t.lead zs l tk

-- ---- the server inside it

-- what it awaits: no answer to a Connect or a Disconnect
pub data GetAwait (a : ServerAwait) : Type 0 where
  awaits-bytes : a ≡ waits.Bytes → GetAwait a
  awaits_get : a ≡ waits.Get → GetAwait a
  awaits-body : a ≡ waits.Body → GetAwait a
  awaits_abort : a ≡ waits.Acknowledgement → GetAwait a
  awaits-taken : a ≡ waits.Taken → GetAwait a
  awaits-nothing : a ≡ waits.Nothing → GetAwait a

pub get_awaits : (j : Fetch) (o : Origin) (h : GetHeard) (l : Link) → GetJoint j o h l → GetAwait l.server.engine.awaits
get_awaits j o h l (turn sent xs hold k a b r g dn ea ab) = awaits-bytes r.awaits
get_awaits j o h l (handing t out d zs code n x off k p a e b r g dn hold w ab) = awaits-bytes r.awaits
get_awaits j o h l (last-part on code n x k p a e b r g dn fin) = awaits-bytes r.awaits
get_awaits j o h l (asking t out d zs code n off k p a e q b r g dn hold w ab) = awaits-bytes r.awaits
get_awaits j o h l (stopping n k p a e q b r dn on ab) = awaits-bytes r.awaits
get_awaits j o h l (under_way st flag sent q due b v c dn) = awaits-bytes v.awaits
get_awaits j o h l (at_host flag srm initial confirm sent g r due may b v a p t up dn on) = awaits_get a
get_awaits j o h l (reading st flag sent th out d zs r due wt off low b v a rd t up dn hold w) = awaits-body a
get_awaits j o h l (acknowledging sent r due b v a t up dn on) = awaits_abort a
get_awaits j o h l (replied st flag sent y code x n due b y' mean v a t r up dn) = awaits-taken a
get_awaits j o h l (coming st flag sent y code x due y' mean r half hl) = awaits-bytes r.awaits
get_awaits j o h l (ended st flag sent x due b a t lg dn on ob fa) = awaits-nothing a
get_awaits j o h l (streaming sent xs qs vs bu b pre hold au rd ga qu dn ea) = awaits-bytes rd.awaits
get_awaits j o h l (closing st flag sent xs qs vs q ws due b pre hold au cl rd ga qu dn ea) = awaits-bytes rd.awaits
get_awaits j o h l (lost sent x bu b a t lg dn ea k) = awaits-nothing a
get_awaits j o h l (pouring t out d zs ys vs on tk ad qu hold gr up v (next-waits y x n y' a e r m hd g) w) = awaits-taken a
get_awaits j o h l (pouring t out d zs ys vs on tk ad qu hold gr up v (last-waits y code x n y' a e r la) w) = awaits-taken a
get_awaits j o h l (pouring t out d zs ys vs on tk ad qu hold gr up v (asks-body r a rd e) w) = awaits-body a
get_awaits j o h l (draining t out d zs ys vs y code x on tk ad y' qu gr r la w hl) = awaits-bytes r.awaits

-- a packet that is brought to its end is one of a Get, or an Abort
pub record GetPacket (q : List ℕ) : Type 0 where
  pub packet : Request
  pub reads : request_of q ≡ some packet
  pub opcode : (packet.opcode ≡ op.Get) ⊎ (packet.opcode ≡ op.Abort)

carries-packet : (j : Fetch) (o : Origin) (st : Stage) (sent : List (List ℕ)) (q : List ℕ) (s : State) (h : GetHeard) → Carries j o st sent q s h
    → GetPacket q
carries-packet j o st sent q s h (request prior ys p x initial last se be te hold u hs g ea) = record { packet = _; reads = u.reads; opcode = inl refl }
carries-packet j o st sent q s h (asks t out d zs se off e a held w) = subst GetPacket (sym e)
    (record { packet = _; reads = next_up.reads; opcode = inl refl })
carries-packet j o st sent q s h (stops se e on) = subst GetPacket (sym e) (record { packet = _; reads = (abort_up j.id).reads; opcode = inr refl })

-- no bytes bring none to its end
none-ends : (s : State) (n : ℕ) (up : List ℕ) → up ≡ [] → (framed s.stores.packet s.engine.begun 0 (take n up)).result.frame ≡ More
unfolding framed
none-ends s zero up e = refl
none-ends s (suc n) up e = ap (λ (u : List ℕ). (framed s.stores.packet s.engine.begun 0 (take (suc n) u)).result.frame) e

abbrev number : Frame → ℕ
number More = 0
number Whole = 1
number Short = 2

not-whole : (f : Frame) → f ≡ More → f ≡ Whole → ◌≡◌ {A = ℕ} 0 1
not-whole f e w = ap number (sym e ∙ w)

pub get_packet_lem : (j : Fetch) (o : Origin) (h : GetHeard) (l : Link) → GetJoint j o h l → (n : ℕ)
    → fits kind.FromPeer l.server.engine.awaits ≡ true
    → let f = framed l.server.stores.packet l.server.engine.begun 0 (take n l.up) in f.result.frame ≡ Whole
    → GetPacket (take f.result.begun f.packet)
get_packet_lem j o h l now n ft w = by now
  where
    f : Frames
    f = framed l.server.stores.packet l.server.engine.begun 0 (take n l.up)

    none_up : l.up ≡ [] → GetPacket (take f.result.begun f.packet)
    none_up e = let z = not-whole f.result.frame (none-ends l.server n l.up e) w in absurd (omega (arith, z))

    -- the first packet under way
    first_up : (q behind : List ℕ) → Begun q l.server.stores.packet l.up behind l.server.engine.begun → GetPacket q
        → GetPacket (take f.result.begun f.packet)
    first_up q behind bg pk =
        came (subst (λ (y : List ℕ). Came q l.server.stores.packet bg.rest l.server.engine.begun 0 n
        (framed l.server.stores.packet l.server.engine.begun 0 (take n y))) (sym bg.is)
        (queued bg.rest q l.server.stores.packet behind l.server.engine.begun 0 n bg.half))
      where
        came : Came q l.server.stores.packet bg.rest l.server.engine.begun 0 n f → GetPacket (take f.result.begun f.packet)
        came (stillGoes x lt e y le) =
            let z = not-whole f.result.frame (ap (λ (g : Frames). g.result.frame) e) w in absurd (omega (arith, z))
        came (comes x ge e y le) = subst GetPacket (sym (ap (λ (g : Frames). take g.result.begun g.packet) e ∙ y)) pk

    closes-packet : (st : Stage) (q : List ℕ) (ws : List (List Header)) → Closes j st q ws → GetPacket q
    closes-packet st q ws (last_one initial x se we u pl) = record { packet = _; reads = u.reads; opcode = inl refl }
    closes-packet st q ws (cancels se we e) =
        subst GetPacket (sym e) (record { packet = _; reads = (abort_up j.id).reads; opcode = inr refl })

    by : GetJoint j o h l → GetPacket (take f.result.begun f.packet)
    by (turn sent xs hold k a b r g dn ea ab) = none_up r.up
    by (handing t out d zs code k x off s p a e b r g dn hold w ab) = none_up r.up
    by (last-part on code k x s p a e b r g dn fin) = none_up r.up
    by (asking t out d zs code k off s p a e q b r g dn hold w ab) = none_up r.up
    by (stopping k s p a e q b r dn on ab) = none_up r.up
    by (under_way st flag sent q due b v c dn) =
        first_up q [] (record { rest = l.up; half = v.half; is = sym (append-nil l.up) }) (carries-packet j o st sent q l.server h c)
    by (at_host flag srm initial confirm sent g r due may b v a p t up dn on) = none_up up
    by (reading st flag sent th out d zs r due wt off low b v a rd t up dn hold y) = none_up up
    by (acknowledging sent r due b v a t up dn on) = none_up up
    by (replied st flag sent y code x k due b y' mean v a t r up dn) = none_up up
    by (coming st flag sent y code x due y' mean r half hl) = none_up r.up
    by (ended st flag sent x due b a t lg dn on ob fa) = absurd (false≢true (sym (ap (λ (c : ServerAwait). fits kind.FromPeer c) a) ∙ ft))
    by (streaming sent xs [] vs bu b pre hold au rd ga qu dn ea) = none_up qu.0
    by (streaming sent xs (q ∷ qs) [] bu b pre hold au rd ga qu dn ea) = absurd au
    by (streaming sent xs (q ∷ qs) (v ∷ vs) bu b pre hold au rd ga qu dn ea) =
        first_up q (join_all qs) qu (record { packet = _; reads = au.0.reads; opcode = inl refl })
    by (closing st flag sent xs [] vs q ws due b pre hold au cl rd ga qu dn ea) = first_up q [] qu (closes-packet st q ws cl)
    by (closing st flag sent xs (p ∷ qs) [] q ws due b pre hold au cl rd ga qu dn ea) = absurd au
    by (closing st flag sent xs (p ∷ qs) (v ∷ vs) q ws due b pre hold au cl rd ga qu dn ea) =
        first_up p (join_all (qs ++ (q ∷ []))) qu (record { packet = _; reads = au.0.reads; opcode = inl refl })
    by (lost sent x bu b a t lg dn ea k) = absurd (false≢true (sym (ap (λ (c : ServerAwait). fits kind.FromPeer c) a) ∙ ft))
    by (pouring t out d zs ys vs on tk ad qu hold gr up v src y) = none_up up
    by (draining t out d zs ys vs y code x on tk ad y' qu gr r la z hl) = none_up r.up

-- ---- what goes up

-- a packet that waits is of bytes
pub get_octets : (j : Fetch) (o : Origin) (h : GetHeard) (l : Link) → GetJoint j o h l → (n : ℕ) → l.said ≡ said.Send n
    → Octets (take n l.stores.request)
get_octets j o h l now n e = by now
  where
    size : Outcome → ℕ
    size (said.Send k) = k
    size said.Ready = 0
    size said.WantsBytes = 0
    size (said.Read k) = 0
    size (said.Part k b) = 0
    size (said.Done c k) = 0
    size (said.Stopped c k) = 0
    size (said.Aborted c k) = 0
    size (said.End x) = 0
    size (said.Refused r) = 0

    -- the length that was said
    same : (k : ℕ) → l.said ≡ said.Send k → n ≡ k
    same k a = ap size (sym e ∙ a)

    none-sent : is_send l.said ≡ false → Octets (take n l.stores.request)
    none-sent a = absurd (true≢false (sym (ap is_send e) ∙ a))

    busy-octets : (sent : List (List ℕ)) → Busy j h sent l.client l.stores l.said → Octets (take n l.stores.request)
    busy-octets sent (sending k a ab) =
        subst (λ (i : ℕ). Octets (take i l.stores.request)) (sym (same a.size a.said))
        (subst (λ (y : List ℕ). Octets (take a.size y)) (sym a.request) (sent-octets j true sent l.client l.said l.stores a))
    busy-octets sent (cancelling k s p a q u ab) =
        subst (λ (i : ℕ). Octets (take i l.stores.request)) (sym (same k q)) (subst Octets (sym u) (abort_octets j.id))

    by : GetJoint j o h l → Octets (take n l.stores.request)
    by (turn sent xs hold k a b r g dn ea ab) =
        subst (λ (i : ℕ). Octets (take i l.stores.request)) (sym (same a.size a.said))
        (subst (λ (y : List ℕ). Octets (take a.size y)) (sym a.request) (sent-octets j false sent l.client l.said l.stores a))
    by (handing t out d zs code k x off s p a q b r g dn hold w ab) = none-sent (ap is_send q)
    by (last-part on code k x s p a q b r g dn fin) = none-sent (ap is_send q)
    by (asking t out d zs code k off s p a q u b r g dn hold w ab) =
        subst (λ (i : ℕ). Octets (take i l.stores.request)) (sym (same k q)) (subst Octets (sym u) next-octets)
    by (stopping k s p a q u b r dn on ab) =
        subst (λ (i : ℕ). Octets (take i l.stores.request)) (sym (same k q)) (subst Octets (sym u) (abort_octets j.id))
    by (under_way st flag sent q due b v c dn) = none-sent (ap is_send due.said)
    by (at_host flag srm initial confirm sent g r due may b v a p t up dn on) = none-sent (ap is_send due.said)
    by (reading st flag sent th out d zs r due wt off low b v a rd t up dn hold y) = none-sent (ap is_send due.said)
    by (acknowledging sent r due b v a t up dn on) = none-sent (ap is_send due.said)
    by (replied st flag sent y code x k due b y' mean v a t r up dn) = none-sent (ap is_send due.said)
    by (coming st flag sent y code x due y' mean r half hl) = none-sent (ap is_send due.said)
    by (ended st flag sent x due b a t lg dn on ob fa) = none-sent (ap is_send due.said)
    by (streaming sent xs qs vs bu b pre hold au rd ga qu dn ea) = busy-octets sent bu
    by (closing st flag sent xs qs vs q ws due b pre hold au cl rd ga qu dn ea) = none-sent (ap is_send due.said)
    by (lost sent x bu b a t lg dn ea k) = busy-octets sent bu
    by (pouring t out d zs ys vs on tk ad qu hold gr up v src w) =
        none-sent (taker_said j h t.lead zs l.client l.stores l.said tk).0
    by (draining t out d zs ys vs y code x on tk ad y' qu gr r la w hl) =
        none-sent (taker_said j h t.lead zs l.client l.stores l.said tk).0
