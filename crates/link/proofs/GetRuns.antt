-- A Get, with Single Response Mode or without, aborted or not, for every run: each move leads from one phase to another or to the end, and
-- what the run tells of it once it is over. Assumes nothing.
use mathlib.Core.Path.{◌≡◌, refl, sym, ap, subst, subst₂, ◌∙◌}
use mathlib.Core.List.{List, [], ◌∷◌, ◌++◌}
use mathlib.Core.Bool.{Bool, true, false, ◌&&◌, ◌||◌, not, true≢false, false≢true}
use mathlib.Core.Logic.{inl, inr}
use Prim.Native.Nat.{ℕ}
use Rattle.packet.specs.Header.{Header}
use Rattle.journal.specs.Calls.{Call, bytes_offered_of, stream_ended_of, reply_taken_of, reply_given_of, object_given_of, body_given_of, body_failed_of, abort_acknowledged_of, password_given_of, nonce_given_of, credentials_given_of, connections_closed_of}
use Rattle.server.specs.declared.Await.{Await as ServerAwait}
use Rattle.server.specs.declared.Await.TheVariants as waits
use Rattle.server.specs.declared.CallKind.TheVariants as kind
use Rattle.server.specs.declared.Outcome.{Outcome as ServerOutcome}
use Rattle.model.specs.Guard.{fits}
use Rattle.model.specs.Runs.{State}
use Rattle.client_model.specs.Numbers.{same_await}
use Rattle.client_model.specs.Guard.{may_abort, abort_fits}
use Rattle.client_model.specs.Step.{Stores, client_with, goes as clientGoes, Done}
use Rattle.client_model.specs.declared.Operation.{Operation}
use Rattle.client_model.specs.declared.Operation.TheVariants.{Requesting, Receiving}
use Rattle.client_model.specs.declared.Kind.TheVariants as opKind
use Rattle.client_model.specs.declared.Await.{Await}
use Rattle.client_model.specs.declared.Await.TheVariants as await
use Rattle.client_model.specs.declared.Client.{Client}
use Rattle.client_model.specs.declared.Outcome.{Outcome}
use Rattle.client_model.specs.declared.Outcome.TheVariants as said
use Rattle.client_model.proofs.Conveyed.{Holding}
use Rattle.client_model.proofs.Putting.{counts-sound}
use Rattle.client_model.proofs.Getting.{Fetch}
use Rattle.link.specs.Link.{Link, link_with, UserCall, connect, get, disconnect, put, body, abort, partTaken, Move, user, host, sendUp, sendDown, offerUp, offerDown, closeUp, closeDown, move, moves}
use Rattle.link.specs.Told.{is_over}
use Rattle.link.specs.Claims.{PlainCall, PlainMove, Plain, Until}
use Rattle.link.proofs.Moves.{host_fits, is_send, is_reply, is_end, has_ended}
use Rattle.link.proofs.ServerMoves.{and_false}
use Rattle.link.proofs.PutRuns.{Silent, at_bytes', at_taken, at_nothing, none-fits}
use Rattle.link.proofs.GetHeard.{GetHeard, get_heard_after, get_heard_in, Untold, untold_user, untold_host, untold_send_up, untold_send_down, untold_offer_up, untold_offer-down, untold_none_up, untold_none-down, untold_close_up, untold_close_down, untold_end-refused}
use Rattle.link.proofs.GetObject.{Thing}
use Rattle.link.proofs.GetJoint.{Origin, box_of, Early, Story, Stage, requesting, receiving, aborting, held, Due, is_waiting, is_requesting, Carries, request, asks, stops, Means, goes_on, refuses, answers, more, whole, fails, stopped, Finished, GetJoint, turn, handing, last-part, asking, stopping, under_way, at_host, reading, acknowledging, replied, coming, ended, Busy, sending, cancelling, AllUp, AllDown, Granting, Taker, awaiting-next, hands, Source, next-waits, last-waits, asks-body, streaming, closing, lost, pouring, draining, Rested, GetNext, goes, over}
use Rattle.link.proofs.GetClientMoves.{send_request, send_asking, send_abort, take_part, take_last, abort_heard, abort_waiting, abort_client, due-sound, due-aborted, abort_due}
use Rattle.link.proofs.GetResponses.{offer-down, see_end}
use Rattle.link.proofs.GetServerMoves.{offer_up, send_down}
use Rattle.link.proofs.GetHostMoves.{reply-given, object-given, body-given, body_failed_lem, pour_given, pour_failed, acknowledged}
use Rattle.link.proofs.Queues.{Queue}
use Rattle.link.proofs.GetStreams.{abort_stream}
use Rattle.link.proofs.GetPours.{next_flows, last_flows}
use Rattle.link.proofs.GetTakes.{take_next, abort_next}
use Rattle.link.proofs.GetFlows.{stream_send, lost_send, stream_offer, close_offer, pour_offer, drain_offer}

-- ---- moves that change nothing

quietly : (j : Fetch) (o : Origin) (h : GetHeard) (l : Link) (m : Move) → Untold l m → GetJoint j o h l → GetNext j o (get_heard_after h l m) (move l m)
quietly j o h l m q now = goes (subst₂ (λ (x : GetHeard) (y : Link). GetJoint j o x y) (sym (q.heard h)) (sym q.still) now)

no_answer : (l : Link) (a : ServerAwait) (c : Call) → l.server.engine.awaits ≡ a → Silent a → Untold l (host c)
no_answer l a c e w = untold_host l c (ap (λ (x : ServerAwait). host_fits x c) e ∙ none-fits a c w)

-- a move of the user, where an Abort leads to this, and the taking of a part to that
by_user : (j : Fetch) (o : Origin) (h : GetHeard) (l : Link) (a : Await) → l.client.awaits ≡ a → GetJoint j o h l → same_await a await.Call ≡ false
    → same_await a await.Body ≡ false
    → GetNext j o (get_heard_after h l (user abort)) (move l (user abort)) → GetNext j o (get_heard_after h l (user partTaken)) (move l (user partTaken))
    → (u : UserCall) → GetNext j o (get_heard_after h l (user u)) (move l (user u))
by_user j o h l a e now c b ab pt (connect hs) =
    quietly j o h l (user (connect hs)) (untold_user l (connect hs) (ap (λ (x : Await). same_await x await.Call) e ∙ c)) now
by_user j o h l a e now c b ab pt (get hs) =
    quietly j o h l (user (get hs)) (untold_user l (get hs) (ap (λ (x : Await). same_await x await.Call) e ∙ c)) now
by_user j o h l a e now c b ab pt (disconnect hs) =
    quietly j o h l (user (disconnect hs)) (untold_user l (disconnect hs) (ap (λ (x : Await). same_await x await.Call) e ∙ c)) now
by_user j o h l a e now c b ab pt (put hs has) =
    quietly j o h l (user (put hs has)) (untold_user l (put hs has) (ap (λ (x : Await). same_await x await.Call) e ∙ c)) now
by_user j o h l a e now c b ab pt (body d) =
    quietly j o h l (user (body d)) (untold_user l (body d) (ap (λ (x : Await). same_await x await.Body) e ∙ b)) now
by_user j o h l a e now c b ab pt abort = ab
by_user j o h l a e now c b ab pt partTaken = pt

-- no part waits
none-taken : (j : Fetch) (o : Origin) (h : GetHeard) (l : Link) (a : Await) → l.client.awaits ≡ a → same_await a await.Taken ≡ false
    → GetJoint j o h l
    → GetNext j o (get_heard_after h l (user partTaken)) (move l (user partTaken))
none-taken j o h l a e t now = quietly j o h l (user partTaken) (untold_user l partTaken (ap (λ (x : Await). same_await x await.Taken) e ∙ t)) now

-- an Abort that may not be made
none-aborted : (j : Fetch) (o : Origin) (h : GetHeard) (l : Link) → GetJoint j o h l → abort_fits l.client ≡ false
    → GetNext j o (get_heard_after h l (user abort)) (move l (user abort))
none-aborted j o h l now e = quietly j o h l (user abort) (untold_user l abort e) now

-- while a response is due
module _ (j : Fetch) (o : Origin) (h : GetHeard) (l : Link) (st : Stage) (sent : List (List ℕ)) (now : GetJoint j o h l) where
  -- an Abort was made before
  again : Due st true j sent h l.client l.stores l.said → GetNext j o (get_heard_after h l (user abort)) (move l (user abort))
  again due =
      let v = due-sound st j sent l.client l.stores due.answered in
      none-aborted j o h l now (by st due.stands.aborting
      (ap (λ (p : Operation). may_abort p l.client.awaits) v.1 ∙ ap (may_abort v.0) due.awaits ∙ sym v.4))
    where
      by : (st : Stage) → l.client.aborting ≡ held st true → may_abort l.client.operation l.client.awaits ≡ (is_waiting st || is_requesting st)
          → abort_fits l.client ≡ false
      by (requesting on initial last) e m = ap (λ (t : Bool). not t && may_abort l.client.operation l.client.awaits) e
      by (receiving on) e m = ap (λ (t : Bool). not t && may_abort l.client.operation l.client.awaits) e
      by aborting e m = ap (λ (t : Bool). not l.client.aborting && t) m ∙ and_false (not l.client.aborting)

  -- by whether one was made; the phase stays with the flag set
  due_abort : (flag : Bool) → Due st flag j sent h l.client l.stores l.said
      → (flag ≡ false → is_waiting st || is_requesting st ≡ true
      → GetJoint j o (abort_heard h) (link_with (abort_client l.client) l.stores said.WantsBytes l.server l.told l.up l.down))
      → GetNext j o (get_heard_after h l (user abort)) (move l (user abort))
  due_abort true due next = again due
  due_abort false due next = by (is_waiting st || is_requesting st) refl
    where
      by : (t : Bool) → (is_waiting st || is_requesting st) ≡ t → GetNext j o (get_heard_after h l (user abort)) (move l (user abort))
      by true e = goes (abort_due j o h l st sent e due (next refl e))
      by false e = absurd (false≢true (only st e due.only))
        where
          only : (st : Stage) → (is_waiting st || is_requesting st) ≡ false → Rattle.link.proofs.GetJoint.flagged st false → false ≡ true
          only (requesting on initial true) e w = sym e
          only (requesting on initial false) e w = sym e
          only (receiving on) e w = sym e
          only aborting e w = w

  due-user : (flag : Bool) → Due st flag j sent h l.client l.stores l.said
      → (flag ≡ false → is_waiting st || is_requesting st ≡ true
      → GetJoint j o (abort_heard h) (link_with (abort_client l.client) l.stores said.WantsBytes l.server l.told l.up l.down))
      → (u : UserCall) → GetNext j o (get_heard_after h l (user u)) (move l (user u))
  due-user flag due next =
      by_user j o h l await.Bytes due.awaits now refl refl (due_abort flag due next) (none-taken j o h l await.Bytes due.awaits refl now)

-- what is told with the Abort
early-aborted : (h : GetHeard) → Early h → Early (abort_heard h)
early-aborted h ea = record { asked = ea.asked; answer = ea.answer; object = ea.object; parts = ea.parts }

story_aborted : (j : Fetch) (o : Origin) (t : Thing (box_of o)) (d : List ℕ) (zs : List (List Header)) (h : GetHeard) → Story j (box_of o) t d zs h
    → Story j (box_of o) t d zs (abort_heard h)
story_aborted j o t d zs h w = record { asked = w.asked; answer = w.answer; object = w.object; parts = λ a. absurd (true≢false a) }

carries-aborted : (j : Fetch) (o : Origin) (st : Stage) (sent : List (List ℕ)) (q : List ℕ) (s : State) (h : GetHeard) → Carries j o st sent q s h
    → Carries j o st sent q s (abort_heard h)
carries-aborted j o st sent q s h (request prior ys p x initial last se be te hold u hs g ea) =
    request prior ys p x initial last se be te hold u hs g (early-aborted h ea)
carries-aborted j o st sent q s h (asks t out d zs se off e a held w) = asks t out d zs se off e a held (story_aborted j o t d zs h w)
carries-aborted j o st sent q s h (stops se e on) = stops se e on

means-aborted : (j : Fetch) (o : Origin) (st : Stage) (sent : List (List ℕ)) (code : ℕ) (x : List Header) (s : State) (h : GetHeard)
    → Means j o st sent code x s h
    → Means j o st sent code x s (abort_heard h)
means-aborted j o st sent code x s h (goes_on initial granted xs e c ge hd g ea) = goes_on initial granted xs e c ge hd g (early-aborted h ea)
means-aborted j o st sent code x s h (refuses q na w i ea) = refuses q na w i (early-aborted h ea)
means-aborted j o st sent code x s h (answers on initial q nc i asked ob pa ok ca) = answers on initial q nc i asked ob pa ok ca
means-aborted j o st sent code x s h (more t out d zs q off after c a held w) = more t out d zs q off after c a held (story_aborted j o t d zs h w)
means-aborted j o st sent code x s h (whole t out d zs q c i e held w) = whole t out d zs q c i e held (story_aborted j o t d zs h w)
means-aborted j o st sent code x s h (fails t d zs q c i w) = fails t d zs q c i (story_aborted j o t d zs h w)
means-aborted j o st sent code x s h (stopped q c i on) = stopped q c i on

-- ---- the streams of Single Response Mode

-- the client that sends its request awaits that it is sent
pub busy-awaits : (j : Fetch) (h : GetHeard) (sent : List (List ℕ)) (c : Client) (s : Stores) (u : Outcome) → Busy j h sent c s u
    → c.awaits ≡ await.Sent
busy-awaits j h sent c s u (sending k a ab) = a.awaits
busy-awaits j h sent c s u (cancelling n k p a e q ab) = a

pub busy-said : (j : Fetch) (h : GetHeard) (sent : List (List ℕ)) (c : Client) (s : Stores) (u : Outcome) → Busy j h sent c s u
    → (n : ℕ) × (u ≡ said.Send n)
busy-said j h sent c s u (sending k a ab) = (a.size, a.said)
busy-said j h sent c s u (cancelling n k p a e q ab) = (n, e)

-- a move of its user: only an Abort does anything, once
busy-user : (j : Fetch) (o : Origin) (h : GetHeard) (l : Link) (sent : List (List ℕ)) → Busy j h sent l.client l.stores l.said
    → GetJoint j o h l
    → ((d : Done) → Busy j (abort_heard h) sent d.client d.stores d.outcome → d.client.begun ≡ 0
    → GetJoint j o (abort_heard h) (link_with d.client d.stores d.outcome l.server l.told l.up l.down))
    → (u : UserCall) → GetNext j o (get_heard_after h l (user u)) (move l (user u))
busy-user j o h l sent bu now next =
    let w = busy-awaits j h sent l.client l.stores l.said bu in
    by_user j o h l await.Sent w now refl refl (by bu) (none-taken j o h l await.Sent w refl now)
  where
    by : Busy j h sent l.client l.stores l.said → GetNext j o (get_heard_after h l (user abort)) (move l (user abort))
    by (sending k a ab) = goes (abort_stream j o h l sent k a ab next)
    by (cancelling n k p a e q ab) =
        none-aborted j o h l now
        (ap (λ (y : Operation). not l.client.aborting && may_abort y l.client.awaits) p ∙ and_false (not l.client.aborting))

-- the client that takes parts sends nothing, and has not ended
pub taker_said : (j : Fetch) (h : GetHeard) (lead : Bool) (zs : List (List Header)) (c : Client) (s : Stores) (u : Outcome)
    → Taker j h lead zs c s u → (is_send u ≡ false) × (is_end u ≡ false)
taker_said j h lead zs c s u (awaiting-next st flag sent due wt tu) = (ap is_send due.said, ap is_end due.said)
taker_said j h lead zs c s u (hands code n x k p a e bg ab) = (ap is_send e, ap is_end e)

-- a move of its user: an Abort, or a part is taken; the phase stays with the client that follows
taker_user : (j : Fetch) (o : Origin) (h : GetHeard) (l : Link) (lead : Bool) (zs : List (List Header)) (ys : List (List ℕ)) → GetJoint j o h l
    → Taker j h lead zs l.client l.stores l.said → Queue ys l.stores.packet l.down l.client.begun
    → ((c : Client) (s : Stores) (u : Outcome) → Taker j (abort_heard h) lead zs c s u → Queue ys s.packet l.down c.begun
    → GetJoint j o (abort_heard h) (link_with c s u l.server l.told l.up l.down))
    → ((c : Client) (s : Stores) (u : Outcome) → Taker j h lead zs c s u → Queue ys s.packet l.down c.begun
    → GetJoint j o h (link_with c s u l.server l.told l.up l.down))
    → (u : UserCall) → GetNext j o (get_heard_after h l (user u)) (move l (user u))
unfolding client_with
taker_user j o h l lead zs ys now (awaiting-next st flag sent due wt tu) qu stop next =
    due-user j o h l st sent now flag due
    (λ f q. stop (abort_client l.client) l.stores said.WantsBytes
    (awaiting-next st true sent (due-aborted st j sent h l.client l.stores l.said q
    (subst (λ (t : Bool). Due st t j sent h l.client l.stores l.said) f due)) wt tu) qu)
taker_user j o h l lead zs ys now (hands code n x k p a e bg ab) qu stop next =
    let w = subst (λ (m : ℕ). Queue ys l.stores.packet l.down m) bg qu in
    by_user j o h l await.Taken a now refl refl
    (goes (abort_next j o h l lead zs code k p a
    (λ y. stop (clientGoes l.client l.client.operation await.Bytes true) l.stores said.WantsBytes y w)))
    (goes (take_next j o h l lead zs code k p a ab
    (λ y. next (clientGoes l.client l.client.operation await.Bytes false) l.stores said.WantsBytes y w)))

-- the server that sends an object takes no bytes, and has not ended
source_awaits : (box : ℕ) (t : Thing box) (out : List (List ℕ)) (d : List ℕ) (xs : List (List Header)) (s : State) (u : ServerOutcome)
    → Source box t out d xs s u → (fits kind.FromPeer s.engine.awaits ≡ false) × (has_ended u ≡ false)
source_awaits box t out d xs s u (next-waits y x n y' a e r m hd g) = (ap (λ (w : ServerAwait). fits kind.FromPeer w) a, ap has_ended e)
source_awaits box t out d xs s u (last-waits y code x n y' a e r la) = (ap (λ (w : ServerAwait). fits kind.FromPeer w) a, ap has_ended e)
source_awaits box t out d xs s u (asks-body r a rd e) = (ap (λ (w : ServerAwait). fits kind.FromPeer w) a, ap has_ended e)

-- the host that is to give body bytes gives them, or cannot
body-answered : (j : Fetch) (o : Origin) (h : GetHeard) (l : Link) → GetJoint j o h l → l.server.engine.awaits ≡ waits.Body
    → ((x : List ℕ) → GetJoint j o (get_heard_after h l (host (body_given_of x))) (move l (host (body_given_of x))))
    → GetJoint j o (get_heard_after h l (host body_failed_of)) (move l (host body_failed_of))
    → (c : Call) → GetNext j o (get_heard_after h l (host c)) (move l (host c))
body-answered j o h l now a given failed = answered
  where
    waiting : (c : Call) → host_fits waits.Body c ≡ false → GetNext j o (get_heard_after h l (host c)) (move l (host c))
    waiting c e = quietly j o h l (host c) (untold_host l c (ap (λ (w : ServerAwait). host_fits w c) a ∙ e)) now

    answered : (c : Call) → GetNext j o (get_heard_after h l (host c)) (move l (host c))
    answered (body_given_of x) = goes (given x)
    answered body_failed_of = goes failed
    answered (reply_given_of code hs) = waiting (reply_given_of code hs) refl
    answered (object_given_of hs has) = waiting (object_given_of hs has) refl
    answered (bytes_offered_of i) = waiting (bytes_offered_of i) refl
    answered stream_ended_of = waiting stream_ended_of refl
    answered reply_taken_of = waiting reply_taken_of refl
    answered (connections_closed_of x) = waiting (connections_closed_of x) refl
    answered abort_acknowledged_of = waiting abort_acknowledged_of refl
    answered (password_given_of x) = waiting (password_given_of x) refl
    answered (nonce_given_of n realm) = waiting (nonce_given_of n realm) refl
    answered (credentials_given_of c) = waiting (credentials_given_of c) refl

-- ---- a move in each phase

pub get_move : (j : Fetch) (o : Origin) (h : GetHeard) (l : Link) → GetJoint j o h l → (m : Move) → PlainMove m
    → GetNext j o (get_heard_after h l m) (move l m)
unfolding client_with Rattle.client_model.specs.Request.sends_abort
get_move j o h l (turn sent xs hold k a b r g dn ea ab) m pl = by m
  where
    now : GetJoint j o h l
    now = turn sent xs hold k a b r g dn ea ab

    by : (m : Move) → GetNext j o (get_heard_after h l m) (move l m)
    by (user u) =
        let p = a.made.packet in
        by_user j o h l await.Sent a.awaits now refl refl
        (goes (abort_waiting j o h l (Requesting opKind.Get p.outgoing p.chunk false a.initial a.last) await.Sent k a.operation
        (counts-sound p.outgoing p.chunk a.counts)
        a.awaits refl refl r dn (inr ea.asked)))
        (none-taken j o h l await.Sent a.awaits refl now) u
    by (host c) = quietly j o h l (host c) (no_answer l waits.Bytes c r.awaits at_bytes') now
    by sendUp = goes (send_request j o h l sent xs hold k a r g dn ea ab)
    by sendDown = quietly j o h l sendDown (untold_send_down l (ap is_reply r.told)) now
    by (offerUp i) = quietly j o h l (offerUp i) (untold_none_up l i r.told r.up) now
    by (offerDown i) = quietly j o h l (offerDown i) (untold_offer-down l i (ap (λ (x : Await). same_await x await.Bytes) a.awaits)) now
    by closeUp = quietly j o h l closeUp (untold_close_up l (ap is_end a.said)) now
    by closeDown = quietly j o h l closeDown (untold_close_down l (ap has_ended r.told)) now
get_move j o h l (handing t out d zs code n x off k p a e b r g dn hold w ab) m pl = by m
  where
    now : GetJoint j o h l
    now = handing t out d zs code n x off k p a e b r g dn hold w ab

    by : (m : Move) → GetNext j o (get_heard_after h l m) (move l m)
    by (user u) =
        by_user j o h l await.Taken a now refl refl
        (goes (abort_waiting j o h l (Receiving false false code) await.Taken k p refl a refl
        (ap (λ (y : Operation). Rattle.client_model.specs.Calls.abort_taken y l.client l.stores) p) r dn (inl w.asked)))
        (goes (take_part j o h l t out d zs code off k p a r g dn hold w ab)) u
    by (host c) = quietly j o h l (host c) (no_answer l waits.Bytes c r.awaits at_bytes') now
    by sendUp = quietly j o h l sendUp (untold_send_up l (ap is_send e)) now
    by sendDown = quietly j o h l sendDown (untold_send_down l (ap is_reply r.told)) now
    by (offerUp i) = quietly j o h l (offerUp i) (untold_none_up l i r.told r.up) now
    by (offerDown i) = quietly j o h l (offerDown i) (untold_offer-down l i (ap (λ (x : Await). same_await x await.Bytes) a)) now
    by closeUp = quietly j o h l closeUp (untold_close_up l (ap is_end e)) now
    by closeDown = quietly j o h l closeDown (untold_close_down l (ap has_ended r.told)) now
get_move j o h l (last-part on code n x k p a e b r g dn fin) m pl = by m
  where
    now : GetJoint j o h l
    now = last-part on code n x k p a e b r g dn fin

    unfit : abort_fits l.client ≡ false
    unfit =
        ap (λ (y : Operation). not l.client.aborting && may_abort y l.client.awaits) p ∙ ap
        (λ (y : Await). not l.client.aborting && may_abort (Receiving on true code) y) a
        ∙ and_false (not l.client.aborting)

    by : (m : Move) → GetNext j o (get_heard_after h l m) (move l m)
    by (user u) = by_user j o h l await.Taken a now refl refl (none-aborted j o h l now unfit) (take_last j o h l on code k p a r g dn fin) u
    by (host c) = quietly j o h l (host c) (no_answer l waits.Bytes c r.awaits at_bytes') now
    by sendUp = quietly j o h l sendUp (untold_send_up l (ap is_send e)) now
    by sendDown = quietly j o h l sendDown (untold_send_down l (ap is_reply r.told)) now
    by (offerUp i) = quietly j o h l (offerUp i) (untold_none_up l i r.told r.up) now
    by (offerDown i) = quietly j o h l (offerDown i) (untold_offer-down l i (ap (λ (x : Await). same_await x await.Bytes) a)) now
    by closeUp = quietly j o h l closeUp (untold_close_up l (ap is_end e)) now
    by closeDown = quietly j o h l closeDown (untold_close_down l (ap has_ended r.told)) now
get_move j o h l (asking t out d zs code n off k p a e q b r g dn hold w ab) m pl = by m
  where
    now : GetJoint j o h l
    now = asking t out d zs code n off k p a e q b r g dn hold w ab

    by : (m : Move) → GetNext j o (get_heard_after h l m) (move l m)
    by (user u) =
        by_user j o h l await.Sent a now refl refl
        (goes (abort_waiting j o h l (Receiving false false code) await.Sent k p refl a refl refl r dn (inl w.asked)))
        (none-taken j o h l await.Sent a refl now) u
    by (host c) = quietly j o h l (host c) (no_answer l waits.Bytes c r.awaits at_bytes') now
    by sendUp = goes (send_asking j o h l t out d zs code n off k p a e q r g dn hold w ab)
    by sendDown = quietly j o h l sendDown (untold_send_down l (ap is_reply r.told)) now
    by (offerUp i) = quietly j o h l (offerUp i) (untold_none_up l i r.told r.up) now
    by (offerDown i) = quietly j o h l (offerDown i) (untold_offer-down l i (ap (λ (x : Await). same_await x await.Bytes) a)) now
    by closeUp = quietly j o h l closeUp (untold_close_up l (ap is_end e)) now
    by closeDown = quietly j o h l closeDown (untold_close_down l (ap has_ended r.told)) now
get_move j o h l (stopping n k p a e q b r dn on ab) m pl = by m
  where
    now : GetJoint j o h l
    now = stopping n k p a e q b r dn on ab

    unfit : abort_fits l.client ≡ false
    unfit = ap (λ (y : Operation). not l.client.aborting && may_abort y l.client.awaits) p ∙ and_false (not l.client.aborting)

    by : (m : Move) → GetNext j o (get_heard_after h l m) (move l m)
    by (user u) = by_user j o h l await.Sent a now refl refl (none-aborted j o h l now unfit) (none-taken j o h l await.Sent a refl now) u
    by (host c) = quietly j o h l (host c) (no_answer l waits.Bytes c r.awaits at_bytes') now
    by sendUp = goes (send_abort j o h l n k p a e q r dn on ab)
    by sendDown = quietly j o h l sendDown (untold_send_down l (ap is_reply r.told)) now
    by (offerUp i) = quietly j o h l (offerUp i) (untold_none_up l i r.told r.up) now
    by (offerDown i) = quietly j o h l (offerDown i) (untold_offer-down l i (ap (λ (x : Await). same_await x await.Bytes) a)) now
    by closeUp = quietly j o h l closeUp (untold_close_up l (ap is_end e)) now
    by closeDown = quietly j o h l closeDown (untold_close_down l (ap has_ended r.told)) now
get_move j o h l (under_way st flag sent q due b v c dn) m pl = by m
  where
    now : GetJoint j o h l
    now = under_way st flag sent q due b v c dn

    by : (m : Move) → GetNext j o (get_heard_after h l m) (move l m)
    by (user u) =
        due-user j o h l st sent now flag due
        (λ f w. under_way st true sent q (due-aborted st j sent h l.client l.stores l.said w
        (subst (λ (t : Bool). Due st t j sent h l.client l.stores l.said) f due)) b v
        (carries-aborted j o st sent q l.server h c) dn) u
    by (host x) = quietly j o h l (host x) (no_answer l waits.Bytes x v.awaits at_bytes') now
    by sendUp = quietly j o h l sendUp (untold_send_up l (ap is_send due.said)) now
    by sendDown = quietly j o h l sendDown (untold_send_down l (ap is_reply v.told)) now
    by (offerUp i) = goes (offer_up j o h l st flag sent q due b v c dn i)
    by (offerDown i) = quietly j o h l (offerDown i) (untold_none-down l i due.said dn) now
    by closeUp = quietly j o h l closeUp (untold_close_up l (ap is_end due.said)) now
    by closeDown = quietly j o h l closeDown (untold_close_down l (ap has_ended v.told)) now
get_move j o h l (at_host flag srm initial confirm sent g r due may b v a p t up dn on) m pl = by m pl
  where
    now : GetJoint j o h l
    now = at_host flag srm initial confirm sent g r due may b v a p t up dn on

    waiting : (c : Call) → host_fits waits.Get c ≡ false → GetNext j o (get_heard_after h l (host c)) (move l (host c))
    waiting c e = quietly j o h l (host c) (untold_host l c (ap (λ (w : ServerAwait). host_fits w c) a ∙ e)) now

    answered : (c : Call) → PlainCall c → GetNext j o (get_heard_after h l (host c)) (move l (host c))
    answered (reply_given_of code hs) pl = goes (reply-given j o h l flag srm initial sent due b v a up dn on code hs pl.0 pl.1 pl.2 now)
    answered (object_given_of hs has) pl = goes (object-given j o h l flag srm initial confirm sent g may due b v a p up dn on hs has pl.0 pl.1 now)
    answered (bytes_offered_of i) pl = waiting (bytes_offered_of i) refl
    answered stream_ended_of pl = waiting stream_ended_of refl
    answered reply_taken_of pl = waiting reply_taken_of refl
    answered (connections_closed_of x) pl = waiting (connections_closed_of x) refl
    answered (body_given_of d) pl = waiting (body_given_of d) refl
    answered body_failed_of pl = waiting body_failed_of refl
    answered abort_acknowledged_of pl = waiting abort_acknowledged_of refl
    answered (password_given_of x) pl = waiting (password_given_of x) refl
    answered (nonce_given_of n realm) pl = waiting (nonce_given_of n realm) refl
    answered (credentials_given_of c) pl = waiting (credentials_given_of c) refl

    by : (m : Move) → PlainMove m → GetNext j o (get_heard_after h l m) (move l m)
    by (user u) pl =
        due-user j o h l (requesting srm initial true) sent now flag due
        (λ f w. at_host true srm initial confirm sent g r (due-aborted (requesting srm initial true) j sent h l.client l.stores l.said w
        (subst (λ (t : Bool). Due (requesting srm initial true) t j sent h l.client l.stores l.said) f due)) may b v a p t up dn
        (record { asked = on.asked; answer = on.answer; object = on.object; parts = on.parts })) u
    by (host c) pl = answered c pl
    by sendUp pl = quietly j o h l sendUp (untold_send_up l (ap is_send due.said)) now
    by sendDown pl = quietly j o h l sendDown (untold_send_down l (ap is_reply t)) now
    by (offerUp i) pl = quietly j o h l (offerUp i) (untold_offer_up l i (ap (λ (w : ServerAwait). fits kind.FromPeer w) a)) now
    by (offerDown i) pl = quietly j o h l (offerDown i) (untold_none-down l i due.said dn) now
    by closeUp pl = quietly j o h l closeUp (untold_close_up l (ap is_end due.said)) now
    by closeDown pl = quietly j o h l closeDown (untold_close_down l (ap has_ended t)) now
get_move j o h l (reading st flag sent th out d zs r due wt off low b v a rd t up dn hold w) m pl = by m
  where
    now : GetJoint j o h l
    now = reading st flag sent th out d zs r due wt off low b v a rd t up dn hold w

    by : (m : Move) → GetNext j o (get_heard_after h l m) (move l m)
    by (user u) =
        due-user j o h l st sent now flag due
        (λ f q. reading st true sent th out d zs r (due-aborted st j sent h l.client l.stores l.said q
        (subst (λ (t : Bool). Due st t j sent h l.client l.stores l.said) f due)) wt off low b v a rd t up dn hold
        (story_aborted j o th d zs h w)) u
    by (host c) =
        body-answered j o h l now a (λ x. body-given j o h l st flag sent th out d zs due wt off low b v a rd up dn hold w x now)
        (body_failed_lem j o h l st flag sent th out d zs due wt off low b v a rd up dn hold w) c
    by sendUp = quietly j o h l sendUp (untold_send_up l (ap is_send due.said)) now
    by sendDown = quietly j o h l sendDown (untold_send_down l (ap is_reply t)) now
    by (offerUp i) = quietly j o h l (offerUp i) (untold_offer_up l i (ap (λ (w : ServerAwait). fits kind.FromPeer w) a)) now
    by (offerDown i) = quietly j o h l (offerDown i) (untold_none-down l i due.said dn) now
    by closeUp = quietly j o h l closeUp (untold_close_up l (ap is_end due.said)) now
    by closeDown = quietly j o h l closeDown (untold_close_down l (ap has_ended t)) now
get_move j o h l (acknowledging sent r due b v a t up dn on) m pl = by m
  where
    now : GetJoint j o h l
    now = acknowledging sent r due b v a t up dn on

    waiting : (c : Call) → host_fits waits.Acknowledgement c ≡ false → GetNext j o (get_heard_after h l (host c)) (move l (host c))
    waiting c e = quietly j o h l (host c) (untold_host l c (ap (λ (w : ServerAwait). host_fits w c) a ∙ e)) now

    answered : (c : Call) → GetNext j o (get_heard_after h l (host c)) (move l (host c))
    answered abort_acknowledged_of = goes (acknowledged j o h l sent due b v a up dn on)
    answered (body_given_of x) = waiting (body_given_of x) refl
    answered body_failed_of = waiting body_failed_of refl
    answered (reply_given_of code hs) = waiting (reply_given_of code hs) refl
    answered (object_given_of hs has) = waiting (object_given_of hs has) refl
    answered (bytes_offered_of i) = waiting (bytes_offered_of i) refl
    answered stream_ended_of = waiting stream_ended_of refl
    answered reply_taken_of = waiting reply_taken_of refl
    answered (connections_closed_of x) = waiting (connections_closed_of x) refl
    answered (password_given_of x) = waiting (password_given_of x) refl
    answered (nonce_given_of n realm) = waiting (nonce_given_of n realm) refl
    answered (credentials_given_of c) = waiting (credentials_given_of c) refl

    by : (m : Move) → GetNext j o (get_heard_after h l m) (move l m)
    by (user u) = due-user j o h l aborting sent now true due (λ f q. absurd (true≢false f)) u
    by (host c) = answered c
    by sendUp = quietly j o h l sendUp (untold_send_up l (ap is_send due.said)) now
    by sendDown = quietly j o h l sendDown (untold_send_down l (ap is_reply t)) now
    by (offerUp i) = quietly j o h l (offerUp i) (untold_offer_up l i (ap (λ (w : ServerAwait). fits kind.FromPeer w) a)) now
    by (offerDown i) = quietly j o h l (offerDown i) (untold_none-down l i due.said dn) now
    by closeUp = quietly j o h l closeUp (untold_close_up l (ap is_end due.said)) now
    by closeDown = quietly j o h l closeDown (untold_close_down l (ap has_ended t)) now
get_move j o h l (replied st flag sent y code x n due b y' mean v a t r up dn) m pl = by m
  where
    now : GetJoint j o h l
    now = replied st flag sent y code x n due b y' mean v a t r up dn

    by : (m : Move) → GetNext j o (get_heard_after h l m) (move l m)
    by (user u) =
        due-user j o h l st sent now flag due
        (λ f q. replied st true sent y code x n (due-aborted st j sent h l.client l.stores l.said q
        (subst (λ (t : Bool). Due st t j sent h l.client l.stores l.said) f due)) b y'
        (means-aborted j o st sent code x l.server h mean) v a t r up dn) u
    by (host c) = quietly j o h l (host c) (no_answer l waits.Taken c a at_taken) now
    by sendUp = quietly j o h l sendUp (untold_send_up l (ap is_send due.said)) now
    by sendDown = goes (send_down j o h l st flag sent y code x n due b y' mean v a t r up dn)
    by (offerUp i) = quietly j o h l (offerUp i) (untold_offer_up l i (ap (λ (w : ServerAwait). fits kind.FromPeer w) a)) now
    by (offerDown i) = quietly j o h l (offerDown i) (untold_none-down l i due.said dn) now
    by closeUp = quietly j o h l closeUp (untold_close_up l (ap is_end due.said)) now
    by closeDown = quietly j o h l closeDown (untold_close_down l (ap has_ended t)) now
get_move j o h l (coming st flag sent y code x due y' mean r half hl) m pl = by m
  where
    now : GetJoint j o h l
    now = coming st flag sent y code x due y' mean r half hl

    by : (m : Move) → GetNext j o (get_heard_after h l m) (move l m)
    by (user u) =
        due-user j o h l st sent now flag due
        (λ f q. coming st true sent y code x (due-aborted st j sent h l.client l.stores l.said q
        (subst (λ (t : Bool). Due st t j sent h l.client l.stores l.said) f due)) y'
        (means-aborted j o st sent code x l.server h mean) r half hl) u
    by (host c) = quietly j o h l (host c) (no_answer l waits.Bytes c r.awaits at_bytes') now
    by sendUp = quietly j o h l sendUp (untold_send_up l (ap is_send due.said)) now
    by sendDown = quietly j o h l sendDown (untold_send_down l (ap is_reply r.told)) now
    by (offerUp i) = quietly j o h l (offerUp i) (untold_none_up l i r.told r.up) now
    by (offerDown i) = offer-down j o h l st flag sent y code x due y' mean r hl half i
    by closeUp = quietly j o h l closeUp (untold_close_up l (ap is_end due.said)) now
    by closeDown = quietly j o h l closeDown (untold_close_down l (ap has_ended r.told)) now
get_move j o h l (ended st flag sent x due b a t lg dn on ob fa) m pl = by m
  where
    now : GetJoint j o h l
    now = ended st flag sent x due b a t lg dn on ob fa

    by : (m : Move) → GetNext j o (get_heard_after h l m) (move l m)
    by (user u) =
        due-user j o h l st sent now flag due
        (λ f q. ended st true sent x (due-aborted st j sent h l.client l.stores l.said q
        (subst (λ (t : Bool). Due st t j sent h l.client l.stores l.said) f due)) b a t lg dn on ob fa) u
    by (host c) = quietly j o h l (host c) (no_answer l waits.Nothing c a at_nothing) now
    by sendUp = quietly j o h l sendUp (untold_send_up l (ap is_send due.said)) now
    by sendDown = quietly j o h l sendDown (untold_send_down l (ap is_reply t)) now
    by (offerUp i) = quietly j o h l (offerUp i) (untold_offer_up l i (ap (λ (w : ServerAwait). fits kind.FromPeer w) a)) now
    by (offerDown i) = quietly j o h l (offerDown i) (untold_none-down l i due.said dn) now
    by closeUp = quietly j o h l closeUp (untold_close_up l (ap is_end due.said)) now
    by closeDown = see_end j o h l st flag sent x due b t lg dn on ob fa
get_move j o h l (streaming sent xs qs vs bu b pre hold au rd ga qu dn ea) m pl = by m
  where
    now : GetJoint j o h l
    now = streaming sent xs qs vs bu b pre hold au rd ga qu dn ea

    offered : (i : ℕ) (qs : List (List ℕ)) (vs : List (List Header)) → Holding sent (xs ++ vs) → AllUp qs vs
        → Queue qs l.server.stores.packet l.up l.server.engine.begun → GetNext j o (get_heard_after h l (offerUp i)) (move l (offerUp i))
    offered i [] [] hd a w = quietly j o h l (offerUp i) (untold_none_up l i rd.told w.0) now
    offered i [] (v ∷ vs) hd a w = absurd a
    offered i (q ∷ qs) [] hd a w = absurd a
    offered i (q ∷ qs) (v ∷ vs) hd a w = goes (stream_offer j o h l sent xs q qs v vs bu b pre hd a rd ga w dn ea i)

    by : (m : Move) → GetNext j o (get_heard_after h l m) (move l m)
    by (user u) =
        busy-user j o h l sent bu now (λ d w z. streaming sent xs qs vs w z pre hold au rd ga qu dn (early-aborted h ea)) u
    by (host c) = quietly j o h l (host c) (no_answer l waits.Bytes c rd.awaits at_bytes') now
    by sendUp = goes (stream_send j o h l sent xs vs qs bu b pre hold au rd ga qu dn ea)
    by sendDown = quietly j o h l sendDown (untold_send_down l (ap is_reply rd.told)) now
    by (offerUp i) = offered i qs vs hold au qu
    by (offerDown i) =
        quietly j o h l (offerDown i)
        (untold_offer-down l i (ap (λ (x : Await). same_await x await.Bytes) (busy-awaits j h sent l.client l.stores l.said bu))) now
    by closeUp = quietly j o h l closeUp (untold_close_up l (ap is_end (busy-said j h sent l.client l.stores l.said bu).1)) now
    by closeDown = quietly j o h l closeDown (untold_close_down l (ap has_ended rd.told)) now
get_move j o h l (closing st flag sent xs qs vs q ws due b pre hold au cl rd ga qu dn ea) m pl = by m
  where
    now : GetJoint j o h l
    now = closing st flag sent xs qs vs q ws due b pre hold au cl rd ga qu dn ea

    by : (m : Move) → GetNext j o (get_heard_after h l m) (move l m)
    by (user u) =
        due-user j o h l st sent now flag due
        (λ f w. closing st true sent xs qs vs q ws (due-aborted st j sent h l.client l.stores l.said w
        (subst (λ (t : Bool). Due st t j sent h l.client l.stores l.said) f due)) b pre hold au cl rd ga qu dn (early-aborted h ea)) u
    by (host c) = quietly j o h l (host c) (no_answer l waits.Bytes c rd.awaits at_bytes') now
    by sendUp = quietly j o h l sendUp (untold_send_up l (ap is_send due.said)) now
    by sendDown = quietly j o h l sendDown (untold_send_down l (ap is_reply rd.told)) now
    by (offerUp i) = goes (close_offer j o h l st flag sent xs q ws due b pre cl rd ga dn ea qs vs hold au qu i)
    by (offerDown i) = quietly j o h l (offerDown i) (untold_none-down l i due.said dn) now
    by closeUp = quietly j o h l closeUp (untold_close_up l (ap is_end due.said)) now
    by closeDown = quietly j o h l closeDown (untold_close_down l (ap has_ended rd.told)) now
get_move j o h l (lost sent x bu b a t lg dn ea n) m pl = by m
  where
    now : GetJoint j o h l
    now = lost sent x bu b a t lg dn ea n

    waiting : l.client.awaits ≡ await.Sent
    waiting = busy-awaits j h sent l.client l.stores l.said bu

    by : (m : Move) → GetNext j o (get_heard_after h l m) (move l m)
    by (user u) = busy-user j o h l sent bu now (λ d w z. lost sent x w z a t lg dn (early-aborted h ea) n) u
    by (host c) = quietly j o h l (host c) (no_answer l waits.Nothing c a at_nothing) now
    by sendUp = goes (lost_send j o h l sent x bu a t lg dn ea n)
    by sendDown = quietly j o h l sendDown (untold_send_down l (ap is_reply t)) now
    by (offerUp i) = quietly j o h l (offerUp i) (untold_offer_up l i (ap (λ (w : ServerAwait). fits kind.FromPeer w) a)) now
    by (offerDown i) = quietly j o h l (offerDown i) (untold_offer-down l i (ap (λ (x : Await). same_await x await.Bytes) waiting)) now
    by closeUp = quietly j o h l closeUp (untold_close_up l (ap is_end (busy-said j h sent l.client l.stores l.said bu).1)) now
    by closeDown =
        quietly j o h l closeDown
        (untold_end-refused l (ap (λ (w : Await). same_await w await.Bytes || same_await w await.Call) waiting)) now
get_move j o h l (pouring t out d zs ys vs on tk ad qu hold gr up v src w) m pl = by m
  where
    now : GetJoint j o h l
    now = pouring t out d zs ys vs on tk ad qu hold gr up v src w

    offered : (i : ℕ) → Taker j h t.lead zs l.client l.stores l.said → (ys : List (List ℕ)) (vs : List (List Header)) → AllDown ys vs
        → Queue ys l.stores.packet l.down l.client.begun → Holding out (zs ++ vs) → Granting t.lead (zs ++ vs)
        → Source (box_of o) t out d (zs ++ vs) l.server l.told → GetNext j o (get_heard_after h l (offerDown i)) (move l (offerDown i))
    offered i (hands code n x k p a e bg ab) ys vs ad qu hold gr src =
        quietly j o h l (offerDown i) (untold_offer-down l i (ap (λ (x : Await). same_await x await.Bytes) a)) now
    offered i (awaiting-next st flag sent due wt tu) [] vs ad qu hold gr src =
        quietly j o h l (offerDown i) (untold_none-down l i due.said qu.0) now
    offered i (awaiting-next st flag sent due wt tu) (y ∷ ys) [] ad qu hold gr src = absurd ad
    offered i (awaiting-next st flag sent due wt tu) (y ∷ ys) (x ∷ vs) ad qu hold gr src =
        (pour_offer j o h l t out d zs on st flag sent due wt tu w y ys x vs ad qu hold gr up v src i).0

    sent : Source (box_of o) t out d (zs ++ vs) l.server l.told → GetNext j o (get_heard_after h l sendDown) (move l sendDown)
    sent (next-waits y x n y' a e r s hd g) =
        goes (next_flows j o h l t out d zs ys vs on tk ad qu hold gr up v w y 0x10 x n y' a e r refl s hd g)
    sent (last-waits y code x n y' a e r la) = goes (last_flows j o h l t out d zs ys vs on tk ad qu hold gr up v w y code x n y' a e r la)
    sent (asks-body r a rd e) = quietly j o h l sendDown (untold_send_down l (ap is_reply e)) now

    answered : Source (box_of o) t out d (zs ++ vs) l.server l.told → (c : Call) → GetNext j o (get_heard_after h l (host c)) (move l (host c))
    answered (next-waits y x n y' a e r s hd g) c = quietly j o h l (host c) (no_answer l waits.Taken c a at_taken) now
    answered (last-waits y code x n y' a e r la) c = quietly j o h l (host c) (no_answer l waits.Taken c a at_taken) now
    answered (asks-body r a rd e) c =
        body-answered j o h l now a
        (λ x. pour_given j o h l t out d zs ys vs on tk ad qu hold gr up v a rd w x now)
        (pour_failed j o h l t out d zs ys vs on tk ad qu hold gr up v a rd w) c

    by : (m : Move) → GetNext j o (get_heard_after h l m) (move l m)
    by (user u) =
        taker_user j o h l t.lead zs ys now tk qu
        (λ c z s k g. pouring t out d zs ys vs on k ad g hold gr up v src (story_aborted j o t d zs h w))
        (λ c z s k g. pouring t out d zs ys vs on k ad g hold gr up v src w) u
    by (host c) = answered src c
    by sendUp = quietly j o h l sendUp (untold_send_up l (taker_said j h t.lead zs l.client l.stores l.said tk).0) now
    by sendDown = sent src
    by (offerUp i) =
        quietly j o h l (offerUp i) (untold_offer_up l i (source_awaits (box_of o) t out d (zs ++ vs) l.server l.told src).0) now
    by (offerDown i) = offered i tk ys vs ad qu hold gr src
    by closeUp = quietly j o h l closeUp (untold_close_up l (taker_said j h t.lead zs l.client l.stores l.said tk).1) now
    by closeDown = quietly j o h l closeDown (untold_close_down l (source_awaits (box_of o) t out d (zs ++ vs) l.server l.told src).1) now
get_move j o h l (draining t out d zs ys vs y code x on tk ad y' qu gr r la w hl) m pl = by m
  where
    now : GetJoint j o h l
    now = draining t out d zs ys vs y code x on tk ad y' qu gr r la w hl

    offered : (i : ℕ) → Taker j h t.lead zs l.client l.stores l.said
        → GetNext j o (get_heard_after h l (offerDown i)) (move l (offerDown i))
    offered i (hands code n x k p a e bg ab) =
        quietly j o h l (offerDown i) (untold_offer-down l i (ap (λ (x : Await). same_await x await.Bytes) a)) now
    offered i (awaiting-next st flag sent due wt tu) =
        (drain_offer j o h l t out d zs on st flag sent due wt tu w y code x y' r hl ys vs ad qu gr la i).0

    by : (m : Move) → GetNext j o (get_heard_after h l m) (move l m)
    by (user u) =
        taker_user j o h l t.lead zs (ys ++ (y ∷ [])) now tk qu
        (λ c z s k g. draining t out d zs ys vs y code x on k ad y' g gr r la (story_aborted j o t d zs h w) hl)
        (λ c z s k g. draining t out d zs ys vs y code x on k ad y' g gr r la w hl) u
    by (host c) = quietly j o h l (host c) (no_answer l waits.Bytes c r.awaits at_bytes') now
    by sendUp = quietly j o h l sendUp (untold_send_up l (taker_said j h t.lead zs l.client l.stores l.said tk).0) now
    by sendDown = quietly j o h l sendDown (untold_send_down l (ap is_reply r.told)) now
    by (offerUp i) = quietly j o h l (offerUp i) (untold_none_up l i r.told r.up) now
    by (offerDown i) = offered i tk
    by closeUp = quietly j o h l closeUp (untold_close_up l (taker_said j h t.lead zs l.client l.stores l.said tk).1) now
    by closeDown = quietly j o h l closeDown (untold_close_down l (ap has_ended r.told)) now

-- ---- a run

taker_going : (j : Fetch) (h : GetHeard) (lead : Bool) (zs : List (List Header)) (c : Client) (s : Stores) (u : Outcome) → Taker j h lead zs c s u
    → is_over u ≡ false
taker_going j h lead zs c s u (awaiting-next st flag sent due wt tu) = ap is_over due.said
taker_going j h lead zs c s u (hands code n x k p a e bg ab) = ap is_over e

-- while it goes on, nothing is over
pub get_going : (j : Fetch) (o : Origin) (h : GetHeard) (l : Link) → GetJoint j o h l → is_over l.said ≡ false
get_going j o h l (turn sent xs hold k a b r g dn ea ab) = ap is_over a.said
get_going j o h l (handing t out d zs code n x off k p a e b r g dn hold w ab) = ap is_over e
get_going j o h l (last-part on code n x k p a e b r g dn fin) = ap is_over e
get_going j o h l (asking t out d zs code n off k p a e q b r g dn hold w ab) = ap is_over e
get_going j o h l (stopping n k p a e q b r dn on ab) = ap is_over e
get_going j o h l (under_way st flag sent q due b v c dn) = ap is_over due.said
get_going j o h l (at_host flag srm initial confirm sent g r due may b v a p t up dn on) = ap is_over due.said
get_going j o h l (reading st flag sent th out d zs r due wt off low b v a rd t up dn hold w) = ap is_over due.said
get_going j o h l (acknowledging sent r due b v a t up dn on) = ap is_over due.said
get_going j o h l (replied st flag sent y code x n due b y' mean v a t r up dn) = ap is_over due.said
get_going j o h l (coming st flag sent y code x due y' mean r half hl) = ap is_over due.said
get_going j o h l (ended st flag sent x due b a t lg dn on ob fa) = ap is_over due.said
get_going j o h l (streaming sent xs qs vs bu b pre hold au rd ga qu dn ea) = ap is_over (busy-said j h sent l.client l.stores l.said bu).1
get_going j o h l (closing st flag sent xs qs vs q ws due b pre hold au cl rd ga qu dn ea) = ap is_over due.said
get_going j o h l (lost sent x bu b a t lg dn ea n) = ap is_over (busy-said j h sent l.client l.stores l.said bu).1
get_going j o h l (pouring t out d zs ys vs on tk ad qu hold gr up v src w) = taker_going j h t.lead zs l.client l.stores l.said tk
get_going j o h l (draining t out d zs ys vs y code x on tk ad y' qu gr r la w hl) = taker_going j h t.lead zs l.client l.stores l.said tk

pub get_run : (j : Fetch) (o : Origin) (ms : List Move) (h : GetHeard) (l : Link) → GetJoint j o h l → Plain ms → Until l ms
    → Finished j o (get_heard_in h l ms) (moves l ms).said × Rested j o (moves l ms)
get_run j o [] h l now pl un = absurd un
get_run j o (m ∷ []) h l now pl un = by (get_move j o h l now m pl.0)
  where
    by : GetNext j o (get_heard_after h l m) (move l m) → Finished j o (get_heard_after h l m) (move l m).said × Rested j o (move l m)
    by (goes w) = absurd (true≢false (sym un ∙ get_going j o (get_heard_after h l m) (move l m) w))
    by (over w r) = (w, r)
get_run j o (m ∷ (k ∷ ms)) h l now pl un =
    by (get_move j o h l now m pl.0) (λ w. get_run j o (k ∷ ms) (get_heard_after h l m) (move l m) w pl.1 un.1)
  where
    by : GetNext j o (get_heard_after h l m) (move l m)
        → (GetJoint j o (get_heard_after h l m) (move l m) → Finished j o (get_heard_in (get_heard_after h l m) (move l m) (k ∷ ms))
        (moves (move l m) (k ∷ ms)).said × Rested j o (moves (move l m) (k ∷ ms)))
        → Finished j o (get_heard_in (get_heard_after h l m) (move l m) (k ∷ ms)) (moves (move l m) (k ∷ ms)).said × Rested j o
        (moves (move l m) (k ∷ ms))
    by (goes w) rest = rest w
    by (over w r) rest = absurd (true≢false (sym w.is_over_lem ∙ un.0))
