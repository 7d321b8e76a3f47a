-- The moves of a Get under Single Response Mode (SRM) by phases: the request goes up as a stream, to a server that gathers or has ended, and the
-- object comes down as one. Each lemma takes what its phase holds and gives the phase that follows. Assumes nothing.
use mathlib.Core.Path.{◌≡◌, refl, sym, ap, subst, ◌∙◌}
use mathlib.Core.List.{List, [], ◌∷◌, ◌++◌, append-nil, append_assoc}
use mathlib.Core.Bool.{Bool, true, false, ◌&&◌, ◌||◌, true≢false, false≢true}
use mathlib.Core.Option.{some}
use mathlib.Core.Logic.{inl, inr}
use Prim.Native.Nat.{ℕ, ◌≤◌, ◌<◌}
use native.Mathlib.Omega.{arith}
use lib.ListN.{length, length-append}
use borrow.Author.Tests.{le-leb}
use Rattle.packet.specs.Codes.{sent_code}
use Rattle.packet.specs.HeaderIds as header_id
use Rattle.packet.specs.Header.{Header, first}
use Rattle.packet.specs.declared.opcode.Opcode.TheVariants as op
use Rattle.journal.specs.Journal.{is_enable}
use Rattle.journal.specs.Record.{bare, kept_by_get}
use Rattle.incoming.specs.Gather.{Gathering}
use Rattle.incoming.specs.Survey.{survey_of}
use Rattle.incoming.proofs.Queued.{Half}
use Rattle.server.specs.declared.Operation.TheVariants.{Getting}
use Rattle.server.specs.declared.Await.TheVariants as waits
use Rattle.server.specs.declared.End.{End as ServerEnd}
use Rattle.server.specs.declared.End.TheVariants as end
use Rattle.server.specs.declared.Engine.{Engine}
use Rattle.server.specs.declared.HostRequest.TheVariants as hostRequest
use Rattle.server.specs.declared.Outcome.TheVariants as told
use Rattle.model.specs.Step.{Stores, with_gathered, engine_with, Done, wants, asks, ends}
use Rattle.model.specs.Runs.{State}
use Rattle.model.proofs.Fit.{Base}
use Rattle.model.proofs.ServerGet.{GetDid, full, asks-host, goes_on as getGoes, silent as getSilent}
use Rattle.client_model.specs.Step.{client_with}
use Rattle.client_model.proofs.Conveyed.{Holding}
use Rattle.client_model.proofs.Putting.{is_none, Plainly, holding-more}
use Rattle.client_model.proofs.Getting.{Fetch, wants as asks_srm, wish, Waits, Up, Holds, kept_all, goes_up, made_packet, sent_packet, ends-first, waits-first, ends-kept, kept-within, abort_bytes, abort_up}
use Rattle.link.specs.Link.{Link, link_with, sendUp, offerUp, offerDown, move}
use Rattle.link.specs.Told.{part_by_of, is_accepted}
use Rattle.link.proofs.Joint.{Begun}
use Rattle.link.proofs.Queues.{join_all, AllWhole, Queue, queue-next, queue-more, whole_append}
use Rattle.link.proofs.ServerMoves.{did_link}
use Rattle.link.proofs.GetHeard.{GetHeard, get_heard_after, silent}
use Rattle.link.proofs.GetObject.{Down, Thing}
use Rattle.link.proofs.GetJoint.{Origin, box_of, Gathers, gathered, Early, Story, Stage, requesting, aborting, Answered, Due, is_waiting, is_first, is_on, on_after, stops, Means, whole, fails, Large, AllUp, AllDown, Prefix, Busy, sending, cancelling, Closes, last_one, cancels, Reader, Granting, Turning, awaiting-next, Last, all-gone, breaks, Source, Rest, GetJoint, ended, streaming, closing, lost, pouring, draining, GetNext, goes}
use Rattle.link.proofs.GetServerMoves.{heard_did, Acts, stays_on, wait-none, did_ask, did-end, offer_up}
use Rattle.link.proofs.GetResponses.{offer-down, late-none}
use Rattle.link.proofs.GetStreams.{send_last, send_more, send_cancel}
use Rattle.link.proofs.GetReads.{stream_up}
use Rattle.link.proofs.GetPours.{taker_room}
use Rattle.link.proofs.GetTakes.{take-down}

-- ---- lists

-- what the first packets carry is within what all do
kept-first : (xs ys : List (List Header)) → length (kept_all xs) ≤ length (kept_all (xs ++ ys))
kept-first [] ys = omega arith
kept-first (x ∷ xs) ys =
    let a = length-append (kept_by_get x) (kept_all xs) in
    let b = length-append (kept_by_get x) (kept_all (xs ++ ys)) in
    let c = kept-first xs ys in
    omega (arith, a, b, c)

-- the headers of one more packet are found
held_on : (sent : List (List ℕ)) (xs : List (List Header)) (v : List Header) (vs : List (List Header)) → Holding sent (xs ++ (v ∷ vs))
    → Holding sent ((xs ++ (v ∷ [])) ++ vs)
held_on sent xs v vs h = subst (Holding sent) (sym (append_assoc xs (v ∷ []) vs)) h

-- too many were gathered
too_many : (j : Fetch) (sent : List (List ℕ)) (xs : List (List Header)) (v : List Header) (vs : List (List Header)) → Prefix j sent
    → Holding sent (xs ++ (v ∷ vs)) → 65535 < length (kept_all (xs ++ (v ∷ []))) → 65535 < length (wish j)
too_many j sent xs v vs p h n =
    let a = kept-within j sent p.0 ((xs ++ (v ∷ [])) ++ vs) p.1 (held_on sent xs v vs h) in
    let b = kept-first (xs ++ (v ∷ [])) vs in
    omega (arith, a, b, n)

pub all_up_whole : (qs : List (List ℕ)) (vs : List (List Header)) → AllUp qs vs → AllWhole qs
all_up_whole [] vs a = tt
all_up_whole (q ∷ qs) [] a = absurd a
all_up_whole (q ∷ qs) (v ∷ vs) a = (a.0.whole, all_up_whole qs vs a.2)

all-down-whole : (ys : List (List ℕ)) (vs : List (List Header)) → AllDown ys vs → AllWhole ys
all-down-whole [] vs a = tt
all-down-whole (y ∷ ys) [] a = absurd a
all-down-whole (y ∷ ys) (v ∷ vs) a = (a.0.whole, all-down-whole ys vs a.1)

up_append : (qs : List (List ℕ)) (vs : List (List Header)) (q : List ℕ) (x : List Header) → AllUp qs vs → Up q op.Get false x → Plainly false x
    → AllUp (qs ++ (q ∷ [])) (vs ++ (x ∷ []))
up_append [] [] q x a u p = (u, p, tt)
up_append [] (v ∷ vs) q x a u p = absurd a
up_append (z ∷ qs) [] q x a u p = absurd a
up_append (z ∷ qs) (v ∷ vs) q x a u p = (a.0, a.1, up_append qs vs q x a.2 u p)

-- one packet more in the queue
queue-one : (qs : List (List ℕ)) (q p up : List ℕ) (b : ℕ) → Queue qs p up b → AllWhole (q ∷ []) → 65535 ≤ length p
    → Queue (qs ++ (q ∷ [])) p (up ++ q) b
queue-one qs q p up b w g r =
    subst (λ (x : List ℕ). Queue (qs ++ (q ∷ [])) p (up ++ x) b) (append-nil q) (queue-more qs (q ∷ []) p up b w g r)

-- a queue of one packet
queue_half : (q p up : List ℕ) (b : ℕ) → Begun q p up [] b → Half q p up b
queue_half q p up b w = subst (λ (u : List ℕ). Half q p u b) (sym (w.is ∙ append-nil w.rest)) w.half

-- ---- the server takes a packet of the request, behind which others are

module _ (j : Fetch) (o : Origin) (h : GetHeard) (l : Link) (xs : List (List Header)) (rd : Reader o l.server l.told)
    (ga : Gathers true l.server xs) (q behind : List ℕ) (x : List Header) (u : Up q op.Get false x) (pl : Plainly false x)
    (bg : Begun q l.server.stores.packet l.up behind l.server.engine.begun)
    (still : (v : State) (rest : List ℕ) → Reader o v told.WantsBytes → Gathers true v xs → Begun q v.stores.packet rest behind v.engine.begun
    → GetJoint j o h (link_with l.client l.stores l.said v told.WantsBytes rest l.down))
    (over : (v : State) → v.engine.awaits ≡ waits.Nothing → 65535 < length (kept_all (xs ++ (x ∷ [])))
    → GetJoint j o h (link_with l.client l.stores l.said v (told.End end.HeadersTooLarge) behind l.down))
    (next : (v : State) → Reader o v told.WantsBytes → Gathers true v (xs ++ (x ∷ [])) → v.engine.begun ≡ 0
    → GetJoint j o h (link_with l.client l.stores l.said v told.WantsBytes behind l.down)) where
  did-next : (G : Engine) (s : Stores) (z : Gathering) → Acts o l.server.tables G → Base G (with_gathered s z) → (d : Done)
      → GetDid G s (record { opcode = op.Get; final = false; bytes = q; headers = x }) (survey_of (some x)) true false (kept_all (xs ++ (x ∷ []))) z d
      → GetJoint j o (heard_did h d) (did_link l d behind)
  unfolding engine_with
  did-next G s z k b d (full n e) =
      subst (λ (y : Done). GetJoint j o (heard_did h y) (did_link l y behind)) (sym e)
      (subst (λ (y : GetHeard). GetJoint j o y (did_link l (ends G G.peer end.HeadersTooLarge (with_gathered s z)) behind)) (sym (silent h))
      (over (did_link l (ends G G.peer end.HeadersTooLarge (with_gathered s z)) behind).server refl n))
  did-next G s z k b d (asks-host f w a e) = absurd (false≢true f)
  did-next G s z k b d (getGoes f i w a e) = absurd (true≢false i)
  did-next G s z k b d (getSilent f i w a e) =
      let y = wants G G.peer (Getting z.got true false false) (with_gathered s z) in
      subst (λ (y : Done). GetJoint j o (heard_did h y) (did_link l y behind))
      (sym (e ∙ ap (λ (t : Bool). wants G G.peer (Getting z.got true false t) (with_gathered s z)) (wait-none x pl.bare)))
      (subst (λ (u : GetHeard). GetJoint j o u (did_link l y behind)) (sym (silent h))
      (next (did_link l y behind).server
      (record {
        stays =
            stays_on o l.server.tables G (with_gathered s z) (Getting z.got true false false) waits.Bytes k b
            (simp (le-leb _ _ w.kept-room, le-leb _ _ w.body-within));
        awaits = refl;
        told = refl;
      })
      (gathered z.got refl w a) refl))

  stream_next : (n : ℕ) → GetJoint j o (get_heard_after h l (offerUp n)) (move l (offerUp n))
  stream_next n = stream_up j o h l xs rd ga q behind x false u bg still did-next n

-- ---- the request goes up

-- while another packet or the Abort waits to be sent
module _ (j : Fetch) (o : Origin) (h : GetHeard) (l : Link) (sent : List (List ℕ)) (xs : List (List Header)) (vs : List (List Header))
    (qs : List (List ℕ)) (busy : Busy j h sent l.client l.stores l.said) (b : l.client.begun ≡ 0) (pre : Prefix j sent)
    (hold : Holding sent (xs ++ vs)) (au : AllUp qs vs) (rd : Reader o l.server l.told) (ga : Gathers true l.server xs)
    (qu : Queue qs l.server.stores.packet l.up l.server.engine.begun) (dn : l.down ≡ []) (ea : Early h) where
  room : 65535 ≤ length l.server.stores.packet
  room = rd.stays.serves.base.room.packet

  -- a packet of the request
  module _ (k : Rattle.client_model.proofs.Getting.Stands j false l.client l.stores) (a : Waits j true sent l.client l.said l.stores)
      (ab : h.aborted ≡ false) where
    abbrev made : List ℕ
    made = made_packet j true sent l.client l.said l.stores a

    abbrev gone : List ℕ
    gone = sent_packet j true sent l.client l.said l.stores a

    up_of : (x : List Header) × Up gone op.Get a.last x × Holds (is_none sent && asks_srm j) made x
    up_of = goes_up j true sent l.client l.said l.stores a

    plain_of : Plainly false up_of.0
    plain_of = subst (λ (t : Bool). Plainly (t && asks_srm j) up_of.0) (sym a.begins ∙ a.later refl) up_of.2.plain

    hold_of : Holding (sent ++ (made ∷ [])) (xs ++ (vs ++ (up_of.0 ∷ [])))
    hold_of =
        subst (Holding (sent ++ (made ∷ []))) (append_assoc xs vs (up_of.0 ∷ []))
        (holding-more sent (xs ++ vs) made up_of.0 hold up_of.2.bytes up_of.2.shaped)

    queue_of : Queue (qs ++ (gone ∷ [])) l.server.stores.packet (l.up ++ gone) l.server.engine.begun
    queue_of = queue-one qs gone l.server.stores.packet l.up l.server.engine.begun qu (up_of.1.whole, tt) room

    by_last : (t : Bool) → a.last ≡ t → GetJoint j o (get_heard_after h l sendUp) (move l sendUp)
    unfolding client_with
    by_last true e =
        send_last j o h l sent k a ab e
        (λ due. closing (requesting true a.initial true) false (sent ++ (made ∷ [])) xs qs vs gone (up_of.0 ∷ []) due refl
        (ends-first j true a.initial (sent ++ (made ∷ [])) _ due.answered) hold_of au
        (last_one a.initial up_of.0 refl refl (subst (λ (t : Bool). Up gone op.Get t up_of.0) e up_of.1) plain_of) rd ga queue_of dn ea)
    by_last false e =
        send_more j o h l sent k a ab e
        (λ d w. streaming (sent ++ (made ∷ [])) xs (qs ++ (gone ∷ [])) (vs ++ (up_of.0 ∷ [])) (sending w.stands w.waits ab) w.begun
        (waits-first j true (sent ++ (made ∷ [])) d.client d.outcome d.stores w.waits) hold_of
        (up_append qs vs gone up_of.0 au (subst (λ (t : Bool). Up gone op.Get t up_of.0) e up_of.1) plain_of) rd ga queue_of dn ea)

  pub stream_send : GetJoint j o (get_heard_after h l sendUp) (move l sendUp)
  unfolding client_with
  stream_send = by busy
    where
      by : Busy j h sent l.client l.stores l.said → GetJoint j o (get_heard_after h l sendUp) (move l sendUp)
      by (sending k a ab) = by_last k a ab a.last refl
      by (cancelling n k p a e q ab) =
          send_cancel j o h l sent n k p a e q ab
          (λ due. closing aborting true sent xs qs vs (abort_bytes j.id) [] due refl pre
          (subst (λ (y : List (List Header)). Holding sent (xs ++ y)) (sym (append-nil vs)) hold) au (cancels refl refl refl) rd ga
          (queue-one qs (abort_bytes j.id) l.server.stores.packet l.up l.server.engine.begun qu ((abort_up j.id).whole, tt) room)
          dn ea)

-- the server has ended
pub lost_send : (j : Fetch) (o : Origin) (h : GetHeard) (l : Link) (sent : List (List ℕ)) (x : ServerEnd)
    → Busy j h sent l.client l.stores l.said → l.server.engine.awaits ≡ waits.Nothing → l.told ≡ told.End x → Large x → l.down ≡ []
    → Early h → 65535 < length (wish j) → GetJoint j o (get_heard_after h l sendUp) (move l sendUp)
unfolding client_with
lost_send j o h l sent x (sending k a ab) w t lg dn ea n = by a.last refl
  where
    by : (f : Bool) → a.last ≡ f → GetJoint j o (get_heard_after h l sendUp) (move l sendUp)
    by true e =
        send_last j o h l sent k a ab e
        (λ due. ended (requesting true a.initial true) false (sent ++ (made_packet j true sent l.client l.said l.stores a ∷ [])) x due refl
        w t lg dn (inr (ea.asked, n)) ea.object (ap (is_accepted (box_of o)) ea.answer))
    by false e =
        send_more j o h l sent k a ab e
        (λ d v. lost (sent ++ (made_packet j true sent l.client l.said l.stores a ∷ [])) x (sending v.stands v.waits ab) v.begun w t
        lg dn ea n)
lost_send j o h l sent x (cancelling m k p a e q ab) w t lg dn ea n =
    send_cancel j o h l sent m k p a e q ab
    (λ due. ended aborting true sent x due refl w t lg dn (inr (ea.asked, n)) ea.object (ap (is_accepted (box_of o)) ea.answer))

-- ---- the server takes the request

-- of packets that others follow, one at least
pub stream_offer : (j : Fetch) (o : Origin) (h : GetHeard) (l : Link) (sent : List (List ℕ)) (xs : List (List Header)) (q : List ℕ)
    (qs : List (List ℕ)) (v : List Header) (vs : List (List Header)) → Busy j h sent l.client l.stores l.said → l.client.begun ≡ 0
    → Prefix j sent → Holding sent (xs ++ (v ∷ vs)) → AllUp (q ∷ qs) (v ∷ vs) → Reader o l.server l.told → Gathers true l.server xs
    → Queue (q ∷ qs) l.server.stores.packet l.up l.server.engine.begun → l.down ≡ [] → Early h
    → (n : ℕ) → GetJoint j o (get_heard_after h l (offerUp n)) (move l (offerUp n))
stream_offer j o h l sent xs q qs v vs busy b pre hold au rd ga qu dn ea =
    stream_next j o h l xs rd ga q (join_all qs) v au.0 au.1 qu
    (λ y rest r g w. streaming sent xs (q ∷ qs) (v ∷ vs) busy b pre hold au r g w dn ea)
    (λ y w n. lost sent end.HeadersTooLarge busy b w refl (inl refl) dn ea (too_many j sent xs v vs pre hold n))
    (λ y r g e. streaming sent (xs ++ (v ∷ [])) qs vs busy b pre (held_on sent xs v vs hold) au.2 r g
    (subst (λ (n : ℕ). Queue qs y.stores.packet (join_all qs) n) (sym e)
    (queue-next qs y.stores.packet (all_up_whole qs vs au.2) r.stays.serves.base.room.packet)) dn ea)

-- of all packets, the last of them or the Abort behind the others
closes_is : (j : Fetch) (st : Stage) (q : List ℕ) (ws : List (List Header)) → Closes j st q ws → AllWhole (q ∷ [])
closes_is j st q ws (last_one initial x se we u pl) = (u.whole, tt)
closes_is j st q ws (cancels se we e) = (subst Rattle.incoming.proofs.Queued.IsWhole (sym e) (abort_up j.id).whole, tt)

module _ (j : Fetch) (o : Origin) (h : GetHeard) (l : Link) (st : Stage) (flag : Bool) (sent : List (List ℕ)) (xs : List (List Header)) (q : List ℕ)
    (ws : List (List Header)) (due : Due st flag j sent h l.client l.stores l.said) (b : l.client.begun ≡ 0) (pre : Prefix j sent)
    (cl : Closes j st q ws) (rd : Reader o l.server l.told) (ga : Gathers true l.server xs) (dn : l.down ≡ []) (ea : Early h) where
  accepted-none : is_accepted (box_of o) h.answer ≡ false
  accepted-none = ap (is_accepted (box_of o)) ea.answer

  close_next : (p : List ℕ) (qs : List (List ℕ)) (v : List Header) (vs : List (List Header)) → Holding sent (xs ++ ((v ∷ vs) ++ ws))
      → AllUp (p ∷ qs) (v ∷ vs) → Queue ((p ∷ qs) ++ (q ∷ [])) l.server.stores.packet l.up l.server.engine.begun
      → (n : ℕ) → GetJoint j o (get_heard_after h l (offerUp n)) (move l (offerUp n))
  close_next p qs v vs hold au qu =
      stream_next j o h l xs rd ga p (join_all (qs ++ (q ∷ []))) v au.0 au.1 qu
      (λ y rest r g w. closing st flag sent xs (p ∷ qs) (v ∷ vs) q ws due b pre hold au cl r g w dn ea)
      (λ y w n. ended st flag sent end.HeadersTooLarge due b w refl (inl refl) dn (inr (ea.asked, too_many j sent xs v (vs ++ ws) pre hold n))
      ea.object accepted-none)
      (λ y r g e. closing st flag sent (xs ++ (v ∷ [])) qs vs q ws due b pre (held_on sent xs v (vs ++ ws) hold) au.2 cl r g
      (subst (λ (n : ℕ). Queue (qs ++ (q ∷ [])) y.stores.packet (join_all (qs ++ (q ∷ []))) n) (sym e)
      (queue-next (qs ++ (q ∷ [])) y.stores.packet (whole_append qs (q ∷ []) (all_up_whole qs vs au.2) (closes_is j st q ws cl))
      r.stays.serves.base.room.packet)) dn ea)

  close_last : Closes j st q ws → Holding sent (xs ++ ws) → Begun q l.server.stores.packet l.up [] l.server.engine.begun
      → (n : ℕ) → GetJoint j o (get_heard_after h l (offerUp n)) (move l (offerUp n))
  close_last (cancels se we e) hold qu n =
      offer_up j o h l st flag sent q due b
      (record {
        stays = rd.stays;
        awaits = rd.awaits;
        told = rd.told;
        half = queue_half q l.server.stores.packet l.up l.server.engine.begun qu;
      })
      (stops se e (inr ea.asked)) dn n
  close_last (last_one initial x se we u pl) hold qu n =
      stream_up j o h l xs rd ga q [] x true u qu
      (λ y rest r g w. closing st flag sent xs [] [] q ws due b pre hold tt cl r g w dn ea) did-last n
    where
      held : Holding sent (xs ++ (x ∷ []))
      held = subst (λ (y : List (List Header)). Holding sent (xs ++ y)) we hold

      did-last : (G : Engine) (s : Stores) (z : Gathering) → Acts o l.server.tables G → Base G (with_gathered s z) → (d : Done)
          → GetDid G s (record { opcode = op.Get; final = true; bytes = q; headers = x }) (survey_of (some x)) true false (kept_all (xs ++ (x ∷ []))) z d
          → GetJoint j o (heard_did h d) (did_link l d [])
      did-last G s z k w d (full n e) =
          subst (λ (y : Done). GetJoint j o (heard_did h y) (did_link l y [])) (sym e)
          (did-end j o h l st flag sent due b dn G k (with_gathered s z) (too_many j sent xs x [] pre held n) ea)
      did-last G s z k w d (asks-host f g a e) =
          subst (λ (y : Done). GetJoint j o (heard_did h y) (did_link l y []))
          (sym (e ∙ ap (λ (t : Bool). asks G G.peer (Getting z.got true false t) waits.Get (hostRequest.Get z.got.kept) (with_gathered s z))
          (wait-none x pl.bare)))
          (did_ask j o h l st flag sent due b dn G k true initial false (xs ++ (x ∷ [])) s z w se (λ c. absurd (false≢true c)) g a
          (ends-kept j true initial sent l.client (xs ++ (x ∷ []))
          (subst (λ (y : Stage). Answered y j sent l.client l.stores) se due.answered) held) ea)
      did-last G s z k w d (getGoes f i g a e) = absurd (true≢false f)
      did-last G s z k w d (getSilent f i g a e) = absurd (true≢false f)

  pub close_offer : (qs : List (List ℕ)) (vs : List (List Header)) → Holding sent (xs ++ (vs ++ ws)) → AllUp qs vs
      → Queue (qs ++ (q ∷ [])) l.server.stores.packet l.up l.server.engine.begun
      → (n : ℕ) → GetJoint j o (get_heard_after h l (offerUp n)) (move l (offerUp n))
  close_offer [] [] hold au qu = close_last cl hold qu
  close_offer [] (v ∷ vs) hold au qu = absurd au
  close_offer (p ∷ qs) [] hold au qu = absurd au
  close_offer (p ∷ qs) (v ∷ vs) hold au qu = close_next p qs v vs hold au qu

-- ---- the object comes down

-- the next part turns SRM on, unless it is on
turned_on : (j : Fetch) (st : Stage) (lead : Bool) (zs : List (List Header)) (v : List Header) (vs : List (List Header)) → Turning j st lead zs
    → Granting lead (zs ++ (v ∷ vs)) → on_after j st v ≡ true
turned_on j st lead [] v vs t g = ap (λ (b : Bool). is_on st || (asks_srm j && (is_first st && b))) g ∙ t
turned_on j st lead (z ∷ zs) v vs t g =
    ap (λ (b : Bool). b || (asks_srm j && (is_first st && is_enable (first header_id.single_response_mode v)))) t

-- to a client that awaits it
module _ (j : Fetch) (o : Origin) (h : GetHeard) (l : Link) (t : Thing (box_of o)) (out : List (List ℕ)) (d : List ℕ) (zs : List (List Header))
    (on : t.on ≡ true) (st : Stage) (flag : Bool) (sent : List (List ℕ)) (due : Due st flag j sent h l.client l.stores l.said)
    (wt : is_waiting st ≡ true) (tu : Turning j st t.lead zs) (story : Story j (box_of o) t d zs h) where
  -- what an offer gives: what follows, and nothing once the user has aborted
  abbrev Taken : ℕ → Type 0
  Taken n = GetNext j o (get_heard_after h l (offerDown n)) (move l (offerDown n)) × (flag ≡ true → part_by_of l (offerDown n) ≡ bare)

  pub pour_offer : (y : List ℕ) (ys : List (List ℕ)) (v : List Header) (vs : List (List Header)) → AllDown (y ∷ ys) (v ∷ vs)
      → Queue (y ∷ ys) l.stores.packet l.down l.client.begun → Holding out (zs ++ (v ∷ vs)) → Granting t.lead (zs ++ (v ∷ vs)) → l.up ≡ []
      → Rattle.link.proofs.GetJoint.Stays o l.server → Source (box_of o) t out d (zs ++ (v ∷ vs)) l.server l.told → (n : ℕ) → Taken n
  unfolding move client_with
  pour_offer y ys v vs ad qu hold gr up s src n =
      let e = sym (append_assoc zs (v ∷ []) vs) in
      let w = take-down j o h l st flag sent due wt t d zs story y ys v ad.0 qu (turned_on j st t.lead zs v vs tu gr)
      (λ p b rest a g. pouring t out d zs (y ∷ ys) (v ∷ vs) on (awaiting-next st flag sent a wt tu) ad g hold gr up s src story)
      (λ k c z u tk ts la bz. pouring t out d (zs ++ (v ∷ [])) ys vs on tk ad.1
      (subst (λ (m : ℕ). Queue ys z.packet (join_all ys) m) (sym bz)
      (queue-next ys z.packet (all-down-whole ys vs ad.1) (taker_room j k t.lead (zs ++ (v ∷ [])) c z u tk)))
      (subst (Holding out) e hold) (subst (Granting t.lead) e gr) up s
      (subst (λ (q : List (List Header)). Source (box_of o) t out d q l.server l.told) e src) ts) n in
      (goes w.0, w.1)

  module _ (y : List ℕ) (code : ℕ) (x : List Header) (y' : Down y code x) (r : Rest o l.server l.told l.up)
      (hl : h.last ≡ some (sent_code code)) where
    drain_next : (q : List ℕ) (ys : List (List ℕ)) (v : List Header) (vs : List (List Header)) → AllDown (q ∷ ys) (v ∷ vs)
        → Queue ((q ∷ ys) ++ (y ∷ [])) l.stores.packet l.down l.client.begun → Granting t.lead (zs ++ (v ∷ vs))
        → Last (box_of o) t out d (zs ++ (v ∷ vs)) code x l.server → (n : ℕ) → Taken n
    unfolding move client_with
    drain_next q ys v vs ad qu gr la n =
        let e = sym (append_assoc zs (v ∷ []) vs) in
        let w = take-down j o h l st flag sent due wt t d zs story q (ys ++ (y ∷ [])) v ad.0 qu (turned_on j st t.lead zs v vs tu gr)
        (λ p b rest a g. draining t out d zs (q ∷ ys) (v ∷ vs) y code x on (awaiting-next st flag sent a wt tu) ad y' g gr r la story hl)
        (λ k c z u tk ts lk bz. draining t out d (zs ++ (v ∷ [])) ys vs y code x on tk ad.1 y'
        (subst (λ (m : ℕ). Queue (ys ++ (y ∷ [])) z.packet (join_all (ys ++ (y ∷ []))) m) (sym bz)
        (queue-next (ys ++ (y ∷ [])) z.packet (whole_append ys (y ∷ []) (all-down-whole ys vs ad.1) (y'.whole, tt))
        (taker_room j k t.lead (zs ++ (v ∷ [])) c z u tk)))
        (subst (Granting t.lead) e gr) r (subst (λ (q : List (List Header)). Last (box_of o) t out d q code x l.server) e la) ts (lk ∙ hl)) n in
        (goes w.0, w.1)

    -- the last is alone
    means-last : Last (box_of o) t out d (zs ++ []) code x l.server → Means j o st sent code x l.server h
    means-last (all-gone c i al ho) =
        whole t out d zs wt c i al (subst (λ (q : List (List Header)). Holding out (q ++ (x ∷ []))) (append-nil zs) ho) story
    means-last (breaks c i) = fails t d zs wt c i story

    pub drain_offer : (ys : List (List ℕ)) (vs : List (List Header)) → AllDown ys vs
        → Queue (ys ++ (y ∷ [])) l.stores.packet l.down l.client.begun → Granting t.lead (zs ++ vs)
        → Last (box_of o) t out d (zs ++ vs) code x l.server → (n : ℕ) → Taken n
    drain_offer [] [] ad qu gr la n =
        let w = queue_half y l.stores.packet l.down l.client.begun qu in
        let m = means-last la in
        (offer-down j o h l st flag sent y code x due y' m r hl w n, late-none j o h l st flag sent y code x due y' m r hl w n)
    drain_offer [] (v ∷ vs) ad qu gr la n = absurd ad
    drain_offer (q ∷ ys) [] ad qu gr la n = absurd ad
    drain_offer (q ∷ ys) (v ∷ vs) ad qu gr la n = drain_next q ys v vs ad qu gr la n
