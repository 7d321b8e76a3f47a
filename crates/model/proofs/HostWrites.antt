-- A call depends on the packet store by the bytes in front alone: a packet that came whole is read from these, an answer is made from the last
-- packet, and every step hands the store on as it is (`On`). The guard looks at the store's length. Assumes nothing.
use mathlib.Core.Path.{◌≡◌, refl, sym, ap, ◌∙◌, subst}
use mathlib.Core.List.{List, [], ◌∷◌, ◌++◌, append-nil}
use mathlib.Core.Bool.{Bool, true, false, ◌&&◌, ◌||◌, not, and-false, false≢true}
use mathlib.Core.Option.{Option, none, some}
use Prim.Native.Nat.{ℕ, ◌+◌}
use native.Mathlib.Omega.{arith}
use lib.ListN.{length, take, drop, length-drop, take-append-drop, drop_of_length-le}
use lib.Dec.{ltb}
use lib.Seq.{sets, length-sets, sets-eq, take_all, drop-length}
use borrow.Author.Tests.{ltb-true, ltb-false}
use Rattle.std.specs.Prelude.{Some, None}
use Rattle.base.specs.Pick.{pick}
use Rattle.base.specs.Place.{Place}
use Rattle.digest.specs.declared.md5.Octets16.{Octets16}
use Rattle.packet.specs.HeaderIds as header_id
use Rattle.packet.specs.ResponseCodes as response
use Rattle.packet.specs.Codes.{is_success}
use Rattle.packet.specs.FirstByte.{same_opcode}
use Rattle.packet.specs.Header.{Header, read_headers, first, first_place, all_bytes}
use Rattle.packet.specs.Packet.{Request as Packet, request_of, connect_limit}
use Rattle.packet.specs.Auth.{Challenge as PeerChallenge, Response}
use Rattle.packet.specs.declared.opcode.Opcode.{Opcode}
use Rattle.packet.specs.declared.opcode.Opcode.TheVariants as op
use Rattle.table.specs.Nonces.{remembered_with, remembered, among}
use Rattle.incoming.specs.Frame.{framed}
use Rattle.incoming.specs.Gather.{Gathering}
use Rattle.incoming.specs.Survey.{survey_of}
use Rattle.incoming.specs.declared.frame.Frame.{Frame}
use Rattle.incoming.specs.declared.frame.Frame.TheVariants.{More, Whole, Short}
use Rattle.incoming.specs.declared.frame.Framed.{Framed}
use Rattle.incoming.specs.declared.gather.Gathered.{Gathered}
use Rattle.incoming.specs.declared.gather.Keep.TheVariants as keep
use Rattle.incoming.specs.declared.survey.Survey.{Survey}
use Rattle.incoming.proofs.BytesPlaced.{front-stays, front_alone, placed-there}
use Rattle.outgoing.specs.Object.{Made, next_packet, body_given_of as givenBody}
use Rattle.outgoing.specs.declared.object.Next.{Next}
use Rattle.outgoing.specs.declared.object.Next.TheVariants as next
use Rattle.outgoing.specs.declared.object.Outgoing.{Outgoing}
use Rattle.connection.specs.Reply.{fields_of, send_bytes, front}
use Rattle.connection.specs.Peer.{Linked, limited, checked_peer, challenged_peer, disconnected_peer, opened_for, ids_of, ConnectionId, Challenge}
use Rattle.connection.specs.Pieces.{id_given}
use Rattle.connection.specs.ConnectReply.{answered_challenge, connect_headers}
use Rattle.connection.specs.declared.peer.Peer.{Peer}
use Rattle.journal.specs.Ids.{all_open, repeats}
use Rattle.journal.specs.Journal.{list_of, response_in, headers_of as headersIn}
use Rattle.journal.specs.Calls.{Credentials, Call, bytes_offered_of, stream_ended_of, reply_taken_of, reply_given_of, object_given_of, body_given_of, body_failed_of, abort_acknowledged_of, password_given_of, nonce_given_of, credentials_given_of, connections_closed_of}
use Rattle.server.specs.declared.Await.{Await}
use Rattle.server.specs.declared.Await.TheVariants as await
use Rattle.server.specs.declared.CallKind.{CallKind}
use Rattle.server.specs.declared.CallKind.TheVariants as kind
use Rattle.server.specs.declared.CallResult.{CallResult}
use Rattle.server.specs.declared.End.TheVariants as end
use Rattle.server.specs.declared.Engine.{Engine}
use Rattle.server.specs.declared.HostRequest.TheVariants as request
use Rattle.server.specs.declared.Outcome.{Outcome}
use Rattle.server.specs.declared.Outcome.TheVariants as outcome
use Rattle.server.specs.declared.Operation.{Operation}
use Rattle.server.specs.declared.Operation.TheVariants.{Nothing, Trailing, Putting, Getting, Sending, Gathering as GatheringOp, Connecting, Draining}
use Rattle.server.specs.declared.Refusal.{Refusal}
use Rattle.server.specs.declared.Refusal.TheVariants as refusal
use Rattle.model.specs.Step.{Stores, with_headers, with_gathered, engine_with, Done, done, DoneTabled, done_tabled, asks, ends, sent, sends, sends_connect, limit_of, capacity_of, stepped, Called, called, after}
use Rattle.model.specs.Request.{last_packet, last_headers, client_response, user_in, user_place}
use Rattle.model.specs.Operation.{gathers, put_continues, put_packet, get_continues, get_packet, headers_packet}
use Rattle.model.specs.Object.{sends_made, sends_packet, sends_next, goes_on_of, object_of}
use Rattle.model.specs.Connect.{verifies, stops, replies_fields, connect_packet, srm_asked, connect_sends, front_for, credentials_for, connect_challenged, connect_opened, connect_answer, demands_user, checks, password_answered, password_answer, nonce_answer}
use Rattle.model.specs.Dispatch.{Rejection, admits, rejects, rejection, drains, dispatches, admitted_as, dispatch, trails, inside, busy, known_in, read_as, packet_target, arrived, packet_done}
use Rattle.model.specs.Guard.{refuse, short, sound, short_tables, long_realm, same_await, fits, bad_headers, bad_reply, checked, long_user}
use Rattle.model.specs.Calls.{framed_as, with_packet, offers, sends_linked, reply_answer, object_for, body_for, credentials_with}
use Rattle.model.specs.Close.{closed_all, refuse_closing, closes, close_checked}
use Rattle.model.specs.Runs.{State, keeps, beside, step_of, writing, Writes}
use Rattle.model.specs.HostWrites.{AnyBehind, counting, SameBut, SameCall, FrontAlone, WritesBehind, PlacedAsOffered}
use Rattle.model.proofs.Moments.{same_await_lem, kind_of, go_for, refuses, lacks_in, at_moment, step_is}

-- ---- the store behind the packet

pub any_behind : AnyBehind
any_behind s q l h = by (ltb b (length p)) refl
  where
    p : List ℕ
    p = s.stores.packet

    b : ℕ
    b = s.engine.begun

    by : (u : Bool) → ltb b (length p) ≡ u → sets p b (drop b q) ≡ q
    by true w =
        let k = ltb-true b (length p) w in
        let n : b + length (drop b q) ≡ length p = omega (arith, length-drop b q, l, k) in
        sets-eq (drop b q) p b (omega (arith, n))
        ∙ ap (λ (i : ℕ). take b p ++ drop b q ++ drop i p) n
        ∙ ap (λ (r : List ℕ). take b p ++ drop b q ++ r) (drop-length p)
        ∙ append-nil (take b p ++ drop b q)
        ∙ ap (λ (r : List ℕ). r ++ drop b q) (sym h)
        ∙ take-append-drop b q
    by false w =
        let k = ltb-false b (length p) w in
        ap (sets p b) (drop_of_length-le q {i = b} (omega (arith, k, l)))
        ∙ sym (sym (take_all b q (omega (arith, k, l))) ∙ h ∙ take_all b p k)

-- ---- what a step leads to, with the packet store `q` in place of `p`

abbrev on_packet : List ℕ → Done → Done
on_packet q d = done d.engine d.outcome (with_packet d.stores q)

-- it is the same but for that store, which is handed on; nothing of a next packet has come, and the last one stays
record On (q p : List ℕ) (e : Engine) (c d : Done) : Type 0 where
  is : d ≡ on_packet q c
  packet : c.stores.packet ≡ p
  begun : c.engine.begun ≡ 0
  last : c.engine.length ≡ e.length

-- the same of a step that may write the table store
record OnTabled (q p : List ℕ) (e : Engine) (c d : DoneTabled) : Type 0 where
  done : On q p e c.done d.done
  tables : d.tables ≡ c.tables

on_pick : (q p : List ℕ) (e : Engine) (t : Bool) (a b c d : Done) → On q p e a c → On q p e b d → On q p e (pick t a b) (pick t c d)
on_pick q p e true a b c d f g = f
on_pick q p e false a b c d f g = g

tabled-pick : (q p : List ℕ) (e : Engine) (t : Bool) (a b c d : DoneTabled) → OnTabled q p e a c → OnTabled q p e b d
    → OnTabled q p e (pick t a b) (pick t c d)
tabled-pick q p e true a b c d f g = f
tabled-pick q p e false a b c d f g = g

leaf : (q : List ℕ) (e : Engine) (p : Peer) (o : Operation) (a : Await) (c : Outcome) (y : Stores)
    → On q y.packet e (done (engine_with e.settings p o a 0 e.length e.target) c y)
    (done (engine_with e.settings p o a 0 e.length e.target) c (with_packet y q))
unfolding engine_with
leaf q e p o a c y = record { is = refl; packet = refl; begun = refl; last = refl }

module _ (q : List ℕ) (e : Engine) (s : Stores) where
  abbrev z : Stores
  z = with_packet s q

  abbrev Like : Done → Done → Type 0
  Like c d = On q s.packet e c d

  picks : (t : Bool) (a b c d : Done) → Like a c → Like b d → Like (pick t a b) (pick t c d)
  picks t a b c d f g = on_pick q s.packet e t a b c d f g

  put_on : (r : Packet) (v : Survey) (srm confirm : Bool) (g : Gathered) → Like (put_packet e r v srm confirm g s) (put_packet e r v srm confirm g z)
  unfolding put_packet
  put_on r v srm confirm g =
      picks x.got.full _ _ _ _ (leaf q e _ _ _ _ _)
      (picks r.final _ _ _ _ (picks x.got.over _ _ _ _ (leaf q e _ _ _ _ _) (leaf q e _ _ _ _ _)) (continues_on srm))
    where
      x : Gathering
      x = gathers e keep.Put r.headers g s

      continues_on : (t : Bool)
          → Like (put_continues e x.got t confirm v.additional (with_gathered s x))
          (put_continues e x.got t confirm v.additional (with_gathered z x))
      continues_on true = picks v.additional _ _ _ _ (leaf q e _ _ _ _ _) (leaf q e _ _ _ _ _)
      continues_on false = picks x.got.over _ _ _ _ (leaf q e _ _ _ _ _) (leaf q e _ _ _ _ _)

  get_on : (r : Packet) (v : Survey) (srm confirm : Bool) (g : Gathered) → Like (get_packet e r v srm confirm g s) (get_packet e r v srm confirm g z)
  unfolding get_packet
  get_on r v srm confirm g =
      picks x.got.full _ _ _ _ (leaf q e _ _ _ _ _) (picks r.final _ _ _ _ (leaf q e _ _ _ _ _) (continues_on srm))
    where
      x : Gathering
      x = gathers e keep.Get r.headers g s

      continues_on : (t : Bool)
          → Like (get_continues e x.got t confirm v.wait (with_gathered s x)) (get_continues e x.got t confirm v.wait (with_gathered z x))
      continues_on true = leaf q e _ _ _ _ _
      continues_on false = leaf q e _ _ _ _ _

  headers_on : (r : Packet) (o : Opcode) (g : Gathered) → Like (headers_packet e r o g s) (headers_packet e r o g z)
  unfolding headers_packet
  headers_on r o g =
      picks (gathers e keep.All r.headers g s).got.full _ _ _ _ (leaf q e _ _ _ _ _)
      (picks r.final _ _ _ _ (leaf q e _ _ _ _ _) (leaf q e _ _ _ _ _))

  made_on : (srm wait : Bool) (n : Next) (m : Made) → Like (sends_made e srm wait n m s) (sends_made e srm wait n m z)
  made_on srm wait (next.Send k true) m = leaf q e _ _ _ _ _
  made_on srm wait (next.Send k false) m = leaf q e _ _ _ _ _
  made_on srm wait next.Read m = leaf q e _ _ _ _ _
  made_on srm wait next.TooLarge m = leaf q e _ _ _ _ _

  next_on : (o : Outgoing) (srm wait : Bool) → Like (sends_next e o srm wait s) (sends_next e o srm wait z)
  unfolding sends_next
  next_on o srm wait = let m = next_packet (capacity_of e) o s.headers s.reply in made_on srm wait m.packet.next m

  sent_on : (p : Peer) (x : Option (List ℕ)) → Like (sent e p x s) (sent e p x z)
  sent_on p none = leaf q e _ _ _ _ _
  sent_on p (some y) = leaf q e _ _ _ _ _

  sends_on : (p : Peer) (code : ℕ) (hs : List ℕ) → Like (sends e p code hs s) (sends e p code hs z)
  unfolding sends
  sends_on p code hs = sent_on p (send_bytes p.remote_max_packet_length code [] hs)

  connect_sends_lem : (p : Peer) (code : ℕ) (hs : List ℕ) → Like (sends_connect e p code hs s) (sends_connect e p code hs z)
  unfolding sends_connect
  connect_sends_lem p code hs = sent_on p (send_bytes p.remote_max_packet_length code (fields_of e.settings.max_packet_length) hs)

  goes_on : (o : Operation) → Like (goes_on_of o e s) (goes_on_of o e z)
  goes_on (Sending o c srm wait) = picks (srm && not wait) _ _ _ _ (next_on o srm wait) (leaf q e _ _ _ _ _)
  goes_on Nothing = leaf q e _ _ _ _ _
  goes_on Trailing = leaf q e _ _ _ _ _
  goes_on (Putting g srm) = leaf q e _ _ _ _ _
  goes_on (Getting g srm confirm wait) = leaf q e _ _ _ _ _
  goes_on (GatheringOp o g) = leaf q e _ _ _ _ _
  goes_on (Connecting code f n) = leaf q e _ _ _ _ _
  goes_on (Draining code) = leaf q e _ _ _ _ _

  -- the last packet is read again from the store
  module _ (h : take e.length q ≡ take e.length s.packet) where
    same-last : last_packet e z ≡ last_packet e s
    unfolding last_packet
    same-last = h

    same-headers : last_headers e z ≡ last_headers e s
    unfolding last_headers
    same-headers = ap (λ (l : List ℕ). headersIn (request_of l)) same-last

    same-response : client_response e z ≡ client_response e s
    unfolding client_response
    same-response = ap (λ (hs : List Header). response_in (first header_id.authenticate_response hs)) same-headers

    same-user : user_place e z ≡ user_place e s
    unfolding user_place
    same-user = ap (λ (l : List ℕ). user_in l (first_place header_id.authenticate_response l 7)) same-last

    -- ---- a Connect

    verifies_on : (p : Peer) (c : Challenge) (r : Option Response) → Like (verifies e p c r s) (verifies e p c r z)
    verifies_on p None r = leaf q e _ _ _ _ _
    verifies_on p (Some n) none = leaf q e _ _ _ _ _
    verifies_on p (Some n) (some r) =
        subst (λ (f : Place). Like (verifies e p (Some n) (some r) s) (asks e p Nothing await.Password (request.Password f) z)) (sym same-user)
        (leaf q e _ _ _ _ _)

    -- by the packet's bytes, its headers and its response
    abbrev connect_by : List ℕ → List Header → Option Response → Stores → Done
    connect_by l hs r y =
        let p = limited e.peer (connect_limit l) in
        pick e.settings.authentication
        (pick (stops p hs) (replies_fields e (checked_peer p false) response.service_unavailable y) (verifies e p p.challenge r y))
        (asks e p Nothing await.Connect (request.Connect e.length) y)

    connects_on : (l : List ℕ) (hs : List Header) (r : Option Response) → Like (connect_by l hs r s) (connect_by l hs r z)
    connects_on l hs r =
        let p = limited e.peer (connect_limit l) in
        let stopped : Stores → Done = λ y. replies_fields e (checked_peer p false) response.service_unavailable y in
        let checked : Stores → Done = λ y. verifies e p p.challenge r y in
        let asked : Stores → Done = λ y. asks e p Nothing await.Connect (request.Connect e.length) y in
        picks e.settings.authentication (pick (stops p hs) (stopped s) (checked s)) (asked s)
        (pick (stops p hs) (stopped z) (checked z)) (asked z)
        (picks (stops p hs) (stopped s) (checked s) (stopped z) (checked z) (leaf q e _ _ _ _ _) (verifies_on p p.challenge r))
        (leaf q e _ _ _ _ _)

    connect_on : Like (connect_packet e s) (connect_packet e z)
    unfolding connect_packet
    connect_on =
        subst (λ (l : List ℕ). Like (connect_packet e s) (connect_by l (last_headers e z) (client_response e z) z)) (sym same-last)
        (subst (λ (hs : List Header). Like (connect_packet e s) (connect_by (last_packet e s) hs (client_response e z) z)) (sym same-headers)
        (subst (λ (r : Option Response). Like (connect_packet e s) (connect_by (last_packet e s) (last_headers e s) r z)) (sym same-response)
        (connects_on (last_packet e s) (last_headers e s) (client_response e s))))

    -- ---- a packet

    dispatches_on : (o : Opcode) (r : Packet) (v : Survey) → Like (dispatches o e r v s) (dispatches o e r v z)
    dispatches_on op.Connect r v = connect_on
    dispatches_on op.Abort r v = leaf q e _ _ _ _ _
    dispatches_on op.Disconnect r v = leaf q e _ _ _ _ _
    dispatches_on op.SetPath r v = leaf q e _ _ _ _ _
    dispatches_on op.Put r v = put_on r v _ _ _
    dispatches_on op.Get r v = get_on r v _ _ _
    dispatches_on op.Action r v = headers_on r _ _
    dispatches_on op.Session r v = headers_on r _ _
    dispatches_on (op.UserDefined x) r v = headers_on r _ _

    admitted_on : (x : Rejection) (r : Packet) (v : Survey) → Like (admitted_as x e r v s) (admitted_as x e r v z)
    admitted_on admits r v = dispatches_on r.opcode r v
    admitted_on (rejects code) r v =
        picks (e.peer.srm_enabled && (drains r.opcode && not r.final)) _ _ _ _ (leaf q e _ _ _ _ _) (leaf q e _ _ _ _ _)

    dispatch_on : (r : Packet) (v : Survey) (known : Bool) → Like (dispatch e r v known s) (dispatch e r v known z)
    unfolding dispatch
    dispatch_on r v known = picks (same_opcode r.opcode op.Connect) _ _ _ _ connect_on (admitted_on (rejection e r.opcode v known) r v)

    inside_on : (o : Operation) (r : Packet) (v : Survey) (known : Bool) → Like (inside o e r v known s) (inside o e r v known z)
    inside_on Nothing r v known = dispatch_on r v known
    inside_on Trailing r v known = picks (trails r) _ _ _ _ (leaf q e _ _ _ _ _) (dispatch_on r v known)
    inside_on (Putting g srm) r v known = picks (same_opcode r.opcode op.Put) _ _ _ _ (put_on r v srm false g) (leaf q e _ _ _ _ _)
    inside_on (Getting g srm confirm wait) r v known = picks (same_opcode r.opcode op.Get) _ _ _ _ (get_on r v srm confirm g) (leaf q e _ _ _ _ _)
    inside_on (Sending o c srm wait) r v known = picks (same_opcode r.opcode op.Get) _ _ _ _ (next_on o srm v.wait) (leaf q e _ _ _ _ _)
    inside_on (GatheringOp o g) r v known = picks (same_opcode r.opcode o) _ _ _ _ (headers_on r o g) (leaf q e _ _ _ _ _)
    inside_on (Connecting c f n) r v known = leaf q e _ _ _ _ _
    inside_on (Draining code) r v known = picks r.final _ _ _ _ (leaf q e _ _ _ _ _) (leaf q e _ _ _ _ _)

    read_on : (x : Option Packet) (l t : List ℕ) → Like (read_as x e l s t) (read_as x e l z t)
    read_on none l t = picks (busy e.operation) _ _ _ _ (leaf q e _ _ _ _ _) (leaf q e _ _ _ _ _)
    read_on (some r) l t =
        let v = survey_of (some r.headers) in
        picks (same_opcode r.opcode op.Abort) _ _ _ _ (leaf q e _ _ _ _ _) (inside_on e.operation r v (known_in e t v))

    -- ---- the host's answers

    reply-made : (p : Peer) (code : ℕ) (f : ConnectionId) (answer : List Header) (c : Option Credentials)
        → Like (connect_sends e p code f answer c s) (connect_sends e p code f answer c z)
    unfolding connect_sends
    reply-made p code f answer c =
        let bytes : List Header → List ℕ =
        λ hs. all_bytes (connect_headers (id_given f) hs answer c (srm_asked e (survey_of (some hs)))) in
        subst (λ (hs : List Header). Like (sends_connect e p code (bytes (last_headers e s)) s) (sends_connect e p code (bytes hs) z)) (sym same-headers)
        (connect_sends_lem p code (bytes (last_headers e s)))

    challenged_on : (p : Peer) (code : ℕ) (f : ConnectionId) (hs : List ℕ) (c : Option PeerChallenge)
        → Like (connect_challenged e p code f hs c s) (connect_challenged e p code f hs c z)
    challenged_on p code f hs none = reply-made p code f _ none
    challenged_on p code f hs (some c) =
        subst (λ (l : List ℕ). Like (connect_challenged e p code f hs (some c) s)
        (asks e p (Connecting code f (length hs)) await.Credentials (credentials_for l c) (with_headers z (front hs z.headers)))) (sym same-last)
        (leaf q e _ _ _ _ _)

    opened_on : (t : List ℕ) (x : Option Linked) (code : ℕ) (f : ConnectionId) (hs : List ℕ)
        → OnTabled q s.packet e (connect_opened e t x code f hs s) (connect_opened e t x code f hs z)
    opened_on t none code f hs = record { done = connect_sends_lem e.peer 0x53 []; tables = refl }
    opened_on t (some l) code f hs =
        record {
          done = subst (λ (k : List Header). Like (connect_challenged e l.peer code f hs (answered_challenge (last_headers e s)) s)
              (connect_challenged e l.peer code f hs (answered_challenge k) z)) (sym same-headers)
              (challenged_on l.peer code f hs (answered_challenge (last_headers e s)));
          tables = refl;
        }

    -- the answer to a Connect, by the headers of the request
    abbrev answer_by : ℕ → List ℕ → List ℕ → List Header → Stores → DoneTabled
    answer_by code hs t k y =
        let answer = first header_id.connection_id (list_of (read_headers hs 0)) in
        let target = first header_id.target k in
        let srm = e.peer.srm_enabled || srm_asked e (survey_of (some k)) in
        pick (is_success code) (connect_opened e t (opened_for e.peer t srm answer target) code (front_for e.peer t answer target) hs y)
        (done_tabled (sends_connect e e.peer code hs y) t)

    answer_on : (code : ℕ) (hs t : List ℕ) → OnTabled q s.packet e (connect_answer e code hs s t) (connect_answer e code hs z t)
    unfolding connect_answer
    answer_on code hs t =
        let answer = first header_id.connection_id (list_of (read_headers hs 0)) in
        let target = first header_id.target (last_headers e s) in
        let srm = e.peer.srm_enabled || srm_asked e (survey_of (some (last_headers e s))) in
        let opened : Stores → DoneTabled =
        λ y. connect_opened e t (opened_for e.peer t srm answer target) code (front_for e.peer t answer target) hs y in
        let plain : Stores → DoneTabled = λ y. done_tabled (sends_connect e e.peer code hs y) t in
        subst (λ (k : List Header). OnTabled q s.packet e (answer_by code hs t (last_headers e s) s) (answer_by code hs t k z)) (sym same-headers)
        (tabled-pick q s.packet e (is_success code) (opened s) (plain s) (opened z) (plain z)
        (opened_on t (opened_for e.peer t srm answer target) code (front_for e.peer t answer target) hs)
        (record { done = connect_sends_lem e.peer code hs; tables = refl }))

    reply_on : (code : ℕ) (hs t : List ℕ) → OnTabled q s.packet e (reply_answer e code hs s t) (reply_answer e code hs z t)
    unfolding reply_answer
    reply_on code hs t =
        let closed : List Header → Linked = λ k. disconnected_peer e.peer t (first header_id.connection_id k) in
        tabled-pick q s.packet e (same_await e.awaits await.Connect) _ _ _ _ (answer_on code hs t)
        (tabled-pick q s.packet e (same_await e.awaits await.Disconnect) _ _ _ _
        (subst (λ (k : List Header). OnTabled q s.packet e (sends_linked e (closed (last_headers e s)) code hs s)
        (sends_linked e (closed k) code hs z))
        (sym same-headers) (record { done = sends_on (closed (last_headers e s)).peer code hs; tables = refl }))
        (record { done = sends_on e.peer code hs; tables = refl }))

    password_on : (x : Option (List ℕ)) → Like (password_answer e x s) (password_answer e x z)
    unfolding password_answer password_answered
    password_on x =
        let right : Option Response → Bool = λ r. checks e.peer.challenge r (demands_user e.settings) x in
        subst (λ (r : Option Response). Like (password_answered e (right (client_response e s)) s) (password_answered e (right r) z)) (sym same-response)
        (picks (right (client_response e s)) _ _ _ _ (leaf q e _ _ _ _ _) (leaf q e _ _ _ _ _))

    nonce_on : (n : Octets16) (l : List ℕ) → Like (nonce_answer e n l s) (nonce_answer e n l z)
    unfolding nonce_answer
    nonce_on n l = connect_sends_lem (challenged_peer e.peer n) 0x41 _

-- ---- bytes

-- what counts afterwards
counts_on : (q p : List ℕ) (n : ℕ) (a b : Bool) → take n q ≡ take n p → take (pick a 0 (pick b 0 n)) q ≡ take (pick a 0 (pick b 0 n)) p
counts_on q p n true b h = refl
counts_on q p n false true h = refl
counts_on q p n false false h = h

-- a call that such a step is
on_same : (q p : List ℕ) (e : Engine) (c d : Done) (n : ℕ) (t u : List ℕ) → On q p e c d → u ≡ t → take e.length q ≡ take e.length p
    → length q ≡ length p → SameCall (called (after n c) t) (called (after n d) u)
on_same q p e c d n t u o m h l =
    subst (λ (x : Done). SameCall (called (after n c) t) (called (after n x) u)) (sym o.is)
    (record {
      took = refl;
      after = record {
        engine = refl;
        tables = m;
        stores = refl;
        front =
            subst (λ (y : List ℕ). take (counting c.engine) q ≡ take (counting c.engine) y) (sym o.packet)
            (subst (λ (k : ℕ). let i = pick (same_await c.engine.awaits await.Bytes) k
            (pick (same_await c.engine.awaits await.Nothing) 0 c.engine.length) in take i q ≡ take i p) (sym o.begun)
            (subst (λ (k : ℕ). let i = pick (same_await c.engine.awaits await.Bytes) 0
            (pick (same_await c.engine.awaits await.Nothing) 0 k) in take i q ≡ take i p) (sym o.last)
            (counts_on q p e.length (same_await c.engine.awaits await.Bytes) (same_await c.engine.awaits await.Nothing) h)));
        long = l ∙ ap length (sym o.packet);
      };
    })

-- a whole packet of `k` bytes is read from the front of the store
done_on : (d : List ℕ) (e : Engine) (k : ℕ) (s : Stores) (t : List ℕ) → take k d ≡ take k s.packet
    → On d s.packet (arrived e k (packet_target (request_of (take k s.packet)) e t)) (packet_done e k s t) (packet_done e k (with_packet s d) t)
unfolding packet_done engine_with
done_on d e k s t h =
    let came : List ℕ → Engine = λ l. arrived e k (packet_target (request_of l) e t) in
    let l = take k s.packet in
    subst (λ (m : List ℕ). On d s.packet (came l) (read_as (request_of l) (came l) l s t)
    (read_as (request_of m) (came m) m (with_packet s d) t)) (sym h)
    (read_on d (came l) s h (request_of l) l t)

whole_on : (e : Engine) (k n : ℕ) (s : Stores) (t d : List ℕ) → take k d ≡ take k s.packet → length d ≡ length s.packet
    → SameCall (called (after n (packet_done e k s t)) t) (called (after n (packet_done e k (with_packet s d) t)) t)
unfolding engine_with
whole_on e k n s t d h l =
    on_same d s.packet (arrived e k (packet_target (request_of (take k s.packet)) e t)) _ _ n t t (done_on d e k s t h) refl h l

-- ---- a call, with the packet store `q` in place of the state's

same-pick : (t : Bool) (m n k l : Called) → SameCall m k → SameCall n l → SameCall (pick t m n) (pick t k l)
same-pick true m n k l f g = f
same-pick false m n k l f g = g

-- no call but those of the peer comes while bytes are awaited
apart : (k : CallKind) (a : Await) → fits k await.Bytes ≡ false → fits k a ≡ true → same_await a await.Bytes ≡ false
apart k a n h = go (same_await a await.Bytes) refl
  where
    go : (t : Bool) → same_await a await.Bytes ≡ t → same_await a await.Bytes ≡ false
    go true i = absurd (false≢true (sym n ∙ ap (fits k) (sym (same_await_lem a await.Bytes i)) ∙ h))
    go false i = i

-- and none after the end
going : (k : CallKind) (a : Await) → fits k await.Nothing ≡ false → fits k a ≡ true → same_await a await.Nothing ≡ false
going k a n h = go (same_await a await.Nothing) refl
  where
    go : (t : Bool) → same_await a await.Nothing ≡ t → same_await a await.Nothing ≡ false
    go true i = absurd (false≢true (sym n ∙ ap (fits k) (sym (same_await_lem a await.Nothing i)) ∙ h))
    go false i = i

module _ (s : State) (q : List ℕ) (h : take (counting s.engine) q ≡ take (counting s.engine) s.stores.packet)
    (long : length q ≡ length s.stores.packet) where
  open s use {engine as e, stores as st, tables as ts}

  abbrev y : State
  y = record { engine = e; stores = with_packet st q; tables = ts }

  abbrev p : List ℕ
  p = st.packet

  -- a call that leaves what counts, and the four stores
  still : (r : CallResult) (u : List ℕ) → take (counting r.engine) q ≡ take (counting r.engine) p
      → SameCall (called (stepped r st) u) (called (stepped r y.stores) u)
  still r u f = record { took = refl; after = record { engine = refl; tables = refl; stores = refl; front = f; long = long } }

  refused-same : (r : Refusal) → SameCall (refuses r s) (refuses r y)
  refused-same r = still (record { engine = e; taken = 0; outcome = outcome.Refused r }) ts h

  -- ---- bytes are awaited

  module _ (a : same_await e.awaits await.Bytes ≡ true) where
    begun : take e.begun q ≡ take e.begun p
    begun =
        subst (λ (t : Bool). let i = pick t e.begun (pick (same_await e.awaits await.Nothing) 0 e.length) in take i q ≡ take i p) a h

    framed_on : (f : Frame) (k n : ℕ) (c d : List ℕ) → take k d ≡ take k c → length d ≡ length c
        → SameCall (called (framed_as f e k n (with_packet st c) ts) ts) (called (framed_as f e k n (with_packet st d) ts) ts)
    unfolding engine_with
    framed_on More k n c d f l =
        record {
          took = refl;
          after = record {
            engine = refl;
            tables = refl;
            stores = refl;
            front =
                subst (λ (t : Bool). let i = pick t k (pick (same_await e.awaits await.Nothing) 0 e.length) in take i d ≡ take i c) (sym a) f;
            long = l;
          };
        }
    framed_on Short k n c d f l = record { took = refl; after = record { engine = refl; tables = refl; stores = refl; front = refl; long = l } }
    framed_on Whole k n c d f l = whole_on e k n (with_packet st c) ts d f l

    bytes_same : (i : List ℕ) → SameCall (go_for s (bytes_offered_of i)) (go_for y (bytes_offered_of i))
    bytes_same i =
        let f = framed p e.begun 0 i in
        let g = framed q e.begun 0 i in
        let c = front_alone i p q e.begun 0 begun long in
        subst (λ (r : Framed). SameCall (called (offers e f st ts) ts)
        (called (framed_as r.frame e r.begun r.taken (with_packet st g.packet) ts) ts)) (sym c.result)
        (framed_on f.result.frame f.result.begun f.result.taken f.packet g.packet c.front c.long)

    ended_same : SameCall (go_for s stream_ended_of) (go_for y stream_ended_of)
    unfolding engine_with
    ended_same = still _ ts refl

    left-same : (l : List ℕ) → let x = (close_checked e l ts).took.engine in take (counting x) q ≡ take (counting x) p
    unfolding close_checked engine_with
    left-same l = go (ltb 64 (length l)) (not (all_open l (ids_of e.peer ts))) (repeats l)
      where
        go : (u v x : Bool)
            → let c = (pick u (refuse_closing refusal.TooManyIds e ts) (pick v (refuse_closing refusal.IdNotOpen e ts)
            (pick x (refuse_closing refusal.IdRepeated e ts) (closes e l (closed_all l e.peer.count ts))))).took.engine in
            take (counting c) q ≡ take (counting c) p
        go true v x = h
        go false true x = h
        go false false true = h
        go false false false = h

    closed_same : (l : List ℕ) → SameCall (beside s (close_checked e l ts)) (beside y (close_checked e l ts))
    closed_same l = still (close_checked e l ts).took (close_checked e l ts).tables (left-same l)

  -- ---- an answer is awaited

  module _ (k : CallKind) (nb : fits k await.Bytes ≡ false) (nn : fits k await.Nothing ≡ false) (f : fits k e.awaits ≡ true) where
    last : take e.length q ≡ take e.length p
    last =
        subst (λ (t : Bool). let i = pick t 0 e.length in take i q ≡ take i p) (going k e.awaits nn f)
        (subst (λ (t : Bool). let i = pick t e.begun (pick (same_await e.awaits await.Nothing) 0 e.length) in take i q ≡ take i p)
        (apart k e.awaits nb f) h)

    done-same : (c d : Done) → On q p e c d → SameCall (keeps s (after 0 c)) (keeps y (after 0 d))
    done-same c d o = on_same q p e c d 0 ts ts o refl last long

    checked-same : (b : Bool) (c d : Done) → On q p e c d → SameCall (keeps s (checked b e st c)) (keeps y (checked b e y.stores d))
    checked-same true c d o = refused-same refusal.BadAnswer
    checked-same false c d o = done-same c d o

    tabled-same : (c d : DoneTabled) → OnTabled q p e c d → SameCall (called (after 0 c.done) c.tables) (called (after 0 d.done) d.tables)
    tabled-same c d o = on_same q p e c.done d.done 0 c.tables d.tables o.done o.tables last long

    object-same : (o : Operation) (hs : List ℕ) (has : Bool)
        → SameCall (keeps s (object_for o e hs has st)) (keeps y (object_for o e hs has y.stores))
    object-same (Getting g srm confirm wait) hs has =
        checked-same (bad_headers hs) _ _
        (next_on q e (with_headers st (front hs st.headers)) (object_of (length hs) confirm has) (srm || confirm) wait)
    object-same Nothing hs has = refused-same refusal.WrongMoment
    object-same Trailing hs has = refused-same refusal.WrongMoment
    object-same (Putting g srm) hs has = refused-same refusal.WrongMoment
    object-same (Sending o c srm wait) hs has = refused-same refusal.WrongMoment
    object-same (GatheringOp o g) hs has = refused-same refusal.WrongMoment
    object-same (Connecting code i n) hs has = refused-same refusal.WrongMoment
    object-same (Draining code) hs has = refused-same refusal.WrongMoment

    body_same : (o : Operation) (d : List ℕ) → SameCall (keeps s (body_for o e d st)) (keeps y (body_for o e d y.stores))
    body_same (Sending o c srm wait) d = go (ltb c.room (length d))
      where
        m : Made
        m = givenBody o c d st.reply

        go : (t : Bool) → SameCall (keeps s (pick t (refuse refusal.WrongMoment e st) (after 0 (sends_packet e srm wait m st))))
            (keeps y (pick t (refuse refusal.WrongMoment e y.stores) (after 0 (sends_packet e srm wait m y.stores))))
        go true = refused-same refusal.WrongMoment
        go false = done-same _ _ (made_on q e st srm wait m.packet.next m)
    body_same Nothing d = refused-same refusal.WrongMoment
    body_same Trailing d = refused-same refusal.WrongMoment
    body_same (Putting g srm) d = refused-same refusal.WrongMoment
    body_same (Getting g srm confirm wait) d = refused-same refusal.WrongMoment
    body_same (GatheringOp o g) d = refused-same refusal.WrongMoment
    body_same (Connecting code i n) d = refused-same refusal.WrongMoment
    body_same (Draining code) d = refused-same refusal.WrongMoment

    credentials-same : (o : Operation) (c : Option Credentials)
        → SameCall (keeps s (credentials_with o e c st)) (keeps y (credentials_with o e c y.stores))
    credentials-same (Connecting code i n) c = checked-same (long_user c) _ _ (reply-made q e st last e.peer code i _ c)
    credentials-same Nothing c = refused-same refusal.WrongMoment
    credentials-same Trailing c = refused-same refusal.WrongMoment
    credentials-same (Putting g srm) c = refused-same refusal.WrongMoment
    credentials-same (Getting g srm confirm wait) c = refused-same refusal.WrongMoment
    credentials-same (Sending o k srm wait) c = refused-same refusal.WrongMoment
    credentials-same (GatheringOp o g) c = refused-same refusal.WrongMoment
    credentials-same (Draining code) c = refused-same refusal.WrongMoment

    taken-same : (t : Bool)
        → SameCall (keeps s (after 0 (pick t (goes_on_of e.operation e st) (ends e e.peer end.OtherOperation st))))
        (keeps y (after 0 (pick t (goes_on_of e.operation e y.stores) (ends e e.peer end.OtherOperation y.stores))))
    taken-same true = done-same _ _ (goes_on q e st e.operation)
    taken-same false = done-same _ _ (leaf q e _ _ _ _ _)

    nonce-same : (n : Octets16) (l : List ℕ) → SameCall (go_for s (nonce_given_of n l)) (go_for y (nonce_given_of n l))
    nonce-same n l =
        same-pick (long_realm e.settings l) _ _ _ _ (refused-same refusal.BadAnswer)
        (same-pick (among n (remembered e.peer.nonces ts)) _ _ _ _ (refused-same refusal.NonceUsed)
        (on_same q p e _ _ 0 (remembered_with n ts) (remembered_with n ts) (nonce_on q e st last n l) refl last long))

    reply-same : (code : ℕ) (hs : List ℕ) → SameCall (go_for s (reply_given_of code hs)) (go_for y (reply_given_of code hs))
    reply-same code hs =
        same-pick (bad_reply code hs) _ _ _ _ (refused-same refusal.BadAnswer) (tabled-same _ _ (reply_on q e st last code hs ts))

  -- ---- each call at its moment

  at_moment_lem : (c : Call) → fits (kind_of c) e.awaits ≡ true → SameCall (go_for s c) (go_for y c)
  at_moment_lem (bytes_offered_of i) f = bytes_same f i
  at_moment_lem stream_ended_of f = ended_same f
  at_moment_lem (connections_closed_of l) f = same-pick (not (busy e.operation)) _ _ _ _ (closed_same f l) (refused-same refusal.WrongMoment)
  at_moment_lem reply_taken_of f = taken-same kind.ReplyTaken refl refl f (same_await e.awaits await.Taken)
  at_moment_lem (reply_given_of code hs) f = reply-same kind.ReplyGiven refl refl f code hs
  at_moment_lem (object_given_of hs has) f = object-same kind.ObjectGiven refl refl f e.operation hs has
  at_moment_lem (body_given_of d) f = body_same kind.FromBody refl refl f e.operation d
  at_moment_lem body_failed_of f = done-same kind.FromBody refl refl f _ _ (leaf q e _ _ _ _ _)
  at_moment_lem abort_acknowledged_of f = done-same kind.AbortAcknowledged refl refl f _ _ (leaf q e _ _ _ _ _)
  at_moment_lem (password_given_of x) f = done-same kind.PasswordGiven refl refl f _ _ (password_on q e st (last kind.PasswordGiven refl refl f) x)
  at_moment_lem (nonce_given_of n l) f = nonce-same kind.NonceGiven refl refl f n l
  at_moment_lem (credentials_given_of c) f = credentials-same kind.CredentialsGiven refl refl f e.operation c

  -- the guard looks at the store's length alone
  same-short : short (limit_of e) y.stores ≡ short (limit_of e) st
  unfolding short
  same-short = rw long

  same-lacks : (c : Call) → lacks_in y c ≡ lacks_in s c
  same-lacks (bytes_offered_of i) = ap (λ (t : Bool). short_tables ts || t) same-short
  same-lacks (reply_given_of code hs) = ap (λ (t : Bool). short_tables ts || t) same-short
  same-lacks (nonce_given_of n l) = ap (λ (t : Bool). short_tables ts || t) same-short
  same-lacks stream_ended_of = same-short
  same-lacks reply_taken_of = same-short
  same-lacks (object_given_of hs b) = same-short
  same-lacks (body_given_of d) = same-short
  same-lacks body_failed_of = same-short
  same-lacks abort_acknowledged_of = same-short
  same-lacks (password_given_of x) = same-short
  same-lacks (credentials_given_of c) = same-short
  same-lacks (connections_closed_of l) = refl

  by_moment : (c : Call) (t : Bool) → fits (kind_of c) e.awaits ≡ t
      → SameCall (pick (sound e && t) (go_for s c) (refuses refusal.WrongMoment s)) (pick (sound e && t) (go_for y c) (refuses refusal.WrongMoment y))
  by_moment c true f = same-pick (sound e && true) _ _ _ _ (at_moment_lem c f) (refused-same refusal.WrongMoment)
  by_moment c false f =
      subst (λ (t : Bool). SameCall (pick t (go_for s c) (refuses refusal.WrongMoment s)) (pick t (go_for y c) (refuses refusal.WrongMoment y)))
      (sym (and-false (sound e))) (refused-same refusal.WrongMoment)

  call_same : (c : Call) → SameCall (step_of s c) (step_of y c)
  call_same c =
      subst (λ (m : Called). SameCall m (step_of y c)) (sym (step_is s c))
      (subst (SameCall _)
      (sym (step_is y c
      ∙ ap (λ (t : Bool). pick t (refuses refusal.StoreTooShort y) (pick (at_moment y c) (go_for y c) (refuses refusal.WrongMoment y)))
      (same-lacks c)))
      (same-pick (lacks_in s c) _ _ _ _ (refused-same refusal.StoreTooShort) (by_moment c (fits (kind_of c) e.awaits) refl)))

-- ---- the claims

-- such a state is the other with another packet store
other_is : (s u : State) → SameBut s u → record { engine = s.engine; stores = with_packet s.stores u.stores.packet; tables = s.tables } ≡ u
other_is s u h =
    let q = u.stores.packet in
    ap (λ (e : Engine). record { engine = e; stores = with_packet s.stores q; tables = s.tables }) (sym h.engine)
    ∙ ap (λ (z : Stores). record { engine = u.engine; stores = z; tables = s.tables }) (sym h.stores)
    ∙ ap (λ (t : List ℕ). record { engine = u.engine; stores = u.stores; tables = t }) (sym h.tables)

pub front_is_all : FrontAlone
front_is_all s u h c =
    subst (λ (v : State). SameCall (step_of s c) (step_of v c)) (other_is s u h) (call_same s u.stores.packet h.front h.long c)

pub writes-behind : WritesBehind
writes-behind s [] h = record { engine = refl; tables = refl; stores = refl; front = refl; long = refl }
writes-behind s (x ∷ w) h =
    let b = s.engine.begun in
    let q = sets s.stores.packet b (x ∷ w) in
    record {
      engine = refl;
      tables = refl;
      stores = refl;
      front =
          subst (λ (t : Bool). let i = pick t b (pick (same_await s.engine.awaits await.Nothing) 0 s.engine.length) in
          take i q ≡ take i s.stores.packet) (sym (ap (λ (a : Await). same_await a await.Bytes) h))
          (front-stays (x ∷ w) s.stores.packet b b (omega arith));
      long = length-sets s.stores.packet b (x ∷ w);
    }

-- the host may have written nothing
may_write : (s : State) (w : List ℕ) → s.engine.awaits ≡ await.Bytes → Writes s w
may_write s [] a = tt
may_write s (x ∷ w) a = a

pub placed_as_offered : PlacedAsOffered
placed_as_offered s i k a r =
    let b = s.engine.begun in
    subst (λ (l : List ℕ). SameCall (step_of s (bytes_offered_of (i ++ k))) (step_of (writing s i) (bytes_offered_of (l ++ k))))
    (sym (placed-there i s.stores.packet b r))
    (front_is_all s (writing s i) (writes-behind s i (may_write s i a)) (bytes_offered_of (i ++ k)))
