-- The engine makes a reply, and grants Single Response Mode (SRM), where the definition of SRM says so. By packets and by what is open, beside
-- what `Packets` says of records. Assumes nothing.
use mathlib.Core.Path.{◌≡◌, refl, sym, ap, ap₂, ◌∙◌, subst}
use mathlib.Core.List.{List, [], ◌++◌}
use mathlib.Core.Bool.{Bool, true, false, ◌&&◌, ◌||◌, not, and-false, true≢false}
use mathlib.Core.Option.{Option, none, some}
use Prim.Native.Nat.{ℕ, ◌≤◌}
use native.Mathlib.Omega.{arith}
use lib.ListN.{length, take, drop, length-take}
use lib.Seq.{take-append_seam}
use lib.Dec.{leb}
use Rattle.std.specs.Prelude.{Some, None}
use Rattle.base.specs.Pick.{pick}
use Rattle.packet.specs.FirstByte.{same_opcode}
use Rattle.packet.specs.Codes.{is_success}
use Rattle.packet.specs.Header.{Header, read_headers, first, all_bytes}
use Rattle.packet.specs.Packet.{Request as Packet, request_of, packet_bytes, connect_limit}
use Rattle.packet.specs.Auth.{Challenge as PeerChallenge, Response}
use Rattle.packet.specs.declared.opcode.Opcode.{Opcode}
use Rattle.packet.specs.declared.opcode.Opcode.TheVariants as op
use Rattle.digest.specs.declared.md5.Octets16.{Octets16}
use Rattle.journal.specs.Calls.{Credentials}
use Rattle.journal.specs.Record.{Record, bare, joined, size_of, carried_by, kept_by_get}
use Rattle.journal.specs.Journal.{Opened, getting, sending, Journal, admitted, unauthorized, not_open, list_of, kept_with, kept_read}
use Rattle.incoming.specs.Survey.{survey_of}
use Rattle.incoming.specs.Gather.{Gathering, gathering as gatheringOf}
use Rattle.incoming.specs.declared.survey.Survey.{Survey}
use Rattle.incoming.specs.declared.gather.Keep.TheVariants as keep
use Rattle.incoming.specs.declared.gather.Gathered.{Gathered}
use Rattle.outgoing.specs.Object.{Made, next_packet}
use Rattle.outgoing.specs.declared.object.Outgoing.{Outgoing}
use Rattle.outgoing.specs.declared.object.Next.{Next}
use Rattle.outgoing.specs.declared.object.Next.TheVariants as next
use Rattle.connection.specs.Reply.{fields_of, send_bytes}
use Rattle.connection.specs.ConnectReply.{answered_challenge}
use Rattle.connection.specs.Peer.{Linked, opened_for, limited, verified_peer, challenged_peer, checked_peer, ConnectionId, Challenge}
use Rattle.connection.specs.declared.peer.Peer.{Peer}
use Rattle.model.specs.Step.{Stores, with_gathered, engine_with, Done, done, DoneTabled, sent, sends, sends_connect, wants, asks, replies, replies_code, continue_bytes, limit_of, capacity_of}
use Rattle.model.specs.Request.{last_packet, last_headers, client_response}
use Rattle.model.specs.Operation.{nothing_gathered, gathers, put_gathered, put_packet, get_gathered, get_packet, headers_gathered, headers_packet, overrun}
use Rattle.model.specs.Object.{sends_made, sends_packet, sends_next, goes_on_of}
use Rattle.model.specs.Connect.{srm_asked, front_for, verifies, connect_packet, connect_sends, connect_challenged, connect_opened, connect_answer, checks, password_answer, nonce_answer, stops, password_answered, demands_user}
use Rattle.model.specs.Dispatch.{Rejection, admits, rejects, rejection, drains, rejected, confirms, dispatches, admitted_as, dispatch, interrupts, inside, busy, read_as, known_in, trails}
use Rattle.model.specs.Guard.{same_await}
use Rattle.model.specs.Calls.{reply_answer}
use Rattle.journal.specs.Srm.{Due, silent, continues, speaks, continue_reply, asks_more, asks_wait, newly, Mode, requested, mode_read, packet_mode, put_due, get_due, gather_due, turned_due, first_due, request_due, packet_due, taken_due}
use Rattle.model.specs.Theorem.{wants_bytes, Obeys}
use Rattle.server.specs.declared.Operation.{Operation}
use Rattle.server.specs.declared.Operation.TheVariants.{Nothing, Putting, Getting, Sending, Gathering as GatheringOp, Connecting, Draining, Trailing}
use Rattle.server.specs.declared.Await.{Await}
use Rattle.server.specs.declared.Await.TheVariants as await
use Rattle.server.specs.declared.Engine.{Engine}
use Rattle.server.specs.declared.HostRequest.TheVariants as request
use Rattle.server.specs.declared.Outcome.{Outcome}
use Rattle.server.specs.declared.Outcome.TheVariants as outcome
use Rattle.incoming.proofs.Frames.{Octets}
use Rattle.packet.proofs.HeaderBytes.{request-headers}
use Rattle.incoming.proofs.Gathers.{PutAgrees, KeptAgrees, put-agrees, get_agrees, all-agrees, put-begins, carried-headers, kept-headers}
use Rattle.model.proofs.Fit.{Base}
use Rattle.model.proofs.Coupling.{OpenedAt, Fixed}
use Rattle.model.proofs.Gathers.{within_test}
use Rattle.model.proofs.Packets.{trails-same}
use Rattle.model.proofs.Dispatch.{rejection_is, admitted_is, none_kept, confirms_is, srm_is}

-- the mode of the Get that is open
abbrev pub ModeAt : Operation → Mode → Type 0
ModeAt (Getting g srm confirm wait) m = m ≡ record { on = srm; asked = confirm; wait = wait }
ModeAt (Sending o c srm wait) m = (m.on ≡ srm) × (m.wait ≡ wait)
ModeAt Nothing m = Unit {0}
ModeAt Trailing m = Unit {0}
ModeAt (Putting g srm) m = Unit {0}
ModeAt (GatheringOp o g) m = Unit {0}
ModeAt (Connecting c f n) m = Unit {0}
ModeAt (Draining c) m = Unit {0}

-- no Get is open after a Put that was too long, nor after what trails it
trailing-mode : (t : Bool) (m : Mode) → ModeAt (pick t Trailing Nothing) m
trailing-mode true m = tt
trailing-mode false m = tt

trailed-mode : (t : Bool) (m : Mode) → ModeAt (pick t Nothing Trailing) m
trailed-mode true m = tt
trailed-mode false m = tt

-- a step does what is due, and leaves the mode `m`
pub record Spoken (d : Done) (u : Due) (m : Mode) : Type 0 where
  pub obeys : Obeys u d.outcome d.stores.reply
  pub mode : ModeAt d.engine.operation m

pub spoken_done : (e : Engine) (p : Peer) (o : Operation) (a : Await) (b n : ℕ) (c : Outcome) (z : Stores) (u : Due) (m : Mode) → Obeys u c z.reply
    → ModeAt o m → Spoken (done (engine_with e.settings p o a b n e.target) c z) u m
unfolding engine_with
spoken_done e p o a b n c z u m x y = record { obeys = x; mode = y }

spoken_pick : (t : Bool) (a b : Done) (u : Due) (m : Mode) → (t ≡ true → Spoken a u m) → (t ≡ false → Spoken b u m) → Spoken (pick t a b) u m
spoken_pick true a b u m f g = f refl
spoken_pick false a b u m f g = g refl

spoken_both : (t : Bool) (a b : Done) (u v : Due) (m : Mode) → Spoken a u m → Spoken b v m → Spoken (pick t a b) (pick t u v) m
spoken_both true a b u v m x y = x
spoken_both false a b u v m x y = y

module _ (e : Engine) (s : Stores) where
  said : (p : Peer) (o : Operation) (a : Await) (c : Outcome) (z : Stores) (m : Mode) → wants_bytes c ≡ false → ModeAt o m
      → Spoken (done (engine_with e.settings p o a 0 e.length e.target) c z) speaks m
  said p o a c z m x y = spoken_done e p o a 0 e.length c z speaks m x y

  unsaid : (o : Operation) (z : Stores) (m : Mode) → ModeAt o m → Spoken (wants e e.peer o z) silent m
  unsaid o z m y = spoken_done e e.peer o await.Bytes 0 e.length outcome.WantsBytes z silent m refl y

  -- a Continue
  continued : (o : Operation) (g : Bool) (z : Stores) (m : Mode) → ModeAt o m
      → Spoken (replies e e.peer o await.Taken (continue_bytes g) z) (continues g) m
  unfolding packet_bytes
  continued o true z m y =
      spoken_done e e.peer o await.Taken 0 e.length _ _ (continues true) m (refl, take-append_seam (continue_reply true) (drop 5 z.reply)) y
  continued o false z m y =
      spoken_done e e.peer o await.Taken 0 e.length _ _ (continues false) m (refl, take-append_seam (continue_reply false) (drop 3 z.reply)) y

  -- ---- an object

  made_spoken : (srm wait : Bool) (n : Next) (x : Made) (m : Mode) → m.on ≡ srm → m.wait ≡ wait → Spoken (sends_made e srm wait n x s) speaks m
  made_spoken srm wait (next.Send n true) x m i k = said e.peer _ await.Taken _ _ m refl tt
  made_spoken srm wait (next.Send n false) x m i k = said e.peer _ await.Taken _ _ m refl (i, k)
  made_spoken srm wait next.Read x m i k = said e.peer _ await.Body _ _ m refl (i, k)
  made_spoken srm wait next.TooLarge x m i k = said e.peer _ await.Taken _ _ m refl tt

  pub packet_spoken : (srm wait : Bool) (x : Made) (m : Mode) → m.on ≡ srm → m.wait ≡ wait → Spoken (sends_packet e srm wait x s) speaks m
  packet_spoken srm wait x m i k = made_spoken srm wait x.packet.next x m i k

  pub next_spoken : (o : Outgoing) (srm wait : Bool) (m : Mode) → m.on ≡ srm → m.wait ≡ wait → Spoken (sends_next e o srm wait s) speaks m
  unfolding sends_next
  next_spoken o srm wait m i k = packet_spoken srm wait (next_packet (capacity_of e) o s.headers s.reply) m i k

  -- after a reply is taken; `x` is what the journal has open then
  pub goes_on_spoken : (limit : ℕ) (o : Operation) (h b : List ℕ) (x : Opened) (m : Mode) → e.operation ≡ o → OpenedAt limit o h b x → ModeAt o m
      → Spoken (goes_on_of o e s) (taken_due x m) m
  goes_on_spoken limit (Sending o c srm wait) h b x m q w y =
      subst (λ (z : Opened). Spoken (goes_on_of (Sending o c srm wait) e s) (taken_due z m) m) (sym w)
      (subst (λ (t : Bool). Spoken (pick t (sends_next e o srm wait s) (wants e e.peer e.operation s))
      (pick (m.on && not m.wait) speaks silent) m)
      (ap₂ (λ (a b : Bool). a && not b) y.0 y.1)
      (spoken_both (m.on && not m.wait) _ _ speaks silent m (next_spoken o srm wait m y.0 y.1)
      (unsaid e.operation s m (subst (λ (z : Operation). ModeAt z m) (sym q) y))))
  goes_on_spoken limit Nothing h b x m q w y =
      subst (λ (z : Opened). Spoken (goes_on_of Nothing e s) (taken_due z m) m) (sym w)
      (unsaid e.operation s m (subst (λ (z : Operation). ModeAt z m) (sym q) y))
  goes_on_spoken limit Trailing h b x m q w y =
      subst (λ (z : Opened). Spoken (goes_on_of Trailing e s) (taken_due z m) m) (sym w)
      (unsaid e.operation s m (subst (λ (z : Operation). ModeAt z m) (sym q) y))
  goes_on_spoken limit (Putting g srm) h b x m q w y =
      subst (λ (z : Opened). Spoken (goes_on_of (Putting g srm) e s) (taken_due z m) m) (sym w.is)
      (unsaid e.operation s m (subst (λ (z : Operation). ModeAt z m) (sym q) y))
  goes_on_spoken limit (Getting g srm confirm wait) h b x m q w y =
      subst (λ (z : Opened). Spoken (goes_on_of (Getting g srm confirm wait) e s) (taken_due z m) m) (sym w.is)
      (unsaid e.operation s m (subst (λ (z : Operation). ModeAt z m) (sym q) y))
  goes_on_spoken limit (GatheringOp o g) h b x m q w y =
      subst (λ (z : Opened). Spoken (goes_on_of (GatheringOp o g) e s) (taken_due z m) m) (sym w.0.is)
      (unsaid e.operation s m (subst (λ (z : Operation). ModeAt z m) (sym q) y))
  goes_on_spoken limit (Connecting c f n) h b x m q w y = absurd w
  goes_on_spoken limit (Draining c) h b x m q w y =
      subst (λ (z : Opened). Spoken (goes_on_of (Draining c) e s) (taken_due z m) m) (sym w)
      (unsaid e.operation s m (subst (λ (z : Operation). ModeAt z m) (sym q) y))

module _ (ts : List ℕ) (e : Engine) (s : Stores) (j : Journal) (f : Fixed ts e.settings e.peer j) (r : Packet) (m : Mode) where
  abbrev v : Survey
  v = survey_of (some r.headers)

  more_is : v.additional ≡ asks_more r.headers
  unfolding survey_of
  more_is = refl

  wait_is : v.wait ≡ asks_wait r.headers
  unfolding survey_of
  wait_is = refl

  -- ---- Put

  module _ (x : Gathering) (c : Record) (w : PutAgrees (limit_of e) x c) where
    put-due : (srm confirm t u : Bool) → x.got.over ≡ t → r.final ≡ u
        → Spoken (put_gathered e r v srm confirm x s) (put_due r.final srm confirm v.additional (leb (size_of c) j.settings.limit)) m
    put-due srm confirm true true i k = simp (w.full, i, k) (said e s e.peer Nothing await.Taken _ _ m refl tt)
    put-due srm confirm false true i k = simp (w.full, i, k) (said e s e.peer Nothing await.Reply _ _ m refl tt)
    put-due true confirm t false i k =
        simp (w.full, k)
        (spoken_both v.additional _ _ (continues false) silent m (continued e s (Putting x.got true) false (with_gathered s x) m tt)
        (unsaid e s (Putting x.got true) (with_gathered s x) m tt))
    put-due false confirm true false i k =
        simp (w.full, i, k, within_test ts e s j f r x c w true i)
        (said e s e.peer (overrun e.settings) await.Taken _ _ m refl (trailing-mode e.settings.refuse_trailing m))
    put-due false confirm false false i k =
        simp (w.full, i, k, within_test ts e s j f r x c w false i) (continued e s (Putting x.got confirm) confirm (with_gathered s x) m tt)

  put_spoken : (srm confirm : Bool) (g : Gathered) (c : Record) → PutAgrees (limit_of e) (gatheringOf g s.headers s.body) c
      → length (c.headers ++ (carried_by r.headers).headers) ≤ 65535
      → Spoken (put_packet e r v srm confirm g s)
      (put_due r.final srm confirm (asks_more r.headers) (leb (size_of (joined c (carried_by r.headers))) j.settings.limit)) m
  unfolding put_packet
  put_spoken srm confirm g c w l =
      subst (λ (t : Bool). Spoken (put_packet e r v srm confirm g s)
      (put_due r.final srm confirm t (leb (size_of (joined c (carried_by r.headers))) j.settings.limit)) m) more_is
      (put-due (gathers e keep.Put r.headers g s) (joined c (carried_by r.headers))
      (put-agrees (limit_of e) r.headers (gatheringOf g s.headers s.body) c w l) srm confirm _ _ refl refl)

  -- ---- Get

  get_due_lem : (srm confirm u : Bool) (x : Gathering) (k : List ℕ) → KeptAgrees (limit_of e) x k → r.final ≡ u
      → Spoken (get_gathered e r v srm confirm x s) (get_due r.final srm confirm) (requested r.final srm confirm v.wait)
  get_due_lem srm confirm true x k w i = simp (w.full, i) (said e s e.peer (Getting x.got srm confirm v.wait) await.Get _ _ _ refl refl)
  get_due_lem true confirm false x k w i = simp (w.full, i) (unsaid e s (Getting x.got true confirm v.wait) (with_gathered s x) _ refl)
  get_due_lem false confirm false x k w i = simp (w.full, i) (continued e s (Getting x.got confirm false v.wait) confirm (with_gathered s x) _ refl)

  get_spoken : (srm confirm : Bool) (g : Gathered) (k : List ℕ) → KeptAgrees (limit_of e) (gatheringOf g s.headers s.body) k
      → length (k ++ kept_by_get r.headers) ≤ 65535
      → Spoken (get_packet e r v srm confirm g s) (get_due r.final srm confirm) (requested r.final srm confirm (asks_wait r.headers))
  unfolding get_packet
  get_spoken srm confirm g k w l =
      subst (λ (t : Bool). Spoken (get_packet e r v srm confirm g s) (get_due r.final srm confirm) (requested r.final srm confirm t)) wait_is
      (get_due_lem srm confirm _ (gathers e keep.Get r.headers g s) (k ++ kept_by_get r.headers)
      (get_agrees (limit_of e) r.headers (gatheringOf g s.headers s.body) k w l) refl)

  -- ---- Action, Session and user-defined operations

  headers-due : (o : Opcode) (u : Bool) (x : Gathering) (k : List ℕ) → KeptAgrees (limit_of e) x k → r.final ≡ u
      → Spoken (headers_gathered e r o x s) (gather_due r.final) m
  headers-due o true x k w i = simp (w.full, i) (said e s e.peer Nothing await.Reply _ _ m refl tt)
  headers-due o false x k w i = simp (w.full, i) (continued e s (GatheringOp o x.got) false (with_gathered s x) m tt)

  headers_spoken : (o : Opcode) (g : Gathered) (k : List ℕ) → KeptAgrees (limit_of e) (gatheringOf g s.headers s.body) k
      → length (k ++ all_bytes r.headers) ≤ 65535 → Spoken (headers_packet e r o g s) (gather_due r.final) m
  unfolding headers_packet
  headers_spoken o g k w l =
      headers-due o _ (gathers e keep.All r.headers g s) (k ++ all_bytes r.headers)
      (all-agrees (limit_of e) r.headers (gatheringOf g s.headers s.body) k w l) refl

-- ---- a packet with nothing open, which leaves the mode `n`

module _ (ts : List ℕ) (e : Engine) (s : Stores) (j : Journal) (f : Fixed ts e.settings e.peer j) (r : Packet) (n : Mode) where
  abbrev w : Survey
  w = survey_of (some r.headers)

  abbrev known : Bool
  known = known_in e ts w

  decides : (y z : Due) → Spoken (dispatches r.opcode e r w s) y n → ((code : ℕ) → Spoken (rejected e r code s) z n)
      → Spoken (admitted_as (rejection e r.opcode w known) e r w s) (pick (admitted j.settings j.standing r) y z) n
  decides y z a b = rw (rejection_is ts e s j f r, admitted_is ts e s j f r)
      (go (unauthorized j.settings j.standing r.opcode) (not_open j.standing.ids (first 0xCB r.headers)))
    where
      go : (t u : Bool) → Spoken (admitted_as (pick t (rejects 0x41) (pick u (rejects 0x53) admits)) e r w s) (pick (not t && not u) y z) n
      go true u = b 0x41
      go false true = b 0x53
      go false false = a

  drops : (code : ℕ) → Spoken (replies_code e e.peer Nothing code s) speaks n
  drops code = said e s e.peer Nothing await.Taken _ _ n refl tt

  turned_away_lem : (code : ℕ) → drains r.opcode ≡ true → Spoken (rejected e r code s) (turned_due j r) n
  turned_away_lem code d =
      subst (λ (t : Bool). Spoken (pick t (wants e e.peer (Draining code) s) (replies_code e e.peer Nothing code s)) (turned_due j r) n)
      (ap₂ (λ (x t : Bool). x && (t && not r.final)) (srm_is ts e s j f r) (sym d))
      (spoken_both (j.standing.srm && not r.final) _ _ silent speaks n (unsaid e s (Draining code) s n tt) (drops code))

  turned_down : (code : ℕ) → drains r.opcode ≡ false → Spoken (rejected e r code s) speaks n
  turned_down code d = rw (d, and-false e.peer.srm_enabled) (drops code)

  connect_spoken : Spoken (connect_packet e s) speaks n
  unfolding connect_packet
  connect_spoken =
      spoken_pick e.settings.authentication _ _ speaks n
      (λ i. spoken_pick (stops p (last_headers e s)) _ _ speaks n (λ t. said e s (checked_peer p false) Nothing await.Taken _ _ n refl tt)
      (λ t. go p.challenge (client_response e s)))
      (λ i. said e s p Nothing await.Connect (outcome.Request (request.Connect e.length)) s n refl tt)
    where
      p : Peer
      p = limited e.peer (connect_limit (last_packet e s))

      go : (c : Challenge) (x : Option Response) → Spoken (verifies e p c x s) speaks n
      go None x = said e s p Nothing await.Nonce _ _ n refl tt
      go (Some k) none = said e s p Nothing await.Nonce _ _ n refl tt
      go (Some k) (some x) = said e s p Nothing await.Password _ _ n refl tt

  not_connect : (o : Opcode) (y : Due) → r.opcode ≡ o → same_opcode o op.Connect ≡ false
      → Spoken (admitted_as (rejection e r.opcode w known) e r w s) y n → Spoken (dispatch e r w known s) y n
  unfolding dispatch
  not_connect o y i k x =
      subst (λ (t : Bool). Spoken (pick t (connect_packet e s) (admitted_as (rejection e r.opcode w known) e r w s)) y n)
      (sym (ap (λ (z : Opcode). same_opcode z op.Connect) i ∙ k)) x

  by_opcode : (o : Opcode) (y : Due) → r.opcode ≡ o → Spoken (dispatches o e r w s) y n → Spoken (dispatches r.opcode e r w s) y n
  by_opcode o y i x = subst (λ (z : Opcode). Spoken (dispatches z e r w s) y n) (sym i) x

  drained-first : (o : Opcode) (y : Due) → r.opcode ≡ o → same_opcode o op.Connect ≡ false → drains o ≡ true → Spoken (dispatches o e r w s) y n
      → Spoken (dispatch e r w known s) (pick (admitted j.settings j.standing r) y (turned_due j r)) n
  drained-first o y i k d x = not_connect o _ i k (decides y (turned_due j r) (by_opcode o y i x) (λ code. turned_away_lem code (ap drains i ∙ d)))

  plain-first : (o : Opcode) (y : Due) → r.opcode ≡ o → same_opcode o op.Connect ≡ false → drains o ≡ false → Spoken (dispatches o e r w s) y n
      → Spoken (dispatch e r w known s) (pick (admitted j.settings j.standing r) y speaks) n
  plain-first o y i k d x = not_connect o _ i k (decides y speaks (by_opcode o y i x) (λ code. turned_down code (ap drains i ∙ d)))

  -- admitted or not, the host or the client is told
  either_way : (x : Rejection) → Spoken (dispatches r.opcode e r w s) speaks n → ((code : ℕ) → Spoken (rejected e r code s) speaks n)
      → Spoken (admitted_as x e r w s) speaks n
  either_way admits a b = a
  either_way (rejects code) a b = b code

  told-first : (o : Opcode) → r.opcode ≡ o → same_opcode o op.Connect ≡ false → drains o ≡ false → Spoken (dispatches o e r w s) speaks n
      → Spoken (dispatch e r w known s) speaks n
  told-first o i k d x =
      not_connect o speaks i k (either_way (rejection e r.opcode w known) (by_opcode o speaks i x) (λ code. turned_down code (ap drains i ∙ d)))

module _ (ts : List ℕ) (e : Engine) (s : Stores) (j : Journal) (f : Fixed ts e.settings e.peer j) (r : Packet) (m : Mode)
    (last : request_of (take e.length s.packet) ≡ some r) (h : Base e s) (small : length (all_bytes r.headers) ≤ 65535) where
  abbrev q : Survey
  q = survey_of (some r.headers)

  abbrev n : Mode
  n = requested r.final j.standing.srm (newly j r) (asks_wait r.headers)

  abbrev session : Bool
  session = e.peer.srm_enabled

  confirm_is : confirms e q ≡ newly j r
  confirm_is = confirms_is ts e s j f r last h small

  abbrev within : Bool
  within = leb (size_of (carried_by r.headers)) j.settings.limit

  first-put : Spoken (put_packet e r q session (confirms e q) nothing_gathered s)
      (put_due r.final j.standing.srm (newly j r) (asks_more r.headers) within) n
  first-put =
      subst (λ (t : Bool). Spoken (put_packet e r q session (confirms e q) nothing_gathered s)
      (put_due r.final t (newly j r) (asks_more r.headers) within) n)
      (sym (srm_is ts e s j f r))
      (subst (λ (t : Bool). Spoken (put_packet e r q session (confirms e q) nothing_gathered s)
      (put_due r.final session t (asks_more r.headers) within) n)
      confirm_is
      (put_spoken ts e s j f r n session (confirms e q) nothing_gathered bare
      (put-begins (limit_of e) s.headers s.body h.room.headers h.room.body) (omega (arith, carried-headers r.headers))))

  first_get_lem : Spoken (get_packet e r q session (confirms e q) nothing_gathered s) (get_due r.final j.standing.srm (newly j r)) n
  first_get_lem =
      subst (λ (t : Bool). Spoken (get_packet e r q session (confirms e q) nothing_gathered s) (get_due r.final t (newly j r))
      (requested r.final t (newly j r) (asks_wait r.headers)))
      (sym (srm_is ts e s j f r))
      (subst (λ (t : Bool). Spoken (get_packet e r q session (confirms e q) nothing_gathered s) (get_due r.final session t)
      (requested r.final session t (asks_wait r.headers)))
      confirm_is
      (get_spoken ts e s j f r m session (confirms e q) nothing_gathered [] (none_kept ts e s j f r last h small)
      (omega (arith, kept-headers r.headers))))

  first-headers : (o : Opcode) → Spoken (headers_packet e r o nothing_gathered s) (gather_due r.final) n
  first-headers o = headers_spoken ts e s j f r n o nothing_gathered [] (none_kept ts e s j f r last h small) small

  dispatch_spoken : (o : Opcode) → r.opcode ≡ o → same_opcode o op.Abort ≡ false → Spoken (dispatch e r q (known_in e ts q) s) (first_due o j r) n
  unfolding dispatch same_opcode
  dispatch_spoken op.Connect i k =
      subst (λ (t : Bool). Spoken (pick t (connect_packet e s) (admitted_as (rejection e r.opcode q (known_in e ts q)) e r q s)) speaks n)
      (sym (ap (λ (x : Opcode). same_opcode x op.Connect) i)) (connect_spoken ts e s j f r n)
  dispatch_spoken op.Abort i k = absurd (true≢false k)
  dispatch_spoken op.Disconnect i k = told-first ts e s j f r n op.Disconnect i refl refl (said e s e.peer Nothing await.Disconnect _ _ n refl tt)
  dispatch_spoken op.SetPath i k = told-first ts e s j f r n op.SetPath i refl refl (said e s e.peer Nothing await.Reply _ _ n refl tt)
  dispatch_spoken op.Put i k = drained-first ts e s j f r n op.Put _ i refl refl first-put
  dispatch_spoken op.Get i k = drained-first ts e s j f r n op.Get _ i refl refl first_get_lem
  dispatch_spoken op.Action i k = plain-first ts e s j f r n op.Action _ i refl refl (first-headers op.Action)
  dispatch_spoken op.Session i k = plain-first ts e s j f r n op.Session _ i refl refl (first-headers op.Session)
  dispatch_spoken (op.UserDefined x) i k = plain-first ts e s j f r n (op.UserDefined x) _ i refl refl (first-headers (op.UserDefined x))

  -- ---- a packet inside an operation

  interrupted : (x : Mode) → Spoken (interrupts e s) speaks x
  interrupted x = said e s e.peer Nothing await.Last _ _ x refl tt

  goes_on : (o : Opcode) (d : Done) (u : Due) (x : Mode) (k : List ℕ) → length (pick (same_opcode r.opcode o) k []) ≤ 65535
      → (length k ≤ 65535 → Spoken d u x)
      → Spoken (pick (same_opcode r.opcode o) d (interrupts e s)) (pick (same_opcode r.opcode o) u speaks) x
  goes_on o d u x k l g = go (same_opcode r.opcode o) l
    where
      go : (t : Bool) → length (pick t k []) ≤ 65535 → Spoken (pick t d (interrupts e s)) (pick t u speaks) x
      go true l = g l
      go false l = interrupted x

  inside_spoken : (o : Operation) (x : Opened) → OpenedAt (limit_of e) o s.headers s.body x → ModeAt o m → length (kept_with x r) ≤ 65535
      → same_opcode r.opcode op.Abort ≡ false → Spoken (inside o e r q (known_in e ts q) s) (request_due x m j r) (mode_read x m j r)
  inside_spoken Nothing x c y k i =
      subst (λ (z : Opened). Spoken (dispatch e r q (known_in e ts q) s) (request_due z m j r) (mode_read z m j r)) (sym c)
      (dispatch_spoken r.opcode refl i)
  inside_spoken Trailing x c y k i =
      subst (λ (z : Opened). Spoken (inside Trailing e r q (known_in e ts q) s) (request_due z m j r) (mode_read z m j r)) (sym c)
      (subst (λ (t : Bool). Spoken (inside Trailing e r q (known_in e ts q) s) (pick t speaks (first_due r.opcode j r)) n) (trails-same r)
      (spoken_both (trails r) _ _ speaks (first_due r.opcode j r) n
      (said e s e.peer (pick r.final Nothing Trailing) await.Taken _ _ n refl (trailed-mode r.final n))
      (dispatch_spoken r.opcode refl i)))
  inside_spoken (Putting g srm) x c y k i =
      let a = c.carries in
      subst (λ (z : Opened). length (kept_with z r) ≤ 65535
      → Spoken (inside (Putting g srm) e r q (known_in e ts q) s) (request_due z m j r) (mode_read z m j r)) (sym c.is)
      (λ l. goes_on op.Put _ _ m (a.headers ++ (carried_by r.headers).headers) l (λ l'. put_spoken ts e s j f r m srm false g a c.agrees l')) k
  inside_spoken (Getting g srm confirm wait) x c y k i =
      let a = c.keeps in
      subst (λ (z : Opened). length (kept_with z r) ≤ 65535
      → Spoken (inside (Getting g srm confirm wait) e r q (known_in e ts q) s) (request_due z m j r) (mode_read z m j r)) (sym c.is)
      (λ l. subst (λ (z : Mode). Spoken (inside (Getting g srm confirm wait) e r q (known_in e ts q) s) (request_due (getting a) z j r)
      (mode_read (getting a) z j r)) (sym y)
      (goes_on op.Get _ _ _ (a ++ kept_by_get r.headers) l (λ l'. get_spoken ts e s j f r m srm confirm g a c.agrees l'))) k
  inside_spoken (Sending o d srm wait) x c y k i =
      subst (λ (z : Opened). Spoken (inside (Sending o d srm wait) e r q (known_in e ts q) s) (request_due z m j r) (mode_read z m j r)) (sym c)
      (spoken_pick (same_opcode r.opcode op.Get) _ _ speaks _
      (λ t. next_spoken e s o srm q.wait (mode_read sending m j r) y.0 (sym (wait_is ts e s j f r m)))
      (λ t. interrupted _))
  inside_spoken (GatheringOp o g) x c y k i =
      let a = c.0.keeps in
      subst (λ (z : Opened). length (kept_with z r) ≤ 65535
      → Spoken (inside (GatheringOp o g) e r q (known_in e ts q) s) (request_due z m j r) (mode_read z m j r)) (sym c.0.is)
      (λ l. goes_on o _ _ m (a ++ all_bytes r.headers) l (λ l'. headers_spoken ts e s j f r m o g a c.0.agrees l')) k
  inside_spoken (Connecting a g p) x c y k i = absurd c
  inside_spoken (Draining code) x c y k i =
      subst (λ (z : Opened). Spoken (inside (Draining code) e r q (known_in e ts q) s) (request_due z m j r) (mode_read z m j r)) (sym c)
      (spoken_both r.final _ _ speaks silent m (said e s e.peer Nothing await.Taken _ _ m refl tt) (unsaid e s (Draining code) s m tt))

-- ---- any packet

pub read_spoken : (ts : List ℕ) (e : Engine) (s : Stores) (j : Journal) (f : Fixed ts e.settings e.peer j) (m : Mode) (h : Base e s)
    → Octets (take e.length s.packet) → OpenedAt (limit_of e) e.operation s.headers s.body j.opened → ModeAt e.operation m
    → (q : List ℕ) (x : Option Packet) → request_of (take e.length s.packet) ≡ x → length (kept_read j.opened x) ≤ 65535
    → Spoken (read_as x e q s ts) (packet_due x m j) (packet_mode x m j)
read_spoken ts e s j f m h o c y q none i k =
    spoken_pick (busy e.operation) _ _ speaks m (λ t. said e s e.peer Nothing await.Nothing _ _ m refl tt)
    (λ t. said e s e.peer e.operation await.Taken _ _ m refl y)
read_spoken ts e s j f m h o c y q (some r) i k = go (same_opcode r.opcode op.Abort) refl
  where
    short : length (all_bytes r.headers) ≤ 65535
    short = omega (arith, request-headers (take e.length s.packet) r o i, length-take e.length s.packet, h.last)

    go : (t : Bool) → same_opcode r.opcode op.Abort ≡ t
        → Spoken
        (pick t (asks e e.peer Nothing await.Acknowledgement (request.Abort e.length) s)
        (inside e.operation e r (survey_of (some r.headers)) (known_in e ts (survey_of (some r.headers))) s))
        (pick t speaks (request_due j.opened m j r)) (mode_read j.opened m j r)
    go true t = said e s e.peer Nothing await.Acknowledgement _ _ _ refl tt
    go false t = inside_spoken ts e s j f r m i h short e.operation j.opened c y k t

-- ---- the host's answers: a step that speaks, after which no Get is open

pub record Speaks (d : Done) : Type 0 where
  pub said : wants_bytes d.outcome ≡ false
  pub free : (m : Mode) → ModeAt d.engine.operation m

pub speaks_spoken : (d : Done) (m : Mode) → Speaks d → Spoken d speaks m
speaks_spoken d m x = record { obeys = x.said; mode = x.free m }

pub speaks-done : (e : Engine) (p : Peer) (o : Operation) (a : Await) (c : Outcome) (z : Stores) → wants_bytes c ≡ false → ((m : Mode) → ModeAt o m)
    → Speaks (done (engine_with e.settings p o a 0 e.length e.target) c z)
unfolding engine_with
speaks-done e p o a c z x y = record { said = x; free = y }

speaks-pick : (t : Bool) (a b : Done) → Speaks a → Speaks b → Speaks (pick t a b)
speaks-pick true a b x y = x
speaks-pick false a b x y = y

tabled-pick : (t : Bool) (a b : DoneTabled) → Speaks a.done → Speaks b.done → Speaks (pick t a b).done
tabled-pick true a b x y = x
tabled-pick false a b x y = y

module _ (e : Engine) (s : Stores) where
  sent-speaks : (p : Peer) (x : Option (List ℕ)) → Speaks (sent e p x s)
  sent-speaks p none = speaks-done e p Nothing await.Nothing _ _ refl (λ m. tt)
  sent-speaks p (some q) = speaks-done e p Nothing await.Taken _ _ refl (λ m. tt)

  pub sends-speaks : (p : Peer) (code : ℕ) (hs : List ℕ) → Speaks (sends e p code hs s)
  unfolding sends
  sends-speaks p code hs = sent-speaks p (send_bytes p.remote_max_packet_length code [] hs)

  pub sends_connect_speaks : (p : Peer) (code : ℕ) (hs : List ℕ) → Speaks (sends_connect e p code hs s)
  unfolding sends_connect
  sends_connect_speaks p code hs = sent-speaks p (send_bytes p.remote_max_packet_length code (fields_of e.settings.max_packet_length) hs)

  pub connect_sends-speaks : (p : Peer) (code : ℕ) (g : ConnectionId) (answer : List Header) (c : Option Credentials)
      → Speaks (connect_sends e p code g answer c s)
  unfolding connect_sends
  connect_sends-speaks p code g answer c = sends_connect_speaks p code _

  challenged-speaks : (p : Peer) (code : ℕ) (g : ConnectionId) (hs : List ℕ) (c : Option PeerChallenge) → Speaks (connect_challenged e p code g hs c s)
  challenged-speaks p code g hs none = connect_sends-speaks p code g _ none
  challenged-speaks p code g hs (some c) = speaks-done e p _ await.Credentials _ _ refl (λ m. tt)

  opened-speaks : (t : List ℕ) (x : Option Linked) (code : ℕ) (g : ConnectionId) (hs : List ℕ) → Speaks (connect_opened e t x code g hs s).done
  opened-speaks t none code g hs = sends_connect_speaks e.peer 0x53 []
  opened-speaks t (some l) code g hs = challenged-speaks l.peer code g hs (answered_challenge (last_headers e s))

  connect_speaks : (code : ℕ) (hs t : List ℕ) → Speaks (connect_answer e code hs s t).done
  unfolding connect_answer
  connect_speaks code hs t =
      let answer = first 0xCB (list_of (read_headers hs 0)) in
      let target = first 0x46 (last_headers e s) in
      let srm = e.peer.srm_enabled || srm_asked e (survey_of (some (last_headers e s))) in
      tabled-pick (is_success code) _ _ (opened-speaks t (opened_for e.peer t srm answer target) code (front_for e.peer t answer target) hs)
      (sends_connect_speaks e.peer code hs)

  pub reply-speaks : (code : ℕ) (hs t : List ℕ) → Speaks (reply_answer e code hs s t).done
  unfolding reply_answer
  reply-speaks code hs t =
      tabled-pick (same_await e.awaits await.Connect) _ _ (connect_speaks code hs t)
      (tabled-pick (same_await e.awaits await.Disconnect) _ _ (sends-speaks _ code hs) (sends-speaks e.peer code hs))

  pub password-speaks : (p : Option (List ℕ)) → Speaks (password_answer e p s)
  unfolding password_answer password_answered
  password-speaks p =
      speaks-pick (checks e.peer.challenge (client_response e s) (demands_user e.settings) p) _ _
      (speaks-done e (verified_peer (checked_peer e.peer false)) Nothing await.Connect _ _ refl (λ m. tt))
      (speaks-done e (checked_peer e.peer true) Nothing await.Nonce _ _ refl (λ m. tt))

  pub nonce-speaks : (n : Octets16) (l : List ℕ) → Speaks (nonce_answer e n l s)
  unfolding nonce_answer
  nonce-speaks n l = sends_connect_speaks (challenged_peer e.peer n) 0x41 _
