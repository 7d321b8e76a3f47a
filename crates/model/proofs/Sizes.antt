-- No reply is too long by itself: only a host's answer can lead to a reply of over 65,535 bytes, and then the answer's own size says so. And
-- only a host's reply leads to where credentials are awaited. Assumes nothing.
use mathlib.Core.Path.{◌≡◌, refl, sym, ap, ap₂, ◌∙◌, subst}
use mathlib.Core.List.{List, []}
use mathlib.Core.Bool.{Bool, true, false, ◌&&◌, ◌||◌, not, true≢false}
use mathlib.Core.Option.{Option, none, some}
use Prim.Native.Nat.{ℕ, ◌+◌, ◌%◌, ◌^◌, ◌≤◌}
use native.Mathlib.Omega.{arith}
use lib.ListN.{length, take, drop}
use lib.Seq.{take-append_seam, length-take-le}
use lib.Dec.{ltb, leb}
use borrow.Author.Tests.{ltb-false, le-ltb}
use Rattle.std.specs.Prelude.{Some, None}
use Rattle.base.specs.Pick.{pick}
use Rattle.base.specs.Bytes.{be32}
use Rattle.digest.specs.Md5.{octets16}
use Rattle.digest.specs.declared.md5.Octets16.{Octets16}
use Rattle.packet.specs.FirstByte.{same_opcode}
use Rattle.packet.specs.Codes.{is_success, sent_code}
use Rattle.packet.specs.Header.{Header, read_headers, first, bytes_of, all_bytes}
use Rattle.packet.specs.Packet.{Request as Packet, request_of, connect_limit, packet_bytes}
use Rattle.packet.specs.Auth.{Challenge as PeerChallenge, Response}
use Rattle.packet.specs.declared.opcode.Opcode.{Opcode}
use Rattle.packet.specs.declared.opcode.Opcode.TheVariants as op
use Rattle.journal.specs.Ids.{member}
use Rattle.journal.specs.Calls.{Credentials}
use Rattle.journal.specs.Checks.{Check}
use Rattle.journal.specs.Journal.{Settings as JournalSettings, Standing, Opened, Journal, asks_srm, list_of}
use Rattle.incoming.specs.Survey.{survey_of}
use Rattle.incoming.specs.declared.survey.Survey.{Survey}
use Rattle.incoming.specs.declared.gather.Keep.TheVariants as keep
use Rattle.incoming.specs.declared.gather.Gathered.{Gathered}
use Rattle.outgoing.specs.Object.{Made, next_packet}
use Rattle.outgoing.specs.declared.object.Outgoing.{Outgoing}
use Rattle.outgoing.specs.declared.object.Next.{Next}
use Rattle.outgoing.specs.declared.object.Next.TheVariants as next
use Rattle.connection.specs.Reply.{fields_of, send_bytes, front}
use Rattle.table.specs.Targets.{target_by}
use Rattle.table.specs.declared.targets.Target.{Target}
use Rattle.connection.specs.Peer.{ids_of, Linked, opened, searched, target_given, opened_for, limited, verified_peer, challenged_peer, checked_peer, ConnectionId, Challenge}
use Rattle.connection.specs.ConnectReply.{answered_challenge, connect_headers, challenge_header}
use Rattle.connection.specs.Pieces.{id_given}
use Rattle.connection.specs.declared.peer.Peer.{Peer}
use Rattle.model.specs.Step.{Stores, with_reply, with_gathered, engine_with, Done, done, DoneTabled, done_tabled, sent, sends, sends_connect, capacity_of}
use Rattle.model.specs.Request.{last_packet, last_headers, client_response}
use Rattle.model.specs.Guard.{long_realm}
use Rattle.model.specs.Operation.{gathers, put_continues, put_packet, get_continues, get_packet, headers_packet}
use Rattle.model.specs.Object.{sends_made, sends_packet, sends_next, goes_on_of}
use Rattle.model.specs.Connect.{srm_asked, connect_sends, front_for, connect_challenged, connect_opened, connect_answer, verifies, connect_packet, checks, password_answer, options_of, realm_of, nonce_answer, stops, password_answered, demands_user}
use Rattle.model.specs.Dispatch.{Rejection, admits, rejects, rejection, drains, dispatches, admitted_as, dispatch, inside, busy, read_as, known_in, packet_target, arrived, packet_done, trails}
use Rattle.model.specs.Replies.{front_in, is_full, full_for, accepted_size, accepted_at, connect_size, last_size, answer_size, Late, late_by}
use Rattle.model.specs.Theorem.{settings_of}
use Rattle.server.specs.declared.Settings.{Settings}
use Rattle.server.specs.declared.Operation.{Operation}
use Rattle.server.specs.declared.Operation.TheVariants.{Nothing, Putting, Getting, Sending, Gathering as GatheringOp, Connecting, Draining, Trailing}
use Rattle.server.specs.declared.Await.{Await}
use Rattle.server.specs.declared.Await.TheVariants as await
use Rattle.server.specs.declared.Engine.{Engine}
use Rattle.server.specs.declared.HostRequest.TheVariants as request
use Rattle.server.specs.declared.Outcome.{Outcome}
use Rattle.server.specs.declared.Outcome.TheVariants as outcome
use Rattle.connection.proofs.Standings.{PeerFits, standing_of}
use Rattle.connection.proofs.Putting.{challenge-bytes-length}
use Rattle.model.proofs.Coupling.{AskedBy, too_large}

-- whether credentials are not awaited
abbrev pub early : Await → Bool
early await.Credentials = false
early await.Bytes = true
early await.Taken = true
early await.Last = true
early await.Connect = true
early await.Disconnect = true
early await.Get = true
early await.Reply = true
early await.Acknowledgement = true
early await.Password = true
early await.Nonce = true
early await.Body = true
early await.Nothing = true

-- a step that ends with no reply that is too long, and leaves no Connect that waits for credentials
pub record Brief (d : Done) : Type 0 where
  pub small : too_large d.outcome ≡ false
  pub early : early d.engine.awaits ≡ true

pub brief_pick : (t : Bool) (a b : Done) → Brief a → Brief b → Brief (pick t a b)
brief_pick true a b x y = x
brief_pick false a b x y = y

pub brief_done : (e : Engine) (p : Peer) (o : Operation) (a : Await) (b n : ℕ) (c : Outcome) (z : Stores) → too_large c ≡ false → early a ≡ true
    → Brief (done (engine_with e.settings p o a b n e.target) c z)
unfolding engine_with
brief_done e p o a b n c z x y = record { small = x; early = y }

module _ (e : Engine) (s : Stores) where
  leaf : (p : Peer) (o : Operation) (a : Await) (c : Outcome) (z : Stores) → too_large c ≡ false → early a ≡ true
      → Brief (done (engine_with e.settings p o a 0 e.length e.target) c z)
  leaf p o a c z x y = brief_done e p o a 0 e.length c z x y

  -- ---- operations

  put-continues : (g : Gathered) (srm confirm additional : Bool) (z : Stores) → Brief (put_continues e g srm confirm additional z)
  put-continues g true confirm additional z =
      brief_pick additional _ _ (leaf e.peer _ await.Taken _ _ refl refl) (leaf e.peer _ await.Bytes _ _ refl refl)
  put-continues g false confirm additional z =
      brief_pick g.over _ _ (leaf e.peer _ await.Taken _ _ refl refl) (leaf e.peer _ await.Taken _ _ refl refl)

  put_brief : (r : Packet) (v : Survey) (srm confirm : Bool) (g : Gathered) → Brief (put_packet e r v srm confirm g s)
  unfolding put_packet
  put_brief r v srm confirm g =
      let x = gathers e keep.Put r.headers g s in
      brief_pick x.got.full _ _ (leaf e.peer _ await.Nothing _ _ refl refl)
      (brief_pick r.final _ _
      (brief_pick x.got.over _ _ (leaf e.peer _ await.Taken _ _ refl refl) (leaf e.peer _ await.Reply _ _ refl refl))
      (put-continues x.got srm confirm v.additional (with_gathered s x)))

  get_continues_lem : (g : Gathered) (srm confirm wait : Bool) (z : Stores) → Brief (get_continues e g srm confirm wait z)
  get_continues_lem g true confirm wait z = leaf e.peer _ await.Bytes _ _ refl refl
  get_continues_lem g false confirm wait z = leaf e.peer _ await.Taken _ _ refl refl

  get_brief : (r : Packet) (v : Survey) (srm confirm : Bool) (g : Gathered) → Brief (get_packet e r v srm confirm g s)
  unfolding get_packet
  get_brief r v srm confirm g =
      let x = gathers e keep.Get r.headers g s in
      brief_pick x.got.full _ _ (leaf e.peer _ await.Nothing _ _ refl refl)
      (brief_pick r.final _ _ (leaf e.peer _ await.Get _ _ refl refl) (get_continues_lem x.got srm confirm v.wait (with_gathered s x)))

  headers_brief : (r : Packet) (o : Opcode) (g : Gathered) → Brief (headers_packet e r o g s)
  unfolding headers_packet
  headers_brief r o g =
      let x = gathers e keep.All r.headers g s in
      brief_pick x.got.full _ _ (leaf e.peer _ await.Nothing _ _ refl refl)
      (brief_pick r.final _ _ (leaf e.peer _ await.Reply _ _ refl refl) (leaf e.peer _ await.Taken _ _ refl refl))

  -- ---- an object

  made_brief : (srm wait : Bool) (n : Next) (m : Made) → Brief (sends_made e srm wait n m s)
  made_brief srm wait (next.Send n true) m = leaf e.peer _ await.Taken _ _ refl refl
  made_brief srm wait (next.Send n false) m = leaf e.peer _ await.Taken _ _ refl refl
  made_brief srm wait next.Read m = leaf e.peer _ await.Body _ _ refl refl
  made_brief srm wait next.TooLarge m = leaf e.peer _ await.Taken _ _ refl refl

  pub packet_brief : (srm wait : Bool) (m : Made) → Brief (sends_packet e srm wait m s)
  packet_brief srm wait m = made_brief srm wait m.packet.next m

  pub next_brief : (o : Outgoing) (srm wait : Bool) → Brief (sends_next e o srm wait s)
  unfolding sends_next
  next_brief o srm wait = packet_brief srm wait (next_packet (capacity_of e) o s.headers s.reply)

  pub goes_on_brief : (o : Operation) → Brief (goes_on_of o e s)
  goes_on_brief (Sending o c srm wait) = brief_pick (srm && not wait) _ _ (next_brief o srm wait) (leaf e.peer _ await.Bytes _ _ refl refl)
  goes_on_brief Nothing = leaf e.peer _ await.Bytes _ _ refl refl
  goes_on_brief Trailing = leaf e.peer _ await.Bytes _ _ refl refl
  goes_on_brief (Putting g srm) = leaf e.peer _ await.Bytes _ _ refl refl
  goes_on_brief (Getting g srm confirm wait) = leaf e.peer _ await.Bytes _ _ refl refl
  goes_on_brief (GatheringOp o g) = leaf e.peer _ await.Bytes _ _ refl refl
  goes_on_brief (Connecting code f n) = leaf e.peer _ await.Bytes _ _ refl refl
  goes_on_brief (Draining code) = leaf e.peer _ await.Bytes _ _ refl refl

  -- ---- a packet

  connect_brief : Brief (connect_packet e s)
  unfolding connect_packet
  connect_brief =
      brief_pick e.settings.authentication _ _
      (brief_pick (stops p (last_headers e s)) _ _ (leaf (checked_peer p false) _ await.Taken _ _ refl refl) (go p.challenge (client_response e s)))
      (leaf p Nothing await.Connect (outcome.Request (request.Connect e.length)) s refl refl)
    where
      p : Peer
      p = limited e.peer (connect_limit (last_packet e s))

      go : (c : Challenge) (x : Option Response) → Brief (verifies e p c x s)
      go None x = leaf p _ await.Nonce _ _ refl refl
      go (Some n) none = leaf p _ await.Nonce _ _ refl refl
      go (Some n) (some x) = leaf p _ await.Password _ _ refl refl

  module _ (r : Packet) (v : Survey) where
    dispatches_brief : (o : Opcode) → Brief (dispatches o e r v s)
    dispatches_brief op.Connect = connect_brief
    dispatches_brief op.Abort = leaf e.peer _ await.Acknowledgement _ _ refl refl
    dispatches_brief op.Disconnect = leaf e.peer _ await.Disconnect _ _ refl refl
    dispatches_brief op.SetPath = leaf e.peer _ await.Reply _ _ refl refl
    dispatches_brief op.Put = put_brief r v _ _ _
    dispatches_brief op.Get = get_brief r v _ _ _
    dispatches_brief op.Action = headers_brief r op.Action _
    dispatches_brief op.Session = headers_brief r op.Session _
    dispatches_brief (op.UserDefined x) = headers_brief r (op.UserDefined x) _

    admitted_brief : (x : Rejection) → Brief (admitted_as x e r v s)
    admitted_brief admits = dispatches_brief r.opcode
    admitted_brief (rejects code) =
        brief_pick (e.peer.srm_enabled && (drains r.opcode && not r.final)) _ _ (leaf e.peer _ await.Bytes _ _ refl refl)
        (leaf e.peer _ await.Taken _ _ refl refl)

    dispatch_brief : (known : Bool) → Brief (dispatch e r v known s)
    unfolding dispatch
    dispatch_brief known = brief_pick (same_opcode r.opcode op.Connect) _ _ connect_brief (admitted_brief (rejection e r.opcode v known))

    inside_brief : (o : Operation) (known : Bool) → Brief (inside o e r v known s)
    inside_brief Nothing known = dispatch_brief known
    inside_brief Trailing known = brief_pick (trails r) _ _ (leaf e.peer _ await.Taken _ _ refl refl) (dispatch_brief known)
    inside_brief (Putting g srm) known =
        brief_pick (same_opcode r.opcode op.Put) _ _ (put_brief r v srm false g) (leaf e.peer _ await.Last _ _ refl refl)
    inside_brief (Getting g srm confirm wait) known =
        brief_pick (same_opcode r.opcode op.Get) _ _ (get_brief r v srm confirm g) (leaf e.peer _ await.Last _ _ refl refl)
    inside_brief (Sending o c srm wait) known =
        brief_pick (same_opcode r.opcode op.Get) _ _ (next_brief o srm v.wait) (leaf e.peer _ await.Last _ _ refl refl)
    inside_brief (GatheringOp o g) known = brief_pick (same_opcode r.opcode o) _ _ (headers_brief r o g) (leaf e.peer _ await.Last _ _ refl refl)
    inside_brief (Connecting c f n) known = leaf e.peer _ await.Last _ _ refl refl
    inside_brief (Draining code) known =
        brief_pick r.final _ _ (leaf e.peer _ await.Taken _ _ refl refl) (leaf e.peer _ await.Bytes _ _ refl refl)

  read_brief : (q t : List ℕ) (x : Option Packet) → Brief (read_as x e q s t)
  read_brief q t none =
      brief_pick (busy e.operation) _ _ (leaf e.peer _ await.Nothing _ _ refl refl) (leaf e.peer _ await.Taken _ _ refl refl)
  read_brief q t (some r) =
      brief_pick (same_opcode r.opcode op.Abort) _ _ (leaf e.peer _ await.Acknowledgement _ _ refl refl)
      (inside_brief r (survey_of (some r.headers)) e.operation (known_in e t (survey_of (some r.headers))))

  pub password_brief : (p : Option (List ℕ)) → Brief (password_answer e p s)
  unfolding password_answer password_answered
  password_brief p =
      brief_pick (checks e.peer.challenge (client_response e s) (demands_user e.settings) p) _ _
      (leaf (verified_peer (checked_peer e.peer false)) _ await.Connect _ _ refl refl)
      (leaf (checked_peer e.peer true) _ await.Nonce _ _ refl refl)

  -- ---- replies to a host's answer, by their sizes

  sent_brief : (p : Peer) (code : ℕ) (fields hs : List ℕ) → 3 + length fields + length hs ≤ 65535
      → Brief (sent e p (send_bytes p.remote_max_packet_length code fields hs) s)
  unfolding send_bytes
  sent_brief p code fields hs l =
      rw (le-ltb 65535 (3 + length fields + length hs) l) (go (ltb p.remote_max_packet_length (3 + length fields + length hs)))
    where
      long : List ℕ
      long = packet_bytes (sent_code 0x50) fields []

      whole : List ℕ
      whole = packet_bytes (sent_code code) fields hs

      go : (t : Bool) → Brief (sent e p (pick t (some long) (some whole)) s)
      go true = leaf p Nothing await.Taken (outcome.Reply (length long)) (with_reply s (front long s.reply)) refl refl
      go false = leaf p Nothing await.Taken (outcome.Reply (length whole)) (with_reply s (front whole s.reply)) refl refl

  pub sends_brief : (p : Peer) (code : ℕ) (hs : List ℕ) → 3 + length hs ≤ 65535 → Brief (sends e p code hs s)
  unfolding sends
  sends_brief p code hs l = sent_brief p code [] hs (omega arith)

  pub sends_connect_brief : (p : Peer) (code : ℕ) (hs : List ℕ) → 7 + length hs ≤ 65535 → Brief (sends_connect e p code hs s)
  unfolding sends_connect
  sends_connect_brief p code hs l = sent_brief p code (fields_of e.settings.max_packet_length) hs (omega arith)

  -- a challenge is short, since the realm is
  pub nonce_brief : (n : Octets16) (l : List ℕ) → long_realm e.settings l ≡ false → Brief (nonce_answer e n l s)
  unfolding nonce_answer long_realm
  nonce_brief n l h = sends_connect_brief (challenged_peer e.peer n) 0x41 _ (challenge-small e.settings.has_realm refl)
    where
      st : Settings
      st = e.settings

      challenge-small : (t : Bool) → st.has_realm ≡ t → 7 + length (bytes_of (challenge_header (octets16 n) (options_of st) (realm_of st l))) ≤ 65535
      challenge-small true i =
          let k : length l ≤ 254 = ltb-false _ _ (sym (ap (λ (t : Bool). t && ltb 254 (length l)) i) ∙ h) in
          rw i (omega (arith, challenge-bytes-length n (options_of st) true st.charset l))
      challenge-small false i = rw i (omega (arith, challenge-bytes-length n (options_of st) false st.charset l))

-- a whole packet
pub done_brief : (e : Engine) (n : ℕ) (s : Stores) (t : List ℕ) → Brief (packet_done e n s t)
unfolding packet_done
done_brief e n s t =
    let r = request_of (take n s.packet) in read_brief (arrived e n (packet_target r e t)) s (take n s.packet) t r

-- ---- what credentials will lead to

-- the size of the reply to a Connect that waits for credentials
abbrev pub waiting_size : Engine → Stores → ConnectionId → ℕ → Late
waiting_size e s f n c =
    7 + length (all_bytes (connect_headers (id_given f) (last_headers e s) (list_of (read_headers (take n s.headers) 0)) c
    (srm_asked e (survey_of (some (last_headers e s))))))

abbrev pub LateIn : Operation → Engine → Stores → Late → Type 0
LateIn (Connecting code f n) e s late = (c : Option Credentials) → waiting_size e s f n c ≡ late c
LateIn Nothing e s late = Unit {0}
LateIn Trailing e s late = Unit {0}
LateIn (Putting g srm) e s late = Unit {0}
LateIn (Getting g srm confirm wait) e s late = Unit {0}
LateIn (Sending o c srm wait) e s late = Unit {0}
LateIn (GatheringOp o g) e s late = Unit {0}
LateIn (Draining code) e s late = Unit {0}

-- while credentials are awaited, it is the size that the journal's answers gave
abbrev pub LateAt : Engine → Stores → Late → Type 0
LateAt e s late = early e.awaits ≡ false → LateIn e.operation e s late

pub early-late : (e : Engine) (s : Stores) (late : Late) → early e.awaits ≡ true → LateAt e s late
early-late e s late i k = absurd (true≢false (sym i ∙ k))

-- a step with which no reply is too long, and `late` is what credentials will lead to
pub record Sized (d : Done) (late : Late) : Type 0 where
  pub small : too_large d.outcome ≡ false
  pub waiting : LateAt d.engine d.stores late

pub brief_sized : (d : Done) (late : Late) → Brief d → Sized d late
brief_sized d late b = record { small = b.small; waiting = early-late d.engine d.stores late b.early }

pub sized-pick : (t : Bool) (a b : DoneTabled) (late : Late) → (t ≡ true → Sized a.done late) → (t ≡ false → Sized b.done late)
    → Sized (pick t a b).done late
sized-pick true a b late f g = f refl
sized-pick false a b late f g = g refl

-- ---- the host's answer to a Connect

front_is : (p : Peer) (ts : List ℕ) (h : List Check) (a t : Option (List ℕ)) → front_in (standing_of p ts h) a t ≡ id_given (front_for p ts a t)
front_is p ts h (some v) t = refl
front_is p ts h none none = refl
front_is p ts h none (some v) = refl

-- an id that is opened is no 65th
not_full : (p : Peer) (ts : List ℕ) (h : List Check) (srm : Bool) → PeerFits p.nonces p → 64 ≤ length ts → (q : Linked) (a t : Option (List ℕ))
    → opened_for p ts srm a t ≡ some q
    → full_for (standing_of p ts h) a t ≡ false
unfolding opened is_full
not_full p ts h srm f room q a t = by a t
  where
    size : length (ids_of p ts) ≡ p.count
    size = length-take-le p.count ts (omega (arith, f.count, room))

    one : (id next : ℕ) (g : Target) → opened p ts srm id next g ≡ some q → is_full (standing_of p ts h) id ≡ false
    one id next g i = go (member id (ids_of p ts)) (leb 64 p.count) refl refl i
      where
        go : (x u : Bool) → member id (ids_of p ts) ≡ x → leb 64 p.count ≡ u → opened p ts srm id next g ≡ some q
            → is_full (standing_of p ts h) id ≡ false
        go true u m k i = simp m
        go false true m k i = absurd (let z : ◌≡◌ {A = ℕ} 0 1 = (let y = simp (m, k) at i in cc) in omega arith)
        go false false m k i = simp (m, size, k)

    by : (a t : Option (List ℕ)) → opened_for p ts srm a t ≡ some q → full_for (standing_of p ts h) a t ≡ false
    by (some v) t i = one (be32 v 0) p.next_connection_id (target_given t) i
    by none (some v) i = one (searched p ts) ((searched p ts + 1) % 2 ^ 32) (target_by v) i
    by none none i = refl

module _ (ts : List ℕ) (e : Engine) (s : Stores) (j : Journal) (w : AskedBy ts e.settings e.peer op.Connect e.length s j) (code : ℕ)
    (hs : List ℕ) where
  abbrev named : Option (List ℕ)
  named = first 0xCB (list_of (read_headers hs 0))

  abbrev target : Option (List ℕ)
  target = first 0x46 (last_headers e s)

  headers_are : w.request.headers ≡ last_headers e s
  unfolding last_headers last_packet
  headers_are = w.headers

  abbrev accepted_by : List Header → JournalSettings → Standing → Option Credentials → ℕ
  accepted_by l x y c =
      7 + length (all_bytes (connect_headers (front_in y named (first 0x46 l)) l (list_of (read_headers hs 0)) c (asks_srm x l)))

  accepted_is : (c : Option Credentials) → accepted_size j w.request hs c
      ≡ 7 + length (all_bytes (connect_headers (id_given (front_for e.peer ts named target)) (last_headers e s) (list_of (read_headers hs 0)) c
      (srm_asked e (survey_of (some (last_headers e s))))))
  unfolding accepted_size asks_srm survey_of
  accepted_is c =
      ap (λ (l : List Header). accepted_by l j.settings j.standing c) headers_are
      ∙ ap₂ (λ (x : JournalSettings) (y : Standing). accepted_by (last_headers e s) x y c) w.held.fixed.settings w.held.fixed.standing
      ∙ ap (λ (i : Option ℕ).
      7 + length (all_bytes (connect_headers i (last_headers e s) (list_of (read_headers hs 0)) c (asks_srm (settings_of e.settings) (last_headers e s)))))
      (front_is e.peer ts w.held.fixed.past named target)

  size_is : answer_size j.opened j code hs ≡ connect_size j w.request code hs
  unfolding same_opcode
  size_is =
      ap (λ (o : Opened). answer_size o j code hs) w.held.opened ∙ ap (λ (x : Option Packet). last_size x j code hs) w.last
      ∙ ap (λ (o : Opcode). pick (same_opcode o op.Connect) (connect_size j w.request code hs) (3 + length hs)) w.opcode

  abbrev late : Late
  late = late_by j.last j hs

  late_is : (c : Option Credentials) → late c ≡ accepted_size j w.request hs c
  late_is c = ap (λ (x : Option Packet). late_by x j hs c) w.last

  challenged-sized : (p : Peer) (x : Option PeerChallenge) → accepted_at x j w.request hs ≤ 65535
      → Sized (connect_challenged e p code (front_for e.peer ts named target) hs x s) late
  unfolding connect_sends engine_with last_headers last_packet
  challenged-sized p none l =
      brief_sized _ late (sends_connect_brief e s p code _ (omega (arith, l, accepted_is none)))
  challenged-sized p (some x) l =
      record {
        small = refl;
        waiting =
            λ i c. ap (λ (q : List ℕ).
            7 + length (all_bytes (connect_headers (id_given (front_for e.peer ts named target)) (last_headers e s) (list_of (read_headers q 0)) c
            (srm_asked e (survey_of (some (last_headers e s)))))))
            (take-append_seam hs (drop (length hs) s.headers)) ∙ sym (late_is c ∙ accepted_is c);
      }

  abbrev srm : Bool
  srm = e.peer.srm_enabled || srm_asked e (survey_of (some (last_headers e s)))

  abbrev accepted_or : Bool → ℕ
  accepted_or full = pick full 7 (accepted_at (answered_challenge (last_headers e s)) j w.request hs)

  module _ (fits : PeerFits e.peer.nonces e.peer) (room : 64 ≤ length ts) where
    opened-sized : (q : Option Linked) → opened_for e.peer ts srm named target ≡ q
        → accepted_or (full_for (standing_of e.peer ts w.held.fixed.past) named target) ≤ 65535
        → Sized (connect_opened e ts q code (front_for e.peer ts named target) hs s).done late
    opened-sized none i l = brief_sized _ late (sends_connect_brief e s e.peer 0x53 [] (omega arith))
    opened-sized (some q) i l =
        challenged-sized q.peer (answered_challenge (last_headers e s))
        (subst (λ (t : Bool). accepted_or t ≤ 65535) (not_full e.peer ts w.held.fixed.past srm fits room q named target i) l)

    -- by the headers of the request and the standing, which engine and journal share
    abbrev size_by : List Header → Standing → ℕ
    size_by x y = pick (is_success code) (pick (full_for y named (first 0x46 x)) 7 (accepted_at (answered_challenge x) j w.request hs)) (7 + length hs)

    pub connect_sized : answer_size j.opened j code hs ≤ 65535 → Sized (connect_answer e code hs s ts).done late
    unfolding connect_answer
    connect_sized l =
        go (is_success code) (subst (λ (n : ℕ). n ≤ 65535) (size_is ∙ ap₂ size_by headers_are w.held.fixed.standing) l)
      where
        go : (t : Bool) → pick t (accepted_or (full_for (standing_of e.peer ts w.held.fixed.past) named target)) (7 + length hs) ≤ 65535
            → Sized (pick t (connect_opened e ts (opened_for e.peer ts srm named target) code (front_for e.peer ts named target) hs s)
            (done_tabled (sends_connect e e.peer code hs s) ts)).done late
        go true k = opened-sized (opened_for e.peer ts srm named target) refl k
        go false k = brief_sized (sends_connect e e.peer code hs s) late (sends_connect_brief e s e.peer code hs k)
