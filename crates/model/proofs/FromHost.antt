-- The host's answers: each such call agrees with what is due and with the journal. Assumes nothing.
use mathlib.Core.Path.{◌≡◌, refl, sym, ap, ◌∙◌, subst}
use mathlib.Core.List.{List, [], ◌∷◌}
use mathlib.Core.Bool.{Bool, true, false, ◌||◌, not}
use mathlib.Core.Option.{Option, none, some}
use Prim.Native.Nat.{ℕ, suc, ◌+◌, ◌≤◌, ◌<◌}
use native.Mathlib.Omega.{arith}
use lib.ListN.{length, take}
use lib.Seq.{take-take}
use lib.Dec.{ltb, leb}
use borrow.Author.Tests.{ltb-true, ltb-false, lt-leb, le-leb}
use Rattle.base.specs.Pick.{pick}
use Rattle.digest.specs.declared.md5.Octets16.{Octets16}
use Rattle.packet.specs.FirstByte.{same_opcode}
use Rattle.packet.specs.Codes.{is_code}
use Rattle.packet.specs.Packet.{Request as Packet}
use Rattle.packet.specs.declared.opcode.Opcode.{Opcode}
use Rattle.packet.specs.Header.{read_headers}
use Rattle.packet.specs.declared.opcode.Opcode.TheVariants as op
use Rattle.journal.specs.Calls.{Call, reply_given_of, object_given_of, body_given_of, body_failed_of, abort_acknowledged_of, password_given_of, nonce_given_of, credentials_given_of, Credentials, goes, refused, step_by_of}
use Rattle.journal.specs.Journal.{Opened, nothing, getting, sending, Journal, unchanged, opens, replied, object_sent, journal_call, journal_fed, fed_takes, list_of}
use Rattle.outgoing.specs.Object.{body_given_of as givenBody}
use Rattle.outgoing.specs.declared.object.Outgoing.{Outgoing}
use Rattle.outgoing.specs.declared.object.Chunk.{Chunk}
use Rattle.connection.specs.Reply.{front}
use Rattle.table.specs.Nonces.{remembered_with, remembered, among}
use Rattle.model.specs.Step.{DoneTabled, Called, called, Stores, with_headers, Done, after, limit_of, sends}
use Rattle.model.specs.Connect.{nonce_answer, connect_sends}
use Rattle.model.specs.Guard.{refuse, same_await, fits, bad_headers, bad_reply, checked, long_user, long_realm, sound_operation}
use Rattle.model.specs.Object.{sends_packet, sends_next, object_of}
use Rattle.model.specs.Calls.{reply_answer, object_for, body_for, nonce_checked, credentials_with}
use Rattle.model.specs.Runs.{State, keeps}
use Rattle.model.specs.Refusals.{room_in, Known, noted, bad, used}
use Rattle.journal.specs.Srm.{speaks, Mode, object_mode}
use Rattle.model.specs.Replies.{connect_size, last_size, answer_size, Late, late_by}
use Rattle.server.specs.declared.Settings.{Settings}
use Rattle.server.specs.declared.Operation.{Operation}
use Rattle.server.specs.declared.Operation.TheVariants.{Nothing, Sending, Connecting}
use Rattle.server.specs.declared.CallKind.TheVariants as kind
use Rattle.server.specs.declared.Refusal.TheVariants as refusal
use Rattle.server.specs.declared.Await.{Await}
use Rattle.server.specs.declared.Await.TheVariants as await
use Rattle.outgoing.proofs.Sent.{body-sends}
use Rattle.table.proofs.Remembering.{remembered-length, remembered-front, remembered-more}
use Rattle.model.proofs.Fit.{or_left, or_right, room-headers, IsGetting, IsSending, IsConnecting, Shape, room_of, waits_of, Base, Seated, ids-room, nonces-room, Fine, fine-code}
use Rattle.model.proofs.Steps.{OutgoingFits, outgoing_within, sends-next-fine, sends-packet-fine, reply-fine, password-fine, nonce-fine, connect_sends-fine}
use Rattle.model.proofs.Coupling.{KeptOpen, OpenedAt, Held, AskedBy, connects, Coupled, fixed_kept, Told, told-follows, ToldTabled, tabled-told-pick, told-code}
use Rattle.model.proofs.Sizes.{early, Brief, brief_done, packet_brief, next_brief, password_brief, sends_brief, sends_connect_brief, nonce_brief, LateIn, LateAt, Sized, brief_sized, sized-pick, connect_sized}
use Rattle.model.proofs.Speaks.{ModeAt, spoken_done, next_spoken, packet_spoken, speaks_spoken, reply-speaks, password-speaks, nonce-speaks, connect_sends-speaks}
use Rattle.model.proofs.Gathers.{next-told, fails_told, sends-told as made_told}
use Rattle.model.proofs.Answers.{sends-told, connect-sends-told, connect_told, disconnect-told, password-told, nonce-told}
use Rattle.model.proofs.Moments.{same_await_lem, or_second, fed_going, SizedBy, SpokenBy, Knows, Agree, AgreeKept, Agrees, fed-goes, none-taken, agree_tabled, agree_goes, agree_refused, agrees}
use Rattle.model.proofs.FromPeer.{coupled_at}

-- the first of a list whose rest was cut already
take_again : {A : Type 0} (m : ℕ) (x : A) (l : List A) → take (suc m) (x ∷ take (suc m) l) ≡ take (suc m) (x ∷ l)
take_again {A} m x l = ap (λ (r : List A). x ∷ r) (take-take m (suc m) l (omega arith))

-- an answer's headers that are not refused fit the header store
pub headers-fit : (hs : List ℕ) → bad_headers hs ≡ false → length hs ≤ 65535
unfolding bad_headers
headers-fit hs b = ltb-false _ _ (or_left _ _ b)

pub reply-headers-fit : (code : ℕ) (hs : List ℕ) → bad_reply code hs ≡ false → length hs ≤ 65535
unfolding bad_reply
reply-headers-fit code hs b = headers-fit hs (or_right (not (is_code code)) _ b)

module _ (w : Known) (s : State) (h : Seated s) (k : Knows w s) where
  open s use {engine as e, stores as st, tables as ts}

  shape_at : (a : Await) → e.awaits ≡ a → Shape a e.operation
  shape_at a i = subst (λ (x : Await). Shape x e.operation) i h.sits.shape

  -- a Get that the host is asked about is a Get for the journal, and a body that is read an object's
  get_open : (at : e.awaits ≡ await.Get) (j : Journal) → OpenedAt (limit_of e) e.operation st.headers st.body j.opened
      → KeptOpen (limit_of e) (shape_at await.Get at).gathered getting st.headers st.body j.opened
  get_open at j w =
      subst (λ (o : Operation). OpenedAt (limit_of e) o st.headers st.body j.opened) (shape_at await.Get at).is w

  -- the journal's step, on a journal that has not ended
  entered-over : (u : List ℕ) (c : Call) (j : Journal) (d : Done) → j.ended ≡ false → Told u d (journal_call j c) → Told u d (journal_fed j (step_by_of c))
  entered-over u c j d i x = subst (Told u d) (sym (fed-goes j c i)) x

  entered : (c : Call) (j : Journal) (d : Done) → j.ended ≡ false → Told ts d (journal_call j c) → Told ts d (journal_fed j (step_by_of c))
  entered c j d i x = entered-over ts c j d i x

  -- an answer that may be refused with 8
  checked-agrees : (c : Call) → noted c goes w.nonces ≡ w.nonces → (b : Bool) (d : Done) → (b ≡ false → Fine e d)
      → ((j : Journal) → 0 ≡ fed_takes j (fed_going s c))
      → (b ≡ false → (j : Journal) → Coupled ts e st j → Told ts d (journal_fed j (fed_going s c)))
      → SizedBy w s h k c (λ j late. Brief d) → SpokenBy w s h k c d
      → AgreeKept w s c (pick b (refused 8) goes) (checked b e st d)
  checked-agrees c q true d f n g z a = agree_refused w s h k c refusal.BadAnswer
  checked-agrees c q false d f n g z a = agree_goes w s h k c q 0 d (f refl) (λ j x. n j) (λ j x. told-follows (g refl j x)) z a

  -- ---- a reply

  module _ (code : ℕ) (hs : List ℕ) where
    -- to a Get it is sent as it is, and closes it; to any other request it is sent as it is
    plain-reply : (t : Bool) → same_await e.awaits await.Get ≡ t → (same_await e.awaits await.Get ≡ false → e.awaits ≡ await.Reply)
        → (j : Journal)
        → Coupled ts e st j
        → Told ts (sends e e.peer code hs st) (journal_fed j (step_by_of (reply_given_of code hs)))
    plain-reply true i o j x =
        let at = same_await_lem e.awaits await.Get i in
        let y = coupled_at w s h k await.Get j at x in
        let g = get_open at j y.opened in
        entered (reply_given_of code hs) j _ y.fixed.ended
        (subst (λ (u : Opened). Told ts (sends e e.peer code hs st) (unchanged (replied u j code hs))) (sym g.is)
        (sends-told ts e st e.peer (opens j nothing)
        (record { fixed = fixed_kept y.fixed; begun = y.begun; opened = refl }) code hs))
    plain-reply false i o j x =
        let y = coupled_at w s h k await.Reply j (o i) x in
        entered (reply_given_of code hs) j _ y.0.fixed.ended
        (subst (λ (u : Journal). Told ts (sends e e.peer code hs st) (unchanged u))
        (sym (ap (λ (v : Opened). replied v j code hs) y.0.opened ∙ y.1.0 code hs))
        (sends-told ts e st e.peer j y.0 code hs))

    entered-tabled : (j : Journal) (d : DoneTabled) → j.ended ≡ false → ToldTabled d (journal_call j (reply_given_of code hs))
        → ToldTabled d (journal_fed j (step_by_of (reply_given_of code hs)))
    entered-tabled j d i x = subst (ToldTabled d) (sym (fed-goes j (reply_given_of code hs) i)) x

    reply-told : fits kind.ReplyGiven e.awaits ≡ true → (j : Journal) → Coupled ts e st j
        → ToldTabled (reply_answer e code hs st ts) (journal_fed j (step_by_of (reply_given_of code hs)))
    unfolding reply_answer
    reply-told r j x =
        tabled-told-pick (same_await e.awaits await.Connect) _ _ _
        (λ m. let y = coupled_at w s h k await.Connect j (same_await_lem e.awaits await.Connect m) x in
        entered-tabled j _ y.held.fixed.ended (connect_told ts e st j op.Connect y h.sits.base.peer (ids-room s h) code hs refl))
        (λ m. tabled-told-pick (same_await e.awaits await.Disconnect) _ _ _
        (λ n. let y = coupled_at w s h k await.Disconnect j (same_await_lem e.awaits await.Disconnect n) x in
        entered-tabled j _ y.held.fixed.ended (disconnect-told ts e st j op.Disconnect y h.sits.base.peer (ids-room s h) code hs refl))
        (λ n. plain-reply (same_await e.awaits await.Get) refl (λ o. same_await_lem e.awaits await.Reply (reply-left m n o)) j x))
      where
        reply-left : same_await e.awaits await.Connect ≡ false → same_await e.awaits await.Disconnect ≡ false
            → same_await e.awaits await.Get ≡ false → same_await e.awaits await.Reply ≡ true
        reply-left m n o = or_second _ _ (or_second _ _ (or_second _ _ r m) n) o

    -- the size of the reply, by what is answered
    plain_size : (j : Journal) → j.opened ≡ nothing → connects j.last ≡ false → answer_size j.opened j code hs ≡ 3 + length hs
    plain_size j o n = ap (λ (x : Opened). answer_size x j code hs) o ∙ go j.last n
      where
        go : (x : Option Packet) → connects x ≡ false → last_size x j code hs ≡ 3 + length hs
        go none i = refl
        go (some r) i = ap (λ (t : Bool). pick t (connect_size j r code hs) (3 + length hs)) i

    plain-sized : (t : Bool) → same_await e.awaits await.Get ≡ t → (same_await e.awaits await.Get ≡ false → e.awaits ≡ await.Reply)
        → (j : Journal)
        → Coupled ts e st j → answer_size j.opened j code hs ≤ 65535 → Brief (sends e e.peer code hs st)
    plain-sized true i o j x l =
        let at = same_await_lem e.awaits await.Get i in
        let g = get_open at j (coupled_at w s h k await.Get j at x).opened in
        sends_brief e st e.peer code hs (subst (λ (u : Opened). answer_size u j code hs ≤ 65535) g.is l)
    plain-sized false i o j x l =
        let y = coupled_at w s h k await.Reply j (o i) x in
        sends_brief e st e.peer code hs (subst (λ (n : ℕ). n ≤ 65535) (plain_size j y.0.opened y.1.1) l)

    disconnects : (j : Journal) (y : AskedBy ts e.settings e.peer op.Disconnect e.length st j) → connects j.last ≡ false
    unfolding same_opcode
    disconnects j y = ap connects y.last ∙ ap (λ (o : Opcode). same_opcode o op.Connect) y.opcode

    reply-sized : fits kind.ReplyGiven e.awaits ≡ true → (j : Journal) → Coupled ts e st j → answer_size j.opened j code hs ≤ 65535
        → Sized (reply_answer e code hs st ts).done (late_by j.last j hs)
    unfolding reply_answer
    reply-sized r j x l =
        sized-pick (same_await e.awaits await.Connect) _ _ (late_by j.last j hs)
        (λ m. connect_sized ts e st j (coupled_at w s h k await.Connect j (same_await_lem e.awaits await.Connect m) x) code hs h.sits.base.peer
        (ids-room s h) l)
        (λ m. sized-pick (same_await e.awaits await.Disconnect) _ _ (late_by j.last j hs)
        (λ n. let y = coupled_at w s h k await.Disconnect j (same_await_lem e.awaits await.Disconnect n) x in
        brief_sized _ (late_by j.last j hs)
        (sends_brief e st _ code hs (subst (λ (n : ℕ). n ≤ 65535) (plain_size j y.held.opened (disconnects j y)) l)))
        (λ n. brief_sized _ (late_by j.last j hs)
        (plain-sized (same_await e.awaits await.Get) refl
        (λ o. same_await_lem e.awaits await.Reply (or_second _ _ (or_second _ _ (or_second _ _ r m) n) o)) j x l)))

    pub reply-agrees : Agrees w s (reply_given_of code hs)
    unfolding bad used
    reply-agrees =
        agrees w s h k (reply_given_of code hs) (λ r j x. go r (bad_reply code hs) refl)
      where
        go : fits kind.ReplyGiven e.awaits ≡ true → (b : Bool) → bad_reply code hs ≡ b
            → Agree w s (reply_given_of code hs) (pick b (refused 8) goes)
            (pick b (keeps s (refuse refusal.BadAnswer e st))
            (called (after 0 (reply_answer e code hs st ts).done) (reply_answer e code hs st ts).tables))
        go r true i = agree_refused w s h k (reply_given_of code hs) refusal.BadAnswer
        go r false i =
            let f = reply-fine e st h.sits.base ts (ids-room s h) code hs (reply-headers-fit code hs i) in
            agree_tabled w s h k (reply_given_of code hs) (reply_answer e code hs st ts).done 0 (reply_answer e code hs st ts).tables f.done
            f.tables
            (f.nonces e.peer.nonces h.sits.base.peer.few ∙ k.nonces)
            (λ j x. none-taken j.ended) (λ j x. told-follows (reply-told r j x)) (λ j late x y l. reply-sized r j x l)
            (λ j o x y l. speaks_spoken _ o (reply-speaks e st code hs ts))

  -- ---- an object

  module _ (hs : List ℕ) (has : Bool) where
    abbrev z : Stores
    z = with_headers st (front hs st.headers)

    object_base : length hs ≤ 65535 → Base e z
    object_base l =
        record { room = room-headers (limit_of e) st hs l h.sits.base.room; peer = h.sits.base.peer; last = h.sits.base.last }

    object-told : length hs ≤ 65535 → (srm confirm wait : Bool) → e.awaits ≡ await.Get → (j : Journal) → Coupled ts e st j
        → Told ts (sends_next e (object_of (length hs) confirm has) srm wait z) (journal_fed j (step_by_of (object_given_of hs has)))
    object-told l srm confirm wait at j x =
        let y = coupled_at w s h k await.Get j at x in
        let g = get_open at j y.opened in
        entered (object_given_of hs has) j _ y.fixed.ended
        (subst (λ (u : Opened). Told ts (sends_next e (object_of (length hs) confirm has) srm wait z) (unchanged (object_sent u j))) (sym g.is)
        (next-told ts e z (opens j sending) (fixed_kept y.fixed) y.begun refl
        (object_base l) (object_of (length hs) confirm has) srm wait (omega arith) l))

    object_at_lem : (at : e.awaits ≡ await.Get) → IsGetting e.operation
        → AgreeKept w s (object_given_of hs has) (pick (bad_headers hs) (refused 8) goes) (object_for e.operation e hs has st)
    object_at_lem at v =
        subst (λ (o : Operation). AgreeKept w s (object_given_of hs has) (pick (bad_headers hs) (refused 8) goes) (object_for o e hs has st)) (sym v.is)
        (checked-agrees (object_given_of hs has) refl (bad_headers hs)
        (sends_next e (object_of (length hs) v.confirm has) (v.srm || v.confirm) v.wait z)
        (λ b. sends-next-fine e z (object_base (headers-fit hs b)) (object_of (length hs) v.confirm has) (v.srm || v.confirm) v.wait
        (omega arith)
        (headers-fit hs b))
        (λ j. none-taken j.ended)
        (λ b j y. object-told (headers-fit hs b) (v.srm || v.confirm) v.confirm v.wait at j y)
        (λ j late x y l. next_brief e z (object_of (length hs) v.confirm has) (v.srm || v.confirm) v.wait)
        (λ j o x y l. let i : o ≡ record { on = v.srm; asked = v.confirm; wait = v.wait } = subst (λ (q : Operation). ModeAt q o) v.is y in
        next_spoken e z (object_of (length hs) v.confirm has) (v.srm || v.confirm) v.wait (object_mode o)
        (ap (λ (q : Mode). q.on || q.asked) i) (ap (λ (q : Mode). q.wait) i)))

    pub object-agrees : Agrees w s (object_given_of hs has)
    unfolding bad used
    object-agrees =
        agrees w s h k (object_given_of hs has)
        (λ r j x. let at = same_await_lem e.awaits await.Get r in object_at_lem at (shape_at await.Get at))

  -- ---- body bytes

  module _ (at : e.awaits ≡ await.Body) (j : Journal) (x : Coupled ts e st j) where
    body-held : Held ts e.settings e.peer e.operation st [] j
    body-held = coupled_at w s h k await.Body j at x

    body_open : j.opened ≡ sending
    body_open =
        subst (λ (o : Operation). OpenedAt (limit_of e) o st.headers st.body j.opened) (shape_at await.Body at).is
        body-held.opened

  module _ (d : List ℕ) where
    -- more than were asked for is refused with 9
    body_at : e.awaits ≡ await.Body → (o : Outgoing) (c : Chunk) (srm wait : Bool) → e.operation ≡ Sending o c srm wait → OutgoingFits o c
        → (t : Bool) → ltb c.room (length d) ≡ t
        → AgreeKept w s (body_given_of d) (pick (leb (length d) c.room) goes (refused 9))
        (pick t (refuse refusal.WrongMoment e st) (after 0 (sends_packet e srm wait (givenBody o c d st.reply) st)))
    body_at at o c srm wait is y true i =
        let more : c.room < length d = ltb-true _ _ i in
        subst (λ (t : Bool). AgreeKept w s (body_given_of d) (pick t goes (refused 9)) (refuse refusal.WrongMoment e st))
        (sym (lt-leb (length d) c.room more)) (agree_refused w s h k (body_given_of d) refusal.WrongMoment)
    body_at at o c srm wait is y false i =
        let within : length d ≤ c.room = ltb-false _ _ i in
        let m = body-sends o c d st.reply h.sits.base.room.reply within y.begun y.chunk y.sent in
        subst (λ (t : Bool). AgreeKept w s (body_given_of d) (pick t goes (refused 9))
        (after 0 (sends_packet e srm wait (givenBody o c d st.reply) st))) (sym (le-leb (length d) c.room within))
        (agree_goes w s h k (body_given_of d) refl 0 _ (sends-packet-fine e st h.sits.base o srm wait (givenBody o c d st.reply) y.total m)
        (λ j x. none-taken j.ended)
        (λ j x. let l = body-held at j x in
        told-follows (entered (body_given_of d) j _ l.fixed.ended
        (made_told ts e st j l.fixed l.begun (body_open at j x) o srm wait (givenBody o c d st.reply) m)))
        (λ j late x y l. packet_brief e st srm wait (givenBody o c d st.reply))
        (λ j q x u l. let i : ModeAt (Sending o c srm wait) q = subst (λ (a : Operation). ModeAt a q) is u in
        packet_spoken e st srm wait (givenBody o c d st.reply) q i.0 i.1))

    body_for_lem : e.awaits ≡ await.Body → (v : IsSending e.operation)
        → AgreeKept w s (body_given_of d) (pick (leb (length d) (room_in (waits_of e.awaits e.operation))) goes (refused 9))
        (body_for e.operation e d st)
    body_for_lem at v =
        subst (λ (a : Await). AgreeKept w s (body_given_of d) (pick (leb (length d) (room_in (waits_of a e.operation))) goes (refused 9))
        (body_for e.operation e d st)) (sym at)
        (subst (λ (o : Operation). AgreeKept w s (body_given_of d) (pick (leb (length d) (room_of o)) goes (refused 9)) (body_for o e d st)) (sym v.is)
        (body_at at v.outgoing v.chunk v.srm v.wait v.is
        (outgoing_within v.outgoing v.chunk (ap (sound_operation (limit_of e)) (sym v.is) ∙ h.sits.counts)) _ refl))

    pub body-agrees : Agrees w s (body_given_of d)
    unfolding bad used
    body-agrees =
        agrees w s h k (body_given_of d)
        (λ r j x. let at = same_await_lem e.awaits await.Body r in body_for_lem at (shape_at await.Body at))

  pub body_failed_agrees : Agrees w s body_failed_of
  unfolding bad used
  body_failed_agrees =
      agrees w s h k body_failed_of
      (λ r j x. let at = same_await_lem e.awaits await.Body r in
      agree_goes w s h k body_failed_of refl 0 _ (fine-code e st h.sits.base e.peer 0x50 st h.sits.base.peer h.sits.base.room)
      (λ j x. none-taken j.ended)
      (λ j x. let l = body-held at j x in told-follows (entered body_failed_of j _ l.fixed.ended
      (fails_told ts e st j l.fixed l.begun (body_open at j x) st.reply)))
      (λ j late x y l. brief_done e e.peer Nothing await.Taken 0 e.length _ _ refl refl)
      (λ j o x y l. spoken_done e e.peer Nothing await.Taken 0 e.length _ _ speaks o refl tt))

  -- ---- an Abort is acknowledged; the password, the nonce, credentials

  pub acknowledge_agrees : Agrees w s abort_acknowledged_of
  unfolding bad used
  acknowledge_agrees =
      agrees w s h k abort_acknowledged_of
      (λ r j x. agree_goes w s h k abort_acknowledged_of refl 0 _
      (fine-code e st h.sits.base e.peer 0x20 st h.sits.base.peer h.sits.base.room)
      (λ j x. none-taken j.ended)
      (λ j x. let y = coupled_at w s h k await.Acknowledgement j (same_await_lem e.awaits await.Acknowledgement r) x in
      told-follows (entered abort_acknowledged_of j _ y.fixed.ended (told-code ts e e.peer st j 0x20 y)))
      (λ j late x y l. brief_done e e.peer Nothing await.Taken 0 e.length _ _ refl refl)
      (λ j o x y l. spoken_done e e.peer Nothing await.Taken 0 e.length _ _ speaks o refl tt))

  pub password-agrees : (p : Option (List ℕ)) → Agrees w s (password_given_of p)
  unfolding bad used
  password-agrees p =
      agrees w s h k (password_given_of p)
      (λ r j x. agree_goes w s h k (password_given_of p) refl 0 _ (password-fine e st h.sits.base p)
      (λ j x. none-taken j.ended)
      (λ j x. let y = coupled_at w s h k await.Password j (same_await_lem e.awaits await.Password r) x in
      told-follows (entered (password_given_of p) j _ y.0.held.fixed.ended (password-told ts e st j op.Connect y.0 refl p)))
      (λ j late x y l. password_brief e st p)
      (λ j o x y l. speaks_spoken _ o (password-speaks e st p)))

  -- a nonce is refused with 8 if the realm is too long by the settings, then with 15 if the engine remembers it, which it does exactly if it is
  -- one of the last 32 that were taken
  module _ (n : Octets16) (l : List ℕ) where
    nonce-goes : e.awaits ≡ await.Nonce → long_realm e.settings l ≡ false
        → Agree w s (nonce_given_of n l) goes (called (after 0 (nonce_answer e n l st)) (remembered_with n ts))
    nonce-goes at f =
        agree_tabled w s h k (nonce_given_of n l) (nonce_answer e n l st) 0 (remembered_with n ts) (nonce-fine e st h.sits.base n l)
        (remembered-length n ts (nonces-room s h))
        (remembered-more n e.peer.nonces ts h.sits.base.peer.few (nonces-room s h)
        ∙ ap (λ (ns : List Octets16). take 32 (n ∷ ns)) k.nonces ∙ take_again 31 n w.nonces)
        (λ j x. none-taken j.ended)
        (λ j x. let y = coupled_at w s h k await.Nonce j at x in
        told-follows (entered-over (remembered_with n ts) (nonce_given_of n l) j _ y.held.fixed.ended
        (nonce-told ts e st j op.Connect y (remembered_with n ts)
        (remembered-front n ts (nonces-room s h) e.peer.count h.sits.base.peer.count) n l)))
        (λ j late x y z. brief_sized _ _ (nonce_brief e st n l f))
        (λ j o x y z. speaks_spoken _ o (nonce-speaks e st n l))

    -- `a` says that the realm is too long, and `b` that the nonce is remembered
    nonce_at_lem : e.awaits ≡ await.Nonce → (a b : Bool) → long_realm e.settings l ≡ a
        → Agree w s (nonce_given_of n l) (pick a (refused 8) (pick b (refused 15) goes))
        (pick a (keeps s (refuse refusal.BadAnswer e st)) (pick b (keeps s (refuse refusal.NonceUsed e st))
        (called (after 0 (nonce_answer e n l st)) (remembered_with n ts))))
    nonce_at_lem at true b f = agree_refused w s h k (nonce_given_of n l) refusal.BadAnswer
    nonce_at_lem at false true f = agree_refused w s h k (nonce_given_of n l) refusal.NonceUsed
    nonce_at_lem at false false f = nonce-goes at f

    abbrev nonce-step : Called
    nonce-step = nonce_checked e n l st ts

    pub nonce-agrees : Agrees w s (nonce_given_of n l)
    unfolding bad used
    nonce-agrees =
        agrees w s h k (nonce_given_of n l)
        (λ r j x. subst (λ (y : Settings). Agree w s (nonce_given_of n l) (pick (long_realm y l) (refused 8)
        (pick (among n (take 32 w.nonces)) (refused 15) goes)) nonce-step) (sym k.settings)
        (subst (λ (ns : List Octets16). Agree w s (nonce_given_of n l) (pick (long_realm e.settings l) (refused 8)
        (pick (among n ns) (refused 15) goes)) nonce-step) k.nonces
        (nonce_at_lem (same_await_lem e.awaits await.Nonce r) (long_realm e.settings l) (among n (remembered e.peer.nonces ts)) refl)))

  -- the reply that credentials lead to has the size that the journal says
  credentials_brief : (c : Option Credentials) → e.awaits ≡ await.Credentials → (v : IsConnecting e.operation) (late : Late) → LateAt e st late
      → late c ≤ 65535 → Brief (connect_sends e e.peer v.code v.front (list_of (read_headers (take v.size st.headers) 0)) c st)
  unfolding connect_sends
  credentials_brief c at v late y l =
      let z : LateIn (Connecting v.code v.front v.size) e st late =
      subst (λ (o : Operation). LateIn o e st late) v.is (y (ap early at)) in
      sends_connect_brief e st e.peer v.code _ (omega (arith, l, z c))

  credentials_at : (c : Option Credentials) → e.awaits ≡ await.Credentials → IsConnecting e.operation
      → AgreeKept w s (credentials_given_of c) (pick (long_user c) (refused 8) goes) (credentials_with e.operation e c st)
  credentials_at c at v =
      let answer = list_of (read_headers (take v.size st.headers) 0) in
      subst (λ (o : Operation). AgreeKept w s (credentials_given_of c) (pick (long_user c) (refused 8) goes) (credentials_with o e c st)) (sym v.is)
      (checked-agrees (credentials_given_of c) refl (long_user c) (connect_sends e e.peer v.code v.front answer c st)
      (λ b. connect_sends-fine e st h.sits.base e.peer v.code v.front answer c h.sits.base.peer)
      (λ j. none-taken j.ended)
      (λ b j x. let y = coupled_at w s h k await.Credentials j at x in
      entered (credentials_given_of c) j _ y.fixed.ended (connect-sends-told ts e st e.peer j y v.code v.front answer c))
      (λ j late x y l. credentials_brief c at v late y l)
      (λ j o x y l. speaks_spoken _ o (connect_sends-speaks e st e.peer v.code v.front answer c)))

  pub credentials_agree : (c : Option Credentials) → Agrees w s (credentials_given_of c)
  unfolding bad used
  credentials_agree c =
      agrees w s h k (credentials_given_of c)
      (λ r j x. let at = same_await_lem e.awaits await.Credentials r in credentials_at c at (shape_at await.Credentials at))
