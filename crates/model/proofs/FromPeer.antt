-- Bytes, the end of the stream, and replies taken: each such call agrees with what is due and with the journal. Assumes nothing.
use mathlib.Core.Path.{◌≡◌, refl, sym, ap, ◌∙◌, subst}
use mathlib.Core.List.{List, [], ◌∷◌}
use mathlib.Core.Bool.{Bool, true, false, ◌&&◌, not}
use Prim.Native.Nat.{ℕ, zero, suc, ◌≤◌}
use native.Mathlib.Omega.{arith}
use lib.ListN.{length, get_or, take}
use lib.Dec.{eqb}
use borrow.Author.Tests.{ne_eqb}
use Rattle.base.specs.Pick.{pick}
use Rattle.packet.specs.Packet.{request_of}
use Rattle.journal.specs.Calls.{bytes_offered_of, stream_ended_of, reply_taken_of, goes, step_by_of}
use Rattle.journal.specs.Journal.{Journal, unchanged, begin, end, ends_with, Read, more, whole, short, read_up, bytes_read, packet_read, journal_packet, taken_up, stream_number, taken_at, last_taken, journal_fed, read_in, fed_takes, fed_reads, kept_read, kept_after}
use Rattle.incoming.specs.Frame.{Frames, framed}
use Rattle.incoming.specs.declared.frame.Frame.{Frame}
use Rattle.incoming.specs.declared.frame.Frame.TheVariants.{More, Whole, Short}
use Rattle.model.specs.Step.{Stores, Done, done, wants, ends, after, engine_with, limit_of}
use Rattle.model.specs.Request.{last_packet}
use Rattle.model.specs.Dispatch.{packet_target, arrived, packet_done}
use Rattle.model.specs.Calls.{framed_as, with_packet, offers}
use Rattle.model.specs.Guard.{same_await, fits, sound_operation}
use Rattle.model.specs.Object.{goes_on_of}
use Rattle.model.specs.Runs.{State}
use Rattle.model.specs.Refusals.{Known, bad, used}
use Rattle.journal.specs.Srm.{silent, speaks, Mode, packet_due, packet_mode, read_due, read_mode, taken_due, due_in, mode_after}
use Rattle.model.specs.Theorem.{Kept}
use Rattle.server.specs.Numbers.{end_number}
use Rattle.server.specs.declared.Operation.{Operation}
use Rattle.server.specs.declared.Operation.TheVariants.{Nothing, Trailing, Putting, Getting, Sending, Gathering as GatheringOp, Connecting, Draining}
use Rattle.server.specs.declared.End.TheVariants as why
use Rattle.server.specs.declared.CallKind.TheVariants as kind
use Rattle.server.specs.declared.Await.{Await}
use Rattle.server.specs.declared.Await.TheVariants as await
use Rattle.server.specs.declared.Engine.{Engine}
use Rattle.server.specs.declared.Outcome.TheVariants as outcome
use Rattle.incoming.proofs.Frames.{Octets, Agrees as Frames-agree, frames_agree, frames-count}
use Rattle.model.proofs.Fit.{Room, Shape, waits_of, Base, Seated, Fine, fine-pick, fine-wants, fine-ends}
use Rattle.model.proofs.Steps.{outgoing_within, sends-next-fine, read-fine}
use Rattle.model.proofs.Coupling.{OpenedAt, Held, CoupledAt, Coupled, fixed_kept, Told, Follows, told-follows, told-pick, told-ends, told-wants}
use Rattle.model.proofs.Sizes.{early, Brief, brief_done, done_brief, goes_on_brief}
use Rattle.model.proofs.Speaks.{ModeAt, Spoken, spoken_done, goes_on_spoken, read_spoken}
use Rattle.model.proofs.Gathers.{next-told}
use Rattle.model.proofs.Packets.{read_told}
use Rattle.model.proofs.Moments.{same_await_lem, or_second, Knows, AgreeKept, Agrees, fed-goes, none-taken, agree_goes, agrees}

-- the number at the end of the stream, by how many bytes of a packet have come
stream_number_lem : (p : List ℕ) (b : ℕ) → b ≤ length p → stream_number (take b p) ≡ end_number (pick (eqb b 0) why.Disconnected why.Truncated)
stream_number_lem p zero l = refl
stream_number_lem [] (suc b) l = absurd (omega (arith, l))
stream_number_lem (x ∷ p) (suc b) l = rw (ne_eqb (suc b) 0 (λ i. omega (arith, i))) refl

module _ (w : Known) (s : State) (h : Seated s) (k : Knows w s) where
  open s use {engine as e, stores as st, tables as ts}

  -- the coupling, where it is known what is awaited
  pub coupled_at : (a : Await) (j : Journal) → e.awaits ≡ a → Coupled ts e st j
      → CoupledAt ts a e.operation e.settings e.peer e.begun e.length st j
  coupled_at a j i x = subst (λ (y : Await). CoupledAt ts y e.operation e.settings e.peer e.begun e.length st j) i x

  -- ---- bytes

  module _ (i : List ℕ) (o : Octets i) (at : e.awaits ≡ await.Bytes) where
    abbrev f : Frames
    f = framed st.packet e.begun 0 i

    -- how many bytes the call reports as taken
    abbrev reported : ℕ
    reported = f.result.taken

    abbrev z : Stores
    z = with_packet st f.packet

    abbrev n : ℕ
    n = f.result.begun

    abbrev Begins : Journal → Type 0
    Begins j = Held ts e.settings e.peer e.operation st (take e.begun st.packet) j

    -- what the journal reads
    journal-reads : (j : Journal) (r : Read) → Begins j → read_up (take e.begun st.packet) i ≡ r
        → journal_fed j (step_by_of (bytes_offered_of i)) ≡ bytes_read j r
    journal-reads j r x q =
        fed-goes j (bytes_offered_of i) x.fixed.ended ∙ ap (bytes_read j) (ap (λ (l : List ℕ). read_up l i) x.begun ∙ q)

    kept-reads : (j : Journal) (r : Read) → Begins j → read_up (take e.begun st.packet) i ≡ r → Kept (fed_reads j (step_by_of (bytes_offered_of i)))
        → Kept (read_in j r)
    kept-reads j r x q y =
        subst Kept (ap (λ (t : Bool). pick t [] (read_in j (read_up j.begun i))) x.fixed.ended
        ∙ ap (read_in j) (ap (λ (l : List ℕ). read_up l i) x.begun ∙ q)) y

    -- as many bytes are taken as the journal says
    count_at : (j : Journal) → Begins j → reported ≡ fed_takes j (step_by_of (bytes_offered_of i))
    count_at j x =
        let n = frames-count st.packet i e.begun 0 h.sits.begun.small h.sits.base.room.packet h.sits.begun.octets o in
        let m : reported ≡ taken_up (take e.begun st.packet) i = omega (arith, n) in
        m ∙ sym (ap (λ (t : Bool). pick t 0 (taken_up j.begun i)) x.fixed.ended ∙ ap (λ (l : List ℕ). taken_up l i) x.begun)

    room_at : length f.packet ≡ length st.packet → Room (limit_of e) z
    room_at l =
        let r = h.sits.base.room in
        record { packet = rw l r.packet; headers = r.headers; reply = r.reply; body = r.body }

    -- a packet goes on
    more-fine : (q : List ℕ) → Frames-agree st.packet f (more q)
        → Fine e (done (engine_with e.settings e.peer e.operation e.awaits n e.length e.target) outcome.WantsBytes z)
    unfolding engine_with
    more-fine q (a, g, l, m) =
        record {
          settings = refl;
          nonces = refl;
          sits = record {
            base = record { room = room_at g.same_length; peer = h.sits.base.peer; last = h.sits.base.last };
            begun = record { small = l; octets = subst Octets g.bytes g.octets; goes_on = m };
            counts = h.sits.counts;
            shape = h.sits.shape;
          };
          waits = λ v. ap (λ (y : Await). waits_of y e.operation) (sym at);
          goes = refl;
        }

    more-told : (q : List ℕ) → Frames-agree st.packet f (more q) → (j : Journal) → Begins j
        → Told ts (done (engine_with e.settings e.peer e.operation e.awaits n e.length e.target) outcome.WantsBytes z)
        (bytes_read j (more q))
    unfolding engine_with
    more-told q (a, g, l, m) j x =
        record {
          ends = λ u. refl;
          given = refl;
          after = subst (λ (y : Await). CoupledAt ts y e.operation e.settings e.peer n e.length z (begin j q)) (sym at)
              (record { fixed = fixed_kept x.fixed; begun = g.bytes; opened = x.opened });
        }

    -- a packet is whole
    abbrev whole-engine : Engine
    whole-engine = arrived e n (packet_target (request_of (take n f.packet)) e ts)

    whole_base : (q : List ℕ) → Frames-agree st.packet f (whole q) → Base whole-engine z
    unfolding engine_with
    whole_base q (a, g, l) = record { room = room_at g.same_length; peer = h.sits.base.peer; last = l }

    whole-fine : (q : List ℕ) → Frames-agree st.packet f (whole q) → Fine e (packet_done e n z ts)
    unfolding engine_with packet_done last_packet
    whole-fine q (a, g, l) =
        let y = read-fine whole-engine z (whole_base q (a, g, l)) (subst Octets g.bytes g.octets) h.sits.counts (take n f.packet) ts
        (request_of (take n f.packet)) in
        record { settings = y.settings; nonces = y.nonces; sits = y.sits; waits = y.waits; goes = y.goes }

    whole-told : (q : List ℕ) → Frames-agree st.packet f (whole q) → (j : Journal) → Begins j
        → Follows (Kept (read_in j (whole q))) ts (packet_done e n z ts) (bytes_read j (whole q))
    unfolding engine_with packet_done journal_packet kept_after
    whole-told q (a, g, l) j x =
        let w =
        subst (λ (p : List ℕ). Follows (length (kept_read j.opened (request_of p)) ≤ 65535) ts (packet_done e n z ts) (packet_read (request_of p) j))
        (sym g.bytes)
        (read_told ts whole-engine z j (fixed_kept x.fixed)
        (whole_base q (a, g, l)) (subst Octets g.bytes g.octets) x.opened h.sits.counts
        (take n f.packet) (request_of (take n f.packet)) refl) in
        record { told = λ y. w.told y.0; after = w.after }

    whole_spoken : (q : List ℕ) → Frames-agree st.packet f (whole q) → (j : Journal) (o : Mode) → Begins j → ModeAt e.operation o
        → Kept (read_in j (whole q)) → Spoken (packet_done e n z ts) (read_due (whole q) o j) (read_mode (whole q) o j)
    unfolding engine_with packet_done kept_after
    whole_spoken q (a, g, l) j o x v y =
        subst (λ (p : List ℕ). Spoken (packet_done e n z ts) (packet_due (request_of p) o j) (packet_mode (request_of p) o j)) (sym g.bytes)
        (read_spoken ts whole-engine z j
        (fixed_kept x.fixed) o
        (whole_base q (a, g, l)) (subst Octets g.bytes g.octets) x.opened v
        (take n f.packet) (request_of (take n f.packet)) refl
        (subst (λ (p : List ℕ). length (kept_read j.opened (request_of p)) ≤ 65535) g.bytes y.0))

    -- what is due, by what the journal reads
    read_spoken_at : (j : Journal) (o : Mode) (r : Read) → Begins j → read_up (take e.begun st.packet) i ≡ r → {d : Done}
        → Spoken d (read_due r o j) (read_mode r o j)
        → Spoken d (due_in o j (step_by_of (bytes_offered_of i))) (mode_after o j (step_by_of (bytes_offered_of i)))
    read_spoken_at j o r x q {d} v =
        subst (λ (k : Read). Spoken d (read_due k o j) (read_mode k o j)) (sym (ap (λ (l : List ℕ). read_up l i) x.begun ∙ q)) v

    -- by where the bytes end
    frame_at : (x : Frame) → f.result.frame ≡ x → AgreeKept w s (bytes_offered_of i) goes (framed_as x e n reported z ts)
        → AgreeKept w s (bytes_offered_of i) goes (offers e f st ts)
    frame_at x q a = subst (λ (y : Frame). AgreeKept w s (bytes_offered_of i) goes (framed_as y e n reported z ts)) (sym q) a

    read-agrees : (r : Read) → read_up (take e.begun st.packet) i ≡ r → Frames-agree st.packet f r
        → AgreeKept w s (bytes_offered_of i) goes (offers e f st ts)
    read-agrees (more q) y g =
        frame_at More g.0
        (agree_goes w s h k (bytes_offered_of i) refl reported _ (more-fine q g)
        (λ j x. count_at j (coupled_at await.Bytes j at x))
        (λ j x. told-follows (subst (Told ts _) (sym (journal-reads j (more q) (coupled_at await.Bytes j at x) y))
        (more-told q g j (coupled_at await.Bytes j at x))))
        (λ j late x v l. brief_done e e.peer e.operation e.awaits n e.length outcome.WantsBytes z refl (ap early at))
        (λ j o x v l. read_spoken_at j o (more q) (coupled_at await.Bytes j at x) y
        (spoken_done e e.peer e.operation e.awaits n e.length outcome.WantsBytes z silent o refl v)))
    read-agrees (whole q) y g =
        frame_at Whole g.0
        (agree_goes w s h k (bytes_offered_of i) refl reported _ (whole-fine q g)
        (λ j x. count_at j (coupled_at await.Bytes j at x))
        (λ j x. let b = coupled_at await.Bytes j at x in
        subst (Follows (Kept (fed_reads j (step_by_of (bytes_offered_of i)))) ts _) (sym (journal-reads j (whole q) b y))
        (let v = whole-told q g j b in record { told = λ u. v.told (kept-reads j (whole q) b y u); after = v.after }))
        (λ j late x v l. done_brief e n z ts)
        (λ j o x v l. read_spoken_at j o (whole q) (coupled_at await.Bytes j at x) y
        (whole_spoken q g j o (coupled_at await.Bytes j at x) v (kept-reads j (whole q) (coupled_at await.Bytes j at x) y l))))
    read-agrees short y g =
        frame_at Short g.0
        (agree_goes w s h k (bytes_offered_of i) refl reported _
        (fine-ends e st h.sits.base e.peer why.LengthTooSmall z h.sits.base.peer (room_at g.1))
        (λ j x. count_at j (coupled_at await.Bytes j at x))
        (λ j x. told-follows (subst (Told ts _) (sym (journal-reads j short (coupled_at await.Bytes j at x) y))
        (told-ends ts e e.peer z (end j) why.LengthTooSmall)))
        (λ j late x v l. brief_done e e.peer Nothing await.Nothing 0 e.length (outcome.End why.LengthTooSmall) z refl refl)
        (λ j o x v l. read_spoken_at j o short (coupled_at await.Bytes j at x) y
        (spoken_done e e.peer Nothing await.Nothing 0 e.length (outcome.End why.LengthTooSmall) z speaks o refl tt)))

  pub bytes_agree : (i : List ℕ) → Octets i → Agrees w s (bytes_offered_of i)
  unfolding bad used
  bytes_agree i o =
      agrees w s h k (bytes_offered_of i)
      (λ r j x. read-agrees i o (same_await_lem e.awaits await.Bytes r) _ refl
      (frames_agree st.packet i e.begun 0 h.sits.begun.small h.sits.base.room.packet h.sits.begun.octets o
      h.sits.begun.goes_on))

  -- ---- the end of the stream

  pub end-agrees : Agrees w s stream_ended_of
  unfolding bad used
  end-agrees =
      agrees w s h k stream_ended_of
      (λ r j x. agree_goes w s h k stream_ended_of refl 0 _
      (fine-ends e st h.sits.base e.peer (pick (eqb e.begun 0) why.Disconnected why.Truncated) st h.sits.base.peer
      h.sits.base.room)
      (λ j x. none-taken j.ended)
      (λ j x. let y = coupled_at await.Bytes j (same_await_lem e.awaits await.Bytes r) x in
      told-follows (subst (Told ts _) (sym (fed-goes j stream_ended_of y.fixed.ended
      ∙ ap (λ (n : ℕ). ends_with n j) (ap stream_number y.begun
      ∙ stream_number_lem st.packet e.begun (omega (arith, h.sits.begun.small, h.sits.base.room.packet)))))
      (told-ends ts e e.peer st (end j) (pick (eqb e.begun 0) why.Disconnected why.Truncated))))
      (λ j late x v l. stream_brief (eqb e.begun 0))
      (λ j o x v l. spoken_done e e.peer Nothing await.Nothing 0 e.length
      (outcome.End (pick (eqb e.begun 0) why.Disconnected why.Truncated)) st speaks o refl tt))
    where
      stream_brief : (t : Bool) → Brief (ends e e.peer (pick t why.Disconnected why.Truncated) st)
      stream_brief true = brief_done e e.peer Nothing await.Nothing 0 e.length (outcome.End why.Disconnected) st refl refl
      stream_brief false = brief_done e e.peer Nothing await.Nothing 0 e.length (outcome.End why.Truncated) st refl refl

  -- ---- a reply is taken

  goes_on_fine : (o : Operation) → sound_operation (limit_of e) o ≡ true → Fine e (wants e e.peer e.operation st) → Fine e (goes_on_of o e st)
  goes_on_fine Nothing c x = x
  goes_on_fine Trailing c x = x
  goes_on_fine (Putting g srm) c x = x
  goes_on_fine (Getting g srm confirm wait) c x = x
  goes_on_fine (Sending o q srm wait) c x =
      let y = outgoing_within o q c in
      fine-pick e (srm && not wait) _ _ (sends-next-fine e st h.sits.base o srm wait y.sent y.total) x
  goes_on_fine (GatheringOp o g) c x = x
  goes_on_fine (Connecting q g m) c x = x
  goes_on_fine (Draining q) c x = x

  goes_on_told : (j : Journal) → Held ts e.settings e.peer e.operation st [] j → (o : Operation)
      → OpenedAt (limit_of e) o st.headers st.body j.opened → sound_operation (limit_of e) o ≡ true
      → Told ts (wants e e.peer e.operation st) (unchanged j) → Told ts (goes_on_of o e st) (unchanged j)
  goes_on_told j l Nothing p c x = x
  goes_on_told j l Trailing p c x = x
  goes_on_told j l (Putting g srm) p c x = x
  goes_on_told j l (Getting g srm confirm wait) p c x = x
  goes_on_told j l (Sending o q srm wait) p c x =
      let y = outgoing_within o q c in
      told-pick ts (srm && not wait) _ _ _ (λ m. next-told ts e st j l.fixed l.begun p h.sits.base o srm wait y.sent y.total) (λ m. x)
  goes_on_told j l (GatheringOp o g) p c x = x
  goes_on_told j l (Connecting q g m) p c x = x
  goes_on_told j l (Draining q) p c x = x

  taken-goes : (t : Bool) → same_await e.awaits await.Taken ≡ t → fits kind.ReplyTaken e.awaits ≡ true
      → AgreeKept w s reply_taken_of goes (after 0 (pick t (goes_on_of e.operation e st) (ends e e.peer why.OtherOperation st)))
  taken-goes true i r =
      agree_goes w s h k reply_taken_of refl 0 _
      (goes_on_fine e.operation h.sits.counts
      (fine-wants e st h.sits.base e.peer e.operation st h.sits.base.peer h.sits.base.room h.sits.counts
      (subst (λ (x : Await). Shape x e.operation) at h.sits.shape)))
      (λ j x. refl)
      (λ j x. let y = coupled_at await.Taken j at x in
      told-follows (subst (Told ts _)
      (sym (ap (λ (t : Bool). pick t (last_taken j) (unchanged (taken_at j.opened j (get_or st.reply 0 0)))) y.0))
      (goes_on_told (taken_at j.opened j (get_or st.reply 0 0)) y.1 e.operation y.1.opened h.sits.counts
      (told-wants ts e e.peer st _ e.operation y.1))))
      (λ j late x v l. goes_on_brief e st e.operation)
      (λ j o x v l. let y = coupled_at await.Taken j at x in
      subst (λ (t : Bool). Spoken (goes_on_of e.operation e st)
      (pick t speaks (taken_due (taken_at j.opened j (get_or st.reply 0 0)).opened o)) o) (sym y.0)
      (goes_on_spoken e st (limit_of e) e.operation st.headers st.body (taken_at j.opened j (get_or st.reply 0 0)).opened o refl
      y.1.opened v))
    where
      at : e.awaits ≡ await.Taken
      at = same_await_lem e.awaits await.Taken i
  taken-goes false i r =
      agree_goes w s h k reply_taken_of refl 0 _
      (fine-ends e st h.sits.base e.peer why.OtherOperation st h.sits.base.peer h.sits.base.room)
      (λ j x. refl)
      (λ j x. told-follows (subst (Told ts _)
      (sym (ap (λ (t : Bool). pick t (last_taken j) (unchanged (taken_at j.opened j (get_or st.reply 0 0)))) (coupled_at await.Last j at x)))
      (told-ends ts e e.peer st j why.OtherOperation)))
      (λ j late x v l. brief_done e e.peer Nothing await.Nothing 0 e.length (outcome.End why.OtherOperation) st refl refl)
      (λ j o x v l.
      subst (λ (t : Bool). Spoken (ends e e.peer why.OtherOperation st)
      (pick t speaks (taken_due (taken_at j.opened j (get_or st.reply 0 0)).opened o)) o)
      (sym (coupled_at await.Last j at x))
      (spoken_done e e.peer Nothing await.Nothing 0 e.length (outcome.End why.OtherOperation) st speaks o refl tt))
    where
      at : e.awaits ≡ await.Last
      at = same_await_lem e.awaits await.Last (or_second _ _ r i)

  pub taken-agrees : Agrees w s reply_taken_of
  unfolding bad used
  taken-agrees =
      agrees w s h k reply_taken_of (λ r j x. taken-goes (same_await e.awaits await.Taken) refl r)
