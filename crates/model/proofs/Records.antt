-- The records theorem, by induction over a run: each call agrees with what is due and with the journal.
-- Assumes nothing.
use mathlib.Core.Path.{◌≡◌, refl, sym, ap, ap₂, ◌∙◌, subst}
use mathlib.Core.List.{List, [], ◌∷◌, ◌++◌, map}
use mathlib.Core.Bool.{false}
use mathlib.Core.Option.{Option}
use Prim.Native.Nat.{ℕ}
use native.Mathlib.Omega.{arith}
use lib.ListN.{get_or}
use Rattle.journal.specs.Record.{Record}
use Rattle.journal.specs.Calls.{Call, bytes_offered_of, stream_ended_of, reply_taken_of, reply_given_of, object_given_of, body_given_of, body_failed_of, abort_acknowledged_of, password_given_of, nonce_given_of, credentials_given_of, connections_closed_of, Verdict, Fed}
use Rattle.journal.specs.Journal.{Journal, journal_step, journal_records, journal_counts, journal_ends, Marked, fed_reads, packets}
use Rattle.journal.specs.Checks.{window_of}
use Rattle.journal.specs.PutForm.{Exactly}
use Rattle.connection.specs.Peer.{peer_with}
use Rattle.table.specs.Nonces.{remembered}
use Rattle.model.specs.Step.{Called, engine_with}
use Rattle.model.specs.Calls.{started}
use Rattle.model.specs.Runs.{State, Performed, called_in, next, writing, Writes, lent_to, OffersOctets, Says, Ran, records, Started, lacks, seen}
use Rattle.model.specs.Refusals.{bytes, Known, at_start, learns, verdict, verdict_of, end_of, fed_by, due_from, feed_from}
use Rattle.model.specs.Replies.{Late, late_after, RepliesFrom}
use Rattle.journal.specs.Srm.{Mode, mode_after, dues_from}
use Rattle.model.specs.Theorem.{settings_of, journal_of, fed, Kept, AllObey, Unmoved, RecordsTheorem}
use Rattle.server.specs.declared.Settings.{Settings}
use Rattle.server.specs.declared.Engine.{Engine}
use Rattle.connection.proofs.Standings.{fresh-fits, own_fits}
use Rattle.journal.proofs.Forms.{put-forms}
use Rattle.model.proofs.Fit.{room, waits_of, none-begun, Sits, Seated, tables-room}
use Rattle.model.proofs.Coupling.{Coupled}
use Rattle.model.proofs.Sizes.{early, LateAt, early-late}
use Rattle.model.proofs.Speaks.{ModeAt}
use Rattle.model.proofs.Writing.{seated_on, coupled_on, late_on}
use Rattle.model.proofs.Moments.{verdict_at, Knows, Agree, Agrees}
use Rattle.model.proofs.FromPeer.{bytes_agree, end-agrees, taken-agrees}
use Rattle.model.proofs.Closing.{closed-agrees}
use Rattle.model.proofs.FromHost.{reply-agrees, object-agrees, body-agrees, body_failed_agrees, acknowledge_agrees, password-agrees, nonce-agrees, credentials_agree}

-- ---- a call

step-agrees : (w : Known) (s : State) → Seated s → Knows w s → (c : Call) → OffersOctets c
    → Agrees w s c
step-agrees w s h k (bytes_offered_of i) o = bytes_agree w s h k i o
step-agrees w s h k stream_ended_of o = end-agrees w s h k
step-agrees w s h k reply_taken_of o = taken-agrees w s h k
step-agrees w s h k (reply_given_of code hs) o = reply-agrees w s h k code hs
step-agrees w s h k (object_given_of hs b) o = object-agrees w s h k hs b
step-agrees w s h k (body_given_of d) o = body-agrees w s h k d
step-agrees w s h k body_failed_of o = body_failed_agrees w s h k
step-agrees w s h k abort_acknowledged_of o = acknowledge_agrees w s h k
step-agrees w s h k (password_given_of p) o = password-agrees w s h k p
step-agrees w s h k (nonce_given_of n l) o = nonce-agrees w s h k n l
step-agrees w s h k (credentials_given_of c) o = credentials_agree w s h k c
step-agrees w s h k (connections_closed_of l) o = closed-agrees w s h k l

-- what holds between two calls of a run from an accepted start with the settings `st`, with the journal `j` beside the engine
pub record Between (st : Settings) (w : Known) (s : State) (j : Journal) : Type 0 where
  pub settings : s.engine.settings ≡ st
  pub seated : Seated s
  pub knows : Knows w s
  pub coupled : Coupled s.tables s.engine s.stores j

-- the host may have written into the packet store
pub between_on : (st : Settings) (w : Known) (s : State) (j : Journal) (l : List ℕ) → Writes s l → Between st w s j → Between st w (writing s l) j
between_on st w s j l h b =
    record {
      settings = b.settings;
      seated = seated_on s l b.seated;
      knows = record { settings = b.knows.settings; waits = b.knows.waits; nonces = b.knows.nonces };
      coupled = coupled_on s l h j b.coupled;
    }

-- a call of a run, lent the state `s`
module _ (st : Settings) (w : Known) (s : State) (j : Journal) (b : Between st w s j) (x : Performed) (says : Says s x.call (called_in x)) where
  -- the verdict that is due, by what the host sees
  abbrev pub due_at : Verdict
  due_at = verdict (lacks st x.call s.stores s.tables) w j x.call

  abbrev pub fed_to : Fed
  fed_to = fed_by due_at x.call (get_or s.stores.reply 0 0)

  pub performed-agrees : Agree w s x.call due_at (called_in x)
  performed-agrees =
      subst (λ (y : Settings). Agree w s x.call (verdict (lacks y x.call s.stores s.tables) w j x.call) (called_in x)) b.settings
      (subst (λ (m : Called). Agree w s x.call (verdict_at w s j x.call) m) (sym says.step)
      (step-agrees w s b.seated b.knows x.call says.octets j b.coupled))

  pub between_next : Between st (learns w x.call x.result.outcome) (next x) (journal_step j fed_to).next
  unfolding journal_step
  between_next =
      let a = performed-agrees in
      record { settings = a.settings ∙ b.settings; seated = a.seated; knows = a.knows; coupled = (a.journal j b.coupled).after }

-- ---- a run

run-refused : (st : Settings) (xs : List Performed) (w : Known) (s : State) (j : Journal) → Between st w s j → Ran s xs
    → map (λ (x : Performed). verdict_of x.result.outcome) xs ≡ due_from w j (seen st s xs)
run-refused st [] w s j b r = refl
run-refused st (x ∷ xs) w s j b r =
    let l = lent_to s x in
    let c = between_on st w s j x.written r.0 b in
    ap₂ (λ (v : Verdict) (vs : List Verdict). v ∷ vs) (performed-agrees st w l j c x r.1.0).due
    (run-refused st xs (learns w x.call x.result.outcome) (next x) _ (between_next st w l j c x r.1.0) r.1.1)

run-unmoved : (st : Settings) (xs : List Performed) (w : Known) (s : State) (j : Journal) → Between st w s j → Ran s xs → Unmoved s xs
run-unmoved st [] w s j b r = tt
run-unmoved st (x ∷ xs) w s j b r =
    let l = lent_to s x in
    let c = between_on st w s j x.written r.0 b in
    let a = performed-agrees st w l j c x r.1.0 in (
      λ n i. a.unmoved n (sym a.due ∙ i),
      run-unmoved st xs (learns w x.call x.result.outcome) (next x) _ (between_next st w l j c x r.1.0) r.1.1,
    )

kept-both : (l m : List Marked) → Kept (l ++ m) → Kept l × Kept m
kept-both [] m k = (tt, k)
kept-both (x ∷ l) m k = let b = kept-both l m k.1 in ((k.0, b.0), b.1)

-- what engine and journal agree on along a run, with the journal `j` before it; for the ends it is also asked how long replies are
record Along (st : Settings) (w : Known) (s : State) (j : Journal) (xs : List Performed) : Type 0 where
  journal : records xs ≡ journal_records j (feed_from w j (seen st s xs))
  counts : map (λ (x : Performed). x.result.taken) xs ≡ journal_counts j (feed_from w j (seen st s xs))
  srm : (m : Mode) → ModeAt s.engine.operation m → AllObey (dues_from m j (feed_from w j (seen st s xs))) xs
  ends : (late : Late) → LateAt s.engine s.stores late → RepliesFrom late j (feed_from w j (seen st s xs))
      → map (λ (x : Performed). end_of x.result.outcome) xs ≡ journal_ends j (feed_from w j (seen st s xs))

run_along : (st : Settings) (xs : List Performed) (w : Known) (s : State) (j : Journal) → Between st w s j → Ran s xs
    → Kept (packets j (feed_from w j (seen st s xs))) → Along st w s j xs
unfolding journal_step
run_along st [] w s j b r k = record { journal = refl; counts = refl; srm = λ m y. tt; ends = λ late y z. refl }
run_along st (x ∷ xs) w s j b r k =
    let l = lent_to s x in
    let c = between_on st w s j x.written r.0 b in
    let a = performed-agrees st w l j c x r.1.0 in
    let f = fed_to st w l j c x r.1.0 in
    let i = (journal_step j f).next in
    let both = kept-both (fed_reads j f) (packets i (feed_from (learns w x.call x.result.outcome) i (seen st (next x) xs))) k in
    let t = (a.journal j c.coupled).told both.0 in
    let later = run_along st xs (learns w x.call x.result.outcome) (next x) i (between_next st w l j c x r.1.0) r.1.1 both.1 in
    record {
      journal = ap₂ (λ (m n : List Record). m ++ n) t.given later.journal;
      counts = ap₂ (λ (n : ℕ) (ns : List ℕ). n ∷ ns) (a.count j c.coupled) later.counts;
      srm = λ m y. let spoken = a.spoken j m c.coupled y both.0 in (spoken.obeys, later.srm (mode_after m j f) spoken.mode);
      ends = λ late y z.
          let sized = a.sized j late c.coupled (late_on s x.written r.0 late y) z.0 in
          ap₂ (λ (n : Option ℕ) (ns : List (Option ℕ)). n ∷ ns) (t.ends sized.small) (later.ends (late_after late j f) sized.waiting z.1);
    }

-- ---- from an accepted start

module _ (st : Settings) (s : State) (h : Started st s) where
  start_seated : Seated s
  unfolding started engine_with
  start_seated =
      record {
        sits = subst (λ (e : Engine). Sits e s.stores) (sym h.fresh)
            (record {
              base = record { room = room st.max_object_size s.stores h.room; peer = own_fits fresh-fits; last = omega arith };
              begun = none-begun s.stores.packet;
              counts = refl;
              shape = refl;
            });
        tables = tables-room s.tables h.tables;
      }

  start-waits : bytes ≡ waits_of s.engine.awaits s.engine.operation
  unfolding started engine_with
  start-waits = sym (ap (λ (e : Engine). waits_of e.awaits e.operation) h.fresh)

  start-nonces : remembered s.engine.peer.nonces s.tables ≡ []
  unfolding started engine_with peer_with remembered
  start-nonces = ap (λ (e : Engine). remembered e.peer.nonces s.tables) h.fresh

  start-coupled : Coupled s.tables s.engine s.stores (journal_of st)
  unfolding started engine_with peer_with window_of
  start-coupled =
      subst (λ (e : Engine). Coupled s.tables e s.stores (journal_of st)) (sym h.fresh)
      (record { fixed = record { settings = refl; past = []; standing = refl; window = refl; ended = refl }; begun = refl; opened = refl })

  pub start_between : Between st (at_start st) s (journal_of st)
  unfolding started engine_with
  start_between =
      record {
        settings = ap (λ (e : Engine). e.settings) h.fresh;
        seated = start_seated;
        knows = record { settings = sym (ap (λ (e : Engine). e.settings) h.fresh); waits = start-waits; nonces = start-nonces };
        coupled = start-coupled;
      }

  start-early : LateAt s.engine s.stores (λ c. 0)
  unfolding started engine_with
  start-early = early-late s.engine s.stores (λ c. 0) (ap (λ (e : Engine). early e.awaits) h.fresh)

  start-mode : ModeAt s.engine.operation (record { on = false; asked = false; wait = false })
  unfolding started engine_with
  start-mode = subst (λ (e : Engine). ModeAt e.operation (record { on = false; asked = false; wait = false })) (sym h.fresh) tt

pub records_theorem : RecordsTheorem
records_theorem st s h xs r =
    let b = start_between st s h in
    let along = run_along st xs (at_start st) s (journal_of st) b r in
    record {
      refusals = run-refused st xs (at_start st) s (journal_of st) b r;
      unmoved = run-unmoved st xs (at_start st) s (journal_of st) b r;
      agrees = λ k. record {
        journal = (along k).journal;
        forms = subst (Exactly st.max_object_size (packets (journal_of st) (fed st s xs))) (sym (along k).journal)
            (put-forms (settings_of st) (fed st s xs));
        counts = (along k).counts;
        srm = (along k).srm (record { on = false; asked = false; wait = false }) (start-mode st s h);
      };
      ends = λ k z. (along k).ends (λ c. 0) (start-early st s h) z;
    }
