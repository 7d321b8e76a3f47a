-- The theorem on a run of a receiver: what was to be filed is what the journal says is handed over, and the log stands for it; by induction over
-- the run, along the coupling of engine and journal. Assumes nothing.
use Prim.Native.Nat.{ℕ}
use mathlib.Core.Path.{◌≡◌, refl, sym, ap, ap₂, ◌∙◌}
use mathlib.Core.Bool.{Bool, true, false}
use mathlib.Core.List.{List, [], ◌∷◌, ◌++◌, append-nil}
use mathlib.Core.Option.{Option}
use lib.ListN.{get_or, take}
use native.Mathlib.Omega.{arith}
use Rattle.base.specs.Pick.{pick}
use Rattle.packet.specs.ResponseCodes as response
use Rattle.table.specs.Targets.{target_bytes}
use Rattle.table.specs.declared.targets.Target.{Target}
use Rattle.journal.specs.Calls.{Call, bytes_offered_of, stream_ended_of, reply_taken_of, reply_given_of, object_given_of, body_given_of, body_failed_of, abort_acknowledged_of, password_given_of, nonce_given_of, credentials_given_of, connections_closed_of, Verdict, goes, refused, step_by_of}
use Rattle.journal.specs.Journal.{Journal, Entry as Step, unchanged, Read, bytes_read, read_up, taken_up, passes, journal_step, Marked, fed_reads, fed_takes, packets}
use Rattle.journal.specs.Naming.{Naming, unnamed, bytes_name, naming_step, namings}
use Rattle.server.specs.declared.Settings.{Settings}
use Rattle.server.specs.declared.HostRequest.TheVariants as request
use Rattle.server.specs.declared.Outcome.{Outcome}
use Rattle.server.specs.declared.Outcome.TheVariants as outcome
use Rattle.server.specs.declared.CallResult.{CallResult}
use Rattle.model.specs.Step.{Stores}
use Rattle.model.specs.Refusals.{Known, at_start, learns, fed_by, feed_from}
use Rattle.model.specs.Runs.{State, Performed, next, lent_to, Ran, handed, seen}
use Rattle.model.specs.Theorem.{journal_of, Kept}
use Rattle.model.specs.Targets.{NamesDue, AllNamed}
use Rattle.model.proofs.Records.{Between, between_on, fed_to, performed-agrees, between_next, start_between}
use Rattle.model.proofs.Targets.{targets}
use Rattle.filing.specs.Plan.{plan_for, runs}
use Rattle.filing.specs.Entries.{LogEntry, received, checked, entry_step, names_step, Handed, handed_under, log_handed, journal_handed, logged}
use Rattle.filing.proofs.Filed.{filed-well, success-filed}
use Rattle.filing.proofs.Logged.{follows-named, named-call}
use Rattle.filing.proofs.Pieces.{joined_same, taken-reads}
use Rattle.reception.specs.Received.{last_right, noted_by, notes, handed_at, Course, forbidden, carried, Attempt, brings_body, told_by, WellBy, Received, over, tried, call, answer, attempted, ReceiverFiles}
use Rattle.reception.proofs.Password.{password-word}

-- ---- the attempts are at what is handed over

handed_in : List Performed → List Handed
handed_in [] = []
handed_in (x ∷ xs) = handed_at x ++ handed_in xs

received-handed : (u : List Handed) (xs : List Performed) (l : List Attempt) (w : List Handed) → Received u xs l w
    → attempted l ++ w ≡ u ++ handed_in xs
unfolding handed_in
received-handed u xs l w over = sym (append-nil u)
received-handed u xs l w (tried a) = refl
received-handed u xs l w (call x {xs = ys} r) = received-handed (handed_at x) ys l w r
received-handed u xs l w (answer a x {xs = ys} {l = m} e r) = ap (λ (k : List Handed). a.handed ∷ k) (received-handed (handed_at x) ys m w r)

-- ---- the Target under which a record is handed over is the one that is due

under-due : (o : Outcome) (g : Target) (n : Naming) (s : Stores) → NamesDue o g n
    → handed_under (target_bytes g) (handed o s) ≡ handed_under n.under (handed o s)
under-due (outcome.Request (request.Put k b)) g n s d = ap (λ (t : Option (List ℕ)). handed_under t (handed (outcome.Request (request.Put k b)) s)) d
under-due (outcome.Request (request.Connect k)) g n s d = refl
under-due (outcome.Request (request.Disconnect k)) g n s d = refl
under-due (outcome.Request (request.SetPath k u c)) g n s d = refl
under-due (outcome.Request (request.Abort k)) g n s d = refl
under-due (outcome.Request (request.Get k)) g n s d = refl
under-due (outcome.Request (request.Action k)) g n s d = refl
under-due (outcome.Request (request.Session k)) g n s d = refl
under-due (outcome.Request (request.UserDefined o k)) g n s d = refl
under-due (outcome.Request (request.Password u)) g n s d = refl
under-due (outcome.Request request.Nonce) g n s d = refl
under-due (outcome.Request (request.Credentials a u r p)) g n s d = refl
under-due (outcome.Request (request.Read k)) g n s d = refl
under-due outcome.WantsBytes g n s d = refl
under-due (outcome.Reply k) g n s d = refl
under-due (outcome.End k) g n s d = refl
under-due (outcome.Refused r) g n s d = refl

kept-both : (l m : List Marked) → Kept (l ++ m) → Kept l × Kept m
kept-both [] m k = (tt, k)
kept-both (x ∷ l) m k = let b = kept-both l m k.1 in ((k.0, b.0), b.1)

run-handed : (st : Settings) (xs : List Performed) (w : Known) (s : State) (j : Journal) (n : Naming) → Between st w s j → Ran s xs
    → Kept (packets j (feed_from w j (seen st s xs))) → AllNamed (namings j n (feed_from w j (seen st s xs))) xs
    → handed_in xs ≡ journal_handed j n (feed_from w j (seen st s xs))
unfolding handed_in journal_step
run-handed st [] w s j n b r k a = refl
run-handed st (x ∷ xs) w s j n b r k a =
    let z = lent_to s x in
    let c = between_on st w s j x.written r.0 b in
    let f = fed_to st w z j c x r.1.0 in
    let i = (journal_step j f).next in
    let m = naming_step j n f in
    let both = kept-both (fed_reads j f) (packets i (feed_from (learns w x.call x.result.outcome) i (seen st (next x) xs))) k in
    let t = ((performed-agrees st w z j c x r.1.0).journal j c.coupled).told both.0 in
    ap₂ (λ (l q : List Handed). l ++ q)
    (under-due x.result.outcome x.result.engine.target m x.stores a.0 ∙ ap (handed_under m.under) t.given)
    (run-handed st xs (learns w x.call x.result.outcome) (next x) i m (between_next st w z j c x r.1.0) r.1.1 both.1 a.1)

-- ---- what is noted does to a journal what is logged does

taken_step : (j : Journal) (i : List ℕ) (t : ℕ) → t ≡ fed_takes j (step_by_of (bytes_offered_of i))
    → entry_step j (received (take t i)) ≡ entry_step j (received i)
unfolding entry_step
taken_step j i t e = go j.ended e
  where
    go : (b : Bool) → t ≡ pick b 0 (taken_up j.begun i)
        → pick b (unchanged j) (bytes_read j (read_up j.begun (take t i))) ≡ pick b (unchanged j) (bytes_read j (read_up j.begun i))
    go true h = refl
    go false h = ap (bytes_read j) (ap (λ (k : ℕ). read_up j.begun (take k i)) h ∙ taken-reads j.begun i)

taken-names : (j : Journal) (n : Naming) (i : List ℕ) (t : ℕ) → t ≡ fed_takes j (step_by_of (bytes_offered_of i))
    → names_step j n (received (take t i)) ≡ names_step j n (received i)
unfolding names_step
taken-names j n i t e = go j.ended e
  where
    go : (b : Bool) → t ≡ pick b 0 (taken_up j.begun i)
        → pick b n (bytes_name (read_up j.begun (take t i)) j n) ≡ pick b n (bytes_name (read_up j.begun i) j n)
    go true h = refl
    go false h = ap (λ (x : Read). bytes_name x j n) (ap (λ (k : ℕ). read_up j.begun (take k i)) h ∙ taken-reads j.begun i)

-- one call: `t` is what the check's word must be, `c` what is taken
noted_call : (j : Journal) (n : Naming) (v : Verdict) (y : Call) (b : ℕ) (r : CallResult) (es : List LogEntry)
    → (v ≡ goes → r.taken ≡ fed_takes j (fed_by v y b))
    → ((p : Option (List ℕ)) → y ≡ password_given_of p → v ≡ goes → last_right r.engine.peer.window ≡ passes j p)
    → log_handed j n (noted_by v y b r ++ es) ≡ log_handed j n (logged j (fed_by v y b) ++ es)
noted_call j n (refused m) y b r es c t = refl
noted_call j n goes (bytes_offered_of i) b r es c t =
    ap (λ (x : Step). follows-named x (names_step j n (received (take r.taken i))) es) (taken_step j i r.taken (c refl))
    ∙ ap (λ (m : Naming). follows-named (entry_step j (received i)) m es) (taken-names j n i r.taken (c refl))
noted_call j n goes (password_given_of p) b r es c t = ap (λ (w : Bool). log_handed j n (checked w ∷ es)) (t p refl refl)
noted_call j n goes stream_ended_of b r es c t = refl
noted_call j n goes reply_taken_of b r es c t = refl
noted_call j n goes (reply_given_of code hs) b r es c t = refl
noted_call j n goes (object_given_of hs has) b r es c t = refl
noted_call j n goes (body_given_of d) b r es c t = refl
noted_call j n goes body_failed_of b r es c t = refl
noted_call j n goes abort_acknowledged_of b r es c t = refl
noted_call j n goes (nonce_given_of o l) b r es c t = refl
noted_call j n goes (credentials_given_of o) b r es c t = refl
noted_call j n goes (connections_closed_of l) b r es c t = refl

run-noted : (st : Settings) (xs : List Performed) (w : Known) (s : State) (j : Journal) (n : Naming) → Between st w s j → Ran s xs
    → log_handed j n (notes s xs) ≡ journal_handed j n (feed_from w j (seen st s xs))
unfolding journal_step naming_step
run-noted st [] w s j n b r = refl
run-noted st (x ∷ xs) w s j n b r =
    let z = lent_to s x in
    let c = between_on st w s j x.written r.0 b in
    let a = performed-agrees st w z j c x r.1.0 in
    let f = fed_to st w z j c x r.1.0 in
    let i = (journal_step j f).next in
    let m = naming_step j n f in
    let u = get_or z.stores.reply 0 0 in
    let later = notes (next x) xs in
    ap (λ (v : Verdict). log_handed j n (noted_by v x.call u x.result ++ later)) a.due
    ∙ noted_call j n _ x.call u x.result later (λ g. a.count j c.coupled) (λ p e g. password-word st w z j c x r.1.0 p e (a.due ∙ g))
    ∙ named-call j n f later
    ∙ ap (λ (l : List Handed). handed_under m.under (journal_step j f).given ++ l)
    (run-noted st xs (learns w x.call x.result.outcome) (next x) i m (between_next st w z j c x r.1.0) r.1.1)

-- ---- the theorem

sure_of : (body : Bool) (c : Course) → told_by body c ≡ response.success → WellBy body c
sure_of body forbidden e = absurd (omega (arith, e))
sure_of body (carried outcomes full) e = filed-well body outcomes (success-filed (runs (plan_for body) outcomes).filed full e)

pub receiver_files : ReceiverFiles
receiver_files st s h xs r l w d k =
    let b = start_between st s h in
    let same = received-handed [] xs l w d ∙ run-handed st xs (at_start st) s (journal_of st) unnamed b r k (targets st s h xs r) in
    record {
      records = same;
      log = λ es i.
          (joined_same (journal_of st) unnamed (notes s xs) es i).handed ∙ run-noted st xs (at_start st) s (journal_of st) unnamed b r ∙ sym same;
      sure = λ a i e. sure_of (brings_body a.handed) a.course e;
    }
