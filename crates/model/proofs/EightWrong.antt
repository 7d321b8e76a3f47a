-- The window counts the wrong checks of the history from the start, and the history keeps the rule of eight: by induction over the run,
-- along the coupling of engine and journal. Assumes nothing.
use mathlib.Core.Path.{◌≡◌, refl, sym, ap, ◌∙◌, subst}
use mathlib.Core.List.{List, [], ◌∷◌}
use mathlib.Core.Bool.{Bool, true, false, ◌||◌, not, false≢true}
use mathlib.Core.Option.{Option}
use Prim.Native.Nat.{ℕ}
use native.Mathlib.Omega.{arith}
use lib.Count.{ones}
use lib.ListN.{get_or}
use Rattle.base.specs.Pick.{pick}
use Rattle.journal.specs.Calls.{Call, bytes_offered_of, stream_ended_of, reply_taken_of, reply_given_of, object_given_of, body_given_of, body_failed_of, abort_acknowledged_of, password_given_of, nonce_given_of, credentials_given_of, connections_closed_of, Verdict, goes, refused, step_by_of}
use Rattle.journal.specs.Checks.{too_many_of, window_of, Ruled}
use Rattle.journal.specs.Journal.{Standing, Journal, journal_step, journal_after}
use Rattle.journal.proofs.Checked.{counts, passes-after, few-stops}
use Rattle.journal.proofs.Rules.{taken-standing, step-ruled}
use Rattle.connection.specs.declared.peer.Peer.{Peer}
use Rattle.connection.proofs.Standings.{Windowed, too_many}
use Rattle.server.specs.declared.Await.{Await}
use Rattle.server.specs.declared.Await.TheVariants as await
use Rattle.server.specs.declared.Operation.{Operation}
use Rattle.server.specs.declared.Settings.{Settings}
use Rattle.model.specs.Step.{Stores}
use Rattle.model.specs.Guard.{same_await}
use Rattle.model.specs.Runs.{State, Performed, next, lent_to, Ran, lacks, seen}
use Rattle.model.specs.Refusals.{Waits, password, same_wait, expected, Known, at_start, learns, judged, verdict, fed_by, feed_from}
use Rattle.model.specs.Theorem.{journal_of}
use Rattle.model.specs.ContractClaims.{state}
use Rattle.model.specs.EightWrong.{ran_to, live, Counted, EightWrong, ContractsCount}
use Rattle.model.proofs.Fit.{waits_of}
use Rattle.model.proofs.Coupling.{Fixed, CoupledAt, Coupled}
use Rattle.model.proofs.Records.{Between, between_on, fed_to, between_next, start_between}
use Rattle.model.proofs.Contracts.{accepted-started}

-- ---- the window, by what is awaited

fixed_window : (ts : List ℕ) (st : Settings) (p : Peer) (j : Journal) → Fixed ts st p j → Windowed p j.standing.checks
fixed_window ts st p j f = f.window ∙ sym (ap (λ (x : Standing). window_of x.checks) f.standing)

abbrev live_at_of : Await → Type 0
live_at_of a = (same_await a await.Last ≡ false) × (same_await a await.Nothing ≡ false)

window_at : (ts : List ℕ) (a : Await) (o : Operation) (st : Settings) (p : Peer) (b n : ℕ) (s : Stores) (j : Journal)
    → CoupledAt ts a o st p b n s j → live_at_of a → Windowed p j.standing.checks
window_at ts await.Bytes o st p b n s j x l = fixed_window ts st p j x.fixed
window_at ts await.Taken o st p b n s j x l =
    subst (λ (y : Standing). Windowed p y.checks) (taken-standing j.opened j (get_or s.reply 0 0)) (fixed_window ts st p _ x.1.fixed)
window_at ts await.Last o st p b n s j x l = absurd (false≢true (sym l.0))
window_at ts await.Connect o st p b n s j x l = fixed_window ts st p j x.held.fixed
window_at ts await.Disconnect o st p b n s j x l = fixed_window ts st p j x.held.fixed
window_at ts await.Get o st p b n s j x l = fixed_window ts st p j x.fixed
window_at ts await.Reply o st p b n s j x l = fixed_window ts st p j x.0.fixed
window_at ts await.Acknowledgement o st p b n s j x l = fixed_window ts st p j x.fixed
window_at ts await.Password o st p b n s j x l = fixed_window ts st p j x.0.held.fixed
window_at ts await.Nonce o st p b n s j x l = fixed_window ts st p j x.held.fixed
window_at ts await.Credentials o st p b n s j x l = fixed_window ts st p j x.fixed
window_at ts await.Body o st p b n s j x l = fixed_window ts st p j x.fixed
window_at ts await.Nothing o st p b n s j x l = absurd (false≢true (sym l.1))

live_at : (a b : Bool) → not (a || b) ≡ true → (a ≡ false) × (b ≡ false)
live_at true b e = absurd (false≢true e)
live_at false true e = absurd (false≢true e)
live_at false false e = (refl, refl)

-- ---- a password is given only while not too many were wrong

password_await : (a : Await) (o : Operation) → same_wait (waits_of a o) password ≡ true → a ≡ await.Password
password_await await.Bytes o e = absurd (false≢true e)
password_await await.Taken o e = absurd (false≢true e)
password_await await.Last o e = absurd (false≢true e)
password_await await.Connect o e = absurd (false≢true e)
password_await await.Disconnect o e = absurd (false≢true e)
password_await await.Get o e = absurd (false≢true e)
password_await await.Reply o e = absurd (false≢true e)
password_await await.Acknowledgement o e = absurd (false≢true e)
password_await await.Password o e = refl
password_await await.Nonce o e = absurd (false≢true e)
password_await await.Credentials o e = absurd (false≢true e)
password_await await.Body o e = absurd (false≢true e)
password_await await.Nothing o e = absurd (false≢true e)

-- a call that goes is one that is waited for
goes-expected : (s t : Bool) (v : Verdict) → pick s (refused 10) (pick t v (refused 9)) ≡ goes → t ≡ true
goes-expected true t v e = absurd (let z : ◌≡◌ {A = ℕ} 0 1 = cc in omega arith)
goes-expected false true v e = refl
goes-expected false false v e = absurd (let z : ◌≡◌ {A = ℕ} 0 1 = cc in omega arith)

goes_awaited : (short : Bool) (w : Known) (j : Journal) (a : Await) (o : Operation) → w.waits ≡ waits_of a o → (p : Option (List ℕ))
    → verdict short w j (password_given_of p) ≡ goes → a ≡ await.Password
unfolding verdict expected
goes_awaited short w j a o k p e =
    password_await a o (ap (λ (x : Waits). same_wait x password) (sym k)
    ∙ goes-expected short (same_wait w.waits password) (judged (password_given_of p) w j) e)

-- what the journal is fed as a password is one that goes
fed-password : (c : Call) (v : Verdict) (b : ℕ) (p : Option (List ℕ)) → fed_by v c b ≡ step_by_of (password_given_of p) → (c ≡ password_given_of p) × (v ≡ goes)
fed-password c (refused n) b p e = absurd (let z : ◌≡◌ {A = ℕ} 0 1 = cc in omega arith)
fed-password reply_taken_of goes b p e = absurd (let z : ◌≡◌ {A = ℕ} 0 1 = cc in omega arith)
fed-password (bytes_offered_of i) goes b p e = (cc, refl)
fed-password stream_ended_of goes b p e = (cc, refl)
fed-password (reply_given_of code hs) goes b p e = (cc, refl)
fed-password (object_given_of hs d) goes b p e = (cc, refl)
fed-password (body_given_of d) goes b p e = (cc, refl)
fed-password body_failed_of goes b p e = (cc, refl)
fed-password abort_acknowledged_of goes b p e = (cc, refl)
fed-password (password_given_of q) goes b p e = (cc, refl)
fed-password (nonce_given_of n l) goes b p e = (cc, refl)
fed-password (credentials_given_of d) goes b p e = (cc, refl)
fed-password (connections_closed_of l) goes b p e = (cc, refl)

checks-few : (short : Bool) (w : Known) (s : State) (j : Journal) → w.waits ≡ waits_of s.engine.awaits s.engine.operation
    → Coupled s.tables s.engine s.stores j → (c : Call) (b : ℕ) (p : Option (List ℕ))
    → fed_by (verdict short w j c) c b ≡ step_by_of (password_given_of p) → too_many_of j.standing.checks ≡ false
checks-few short w s j k x c b p i =
    let f = fed-password c (verdict short w j c) b p i in
    let a = goes_awaited short w j s.engine.awaits s.engine.operation k p (ap (verdict short w j) (sym f.0) ∙ f.1) in
    (subst (λ (y : Await). CoupledAt s.tables y s.engine.operation s.engine.settings s.engine.peer s.engine.begun
    s.engine.length s.stores j) a x).1

-- ---- a run

counted : (s : State) (j : Journal) → Coupled s.tables s.engine s.stores j → Ruled j.standing.checks → Counted s.engine j
counted s j x k =
    record {
      count = λ l. ap ones (window l) ∙ counts j.standing.checks;
      ruled = k;
      stops = λ n h i. few-stops n h (subst Ruled i k);
      passes = λ l h i. too_many s.engine.peer j.standing.checks (window l) ∙ ap too_many_of i ∙ passes-after h;
    }
  where
    window : live s.engine ≡ true → Windowed s.engine.peer j.standing.checks
    window l =
        let e = s.engine in
        window_at s.tables e.awaits e.operation e.settings e.peer e.begun e.length s.stores j x
        (live_at (same_await e.awaits await.Last) (same_await e.awaits await.Nothing) l)

run-counted : (st : Settings) (xs : List Performed) (w : Known) (s : State) (j : Journal) → Between st w s j → Ran s xs
    → Ruled j.standing.checks → Counted (ran_to s xs).engine (journal_after j (feed_from w j (seen st s xs)))
run-counted st [] w s j b r k = counted s j b.coupled k
run-counted st (y ∷ xs) w s j b r k =
    let l = lent_to s y in
    let c = between_on st w s j y.written r.0 b in
    let f = fed_to st w l j c y r.1.0 in
    run-counted st xs (learns w y.call y.result.outcome) (next y) (journal_step j f).next (between_next st w l j c y r.1.0) r.1.1
    (step-ruled j k f (checks-few (lacks st y.call l.stores l.tables) w l j c.knows.waits c.coupled y.call
    (get_or l.stores.reply 0 0)))

-- the count is that of the history from the start, which keeps the rule
pub eight_wrong : EightWrong
eight_wrong st s h xs r = run-counted st xs (at_start st) s (journal_of st) (start_between st s h) r tt

pub contracts_count : ContractsCount
contracts_count st l s t u r xs a h = eight_wrong st (state r t u) (accepted-started st l s t u r a) xs h
