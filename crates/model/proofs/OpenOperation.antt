-- The engine has an operation open exactly if the journal has one or an answer is still to come: if bytes are awaited, both have the same
-- operation open by their coupling; if not, the host was told of something else than that bytes are wanted. Assumes nothing.
use mathlib.Core.Path.{◌≡◌, refl, sym, ap, ◌∙◌}
use mathlib.Core.List.{List, [], ◌∷◌}
use mathlib.Core.Bool.{Bool, true, false, ◌||◌, not}
use Prim.Native.Nat.{ℕ}
use Rattle.journal.specs.Journal.{Journal, journal_step, journal_after, busy as busyOpened}
use Rattle.connection.specs.declared.peer.Peer.{Peer}
use Rattle.server.specs.declared.Await.{Await}
use Rattle.server.specs.declared.Await.TheVariants as await
use Rattle.server.specs.declared.Operation.{Operation}
use Rattle.server.specs.declared.Settings.{Settings}
use Rattle.model.specs.Step.{Stores}
use Rattle.model.specs.Dispatch.{busy}
use Rattle.model.specs.Guard.{same_await}
use Rattle.model.specs.Refusals.{Known, at_start, learns, feed_from}
use Rattle.model.specs.Runs.{State, Performed, next, lent_to, Ran, seen}
use Rattle.model.specs.Theorem.{journal_of}
use Rattle.model.specs.ContractClaims.{state}
use Rattle.model.specs.EightWrong.{ran_to}
use Rattle.model.specs.OpenOperation.{known_after, is_open_of, is_open_by, OpensAlike, ContractsOpen}
use Rattle.model.proofs.Fit.{waits_of}
use Rattle.model.proofs.Coupling.{CoupledAt}
use Rattle.model.proofs.Packets.{busy-same}
use Rattle.model.proofs.Records.{Between, between_on, fed_to, between_next, start_between}
use Rattle.model.proofs.Contracts.{accepted-started}

-- ---- between two calls, by what is awaited

or_true : (a : Bool) → (a || true) ≡ true
or_true true = refl
or_true false = refl

both-open : (a b : Bool) → (a || true) ≡ (b || true)
both-open a b = or_true a ∙ sym (or_true b)

open_at : (ts : List ℕ) (a : Await) (o : Operation) (st : Settings) (p : Peer) (b n : ℕ) (s : Stores) (j : Journal)
    → CoupledAt ts a o st p b n s j
    → (busy o || not (same_await a await.Bytes)) ≡ is_open_by j (waits_of a o)
open_at ts await.Bytes o st p b n s j x = ap (λ (t : Bool). t || false) (sym (busy-same _ o s.headers s.body j.opened x.opened))
open_at ts await.Taken o st p b n s j x = both-open (busy o) (busyOpened j.opened)
open_at ts await.Last o st p b n s j x = both-open (busy o) (busyOpened j.opened)
open_at ts await.Connect o st p b n s j x = both-open (busy o) (busyOpened j.opened)
open_at ts await.Disconnect o st p b n s j x = both-open (busy o) (busyOpened j.opened)
open_at ts await.Get o st p b n s j x = both-open (busy o) (busyOpened j.opened)
open_at ts await.Reply o st p b n s j x = both-open (busy o) (busyOpened j.opened)
open_at ts await.Acknowledgement o st p b n s j x = both-open (busy o) (busyOpened j.opened)
open_at ts await.Password o st p b n s j x = both-open (busy o) (busyOpened j.opened)
open_at ts await.Nonce o st p b n s j x = both-open (busy o) (busyOpened j.opened)
open_at ts await.Credentials o st p b n s j x = both-open (busy o) (busyOpened j.opened)
open_at ts await.Body o st p b n s j x = both-open (busy o) (busyOpened j.opened)
open_at ts await.Nothing o st p b n s j x = both-open (busy o) (busyOpened j.opened)

-- ---- a run

run-open : (st : Settings) (xs : List Performed) (w : Known) (s : State) (j : Journal) → Between st w s j → Ran s xs
    → is_open_of (ran_to s xs).engine ≡ is_open_by (journal_after j (feed_from w j (seen st s xs))) (known_after w (seen st s xs)).waits
run-open st [] w s j b r =
    let e = s.engine in
    open_at s.tables e.awaits e.operation e.settings e.peer e.begun e.length s.stores j b.coupled
    ∙ ap (is_open_by j) (sym b.knows.waits)
run-open st (y ∷ xs) w s j b r =
    let l = lent_to s y in
    let c = between_on st w s j y.written r.0 b in
    run-open st xs (learns w y.call y.result.outcome) (next y) (journal_step j (fed_to st w l j c y r.1.0)).next
    (between_next st w l j c y r.1.0) r.1.1

pub opens-alike : OpensAlike
opens-alike st s h xs r = run-open st xs (at_start st) s (journal_of st) (start_between st s h) r

pub contracts_open : ContractsOpen
contracts_open st l s t u r xs a h = opens-alike st (state r t u) (accepted-started st l s t u r a) xs h
