-- After a reply the engine waits for the word that it was sent, so the call that says so goes. Assumes nothing.
use mathlib.Core.Path.{◌≡◌, refl, sym, ap, ap₂, ◌∙◌}
use mathlib.Core.Bool.{Bool, true, false, ◌&&◌}
use mathlib.Core.List.{List, [], ◌∷◌, ◌++◌}
use Prim.Native.Nat.{ℕ}
use native.Mathlib.Omega.{arith}
use Rattle.base.specs.Pick.{pick}
use Rattle.journal.specs.Calls.{reply_taken_of, goes}
use Rattle.journal.specs.Journal.{Journal}
use Rattle.server.specs.declared.Settings.{Settings}
use Rattle.server.specs.declared.Await.{Await}
use Rattle.server.specs.declared.Await.TheVariants as await
use Rattle.server.specs.declared.CallKind.TheVariants as kind
use Rattle.server.specs.declared.End.TheVariants as end
use Rattle.server.specs.declared.Operation.{Operation}
use Rattle.server.specs.declared.Outcome.{Outcome}
use Rattle.server.specs.declared.Outcome.TheVariants as outcome
use Rattle.server.specs.declared.Refusal.TheVariants as refusal
use Rattle.model.specs.Step.{Done, Called, ends, limit_of}
use Rattle.model.specs.Guard.{same_await, fits}
use Rattle.model.specs.Object.{goes_on_of}
use Rattle.model.specs.Refusals.{taking, told, wait_number, Known, at_start, verdict_of}
use Rattle.model.specs.Runs.{State, next, step_of}
use Rattle.model.specs.Theorem.{journal_of}
use Rattle.model.proofs.Fit.{not_short, waits_of, Seated, is_sound}
use Rattle.model.proofs.Moments.{go_for, refuses, step_is}
use Rattle.model.proofs.Carries.{goes_on_carries}
use Rattle.model.proofs.Records.{Between, between_next, start_between}
use Rattle.filing.specs.Entries.{Handed}
use Rattle.reception.specs.Received.{handed_at}
use Rattle.reception.specs.Turns.{ReceiverTurn, turned, Turns, state_after, SentGoes}

reply_awaited : (a : Await) (o : Operation) → taking ≡ waits_of a o → fits kind.ReplyTaken a ≡ true
reply_awaited a o e = by a (ap wait_number e)
  where
    by : (x : Await) → 1 ≡ wait_number (waits_of x o) → fits kind.ReplyTaken x ≡ true
    by await.Taken n = refl
    by await.Last n = refl
    by await.Bytes n = absurd (omega (arith, n))
    by await.Connect n = absurd (omega (arith, n))
    by await.Disconnect n = absurd (omega (arith, n))
    by await.Get n = absurd (omega (arith, n))
    by await.Reply n = absurd (omega (arith, n))
    by await.Acknowledgement n = absurd (omega (arith, n))
    by await.Password n = absurd (omega (arith, n))
    by await.Nonce n = absurd (omega (arith, n))
    by await.Credentials n = absurd (omega (arith, n))
    by await.Body n = absurd (omega (arith, n))
    by await.Nothing n = absurd (omega (arith, n))

either_goes : (t : Bool) (a b : Done) → verdict_of a.outcome ≡ goes → verdict_of b.outcome ≡ goes → verdict_of (pick t a b).outcome ≡ goes
either_goes true a b f g = f
either_goes false a b f g = g

taken-goes : (s : State) → Seated s → fits kind.ReplyTaken s.engine.awaits ≡ true → verdict_of (step_of s reply_taken_of).took.outcome ≡ goes
taken-goes s h f =
    let e = s.engine in
    let st = s.stores in
    ap (λ (m : Called). verdict_of m.took.outcome)
    (step_is s reply_taken_of
    ∙ ap₂ (λ (x y : Bool). pick x (refuses refusal.StoreTooShort s) (pick y (go_for s reply_taken_of) (refuses refusal.WrongMoment s)))
    (not_short (limit_of e) st h.sits.base.room) (ap₂ (λ (x y : Bool). x && y) (is_sound e st h.sits) f))
    ∙ either_goes (same_await e.awaits await.Taken) (goes_on_of e.operation e st) (ends e e.peer end.OtherOperation st)
    (goes_on_carries false e st e.operation).goes refl

-- along the turns before the last one
after-turns : (st : Settings) (ts : List ReceiverTurn) (t : ReceiverTurn) (w : Known) (s : State) (j : Journal) (u : List Handed)
    → Between st w s j → Turns u s (ts ++ (t ∷ [])) → (n : ℕ) → (turned (state_after s ts) t).result.outcome ≡ outcome.Reply n
    → verdict_of (step_of (next (turned (state_after s ts) t)) reply_taken_of).took.outcome ≡ goes
after-turns st [] t w s j u b r n e =
    let d = between_next st w s j b (turned s t) (record { step = refl; octets = r.1.0 }) in
    let x = turned s t in
    taken-goes (next x) d.seated
    (reply_awaited x.result.engine.awaits x.result.engine.operation
    (ap (λ (v : Outcome). told w.waits v) (sym e) ∙ d.knows.waits))
after-turns st (v ∷ ts) t w s j u b r n e =
    let d = between_next st w s j b (turned s v) (record { step = refl; octets = r.1.0 }) in
    after-turns st ts t _ (next (turned s v)) _ (handed_at (turned s v)) d r.1.1 n e

pub sent-goes : SentGoes
sent-goes st s h ts t r n e = after-turns st ts t (at_start st) s (journal_of st) [] (start_between st s h) r n e
