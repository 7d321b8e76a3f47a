-- The turns of a receiver. In a turn the record that waits, if one does, is filed, a decision is made and with it one call, and what is to be
-- noted of the call is noted. The claim: however many turns there are, they are a run of a receiver, and the log is that of the run.
use Rattle.std.specs.Prelude.{ℕ, List, [], ◌∷◌, ◌++◌, ◌≡◌, take}
use Rattle.base.specs.Pick.{pick}
use Rattle.journal.specs.Calls.{Call, reply_given_of, reply_taken_of, goes}
use Rattle.server.specs.declared.Await.TheVariants as await
use Rattle.server.specs.declared.Outcome.TheVariants as outcome
use Rattle.server.specs.declared.Settings.{Settings}
use Rattle.model.specs.Guard.{same_await}
use Rattle.model.specs.Step.{Called}
use Rattle.model.specs.Runs.{State, Performed, performed, next, OffersOctets, step_of, Ran, Started}
use Rattle.model.specs.Refusals.{verdict_of}
use Rattle.model.specs.Theorem.{journal_of}
use Rattle.filing.specs.Entries.{LogEntry, Handed, Joins}
use Rattle.reception.specs.Answers.{call_of}
use Rattle.reception.specs.Received.{notes, handed_at, Attempt, code_told, Received}
use Rattle.reception.specs.Notes.{pending, logged_at}
use Rattle.reception.specs.declared.answer.Answer.{Answer}

-- A turn: the attempts at filing what waited, the decision, and the bytes that go with it.
pub record ReceiverTurn : Type 0 where
  pub attempts : List Attempt
  pub answer : Answer
  pub lent : List ℕ

-- The call of a turn.
abbrev pub call_in : ReceiverTurn → Call
call_in t = call_of t.answer t.lent

-- The call as it is performed on the state `s`: the model's step.
abbrev pub performed_by : State → Call → Called → Performed
performed_by s c m = performed [] c m.took m.stores m.tables

abbrev pub turned : State → ReceiverTurn → Performed
turned s t = performed_by s (call_in t) (step_of s (call_in t))

-- What may be done if the records `w` wait: a record is filed, and the call answers with the attempt's code.
pub data Decided : List Handed → List Attempt → Call → Type 0 where
  free : (c : Call) → Decided [] [] c
  filed : (a : Attempt) (c : Call) → c ≡ reply_given_of (code_told a) [] → Decided (a.handed ∷ []) (a ∷ []) c

-- Turns from the state `s` on, before which the records `w` wait.
abbrev pub Turns : List Handed → State → List ReceiverTurn → Type 0
Turns w s [] = Unit {0}
Turns w s (t ∷ ts) =
    Decided w t.attempts (call_in t) × (OffersOctets (call_in t) × Turns (handed_at (turned s t)) (next (turned s t)) ts)

-- The calls of some turns.
abbrev pub calls_made : State → List ReceiverTurn → List Performed
calls_made s [] = []
calls_made s (t ∷ ts) = turned s t ∷ calls_made (next (turned s t)) ts

-- All attempts, in order.
abbrev pub attempts_of : List ReceiverTurn → List Attempt
attempts_of [] = []
attempts_of (t ∷ ts) = t.attempts ++ attempts_of ts

-- The state after some turns, and the records that wait then.
abbrev pub state_after : State → List ReceiverTurn → State
state_after s [] = s
state_after s (t ∷ ts) = state_after (next (turned s t)) ts

abbrev pub waits_after : List Handed → State → List ReceiverTurn → List Handed
waits_after w s [] = w
waits_after w s (t ∷ ts) = waits_after (handed_at (turned s t)) (next (turned s t)) ts

-- What is in the log.
abbrev pub entries_made : State → List ReceiverTurn → List LogEntry
entries_made s [] = []
entries_made s (t ∷ ts) = logged_at s t.answer (turned s t) ++ entries_made (next (turned s t)) ts

-- The bytes of a packet that goes on, which the log has not yet.
unfoldable pub held_in : State → List ℕ
held_in s = pick (same_await s.engine.awaits await.Bytes) (take s.engine.begun s.stores.packet) []

-- ---- the claims

-- What holds of some turns.
pub record Receives (st : Settings) (s : State) (ts : List ReceiverTurn) : Type 0 where
  pub ran : Ran s (calls_made s ts)
  pub received : Received [] (calls_made s ts) (attempts_of ts) (waits_after [] s ts)
  pub joins : Joins (journal_of st) (notes s (calls_made s ts)) (entries_made s ts ++ pending (held_in (state_after s ts)))

-- Turns from an accepted start are a run of a receiver, and its log has the entries of that run, with the pieces of packets joined.
abbrev pub TurnsReceive : Type 0
TurnsReceive = (st : Settings) (s : State) → Started st s → (ts : List ReceiverTurn) → Turns [] s ts → Receives st s ts

-- One turn more adds one call, its entries and its attempts.
pub record Adds (s : State) (ts : List ReceiverTurn) (t : ReceiverTurn) : Type 0 where
  pub turns : Turns [] s (ts ++ (t ∷ []))
  pub run : calls_made s (ts ++ (t ∷ [])) ≡ calls_made s ts ++ (turned (state_after s ts) t ∷ [])
  pub attempts : attempts_of (ts ++ (t ∷ [])) ≡ attempts_of ts ++ t.attempts
  pub entries : entries_made s (ts ++ (t ∷ [])) ≡ entries_made s ts ++ logged_at (state_after s ts) t.answer (turned (state_after s ts) t)
  pub state : state_after s (ts ++ (t ∷ [])) ≡ next (turned (state_after s ts) t)
  pub waits : waits_after [] s (ts ++ (t ∷ [])) ≡ handed_at (turned (state_after s ts) t)

abbrev pub TurnAdds : Type 0
TurnAdds =
    (s : State) (ts : List ReceiverTurn) (t : ReceiverTurn) → Turns [] s ts → Decided (waits_after [] s ts) t.attempts (call_in t)
    → OffersOctets (call_in t)
    → Adds s ts t

-- A reply that was written may be noted before the engine hears of it: the call that says so goes.
abbrev pub SentGoes : Type 0
SentGoes =
    (st : Settings) (s : State) → Started st s → (ts : List ReceiverTurn) (t : ReceiverTurn) → Turns [] s (ts ++ (t ∷ [])) → (n : ℕ)
    → (turned (state_after s ts) t).result.outcome ≡ outcome.Reply n
    → verdict_of (step_of (next (turned (state_after s ts) t)) reply_taken_of).took.outcome ≡ goes
