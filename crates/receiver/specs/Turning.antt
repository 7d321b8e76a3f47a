-- What a turn of the program is: the call of a decision, which is the model's step, after what waited was filed. And a run of turns, of which the
-- theorem on receivers speaks.
use Rattle.std.specs.Prelude.{◌≡◌, ℕ, List, [], ◌∷◌}
use Rattle.server.specs.declared.CallResult.{CallResult}
use Rattle.server.specs.declared.Settings.{Settings}
use Rattle.model.specs.Step.{Stores, stepped, called}
use Rattle.model.specs.Runs.{State, Says, Started}
use Rattle.filing.specs.Entries.{Handed}
use Rattle.reception.specs.declared.answer.Answer.{Answer}
use Rattle.reception.specs.Answers.{call_of, lending}
use Rattle.reception.specs.Received.{Attempt, handed_with}
use Rattle.reception.specs.Turns.{ReceiverTurn, Decided, Turns, state_after, waits_after, Receives}
use Rattle.receiver.specs.Filing.{course_of}
use Rattle.receiver.specs.declared.record.Tried.{Tried}
use Rattle.receiver.specs.declared.turn.Receiving.{Receiving}

-- The attempts at filing the records that waited, which are one at most.
abbrev pub attempts_by : Tried → List Handed → List Attempt
attempts_by t [] = []
attempts_by t (h ∷ l) = record { handed = h; course = course_of t } ∷ attempts_by t l

-- A turn from where the last call returned `before` and left the stores `s` and the tables `t`, to where the session stands as `r` says, with the
-- stores `u` and the tables `v`.
pub data Turned (before : CallResult) (s : Stores) (t : List ℕ) (r : Receiving) (u : Stores) (v : List ℕ) : Type 0 where
  -- A call was made of the decision `a`, with the bytes `lent`. If a record waited, the call answers with the code of what became of it.
  made : (a : Answer) (lent : List ℕ) → Decided (handed_with before s) (attempts_by r.tried (handed_with before s)) (call_of a lent)
      → Says (lending before.engine s t) (call_of a lent) (called (stepped r.took u) v)
      → Turned before s t r u v
  -- No call was made.
  quiet : r.took ≡ before → u ≡ s → v ≡ t → Turned before s t r u v

-- Turns from the state `s` on have led to where the session stands as `r` says, with the stores `u` and the tables `v`.
pub record Run (s : State) (r : Receiving) (u : Stores) (v : List ℕ) : Type 0 where
  pub turns : List ReceiverTurn
  pub right : Turns [] s turns
  pub state : state_after s turns ≡ lending r.took.engine u v
  pub waits : waits_after [] s turns ≡ handed_with r.took u

-- ---- the claim: from an accepted start, what the program's loop has made is a run of a receiver, and its log that of the run
abbrev pub RunReceives : Type 0
RunReceives =
    (st : Settings) (s : State) → Started st s → (r : Receiving) (u : Stores) (v : List ℕ) (h : Run s r u v) → Receives st s h.turns
