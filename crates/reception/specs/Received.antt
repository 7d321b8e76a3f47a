-- A run of a receiver: calls of which only the contracts are known, what is noted of each in the log, and the attempts at filing, one for each
-- record that is handed over, whose code is the answer. And what is claimed of it.
use Rattle.std.specs.Prelude.{ℕ, ◌%◌, ◌≡◌, ◌⊎◌, Bool, true, false, List, [], ◌∷◌, ◌++◌, map, eqb, get_or, take}
use Rattle.std.proofs.Math.Option.{Option, none, some}
use Rattle.digest.specs.Md5.{octets16}
use Rattle.packet.specs.ResponseCodes as response
use Rattle.table.specs.Targets.{target_bytes}
use Rattle.journal.specs.Calls.{Call, bytes_offered_of, stream_ended_of, reply_taken_of, reply_given_of, object_given_of, body_given_of, body_failed_of, abort_acknowledged_of, password_given_of, nonce_given_of, credentials_given_of, connections_closed_of, Verdict, goes, refused}
use Rattle.journal.specs.Journal.{packets}
use Rattle.journal.specs.Naming.{unnamed}
use Rattle.server.specs.declared.Settings.{Settings}
use Rattle.server.specs.declared.CallResult.{CallResult}
use Rattle.model.specs.Step.{Stores}
use Rattle.model.specs.Refusals.{verdict_of}
use Rattle.model.specs.Runs.{State, Performed, next, lent_to, Ran, handed, Started}
use Rattle.model.specs.Theorem.{journal_of, fed, Kept}
use Rattle.filing.specs.Plan.{plan_for, runs, code_for}
use Rattle.filing.specs.Entries.{LogEntry, received, sent, answered, object, checked, nonce, closed, ended, Handed, handed_under, log_handed, journal_handed, Joins}
use Rattle.filing.specs.Claims.{Well}

-- ---- what is noted of a call, by what the receiver sees

-- Whether the last check of a password was right: the lowest bit of the engine's window is clear.
unfoldable pub last_right : ℕ → Bool
last_right w = eqb (w % 2) 0

-- What is noted of a call that goes, with the first byte of the reply that waited: of the client's bytes those that were taken.
abbrev pub noted_of : Call → ℕ → CallResult → List LogEntry
noted_of (bytes_offered_of i) b r = received (take r.taken i) ∷ []
noted_of stream_ended_of b r = ended ∷ []
noted_of reply_taken_of b r = sent b ∷ []
noted_of (reply_given_of code hs) b r = answered code hs ∷ []
noted_of (object_given_of hs has) b r = object ∷ []
noted_of (body_given_of d) b r = []
noted_of body_failed_of b r = []
noted_of abort_acknowledged_of b r = []
noted_of (password_given_of p) b r = checked (last_right r.engine.peer.window) ∷ []
noted_of (nonce_given_of n l) b r = nonce (octets16 n) ∷ []
noted_of (credentials_given_of c) b r = []
noted_of (connections_closed_of l) b r = closed l ∷ []

-- Nothing is noted of a call that was refused.
abbrev pub noted_by : Verdict → Call → ℕ → CallResult → List LogEntry
noted_by (refused n) c b r = []
noted_by goes c b r = noted_of c b r

-- What is noted of a call that was lent the state `s`.
abbrev pub noted_at : State → Performed → List LogEntry
noted_at s x = noted_by (verdict_of x.result.outcome) x.call (get_or s.stores.reply 0 0) x.result

-- What is noted of a run from the state `s`.
abbrev pub notes : State → List Performed → List LogEntry
notes s [] = []
notes s (x ∷ xs) = noted_at (lent_to s x) x ++ notes (next x) xs

-- ---- filing

-- The records that a call hands over, by what it returned and left, under the Target that the request names.
abbrev pub handed_with : CallResult → Stores → List Handed
handed_with r s = handed_under (target_bytes r.engine.target) (handed r.outcome s)

abbrev pub handed_at : Performed → List Handed
handed_at x = handed_with x.result x.stores

-- What became of a record: under its Target none is taken, or the steps of its plan were carried out, each well or not, and the disk was full
-- or not.
pub data Course : Type 0 where
  forbidden : Course
  carried : List Bool → Bool → Course

-- An attempt at filing a record.
pub record Attempt : Type 0 where
  pub handed : Handed
  pub course : Course

-- Whether there is a body.
abbrev pub is_there : Option (List ℕ) → Bool
is_there none = false
is_there (some b) = true

-- Whether a record has a body.
abbrev pub brings_body : Handed → Bool
brings_body h = is_there h.given.body

-- The code that a course leads to, for a record with a body or without.
abbrev pub told_by : Bool → Course → ℕ
told_by body forbidden = response.forbidden
told_by body (carried outcomes full) = code_for (runs (plan_for body) outcomes).filed full

-- The code that an attempt leads to.
abbrev pub code_told : Attempt → ℕ
code_told a = told_by (brings_body a.handed) a.course

-- Every step of the plan was carried out, and went well.
abbrev pub WellBy : Bool → Course → Type 0
WellBy body forbidden = ⊥
WellBy body (carried outcomes full) = Well (plan_for body) outcomes

-- Calls and attempts of a receiver, with the records that wait before them and those that wait afterwards: a record that is handed over is
-- filed before the next call, and that call answers with the attempt's code.
pub data Received : List Handed → List Performed → List Attempt → List Handed → Type 0 where
  -- No call follows, and what waits still waits.
  over : {w : List Handed} → Received w [] [] w
  -- No call follows the last attempt.
  tried : (a : Attempt) → Received (a.handed ∷ []) [] (a ∷ []) []
  call : (x : Performed) {xs : List Performed} {l : List Attempt} {w : List Handed} → Received (handed_at x) xs l w
      → Received [] (x ∷ xs) l w
  answer : (a : Attempt) (x : Performed) {xs : List Performed} {l : List Attempt} {w : List Handed} → x.call ≡ reply_given_of (code_told a) []
      → Received (handed_at x) xs l w → Received (a.handed ∷ []) (x ∷ xs) (a ∷ l) w

-- The attempt is in the list.
abbrev pub Among : Attempt → List Attempt → Type 0
Among a [] = ⊥
Among a (b ∷ l) = (a ≡ b) ⊎ Among a l

-- The records of some attempts, in their order.
abbrev pub attempted : List Attempt → List Handed
attempted l = map (λ (a : Attempt). a.handed) l

-- ---- the claim

-- What holds of a run of a receiver, with the attempts `l`, after which the records `w` wait.
pub record Files (st : Settings) (s : State) (xs : List Performed) (l : List Attempt) (w : List Handed) : Type 0 where
  -- What was to be filed is what the journal says is handed over: each record once, in order, with its Target.
  pub records : attempted l ++ w ≡ journal_handed (journal_of st) unnamed (fed st s xs)
  -- The log stands for the same, also with the pieces of packets joined.
  pub log : (es : List LogEntry) → Joins (journal_of st) (notes s xs) es → log_handed (journal_of st) unnamed es ≡ attempted l ++ w
  -- Success is told only if every step of the plan went well.
  pub sure : (a : Attempt) → Among a l → code_told a ≡ response.success → WellBy (brings_body a.handed) a.course

-- The claim, for every accepted start and every run of a receiver from there in which kept headers stay within 65,535 bytes.
abbrev pub ReceiverFiles : Type 0
ReceiverFiles =
    (st : Settings) (s : State) → Started st s → (xs : List Performed) → Ran s xs → (l : List Attempt) (w : List Handed) → Received [] xs l w
    → Kept (packets (journal_of st) (fed st s xs)) → Files st s xs l w
