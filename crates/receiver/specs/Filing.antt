-- How a filing comes out: the steps of the plan, each only if the one before went well (docs/ARCHIVE.md, "Filing a record"). A call of the system
-- answers 0 if it went well, and otherwise the number of an error.
use Rattle.std.specs.Prelude.{◌≡◌, Bool, true, false, List, [], ◌∷◌, take, replicate, ℤ, pos, Some, None}
use Rattle.incoming.specs.Gather.{Body}
use Rattle.base.specs.Pick.{pick}
use Rattle.files.specs.Errors.{is_error, is_full}
use Rattle.server.specs.declared.HostRequest.{HostRequest}
use Rattle.server.specs.declared.HostRequest.TheVariants as request
use Rattle.filing.specs.declared.plan.Filing.{Filing}
use Rattle.filing.specs.declared.plan.Step.{Step}
use Rattle.filing.specs.declared.plan.Step.TheVariants.{MakePart, WriteHeaders, WriteBody, WriteNote, SyncPart, SyncLog, Rename, SyncSession, Filed}
use Rattle.filing.specs.Plan.{plan_for, runs}
use Rattle.reception.specs.Received.{Course, forbidden, carried, told_by}
use Rattle.reception.specs.declared.answer.Answer.TheVariants as answer
use Rattle.reception.specs.declared.answer.Decision.{Decision}
use Rattle.reception.specs.declared.answer.Decision.TheVariants.{Make}
use Rattle.receiver.specs.declared.record.Outcome.{Outcome}
use Rattle.receiver.specs.declared.record.Tried.{Tried}

-- No step is left.
abbrev pub is_filed : Step → Bool
is_filed MakePart = false
is_filed WriteHeaders = false
is_filed WriteBody = false
is_filed WriteNote = false
is_filed SyncPart = false
is_filed SyncLog = false
is_filed Rename = false
is_filed SyncSession = false
is_filed Filed = true

-- Whether there is a body.
abbrev pub body_there : Body → Bool
body_there (Some n) = true
body_there None = false

-- What the steps answered that were carried out.
abbrev pub answers_of : Outcome → List ℤ
answers_of o = take o.count o.answers

-- Whether each step went well, by what it answered.
abbrev pub well_by : List ℤ → List Bool
well_by [] = []
well_by (e ∷ l) = is_error e 0 ∷ well_by l

-- Whether each step went well that was carried out.
abbrev pub outcomes_of : Outcome → List Bool
outcomes_of o = well_by (answers_of o)

-- The last answer; without one it is `e`.
abbrev pub last_answer : ℤ → List ℤ → ℤ
last_answer e [] = e
last_answer e (f ∷ l) = last_answer f l

-- The outcome is that of the plan for a record with a body or without, by what the steps answered; the error is the last answer, and it tells whether
-- there was no room.
pub record Carried (body : Bool) (o : Outcome) : Type 0 where
  pub filed : is_filed o.step ≡ (runs (plan_for body) (outcomes_of o)).filed
  pub last : last_answer o.error (answers_of o) ≡ o.error
  pub full : o.full ≡ is_full o.error

-- The outcome if no step was carried out.
abbrev pub not_begun : Step → ℤ → Outcome
not_begun s e = record { step = s; error = e; full = is_full e; count = 0; answers = replicate 8 (pos 0) }

-- What the code of the reply depends on.
abbrev pub filing_of : Outcome → Filing
filing_of o = record { filed = is_filed o.step; full = o.full }

-- ---- what is decided on a Put

-- What became of a record, as the theorem on receivers has it.
abbrev pub course_of : Tried → Course
course_of t = pick t.taken (carried (outcomes_of t.outcome) t.outcome.full) forbidden

-- A Put is answered with the code of what became of its record.
abbrev pub DecidesPut : Body → Tried → Decision → Type 0
DecidesPut b t d = d ≡ Make (answer.Reply (told_by (body_there b) (course_of t)))

-- What is decided on a request. What the system was asked for, and not a record, is its word alone.
abbrev pub DecidesOn : HostRequest → Tried → Decision → Type 0
DecidesOn (request.Put k b) t d = DecidesPut b t d
DecidesOn (request.Connect n) t d = Unit {0}
DecidesOn (request.Disconnect n) t d = Unit {0}
DecidesOn (request.SetPath n u c) t d = Unit {0}
DecidesOn (request.Abort n) t d = Unit {0}
DecidesOn (request.Get k) t d = Unit {0}
DecidesOn (request.Action k) t d = Unit {0}
DecidesOn (request.Session k) t d = Unit {0}
DecidesOn (request.UserDefined o k) t d = Unit {0}
DecidesOn (request.Password u) t d = Unit {0}
DecidesOn request.Nonce t d = Unit {0}
DecidesOn (request.Credentials n u r p) t d = Unit {0}
DecidesOn (request.Read n) t d = Unit {0}
