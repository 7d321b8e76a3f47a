-- The order in which a record is filed (docs/ARCHIVE.md, "Filing a record"). A step is carried out by calls of the operating system and comes out
-- well or not; the first that does not is the last. What a step does to a disk is not said here, since nothing here can say it.
use Rattle.std.specs.Prelude.{Bool, true, false, List, [], ◌∷◌, ℕ, zero, suc}
use Rattle.base.specs.Pick.{pick}
use Rattle.filing.specs.declared.plan.Step.{Step}
use Rattle.filing.specs.declared.plan.Step.TheVariants.{MakePart, WriteHeaders, WriteBody, WriteNote, SyncPart, SyncLog, Rename, SyncSession, Filed}

-- The plan for a record with a body, or without: then there is no file for one.
abbrev pub plan_for : Bool → List Step
plan_for true = MakePart ∷ WriteHeaders ∷ WriteBody ∷ WriteNote ∷ SyncPart ∷ SyncLog ∷ Rename ∷ SyncSession ∷ []
plan_for false = MakePart ∷ WriteHeaders ∷ WriteNote ∷ SyncPart ∷ SyncLog ∷ Rename ∷ SyncSession ∷ []

-- The step behind another: a record without a body has none that writes it.
abbrev pub next_step : Step → Bool → Step
next_step MakePart body = WriteHeaders
next_step WriteHeaders body = pick body WriteBody WriteNote
next_step WriteBody body = WriteNote
next_step WriteNote body = SyncPart
next_step SyncPart body = SyncLog
next_step SyncLog body = Rename
next_step Rename body = SyncSession
next_step SyncSession body = Filed
next_step Filed body = Filed

-- The list `l` behind the step `s`; nothing if the record is filed.
abbrev pub unless_filed : Step → List Step → List Step
unless_filed Filed l = []
unless_filed MakePart l = MakePart ∷ l
unless_filed WriteHeaders l = WriteHeaders ∷ l
unless_filed WriteBody l = WriteBody ∷ l
unless_filed WriteNote l = WriteNote ∷ l
unless_filed SyncPart l = SyncPart ∷ l
unless_filed SyncLog l = SyncLog ∷ l
unless_filed Rename l = Rename ∷ l
unless_filed SyncSession l = SyncSession ∷ l

-- At most `n` steps from `s` on, each behind the one before.
unfoldable pub steps_from : ℕ → Step → Bool → List Step
steps_from zero s body = []
steps_from (suc n) s body = unless_filed s (steps_from n (next_step s body) body)

-- How a plan came out.
pub record Ran : Type 0 where
  -- The steps that were carried out, in order.
  pub steps : List Step
  -- Whether these are all, and each went well.
  pub filed : Bool

-- Makes a `Ran`.
abbrev pub ran : List Step → Bool → Ran
ran l b = record { steps = l; filed = b }

-- The steps of a plan, by whether each goes well: the first that does not is the last.
unfoldable pub runs : List Step → List Bool → Ran
runs [] os = ran [] true
runs (s ∷ l) [] = ran [] false
runs (s ∷ l) (false ∷ os) = ran (s ∷ []) false
runs (s ∷ l) (true ∷ os) = ran (s ∷ (runs l os).steps) (runs l os).filed

-- The code of the answer to a Put: success exactly if the record is filed, and otherwise Database Full or Database Locked, which the engine
-- gives to no Put by itself. `full` says that a step failed for want of room.
abbrev pub code_for : Bool → Bool → ℕ
code_for filed full = pick filed 0x20 (pick full 0x60 0x61)
