-- `receiver::record::file_steps` meets its contract: the plan was carried out, or no step of it was. Assumes nothing.
use Rattle.std.proofs.Common.{refl}
use Rattle.filing.specs.declared.plan.Step.TheVariants.{SyncLog, WriteBody, WriteNote}
use Rattle.receiver.proofs.Deciding.{none-carried}
use Rattle.receiver.proofs.record.file_steps.Goals as goal

pub returns-then-log-ne0 : goal.returns-then-log-ne0
returns-then-log-ne0 g c = none-carried _ SyncLog _ _ c.not_begun.ensures refl

pub returns-in_default : goal.returns-in_default
returns-in_default g c = none-carried _ WriteBody _ _ c.not_begun-in_default.ensures refl

pub returns-in_default-put_note : goal.returns-in_default-put_note
returns-in_default-put_note g c = none-carried _ WriteNote _ _ c.not_begun-in_default-put_note.ensures refl
