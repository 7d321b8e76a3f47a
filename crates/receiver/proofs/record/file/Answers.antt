-- `receiver::record::file` meets its contract: the plan was carried out, or no step of it was. Assumes nothing.
use Rattle.std.proofs.Common.{refl}
use Rattle.filing.specs.declared.plan.Step.TheVariants.{MakePart}
use Rattle.receiver.proofs.Deciding.{none-carried}
use Rattle.receiver.proofs.record.file.Goals as goal

pub returns-then-not-is_named_record : goal.returns-then-not-is_named_record
returns-then-not-is_named_record g c = none-carried _ MakePart _ _ c.not_begun.ensures refl
