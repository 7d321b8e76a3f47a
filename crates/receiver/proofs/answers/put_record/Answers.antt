-- `receiver::answers::put_record` meets its contract: the code is that of the filing, which came out as the plan does. Assumes nothing.
use Rattle.std.proofs.Common.{ap, ◌∙◌}
use Rattle.reception.specs.declared.answer.Decision.TheVariants.{Make}
use Rattle.receiver.proofs.Deciding.{told_so}
use Rattle.receiver.proofs.answers.put_record.Goals as goal

pub returns : goal.returns
returns g c = ap Make (c.after_filing-answer.ensures ∙ told_so _ c.is_taken-is_taken.result _ _ c.filing_of.ensures c.file-done.ensures)
