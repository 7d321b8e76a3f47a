-- `audit::entry::wrong` meets its contract: the fields are those of the definition. Assumes nothing.
use Rattle.std.proofs.Common.{refl}
use Rattle.audit.specs.Taken.{audit_with}
use Rattle.audit.proofs.entry.wrong.Goals as goal

pub returns : goal.returns
unfolding audit_with
returns c = refl
