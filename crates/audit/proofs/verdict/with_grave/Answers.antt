-- `audit::verdict::with_grave` meets its contract: the fields are those of the definition. Assumes nothing.
use Rattle.std.proofs.Common.{refl}
use Rattle.audit.proofs.verdict.with_grave.Goals as goal

pub returns : goal.returns
returns c = rw c.plus.ensures refl
