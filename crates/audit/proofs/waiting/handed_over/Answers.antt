-- `audit::waiting::handed_over` meets its contract: the fields are those of the definition. Assumes nothing.
use Rattle.std.proofs.Common.{refl}
use Rattle.audit.specs.Waiting.{waiting_with}
use Rattle.audit.proofs.waiting.handed_over.Goals as goal

pub returns : goal.returns
unfolding waiting_with
returns c = rw c.no_file.ensures refl
