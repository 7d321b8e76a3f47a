-- `audit::waiting::with_code` meets its contract: the fields are those of the definition. Assumes nothing.
use Rattle.std.proofs.Common.{refl}
use Rattle.audit.specs.Waiting.{waiting_with}
use Rattle.audit.proofs.waiting.with_code.Goals as goal

pub returns : goal.returns
unfolding waiting_with
returns c = refl
