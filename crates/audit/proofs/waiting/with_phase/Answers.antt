-- `audit::waiting::with_phase` meets its contract: the fields are those of the definition. Assumes nothing.
use Rattle.std.proofs.Common.{refl}
use Rattle.audit.specs.Waiting.{waiting_with}
use Rattle.audit.proofs.waiting.with_phase.Goals as goal

pub returns : goal.returns
unfolding waiting_with
returns c = refl
