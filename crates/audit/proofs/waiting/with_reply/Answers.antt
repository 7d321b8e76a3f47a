-- `audit::waiting::with_reply` meets its contract: the fields are those of the definition. Assumes nothing.
use Rattle.std.proofs.Common.{refl}
use Rattle.audit.specs.Waiting.{waiting_with}
use Rattle.audit.proofs.waiting.with_reply.Goals as goal

pub returns : goal.returns
unfolding waiting_with
returns c = rw c.topped.ensures refl
