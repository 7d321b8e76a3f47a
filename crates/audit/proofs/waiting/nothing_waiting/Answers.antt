-- `audit::waiting::nothing_waiting` meets its contract: the fields are those of the definition. Assumes nothing.
use Rattle.std.proofs.Common.{refl}
use Rattle.audit.specs.Waiting.{waiting_with}
use Rattle.audit.proofs.waiting.nothing_waiting.Goals as goal

pub returns : goal.returns
unfolding waiting_with
returns c = rw (c.unnamed.ensures, c.no_file.ensures) refl
