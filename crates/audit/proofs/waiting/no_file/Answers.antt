-- `audit::waiting::no_file` meets its contract: the fields are those of the definition. Assumes nothing.
use Rattle.std.proofs.Common.{refl}
use Rattle.audit.specs.Waiting.{no_file}
use Rattle.audit.proofs.waiting.no_file.Goals as goal

pub returns : goal.returns
unfolding no_file
returns c = refl
