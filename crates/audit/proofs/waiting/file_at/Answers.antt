-- `audit::waiting::file_at` meets its contract: the fields are those of the definition. Assumes nothing.
use Rattle.std.proofs.Common.{refl, ap}
use Rattle.audit.specs.Waiting.{file_at}
use Rattle.lines.specs.Word.{Filled}
use Rattle.audit.proofs.waiting.file_at.Goals as goal

pub returns : goal.returns
unfolding file_at
returns c = rw (ap (λ (y : Filled). y.bytes) c.put.ensures.text) refl
