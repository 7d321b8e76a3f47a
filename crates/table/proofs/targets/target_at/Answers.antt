-- `table::targets::target_at` meets its contract: the three numbers are the definition's. Assumes nothing.
use mathlib.Core.Path.{refl}
use Rattle.table.specs.Targets.{target_at}
use Rattle.table.proofs.targets.target_at.Goals as goal

pub returns : goal.returns
unfolding target_at
returns c = refl
