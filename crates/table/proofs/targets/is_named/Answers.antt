-- `table::targets::is_named` meets its contract: it is the definition's test. Assumes nothing.
use mathlib.Core.Path.{refl}
use Rattle.table.specs.Targets.{is_named}
use Rattle.table.proofs.targets.is_named.Goals as goal

pub returns : goal.returns
unfolding is_named
returns c = refl
