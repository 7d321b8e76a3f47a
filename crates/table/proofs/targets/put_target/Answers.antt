-- `table::targets::put_target` meets its contract: the three stores are the definition's. Assumes nothing.
use mathlib.Core.Path.{refl}
use native.Mathlib.Omega.{arith}
use lib.ListN.{length-set}
use Rattle.table.specs.Targets.{target_set}
use Rattle.table.proofs.targets.put_target.Goals as goal

pub bounds-tables-place-2 : goal.bounds-tables-place-2
bounds-tables-place-2 c = simp length-set (omega arith)

pub bounds-tables-place-3 : goal.bounds-tables-place-3
bounds-tables-place-3 c = simp length-set (omega arith)

pub returns : goal.returns
unfolding target_set
returns c = refl
