-- `table::targets::close_targets` meets its contract: the columns are closed one after the other. Assumes nothing.
use mathlib.Core.Path.{refl}
use Rattle.table.specs.Targets.{targets_closed}
use Rattle.table.proofs.targets.close_targets.Goals as goal

pub returns : goal.returns
unfolding targets_closed
returns c =
    let third = c in
    let second = c in
    let first = c in
    rw (c.close_column-3.ensures, c.close_column-2.ensures, c.close_column.ensures) refl
