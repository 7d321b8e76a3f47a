-- `table::targets::close_column` meets its contract. The numbers kept of those gone through stand at the column's front (`Moved`), and what
-- is still to be read lies behind them. Assumes nothing.
use mathlib.Core.Path.{◌≡◌}
use Prim.Native.Nat.{◌≤◌}
use lib.ListN.{length}
use Rattle.table.proofs.Columns.{Moved}
use Rattle.table.proofs.targets.close_column.Given as goal

abbrev pub invariant-loop-i : goal.invariant-loop-i
invariant-loop-i l = (l.kept ≤ l.i) × (length l.tables ≡ length l.initial.tables) × Moved l.initial.tables l.at l.id l.i l.tables l.kept
