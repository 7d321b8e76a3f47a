-- `connection::peer::close_id` meets its contract. The numbers kept of those gone through stand in front (`Closed`), and what is still to
-- be read lies behind them. Assumes nothing.
use Rattle.std.proofs.Common.{◌≡◌, ◌≤◌, length}
use Rattle.connection.proofs.Closing.{Closed}
use Rattle.connection.proofs.peer.close_id.Given as goal

abbrev pub invariant-loop-i : goal.invariant-loop-i
invariant-loop-i l = (l.kept ≤ l.i) × (length l.ids ≡ length l.initial.ids) × Closed l.initial.ids l.id l.i l.ids l.kept
