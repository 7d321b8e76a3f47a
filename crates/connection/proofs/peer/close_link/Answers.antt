-- `connection::peer::close_link` meets its contract: taking the Target out leaves the ids, which are closed then. Assumes nothing.
use Rattle.std.proofs.Common.{refl, arith}
use Rattle.table.proofs.Columns.{columns_front}
use Rattle.connection.specs.Peer.{closed_tables}
use Rattle.connection.proofs.peer.close_link.Goals as goal

pub returns : goal.returns
unfolding closed_tables
returns c =
    let m = c in
    let x = c.args in
    rw (
      c.close_id.ensures.value,
      c.close_id.ensures.store,
      c.close_targets.ensures,
      columns_front x.id x.count x.tables.now x.count (omega arith),
    ) (record { value = refl; store = refl })
