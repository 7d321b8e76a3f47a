-- `connection::peer::with_check` meets its contract. Only the window changes. Assumes nothing.
use Rattle.connection.specs.Peer.{peer_with}
use Rattle.connection.proofs.peer.with_check.Goals as goal

pub returns : goal.returns
unfolding peer_with
returns c = rw c.pushed.ensures
