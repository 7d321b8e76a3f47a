-- `connection::peer::limited` meets its contract. Only the limit changes. Assumes nothing.
use Rattle.connection.specs.Peer.{peer_with}
use Rattle.connection.proofs.peer.limited.Goals as goal

pub returns : goal.returns
unfolding peer_with
returns c = rw c.at_least_minimum.ensures
