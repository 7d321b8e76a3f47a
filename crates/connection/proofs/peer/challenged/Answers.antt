-- `connection::peer::challenged` meets its contract. Only the challenge, the authentication and the count of nonces change. Assumes nothing.
use Rattle.connection.specs.Peer.{peer_with}
use Rattle.connection.proofs.peer.challenged.Goals as goal

pub returns : goal.returns
unfolding peer_with
returns c = rw (c.counted.ensures, c.with_authentication.ensures)
