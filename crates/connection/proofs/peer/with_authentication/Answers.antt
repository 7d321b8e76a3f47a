-- `connection::peer::with_authentication` meets its contract. What stays is what the definition takes from the peer. Assumes nothing.
use Rattle.std.proofs.Common.{refl}
use Rattle.connection.specs.Peer.{peer_with}
use Rattle.connection.proofs.peer.with_authentication.Goals as goal

pub returns : goal.returns
unfolding peer_with
returns c = refl
