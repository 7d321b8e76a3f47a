-- `connection::peer::with_id` meets its contract. Only the count, the counter and SRM change. Assumes nothing.
use Rattle.std.proofs.Common.{refl}
use Rattle.connection.specs.Peer.{peer_with}
use Rattle.connection.proofs.peer.with_id.Goals as goal

pub returns : goal.returns
unfolding peer_with
returns c = refl
