-- `connection::peer::with_srm` meets its contract. Only SRM changes. Assumes nothing.
use Rattle.std.proofs.Common.{refl}
use Rattle.connection.specs.Peer.{peer_with}
use Rattle.connection.proofs.peer.with_srm.Goals as goal

pub returns : goal.returns
unfolding peer_with
returns c = refl
