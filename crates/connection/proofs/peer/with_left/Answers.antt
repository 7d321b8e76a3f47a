-- `connection::peer::with_left` meets its contract: the definition asks the same of the count. Assumes nothing.
use Rattle.std.proofs.Common.{eq-eqb, ne_eqb}
use Rattle.connection.specs.Peer.{peer_with}
use Rattle.connection.proofs.peer.with_left.Goals as goal

pub returns-then-count-eq0 : goal.returns-then-count-eq0
returns-then-count-eq0 c = rw (eq-eqb _ _ c.if-count-eq0.true) c.cleared.ensures

pub returns : goal.returns
unfolding peer_with
returns c = rw (ne_eqb _ _ c.if-count-eq0.false)
