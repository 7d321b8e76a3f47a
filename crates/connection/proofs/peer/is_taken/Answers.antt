-- `connection::peer::is_taken` meets its contract. The reserved id is passed over before any is looked up. Assumes nothing.
use Rattle.std.proofs.Common.{eq-eqb, ne_eqb}
use Rattle.connection.proofs.peer.is_taken.Goals as goal

pub returns-then-id-eq-INVALID_ID : goal.returns-then-id-eq-INVALID_ID
returns-then-id-eq-INVALID_ID c = rw (eq-eqb c.args.id 0xFFFFFFFF c.if-id-eq-INVALID_ID.true)

pub returns-else-id-eq-INVALID_ID : goal.returns-else-id-eq-INVALID_ID
returns-else-id-eq-INVALID_ID c = rw (ne_eqb c.args.id 0xFFFFFFFF c.if-id-eq-INVALID_ID.false) c.is_open.ensures
