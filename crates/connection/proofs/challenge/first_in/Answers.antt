-- `connection::challenge::first_in` meets its contract. It is the definition's test. Assumes nothing.
use Rattle.connection.specs.Pieces.{first_in}
use Rattle.connection.proofs.challenge.first_in.Goals as goal

pub returns-then-not-is_readable : goal.returns-then-not-is_readable
unfolding first_in
returns-then-not-is_readable c = rw (← c.is_readable.ensures, c.if-not-is_readable.true)

pub returns : goal.returns
unfolding first_in
returns c = rw (← c.is_readable.ensures, c.if-not-is_readable.false) c.first_header.ensures
