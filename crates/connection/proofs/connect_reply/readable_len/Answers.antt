-- `connection::connect_reply::readable_len` meets its contract. It is the definition's test. Assumes nothing.
use Rattle.connection.proofs.connect_reply.readable_len.Goals as goal

pub returns-then-not-is_readable : goal.returns-then-not-is_readable
returns-then-not-is_readable c = rw (← c.is_readable.ensures, c.if-not-is_readable.true)

pub returns : goal.returns
returns c = rw (← c.is_readable.ensures, c.if-not-is_readable.false)
