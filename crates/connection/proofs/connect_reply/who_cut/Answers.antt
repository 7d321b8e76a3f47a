-- `connection::connect_reply::who_cut` meets its contract. Behind an id in front nothing stands before Who; else the first header does. Assumes nothing.
use Rattle.connection.proofs.connect_reply.who_cut.Goals as goal

pub returns-in-At : goal.returns-in-At
returns-in-At c = rw (c.in_default.is, ← c.header_at.ensures, c.in-At.is)

pub returns-in-Unreadable : goal.returns-in-Unreadable
returns-in-Unreadable c = rw (c.in_default.is, ← c.header_at.ensures, c.in-Unreadable.is)

pub returns-in-End : goal.returns-in-End
returns-in-End c = rw (c.in_default.is, ← c.header_at.ensures, c.in-End.is)
