-- `connection::peer::disconnected` meets its contract. If it names no id, all is cleared; else that id is closed, by `close_link`. Assumes nothing.
use Rattle.connection.proofs.peer.disconnected.Goals as goal

pub returns-in_default : goal.returns-in_default
returns-in_default c = rw (c.in_default.is, c.cleared.ensures)

pub returns : goal.returns
returns c =
    let s = c in
    rw (c.in-Some.is, c.with_left.ensures, c.close_link-count.ensures.value, c.close_link-count.ensures.store)
