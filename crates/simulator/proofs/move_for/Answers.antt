-- `simulator::move_for` meets its contract: a request is decided by `asked_move`. Assumes nothing.
use Rattle.simulator.proofs.move_for.Goals as goal

pub returns-in-Request : goal.returns-in-Request
returns-in-Request c = rw (c.asked_move.ensures, c.in-Request.is)
