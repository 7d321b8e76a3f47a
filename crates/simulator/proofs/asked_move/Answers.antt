-- `simulator::asked_move` meets its contract: of a body read the smaller of three numbers is given. Assumes nothing.
use Rattle.simulator.proofs.asked_move.Goals as goal

pub returns-in-Read : goal.returns-in-Read
returns-in-Read c = rw (c.smaller-in-Read.ensures, c.smaller.ensures, c.in-Read.is)
