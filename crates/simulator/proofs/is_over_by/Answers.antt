-- `simulator::is_over_by` meets its contract: a reply is the last if it is not Continue. Assumes nothing.
use Rattle.simulator.proofs.is_over_by.Goals as goal

pub returns-in-Take : goal.returns-in-Take
returns-in-Take c = rw c.in-Take.is
