-- `client_c::words::is_ready` meets its contract: the number of the outcome decides. Assumes nothing.
use Rattle.client_c.proofs.words.is_ready.Goals as goal

pub returns : goal.returns
returns c = simp c.outcome_numbers-n.ensures
