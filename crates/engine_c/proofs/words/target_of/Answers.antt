-- `engine_c::words::target_of` meets its contract. Each field is one of the three numbers. Assumes nothing.
use Rattle.engine_c.proofs.words.target_of.Goals as goal

pub returns : goal.returns
returns c = simp c.size.ensures
