-- `engine_c::words::target_numbers` meets its contract. Each field is left as the number that the definition says. Assumes nothing.
use Rattle.engine_c.proofs.words.target_numbers.Goals as goal

pub returns : goal.returns
returns c = simp (c.few.ensures, c.wide.ensures)
