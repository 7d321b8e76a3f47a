-- `engine_c::words::credentials_numbers` meets its contract. The numbers are those that the definition says. Assumes nothing.
use Rattle.engine_c.proofs.words.credentials_numbers.Goals as goal

pub returns : goal.returns
returns c = simp (c.flag_number-2.ensures, c.flag_number.ensures, c.found_numbers-n.ensures)
