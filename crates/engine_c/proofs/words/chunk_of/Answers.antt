-- `engine_c::words::chunk_of` meets its contract. Each field is a number of the operation. Assumes nothing.
use Rattle.engine_c.proofs.words.chunk_of.Goals as goal

pub returns : goal.returns
returns c = simp (c.size-3.ensures, c.size-2.ensures, c.size.ensures)
