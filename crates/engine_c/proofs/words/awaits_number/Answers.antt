-- `engine_c::words::awaits_number` meets its contract. It is the number that `await_number` gives. Assumes nothing.
use Rattle.engine_c.proofs.words.awaits_number.Goals as goal

pub returns : goal.returns
returns c = c.await_number.ensures
