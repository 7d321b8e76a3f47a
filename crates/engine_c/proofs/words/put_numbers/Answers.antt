-- `engine_c::words::put_numbers` meets its contract. The second number says whether there is a body. Assumes nothing.
use Rattle.engine_c.proofs.words.put_numbers.Goals as goal

pub returns-in-Some : goal.returns-in-Some
returns-in-Some c = simp (c.few.ensures, c.wide-in-Some.ensures, c.wide.ensures, c.in-Some.is)

pub returns-in-None : goal.returns-in-None
returns-in-None c = simp (c.few-in-None.ensures, c.wide-in-None.ensures, c.in-None.is)
