-- `engine_c::words::challenge_numbers` meets its contract. The first number says whether a challenge is stored. Assumes nothing.
use Rattle.engine_c.proofs.words.challenge_numbers.Goals as goal

pub returns-in-Some : goal.returns-in-Some
returns-in-Some c = simp (c.few.ensures, c.in-Some.is)

pub returns-in-None : goal.returns-in-None
returns-in-None c = simp (c.few-in-None.ensures, c.in-None.is)
