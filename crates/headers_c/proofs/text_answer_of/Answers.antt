-- `headers_c::text_answer_of` meets its contract: each case has its number. Assumes nothing.
use Rattle.headers_c.proofs.text_answer_of.Goals as goal

pub returns-in-Ok : goal.returns-in-Ok
returns-in-Ok c = simp c.in-Ok.is

pub returns-in-Err : goal.returns-in-Err
returns-in-Err c = simp c.in-Err.is
