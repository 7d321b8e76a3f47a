-- `filing::entry::entry_in` meets its contract. The arms of the code are those of the definition. Assumes nothing.
use Rattle.filing.proofs.entry.entry_in.Goals as goal

pub returns-in-Sent : goal.returns-in-Sent
returns-in-Sent c = simp (c.in-Sent.is, c.byte_at-b.ensures)

pub returns-in-Answ : goal.returns-in-Answ
returns-in-Answ c = simp (c.in-Answ.is, c.byte_at-b.ensures)

pub returns-in-Pass : goal.returns-in-Pass
returns-in-Pass c = simp (c.in-Pass.is, c.byte_at-b.ensures)

pub returns-in-Done : goal.returns-in-Done
returns-in-Done c = simp (c.in-Done.is, c.end_read.ensures, c.byte_at-b.ensures)
