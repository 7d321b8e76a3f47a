-- `incoming::survey::note_parameter` meets its contract. The test is the definition's.
use Rattle.incoming.specs.Noted.{note_parameter}
use Rattle.incoming.proofs.survey.note_parameter.Goals as goal

pub returns-then-n : goal.returns-then-n
unfolding note_parameter
returns-then-n c = simp c.if-n.true

pub returns : goal.returns
unfolding note_parameter
returns c = simp (c.if-n.false, ← c.requests_additional_packet.ensures, ← c.requests_wait.ensures)
