-- `incoming::survey::note_id` meets its contract. The test is the definition's.
use Rattle.incoming.specs.Noted.{note_id}
use Rattle.incoming.proofs.survey.note_id.Goals as goal

pub returns-then-n : goal.returns-then-n
unfolding note_id
returns-then-n c = simp c.if-n.true

pub returns : goal.returns
unfolding note_id
returns c = simp c.if-n.false
