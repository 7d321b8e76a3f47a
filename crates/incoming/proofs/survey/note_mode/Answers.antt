-- `incoming::survey::note_mode` meets its contract. The test is the definition's.
use Rattle.incoming.specs.Noted.{note_mode}
use Rattle.incoming.proofs.survey.note_mode.Goals as goal

pub returns-then-n : goal.returns-then-n
unfolding note_mode
returns-then-n c = simp c.if-n.true

pub returns : goal.returns
unfolding note_mode
returns c = simp c.if-n.false
