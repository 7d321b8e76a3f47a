-- `reception::note::note_for` meets its contract: the test is the definition's. Assumes nothing.
use mathlib.Core.Path.{sym, ◌∙◌}
use Rattle.reception.proofs.note.note_for.Goals as goal

pub returns-then-is_refused : goal.returns-then-is_refused
returns-then-is_refused c = rw (sym c.is_refused.ensures ∙ c.if-is_refused.true)

pub returns : goal.returns
returns c = rw (sym c.is_refused.ensures ∙ c.if-is_refused.false) c.note_by.ensures
