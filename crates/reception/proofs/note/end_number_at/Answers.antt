-- `reception::note::end_number_at` meets its contract: the test is the definition's. Assumes nothing.
use borrow.Author.Tests.{eq-eqb, ne_eqb}
use Rattle.reception.proofs.note.end_number_at.Goals as goal

pub returns-then-begun-eq0 : goal.returns-then-begun-eq0
returns-then-begun-eq0 c = simp (eq-eqb _ _ c.if-begun-eq0.true)

pub returns : goal.returns
returns c = simp (ne_eqb _ _ c.if-begun-eq0.false)
