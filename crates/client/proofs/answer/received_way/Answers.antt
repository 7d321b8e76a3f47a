-- `client::answer::received_way` meets its contract. Each `return` rewrites with the tests that led there. Assumes nothing.
use borrow.Author.Tests.{eq-eqb, ne_eqb}
use Rattle.client.specs.Answer.{received_way}
use Rattle.client.proofs.answer.received_way.Goals as goal

pub returns-then-code-eq-CONTINUE : goal.returns-then-code-eq-CONTINUE
unfolding received_way
returns-then-code-eq-CONTINUE c = simp (eq-eqb _ _ c.if-code-eq-CONTINUE.true, c.more_way.ensures)

pub returns : goal.returns
unfolding received_way
returns c = simp (ne_eqb _ _ c.if-code-eq-CONTINUE.false, c.last_way.ensures)
