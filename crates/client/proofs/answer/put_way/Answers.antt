-- `client::answer::put_way` meets its contract. Each `return` rewrites with the tests that led there. Assumes nothing.
use borrow.Author.Tests.{eq-eqb, ne_eqb}
use Rattle.client.specs.Answer.{put_way}
use Rattle.client.proofs.answer.put_way.Goals as goal

pub returns-then-last : goal.returns-then-last
unfolding put_way
returns-then-last c = simp (c.if-last.true, c.over.ensures)

pub returns-then-code-eq-CONTINUE : goal.returns-then-code-eq-CONTINUE
unfolding put_way
returns-then-code-eq-CONTINUE c =
    simp (c.if-last.false, eq-eqb _ _ c.if-code-eq-CONTINUE.true, c.continued_way.ensures)

pub returns : goal.returns
unfolding put_way
returns c = simp (c.if-last.false, ne_eqb _ _ c.if-code-eq-CONTINUE.false, c.over-2.ensures)
