-- `client::answer::continued_way` meets its contract. Each `return` rewrites with the tests that led there. Assumes nothing.
use Rattle.client.specs.Answer.{continued_way}
use Rattle.client.proofs.answer.continued_way.Goals as goal

pub returns-then-c : goal.returns-then-c
unfolding continued_way
returns-then-c c = simp c.if-c.true

pub returns : goal.returns
unfolding continued_way
returns c = simp c.if-c.false
