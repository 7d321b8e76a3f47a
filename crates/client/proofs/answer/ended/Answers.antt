-- `client::answer::ended` meets its contract. Each `return` rewrites with the tests that led there. Assumes nothing.
use Rattle.client.proofs.answer.ended.Goals as goal

pub returns-then-c : goal.returns-then-c
returns-then-c c = simp c.if-c.true

pub returns : goal.returns
returns c = simp c.if-c.false
