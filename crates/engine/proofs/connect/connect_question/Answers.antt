-- `engine::connect::connect_question` meets its contract: its test is that of the definition. Assumes nothing.
use Rattle.engine.proofs.connect.connect_question.Goals as goal

pub returns-then-authentication : goal.returns-then-authentication
returns-then-authentication c = simp (c.if-authentication.true, c.verifies.ensures)

pub returns : goal.returns
returns c = simp c.if-authentication.false
