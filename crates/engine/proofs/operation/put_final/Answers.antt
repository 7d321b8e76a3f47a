-- `engine::operation::put_final` meets its contract: the test of the code is that of the definition. Assumes nothing.
use Rattle.engine.proofs.operation.put_final.Goals as goal

pub returns-then-g : goal.returns-then-g
returns-then-g c = simp (c.if-g.true, ← c.code.ensures)

pub returns : goal.returns
returns c = simp (c.if-g.false, ← c.put_body.ensures, ← c.asks.ensures)
