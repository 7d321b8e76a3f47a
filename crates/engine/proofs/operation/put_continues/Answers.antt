-- `engine::operation::put_continues` meets its contract: the tests of the code are those of the definition. Assumes nothing.
use Rattle.engine.proofs.operation.put_continues.Goals as goal

pub returns-then-flags-2 : goal.returns-then-flags-2
returns-then-flags-2 c = simp (c.if-flags.true, c.if-flags-2.true, ← c.continues.ensures)

pub returns-then-flags : goal.returns-then-flags
returns-then-flags c = simp (c.if-flags.true, c.if-flags-2.false, ← c.wants.ensures)

pub returns-then-g : goal.returns-then-g
returns-then-g c = simp (c.if-flags.false, c.if-g.true, c.code_keeping.ensures, c.overrun.ensures)

pub returns : goal.returns
returns c = simp (c.if-flags.false, c.if-g.false, ← c.continues-2.ensures)
