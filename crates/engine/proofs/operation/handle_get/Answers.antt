-- `engine::operation::handle_get` meets its contract: the tests of the code are those of the definition. Assumes nothing.
use Rattle.engine.specs.Operation.{get_plan}
use Rattle.engine.proofs.operation.handle_get.Goals as goal

pub returns-then-g : goal.returns-then-g
unfolding get_plan
returns-then-g c = simp (c.if-g.true, ← c.ends.ensures)

pub returns-then-flags : goal.returns-then-flags
unfolding get_plan
returns-then-flags c = simp (c.if-g.false, c.if-flags.true, ← c.asks.ensures)

pub returns-then-flags-2 : goal.returns-then-flags-2
unfolding get_plan
returns-then-flags-2 c = simp (c.if-g.false, c.if-flags.false, c.wants.ensures, c.if-flags-2.true)

pub returns : goal.returns
unfolding get_plan
returns c = simp (c.if-g.false, c.if-flags.false, c.if-flags-2.false, ← c.continues.ensures)
