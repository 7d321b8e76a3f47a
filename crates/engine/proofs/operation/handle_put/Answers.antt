-- `engine::operation::handle_put` meets its contract: the tests of the code are those of the definition. Assumes nothing.
use Rattle.engine.specs.Operation.{put_plan}
use Rattle.engine.proofs.operation.handle_put.Goals as goal

pub returns-then-g : goal.returns-then-g
unfolding put_plan
returns-then-g c = simp (c.if-g.true, ← c.ends.ensures)

pub returns-then-flags : goal.returns-then-flags
unfolding put_plan
returns-then-flags c = simp (c.if-g.false, c.if-flags.true, ← c.put_final.ensures)

pub returns : goal.returns
unfolding put_plan
returns c = simp (c.if-g.false, c.if-flags.false, ← c.put_continues.ensures)
