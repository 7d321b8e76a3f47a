-- `engine::operation::handle_headers_only` meets its contract: the tests of the code are those of the definition. Assumes nothing.
use Rattle.engine.specs.Operation.{headers_plan}
use Rattle.engine.proofs.operation.handle_headers_only.Goals as goal

pub returns-then-g : goal.returns-then-g
unfolding headers_plan
returns-then-g c = simp (c.if-g.true, ← c.ends.ensures)

pub returns-then-is_final : goal.returns-then-is_final
unfolding headers_plan
returns-then-is_final c = simp (c.if-g.false, c.if-is_final.true, ← c.headers_request.ensures, ← c.asks.ensures)

pub returns : goal.returns
unfolding headers_plan
returns c = simp (c.if-g.false, c.if-is_final.false, ← c.continues.ensures)
