-- `engine::operation::handle_gathered` meets its contract: the arms of the code are those of the definition. Assumes nothing.
use Rattle.engine.specs.Operation.{kind_plan}
use Rattle.engine.proofs.operation.handle_gathered.Goals as goal

pub returns-in-Put : goal.returns-in-Put
unfolding kind_plan
returns-in-Put c = simp (c.in-Put.is, c.handle_put.ensures)

pub returns-in-Get : goal.returns-in-Get
unfolding kind_plan
returns-in-Get c = simp (c.in-Get.is, c.handle_get.ensures)

pub returns-in-Headers : goal.returns-in-Headers
unfolding kind_plan
returns-in-Headers c = simp (c.in-Headers.is, c.handle_headers_only.ensures)
