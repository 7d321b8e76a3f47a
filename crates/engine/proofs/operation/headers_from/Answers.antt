-- `engine::operation::headers_from` meets its contract: the arms of the code are those of the definition. Assumes nothing.
use Rattle.engine.proofs.operation.headers_from.Goals as goal

pub returns-in-Headers : goal.returns-in-Headers
returns-in-Headers c = simp (c.in-Headers.is, c.prefix_len.ensures)
