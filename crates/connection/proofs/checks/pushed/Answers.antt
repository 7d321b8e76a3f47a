-- `connection::checks::pushed` meets its contract. The highest bit is dropped before the others move up, so nothing wraps. Assumes nothing.
use Rattle.std.proofs.Common.{arith}
use Rattle.connection.proofs.checks.pushed.Goals as goal

pub returns-then-wrong : goal.returns-then-wrong
returns-then-wrong c = rw c.if-wrong.true (omega arith)

pub returns-else-wrong : goal.returns-else-wrong
returns-else-wrong c = rw c.if-wrong.false (omega arith)
