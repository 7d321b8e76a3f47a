-- `audit::compare::is_equal` meets its contract: pieces of two lengths differ. Assumes nothing.
use Rattle.std.proofs.Common.{sym}
use Rattle.audit.proofs.Differ.{unlike}
use Rattle.audit.proofs.compare.is_equal.Goals as goal

pub returns-then-a-b : goal.returns-then-a-b
returns-then-a-b c = sym (unlike c.args.a.now c.args.b.now c.if-a-b.true)
