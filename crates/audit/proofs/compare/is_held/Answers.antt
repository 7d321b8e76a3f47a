-- `audit::compare::is_held` meets its contract: its tests are those of the definition. Assumes nothing.
use Rattle.std.proofs.Common.{refl}
use Rattle.audit.proofs.compare.is_held.Goals as goal

pub returns-then-not-is_there : goal.returns-then-not-is_there
returns-then-not-is_there c = rw c.if-not-is_there.true refl

pub returns : goal.returns
returns c = rw c.if-not-is_there.false c.is_equal.ensures
