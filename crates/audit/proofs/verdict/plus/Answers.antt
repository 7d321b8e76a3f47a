-- `audit::verdict::plus` meets its contract: its tests are those of the definition. Assumes nothing.
use Rattle.std.proofs.Common.{refl}
use Rattle.audit.specs.Verdict.{one_more}
use Rattle.audit.proofs.verdict.plus.Goals as goal

pub returns-then-b : goal.returns-then-b
unfolding one_more
returns-then-b c = rw c.if-b.true c.wrapping_add_usize.ensures.value

pub returns : goal.returns
unfolding one_more
returns c = rw c.if-b.false refl
