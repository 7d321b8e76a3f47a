-- `audit::entry::records_after` meets its contract: its tests are those of the definition. Assumes nothing.
use Rattle.std.proofs.Common.{refl}
use Rattle.audit.specs.Taken.{records_after}
use Rattle.audit.proofs.entry.records_after.Goals as goal

pub returns-then-handed : goal.returns-then-handed
unfolding records_after
returns-then-handed c = rw c.if-handed.true c.wrapping_add_u32.ensures.value

pub returns : goal.returns
unfolding records_after
returns c = rw c.if-handed.false refl
