-- `audit::verdict::added` meets its contract: the fields are those of the definition. Assumes nothing.
use Rattle.std.proofs.Common.{refl}
use Rattle.audit.proofs.verdict.added.Goals as goal

pub returns : goal.returns
returns c =
    rw (
      c.wrapping_add_usize-3.ensures.value,
      c.wrapping_add_usize-2.ensures.value,
      c.wrapping_add_usize.ensures.value,
    ) refl
