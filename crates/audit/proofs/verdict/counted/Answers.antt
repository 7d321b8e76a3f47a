-- `audit::verdict::counted` meets its contract: the fields are those of the definition. Assumes nothing.
use Rattle.std.proofs.Common.{refl}
use Rattle.audit.proofs.verdict.counted.Goals as goal

pub returns : goal.returns
returns c =
    rw (
      c.plus-3.ensures,
      c.is_grave.ensures,
      c.plus-2.ensures,
      c.is_kept.ensures,
      c.plus.ensures,
    ) refl
