-- `audit::entry::fed` meets its contract: the fields are those of the definition. Assumes nothing.
use Rattle.std.proofs.Common.{refl}
use Rattle.audit.specs.Taken.{audit_with}
use Rattle.audit.proofs.entry.fed.Goals as goal

pub returns : goal.returns
unfolding audit_with
returns c =
    rw (
      c.done_after.ensures,
      c.records_after.ensures,
      c.is_handed.ensures,
      c.after.ensures,
    ) refl
