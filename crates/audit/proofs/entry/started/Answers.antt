-- `audit::entry::started` meets its contract: the fields are those of the definition. Assumes nothing.
use Rattle.std.proofs.Common.{refl}
use Rattle.audit.specs.Taken.{audit_with}
use Rattle.audit.proofs.entry.started.Goals as goal

pub returns : goal.returns
unfolding audit_with
returns c =
    rw (
      c.name_in.ensures,
      c.nothing_waiting.ensures,
      c.fresh.ensures,
      c.settings_of.ensures,
    ) refl
