-- `filing::conf::flags_said` meets its contract, flag by flag. Assumes nothing.
use mathlib.Core.Path.{refl}
use Rattle.filing.proofs.conf.flags_said.Goals as goal

pub returns : goal.returns
returns c =
    rw (
      c.is_said.ensures,
      c.is_said-2.ensures,
      c.is_user_asked.ensures,
      c.is_said-3.ensures,
      c.is_said-4.ensures,
      c.is_said-5.ensures,
    ) refl
