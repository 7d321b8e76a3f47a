-- `filing::paths::leaf_of` meets its contract, by whether the place is the log. Assumes nothing.
use mathlib.Core.Path.{sym, ◌∙◌}
use Rattle.filing.proofs.paths.leaf_of.Goals as goal

pub returns : goal.returns
returns c =
    rw (sym c.is_log.ensures ∙ c.if-is_log.false) c.part_name.ensures
