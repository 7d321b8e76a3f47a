-- `filing::content::check_row` meets its contract: the two bytes of a check, and zeros. Assumes nothing.
use mathlib.Core.Path.{refl}
use Rattle.filing.specs.Kinds.{check_pair}
use Rattle.filing.proofs.content.check_row.Goals as goal

pub returns : goal.returns
unfolding check_pair
returns c = rw (c.row_of.ensures, c.check_pair-pair.ensures) refl
