-- `filing::note::hex_pair` meets its contract: the high digit and the low one. Assumes nothing.
use mathlib.Core.Path.{refl}
use Rattle.filing.proofs.note.hex_pair.Goals as goal

pub returns : goal.returns
returns c = rw (c.hex_digit-2.ensures, c.hex_digit.ensures, c.wide32-x.ensures.0) refl
