-- `filing::payload::check_pair` meets its contract: two bytes, each 1 or 0. Assumes nothing.
use mathlib.Core.Path.{refl}
use Rattle.filing.specs.Kinds.{check_pair}
use Rattle.filing.proofs.payload.check_pair.Goals as goal

pub returns : goal.returns
unfolding check_pair
returns c = rw (c.number.ensures.value, c.number-2.ensures.value) refl
