-- `reception::note::is_last_right` meets its contract: the lowest bit is the rest by two. Assumes nothing.
use mathlib.Core.Path.{refl}
use Rattle.reception.specs.Received.{last_right}
use Rattle.reception.proofs.note.is_last_right.Goals as goal

pub returns : goal.returns
unfolding last_right
returns c = refl
