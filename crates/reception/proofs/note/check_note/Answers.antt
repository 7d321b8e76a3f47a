-- `reception::note::check_note` meets its contract: both flags are those that are told. Assumes nothing.
use mathlib.Core.Bool.{Bool}
use mathlib.Core.Path.{ap₂}
use Rattle.reception.proofs.note.check_note.Goals as goal

pub returns : goal.returns
returns c = ap₂ (λ (a b : Bool). record { right = a; stopped = b }) c.is_last_right.ensures c.is_check_stopped.ensures
