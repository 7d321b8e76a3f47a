-- `archive_c::archive_read` meets its contract: it gives the number of what `archive::block::read` answers. Assumes nothing.
use mathlib.Core.Path.{ap}
use Rattle.archive_c.specs.Told.{told_reading}
use Rattle.archive_c.proofs.archive_read.Goals as goal

pub returns : goal.returns
returns c = rw c.body_number.ensures (ap told_reading c.read.ensures)
