-- `archive_c::archive_write` meets its contract: it gives the number of what `archive::block::write` answers. Assumes nothing.
use mathlib.Core.Path.{ap}
use Rattle.archive_c.specs.Told.{told_writing}
use Rattle.archive_c.proofs.archive_write.Goals as goal

pub returns : goal.returns
returns c = rw c.wrote_number.ensures (ap told_writing c.write.ensures)
