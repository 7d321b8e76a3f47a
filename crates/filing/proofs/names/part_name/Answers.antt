-- `filing::names::part_name` meets its contract: the record's name, and five bytes behind it. Assumes nothing.
use mathlib.Core.Path.{refl}
use Rattle.calendar.specs.Time.{decimal}
use Rattle.filing.specs.Names.{record_name, part_name}
use Rattle.filing.proofs.names.part_name.Goals as goal

pub returns : goal.returns
unfolding part_name record_name decimal
returns c = rw c.record_name-name.ensures refl
