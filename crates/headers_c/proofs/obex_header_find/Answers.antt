-- `headers_c::obex_header_find` meets its contract: it gives the place that `first_header` finds as numbers. Assumes nothing.
use mathlib.Core.Path.{ap}
use Rattle.headers_c.specs.Crossing.{place_of}
use Rattle.headers_c.proofs.obex_header_find.Goals as goal

pub returns : goal.returns
returns c = rw c.place_of.ensures (ap place_of c.first_header.ensures)
