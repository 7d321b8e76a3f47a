-- `headers_c::obex_header_put_bytes` meets its contract: it gives the answer of the writer of `packet` as numbers. Assumes nothing.
use mathlib.Core.Path.{ap}
use Rattle.headers_c.specs.Crossing.{given_putting}
use Rattle.headers_c.proofs.obex_header_put_bytes.Goals as goal

pub returns : goal.returns
returns c = rw c.answer_of.ensures (ap given_putting c.put_bytes.ensures)
