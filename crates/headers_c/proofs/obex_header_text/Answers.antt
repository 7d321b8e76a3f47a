-- `headers_c::obex_header_text` meets its contract: it gives the answer of the reader of `text` as numbers. Assumes nothing.
use mathlib.Core.Path.{ap}
use Rattle.headers_c.specs.Crossing.{given_text}
use Rattle.headers_c.proofs.obex_header_text.Goals as goal

pub returns : goal.returns
returns c = rw c.text_answer_of.ensures (ap given_text c.decode_unicode.ensures)
