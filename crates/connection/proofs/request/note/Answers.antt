-- `connection::request::note` meets its contract: each place is noted as the definition says.
use Rattle.connection.specs.Request.{noted_request}
use Rattle.connection.proofs.request.note.Goals as goal

pub returns : goal.returns
unfolding noted_request
returns c = simp (c.noted-4.ensures, c.noted-3.ensures, c.noted-2.ensures, c.noted.ensures)
