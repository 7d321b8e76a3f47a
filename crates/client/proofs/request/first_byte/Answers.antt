-- `client::request::first_byte` meets its contract. The arms of the code are those of the definition. Assumes nothing.
use Rattle.client.proofs.request.first_byte.Goals as goal

pub returns-in-Put : goal.returns-in-Put
returns-in-Put c = simp (c.in-Put.is, c.to_byte.ensures)

pub returns-in-Get : goal.returns-in-Get
returns-in-Get c = simp (c.in-Get.is, c.to_byte-in-Get.ensures)
