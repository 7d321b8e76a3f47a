-- `client::answer::request_way` meets its contract. The arms of the code are those of the definition. Assumes nothing.
use Rattle.client.proofs.answer.request_way.Goals as goal

pub returns-in-Put : goal.returns-in-Put
returns-in-Put c =
    simp (c.in-Put.is, c.put_way.ensures, c.grants-granted.ensures)

pub returns-in-Get : goal.returns-in-Get
returns-in-Get c =
    simp (c.in-Get.is, c.get_way.ensures, c.grants-granted.ensures)
