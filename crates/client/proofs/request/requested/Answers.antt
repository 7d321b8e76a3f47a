-- `client::request::requested` meets its contract. The arms of the code are those of the definition. Assumes nothing.
use Rattle.client.proofs.request.requested.Goals as goal

pub returns-in-Send : goal.returns-in-Send
returns-in-Send c =
    simp (c.in-Send.is, c.sends.ensures, c.requesting.ensures)

pub returns-in-Read : goal.returns-in-Read
returns-in-Read c =
    simp (c.in-Read.is, c.took.ensures, c.goes.ensures, c.requesting-in-Read.ensures)

pub returns-in-TooLarge : goal.returns-in-TooLarge
returns-in-TooLarge c = simp (c.in-TooLarge.is, c.ends.ensures)
