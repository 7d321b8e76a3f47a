-- `client::answer::way_of` meets its contract. The arms of the code are those of the definition. Assumes nothing.
use Rattle.client.proofs.answer.way_of.Goals as goal

pub returns-in-Connecting : goal.returns-in-Connecting
returns-in-Connecting c = simp (c.in-Connecting.is, c.took.ensures, c.connected.ensures)

pub returns-in-Disconnecting : goal.returns-in-Disconnecting
returns-in-Disconnecting c =
    simp (c.in-Disconnecting.is, c.took-in-Disconnecting.ensures, c.disconnected.ensures)

pub returns-in-Requesting : goal.returns-in-Requesting
returns-in-Requesting c = simp (c.in-Requesting.is, c.request_way.ensures)

pub returns-in-Receiving : goal.returns-in-Receiving
returns-in-Receiving c = simp (c.in-Receiving.is, c.received_way.ensures)

pub returns-in-Aborting : goal.returns-in-Aborting
returns-in-Aborting c = simp (c.in-Aborting.is, c.over.ensures)

pub returns-in-Nothing : goal.returns-in-Nothing
returns-in-Nothing c = simp (c.in-Nothing.is, c.ends.ensures)
