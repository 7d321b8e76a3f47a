-- `client::request::put_first` meets its contract. The byte is the one that `first_byte` gives. Assumes nothing.
use borrow.Enum.Refused.{opened}
use Rattle.client.proofs.Packets.{no_first}
use Rattle.client.proofs.request.put_first.Goals as goal

pub returns-in-Send : goal.returns-in-Send
returns-in-Send c = simp (c.in-Send.is, c.first_byte.ensures)

pub returns-in_default : goal.returns-in_default
returns-in_default c =
    let args = c.args in no_first args.next args.kind args.request.now (opened c.in_default.in_default-own.keys2)
