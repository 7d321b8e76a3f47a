-- `client::request::requests` meets its contract. The packet gets its first byte, and what follows is decided without the store. Assumes nothing.
use Rattle.client.proofs.Packets.{made-call}
use Rattle.client.proofs.request.requests.Goals as goal

pub returns : goal.returns
returns c =
    let args = c.args in
    made-call args.c args.kind args.srm args.first args.k args.request.now _ _ c.requested.ensures
    c.put_first.ensures
