-- `client::request::requests_next` meets its contract. The packet is that of `next_after`. Assumes nothing.
use Rattle.client_model.specs.Step.{stores}
use Rattle.client.proofs.Packets.{next-call}
use Rattle.client.proofs.request.requests_next.Goals as goal

pub returns : goal.returns
returns c =
    λ p b.
    let args = c.args in
    let lent = stores p args.headers.now b args.request.now in
    next-call args.c args.kind args.srm args.first args.o lent _ _ _ _ (c.requests.ensures lent)
    c.next_after-k.ensures c.capacity_of-capacity.ensures.0
