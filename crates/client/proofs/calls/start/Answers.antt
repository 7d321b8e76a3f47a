-- `client::calls::start` meets its contract. The stores decide. Assumes nothing.
use Rattle.client_model.specs.Step.{stores}
use Rattle.client.proofs.Called.{start-refused, start-goes}
use Rattle.client.proofs.calls.start.Goals as goal

pub returns-then-is_short : goal.returns-then-is_short
returns-then-is_short c =
    let args = c.args in
    let lent = stores args.packet.now args.headers.now args.body.now args.request.now in
    start-refused args.settings lent _ c.is_short.ensures _ _ c.if-is_short.true c.fresh.ensures
    c.refuse.ensures

pub returns : goal.returns
returns c =
    let args = c.args in
    let lent = stores args.packet.now args.headers.now args.body.now args.request.now in
    start-goes args.settings lent _ c.is_short.ensures _ _ c.if-is_short.false c.fresh-2.ensures c.took.ensures
