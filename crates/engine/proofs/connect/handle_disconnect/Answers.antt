-- `engine::connect::handle_disconnect` meets its contract: a Disconnect closes the id that its packet names. Assumes nothing.
use Rattle.engine.proofs.Accepts.{replied-closing, replied-other}
use Rattle.engine.proofs.connect.handle_disconnect.Goals as goal

pub returns-then-not-same_await : goal.returns-then-not-same_await
returns-then-not-same_await c =
    let k = c.args in
    replied-other k.e k.packet.now k.tables.now _ c.same_await.ensures c.if-not-same_await.true

pub returns : goal.returns
returns c =
    let k = c.args in
    replied-closing k.e k.packet.now k.tables.now _ c.same_await.ensures c.if-not-same_await.false _ _ _
    c.last_from.ensures
    c.first_id.ensures c.disconnected.ensures
