-- `engine::calls::start` meets its contract: what the guard says is the model's test, and the state is the one that the model names.
use Rattle.model.specs.Step.{stores}
use Rattle.engine.proofs.Objects.{start-refused, start-goes}
use Rattle.engine.proofs.calls.start.Goals as goal

pub returns-in-Err : goal.returns-in-Err
returns-in-Err c =
    let k = c.args in
    let s = stores k.packet.now k.headers.now k.body.now k.reply.now in
    start-refused k.settings k.realm.now s k.tables.now _ c.is_long_realm.ensures _ _ c.guard_start.ensures
    c.fresh.ensures _ c.in-Err.is _ c.refuse.ensures

pub returns : goal.returns
returns c =
    let k = c.args in
    let s = stores k.packet.now k.headers.now k.body.now k.reply.now in
    start-goes k.settings k.realm.now s k.tables.now _ c.is_long_realm.ensures _ _ c.guard_start.ensures
    c.fresh-2.ensures c.in_default.is
