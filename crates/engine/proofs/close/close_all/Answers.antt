-- `engine::close::close_all` meets its contract: each turn closes one id more (`Closing`). Assumes nothing.
use Rattle.std.proofs.Common.{arith}
use Rattle.engine.proofs.Closes.{closing-begins, closing_on, closing-done}
use Rattle.engine.proofs.close.close_all.Goals as goal

pub loop-id-init : goal.loop-id-init
loop-id-init c = closing-begins c.args.ids.now c.args.count c.args.tables.now c.requires.0 c.requires.1

pub close_link-left-requires : goal.close_link-left-requires
close_link-left-requires c = (c.loop-id.invariant.few, c.loop-id.invariant.room)

pub loop-id-preserved : goal.loop-id-preserved
loop-id-preserved c =
    let k = c.close_link-left in
    let x = c.args in
    closing_on x.ids.now x.count x.tables.now c.loop-id.id-index c.loop-id.left _ c.loop-id.tables _ c.loop-id.invariant (omega arith)
    k.ensures.value k.ensures.store

pub returns : goal.returns
returns c =
    let x = c.args in
    closing-done x.ids.now x.count x.tables.now c.loop-id.id-index c.loop-id.left c.loop-id.tables c.loop-id.invariant c.loop-id-test.false
