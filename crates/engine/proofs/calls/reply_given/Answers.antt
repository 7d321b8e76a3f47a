-- `engine::calls::reply_given` meets its contract: the guard refuses as the model does; then the ways of the code are those of `reply_answer`.
-- Assumes nothing.
use mathlib.Core.Path.{ap, ◌∙◌}
use Rattle.connection.specs.Peer.{linked}
use Rattle.model.specs.Step.{stores, stepped, called}
use Rattle.model.specs.Guard.{refuse}
use Rattle.model.specs.Calls.{reply_given_step}
use Rattle.server.specs.declared.CallResult.{CallResult}
use Rattle.server.specs.declared.Refusal.{Refusal}
use Rattle.server.specs.declared.CallKind.TheVariants as kind
use Rattle.engine.proofs.Guards.{GoesLent, turned-lent, going-lent}
use Rattle.engine.proofs.Accepts.{reply-bad, reply_connect, reply_another, good-reply}
use Rattle.engine.proofs.calls.reply_given.Goals as goal

pub returns-in-Err : goal.returns-in-Err
unfolding reply_given_step
returns-in-Err c =
    let k = c.args in
    let s = stores k.packet.now k.headers.now k.body.now k.reply.now in
    ap (λ (r : CallResult). called (stepped r s) k.tables.now) c.refuse.ensures
    ∙ turned-lent kind.ReplyGiven k.e s k.tables.now (λ (q : Refusal). called (refuse q k.e s) k.tables.now) _ _ _
    c.guard_lent.ensures c.in-Err.is

pub returns-then-is_bad_reply : goal.returns-then-is_bad_reply
returns-then-is_bad_reply c =
    let k = c.args in
    let s = stores k.packet.now k.headers.now k.body.now k.reply.now in
    let g : GoesLent kind.ReplyGiven k.e s k.tables.now = going-lent kind.ReplyGiven _ _ _ _ c.guard_lent.ensures c.in_default.is in
    reply-bad k.e s k.code k.header_bytes.now k.tables.now g _ c.is_bad_reply.ensures c.if-is_bad_reply.true _
    c.refuse-then-is_bad_reply.ensures

pub slice_bounds-connect_answer-end : goal.slice_bounds-connect_answer-end
slice_bounds-connect_answer-end c =
    let k = c.args in
    let s = stores k.packet.now k.headers.now k.body.now k.reply.now in
    let g : GoesLent kind.ReplyGiven k.e s k.tables.now = going-lent kind.ReplyGiven _ _ _ _ c.guard_lent.ensures c.in_default.is in
    g.goes.last.inside

pub slice_bounds-connect_answer-end-then-same_await : goal.slice_bounds-connect_answer-end-then-same_await
slice_bounds-connect_answer-end-then-same_await c =
    let k = c.args in
    let s = stores k.packet.now k.headers.now k.body.now k.reply.now in
    let g : GoesLent kind.ReplyGiven k.e s k.tables.now = going-lent kind.ReplyGiven _ _ _ _ c.guard_lent.ensures c.in_default.is in
    g.goes.last.count

pub connect_answer-requires : goal.connect_answer-requires
connect_answer-requires c =
    let k = c.args in
    let s = stores k.packet.now k.headers.now k.body.now k.reply.now in
    let g : GoesLent kind.ReplyGiven k.e s k.tables.now = going-lent kind.ReplyGiven _ _ _ _ c.guard_lent.ensures c.in_default.is in (
      g.goes.bounds.count,
      g.tables,
      g.goes.room.reply,
      g.goes.room.headers,
      g.goes.last.short,
      good-reply k.code k.header_bytes.now _ c.is_bad_reply.ensures c.if-is_bad_reply.false,
    )

pub returns-then-same_await : goal.returns-then-same_await
returns-then-same_await c =
    let k = c.args in
    let s = stores k.packet.now k.headers.now k.body.now k.reply.now in
    let g : GoesLent kind.ReplyGiven k.e s k.tables.now = going-lent kind.ReplyGiven _ _ _ _ c.guard_lent.ensures c.in_default.is in
    reply_connect k.e s k.code k.header_bytes.now k.tables.now g _ c.is_bad_reply.ensures c.if-is_bad_reply.false _
    c.same_await.ensures c.if-same_await.true _ c.connect_answer.ensures

pub slice_bounds-handle_disconnect-end : goal.slice_bounds-handle_disconnect-end
slice_bounds-handle_disconnect-end c =
    let k = c.args in
    let s = stores k.packet.now k.headers.now k.body.now k.reply.now in
    let g : GoesLent kind.ReplyGiven k.e s k.tables.now = going-lent kind.ReplyGiven _ _ _ _ c.guard_lent.ensures c.in_default.is in
    g.goes.last.inside

pub slice_bounds-handle_disconnect-end-2 : goal.slice_bounds-handle_disconnect-end-2
slice_bounds-handle_disconnect-end-2 c =
    let k = c.args in
    let s = stores k.packet.now k.headers.now k.body.now k.reply.now in
    let g : GoesLent kind.ReplyGiven k.e s k.tables.now = going-lent kind.ReplyGiven _ _ _ _ c.guard_lent.ensures c.in_default.is in
    g.goes.last.count

pub handle_disconnect-peer-requires : goal.handle_disconnect-peer-requires
handle_disconnect-peer-requires c =
    let k = c.args in
    let s = stores k.packet.now k.headers.now k.body.now k.reply.now in
    let g : GoesLent kind.ReplyGiven k.e s k.tables.now = going-lent kind.ReplyGiven _ _ _ _ c.guard_lent.ensures c.in_default.is in
    (g.goes.bounds.count, g.tables)

pub sends-requires : goal.sends-requires
sends-requires c =
    let k = c.args in
    let s = stores k.packet.now k.headers.now k.body.now k.reply.now in
    let g : GoesLent kind.ReplyGiven k.e s k.tables.now = going-lent kind.ReplyGiven _ _ _ _ c.guard_lent.ensures c.in_default.is in
    g.goes.room.reply

pub returns : goal.returns
returns c =
    let k = c.args in
    let s = stores k.packet.now k.headers.now k.body.now k.reply.now in
    let g : GoesLent kind.ReplyGiven k.e s k.tables.now = going-lent kind.ReplyGiven _ _ _ _ c.guard_lent.ensures c.in_default.is in
    reply_another k.e s k.code k.header_bytes.now k.tables.now g _ c.is_bad_reply.ensures c.if-is_bad_reply.false _
    c.same_await.ensures c.if-same_await.false
    (linked c.handle_disconnect-peer.result _) _ c.handle_disconnect-peer.ensures c.sends.ensures
