-- `engine::calls::reply_taken` meets its contract. The guard refuses as the model does, and the plan is the model's step.
-- Assumes nothing.
use native.Mathlib.Omega.{arith}
use Rattle.model.specs.Step.{stores}
use Rattle.model.specs.Calls.{reply_taken_step}
use Rattle.server.specs.declared.CallKind.TheVariants as kind
use Rattle.engine.proofs.Guards.{Goes, going}
use Rattle.engine.proofs.Carried.{refused-call}
use Rattle.engine.proofs.Turns.{taken-call}
use Rattle.engine.proofs.calls.reply_taken.Goals as goal

pub returns-in-Err : goal.returns-in-Err
unfolding reply_taken_step
returns-in-Err c =
    let k = c.args in
    let s = stores k.packet.now k.headers.now k.body.now k.reply.now in
    refused-call kind.ReplyTaken k.e s _ _ _ _ c.refuse.ensures c.guard.ensures c.in-Err.is

pub turn_plan-plan-requires : goal.turn_plan-plan-requires
turn_plan-plan-requires c =
    let k = c.args in
    let s = stores k.packet.now k.headers.now k.body.now k.reply.now in
    let g : Goes kind.ReplyTaken k.e s = going kind.ReplyTaken _ _ _ c.guard.ensures c.in_default.is in
    (g.bounds.remote, g.bounds.operation, g.room.headers, g.room.reply)

pub carry_out-requires : goal.carry_out-requires
carry_out-requires c =
    let k = c.args in
    let s = stores k.packet.now k.headers.now k.body.now k.reply.now in
    let g : Goes kind.ReplyTaken k.e s = going kind.ReplyTaken _ _ _ c.guard.ensures c.in_default.is in
    omega (arith, g.room.reply)

pub returns : goal.returns
returns c =
    let k = c.args in
    let s = stores k.packet.now k.headers.now k.body.now k.reply.now in
    let g : Goes kind.ReplyTaken k.e s = going kind.ReplyTaken _ _ _ c.guard.ensures c.in_default.is in
    taken-call k.e s c.turn_plan-plan.result c.turn_plan-plan.new.reply _ g c.carry_out.ensures
    (c.turn_plan-plan.ensures k.packet.now k.body.now)
