-- `engine::calls::answers_code` meets its contract. The guard refuses as the model does, and the plan is the model's step.
use native.Mathlib.Omega.{arith}
use Rattle.model.specs.Step.{stores}
use Rattle.server.specs.declared.Await.TheVariants as await
use Rattle.engine.proofs.Guards.{Goes, going}
use Rattle.engine.proofs.Carried.{refused-call, carried-call}
use Rattle.engine.proofs.Plans.{code-planned}
use Rattle.engine.proofs.calls.answers_code.Goals as goal

pub returns-in-Err : goal.returns-in-Err
returns-in-Err c =
    let k = c.args in
    let s = stores k.packet.now k.headers.now k.body.now k.reply.now in
    refused-call c.args.k k.e s _ _ _ _ c.refuse.ensures c.guard.ensures c.in-Err.is

pub carry_out-requires : goal.carry_out-requires
carry_out-requires c =
    let k = c.args in
    let s = stores k.packet.now k.headers.now k.body.now k.reply.now in
    let g : Goes c.args.k k.e s = going c.args.k _ _ _ c.guard.ensures c.in_default.is in
    omega (arith, g.room.reply)

pub returns : goal.returns
returns c =
    let k = c.args in
    let s = stores k.packet.now k.headers.now k.body.now k.reply.now in
    let g : Goes c.args.k k.e s = going c.args.k _ _ _ c.guard.ensures c.in_default.is in
    carried-call c.args.k k.e s _ _ _ _ g c.carry_out.ensures c.code.ensures (code-planned k.e k.e.peer await.Taken k.byte s)
