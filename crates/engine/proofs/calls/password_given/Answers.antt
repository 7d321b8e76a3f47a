-- `engine::calls::password_given` meets its contract: the guard is the model's, and so is the check of the last packet's response.
use Rattle.model.specs.Step.{stores}
use Rattle.model.specs.Calls.{password_given_step}
use Rattle.server.specs.declared.CallKind.TheVariants as kind
use Rattle.engine.proofs.Guards.{Goes, going}
use Rattle.engine.proofs.Carried.{refused-call}
use Rattle.engine.proofs.LastPacket.{password-call}
use Rattle.engine.proofs.calls.password_given.Goals as goal

pub returns-in-Err : goal.returns-in-Err
unfolding password_given_step
returns-in-Err c =
    let k = c.args in
    let s = stores k.packet.now k.headers.now k.body.now k.reply.now in
    refused-call kind.PasswordGiven k.e s _ _ _ _ c.refuse.ensures c.guard.ensures c.in-Err.is

pub slice_bounds-is_right-end : goal.slice_bounds-is_right-end
slice_bounds-is_right-end c =
    let k = c.args in
    let s = stores k.packet.now k.headers.now k.body.now k.reply.now in
    let g : Goes kind.PasswordGiven k.e s = going kind.PasswordGiven _ _ _ c.guard.ensures c.in_default.is in
    g.last.inside

pub slice_bounds-is_right-end-2 : goal.slice_bounds-is_right-end-2
slice_bounds-is_right-end-2 c =
    let k = c.args in
    let s = stores k.packet.now k.headers.now k.body.now k.reply.now in
    let g : Goes kind.PasswordGiven k.e s = going kind.PasswordGiven _ _ _ c.guard.ensures c.in_default.is in
    g.last.count

pub returns : goal.returns
unfolding password_given_step
returns c =
    let k = c.args in
    let s = stores k.packet.now k.headers.now k.body.now k.reply.now in
    let g : Goes kind.PasswordGiven k.e s = going kind.PasswordGiven _ _ _ c.guard.ensures c.in_default.is in
    password-call k.e s _ _ _ _ _ g c.took.ensures c.password_plan.ensures c.demands_user-demands.ensures c.is_right-right.ensures
