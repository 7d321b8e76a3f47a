-- `engine::calls::credentials_given` meets its contract: the guard and what `connect_with_credentials` does are the model's.
-- Assumes nothing.
use Rattle.model.specs.Step.{stores}
use Rattle.model.specs.Calls.{credentials_given_step}
use Rattle.server.specs.declared.CallKind.TheVariants as kind
use Rattle.engine.proofs.Guards.{Goes, going}
use Rattle.engine.proofs.Carried.{refused-call}
use Rattle.engine.proofs.Accepts.{credentials-call}
use Rattle.engine.proofs.calls.credentials_given.Goals as goal

pub returns-in-Err : goal.returns-in-Err
unfolding credentials_given_step
returns-in-Err c =
    let k = c.args in
    let s = stores k.packet.now k.headers.now k.body.now k.reply.now in
    refused-call kind.CredentialsGiven k.e s _ _ _ _ c.refuse.ensures c.guard.ensures c.in-Err.is

pub slice_bounds-connect_with_credentials-end : goal.slice_bounds-connect_with_credentials-end
slice_bounds-connect_with_credentials-end c =
    let k = c.args in
    let s = stores k.packet.now k.headers.now k.body.now k.reply.now in
    let g : Goes kind.CredentialsGiven k.e s = going kind.CredentialsGiven _ _ _ c.guard.ensures c.in_default.is in
    g.last.inside

pub slice_bounds-connect_with_credentials-end-2 : goal.slice_bounds-connect_with_credentials-end-2
slice_bounds-connect_with_credentials-end-2 c =
    let k = c.args in
    let s = stores k.packet.now k.headers.now k.body.now k.reply.now in
    let g : Goes kind.CredentialsGiven k.e s = going kind.CredentialsGiven _ _ _ c.guard.ensures c.in_default.is in
    g.last.count

pub connect_with_credentials-requires : goal.connect_with_credentials-requires
connect_with_credentials-requires c =
    let k = c.args in
    let s = stores k.packet.now k.headers.now k.body.now k.reply.now in
    let g : Goes kind.CredentialsGiven k.e s = going kind.CredentialsGiven _ _ _ c.guard.ensures c.in_default.is in
    (g.bounds.operation, g.last.short, g.room.headers, g.room.reply)

pub returns : goal.returns
returns c =
    let k = c.args in
    let s = stores k.packet.now k.headers.now k.body.now k.reply.now in
    let g : Goes kind.CredentialsGiven k.e s = going kind.CredentialsGiven _ _ _ c.guard.ensures c.in_default.is in
    credentials-call k.e _ s g _ c.connect_with_credentials.ensures
