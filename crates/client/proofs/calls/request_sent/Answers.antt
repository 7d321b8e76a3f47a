-- `client::calls::request_sent` meets its contract. The guard refuses as the model does. Assumes nothing.
use mathlib.Core.Path.{sym, ◌∙◌}
use Rattle.client_model.specs.Calls.{request_sent_step}
use Rattle.client_model.specs.declared.Await.TheVariants as await
use Rattle.client_model.specs.Step.{stores}
use Rattle.client_model.specs.Guard.{awaiting}
use Rattle.client.proofs.Guards.{refused-call, passed_call}
use Rattle.client.proofs.calls.request_sent.Goals as goal

pub returns-in-Err : goal.returns-in-Err
unfolding request_sent_step
returns-in-Err c =
    let args = c.args in
    let lent = stores args.packet.now args.headers.now args.body.now args.request.now in
    refused-call _ (awaiting args.c await.Sent) args.c lent _ _ _ _ c.same_await-fits.ensures c.refuse.ensures
    c.guard.ensures
    c.in-Err.is

pub goes_on-requires : goal.goes_on-requires
goes_on-requires c =
    let args = c.args in
    let lent = stores args.packet.now args.headers.now args.body.now args.request.now in
    let passes = passed_call _ (awaiting args.c await.Sent) args.c lent _ c.same_await-fits.ensures c.guard.ensures
    c.in_default.is in
    (passes.bounds.remote, passes.bounds.operation, passes.room.headers, passes.room.request)

pub returns : goal.returns
unfolding request_sent_step
returns c =
    let args = c.args in
    let lent = stores args.packet.now args.headers.now args.body.now args.request.now in
    let passes = passed_call _ (awaiting args.c await.Sent) args.c lent _ c.same_await-fits.ensures c.guard.ensures
    c.in_default.is in
    c.goes_on.ensures args.packet.now args.body.now ∙ sym (passes.whole _)
