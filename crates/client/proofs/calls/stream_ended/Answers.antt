-- `client::calls::stream_ended` meets its contract. The guard refuses as the model does. Assumes nothing.
use mathlib.Core.Path.{sym, ap, ◌∙◌}
use mathlib.Core.Bool.{◌||◌}
use Rattle.client_model.specs.declared.End.{End}
use Rattle.client_model.specs.declared.Operation.TheVariants.{Nothing}
use Rattle.client_model.specs.declared.Outcome.TheVariants as outcome
use Rattle.client_model.specs.Step.{goes}
use Rattle.client_model.specs.Calls.{stream_ended_step}
use Rattle.client_model.specs.declared.Await.TheVariants as await
use Rattle.client_model.specs.declared.CallResult.{CallResult}
use Rattle.client_model.specs.Step.{stores, stepped}
use Rattle.client_model.specs.Guard.{awaiting}
use Rattle.client.specs.Step.{took_by}
use Rattle.client.proofs.Guards.{refused-call, passed_call}
use Rattle.client.proofs.calls.stream_ended.Goals as goal

pub returns-in-Err : goal.returns-in-Err
unfolding stream_ended_step
returns-in-Err c =
    let args = c.args in
    let lent = stores args.packet.now args.headers.now args.body.now args.request.now in
    refused-call _ (awaiting args.c await.Bytes || awaiting args.c await.Call) args.c lent _ _ _ _
    c.awaits_stream-fits.ensures c.refuse.ensures
    c.guard.ensures c.in-Err.is

pub returns : goal.returns
unfolding stream_ended_step
returns c =
    let args = c.args in
    let lent = stores args.packet.now args.headers.now args.body.now args.request.now in
    let g = passed_call _ (awaiting args.c await.Bytes || awaiting args.c await.Call) args.c lent _
    c.awaits_stream-fits.ensures c.guard.ensures
    c.in_default.is in
    ap (λ (r : CallResult). stepped r lent)
    (c.ends.ensures ∙ ap (λ (e : End). took_by (goes args.c Nothing await.Nothing _) (outcome.End e)) c.stream_end.ensures)
    ∙ sym (g.whole _)
