-- `client::calls::part_taken` meets its contract. The guard refuses as the model does; then the ways of the code are those of `taken_for`. Assumes
-- nothing.
use mathlib.Core.Path.{sym, ap, ◌∙◌}
use Rattle.client_model.specs.Calls.{part_taken_step}
use Rattle.client_model.specs.declared.Await.TheVariants as await
use Rattle.client_model.specs.declared.CallResult.{CallResult}
use Rattle.client_model.specs.Step.{stores, stepped}
use Rattle.client_model.specs.Guard.{awaiting}
use Rattle.client.proofs.Guards.{refused-call, passed_call}
use Rattle.client.proofs.Called.{part-call}
use Rattle.client.proofs.calls.part_taken.Goals as goal

pub returns-in-Err : goal.returns-in-Err
unfolding part_taken_step
returns-in-Err c =
    let args = c.args in
    let lent = stores args.packet.now args.headers.now args.body.now args.request.now in
    refused-call _ (awaiting args.c await.Taken) args.c lent _ _ _ _ c.same_await-fits.ensures c.refuse.ensures
    c.guard.ensures
    c.in-Err.is

pub ask_part-requires : goal.ask_part-requires
ask_part-requires c =
    let args = c.args in
    let lent = stores args.packet.now args.headers.now args.body.now args.request.now in
    let passes = passed_call _ (awaiting args.c await.Taken) args.c lent _ c.same_await-fits.ensures c.guard.ensures
    c.in_default.is in
    passes.room.request

pub returns-in-Over : goal.returns-in-Over
unfolding part_taken_step
returns-in-Over c =
    let args = c.args in
    let lent = stores args.packet.now args.headers.now args.body.now args.request.now in
    let passes = passed_call _ (awaiting args.c await.Taken) args.c lent _ c.same_await-fits.ensures c.guard.ensures
    c.in_default.is in
    part-call args.c.operation args.c lent _ _ _ c.after_part.ensures c.in-Over.is
    (ap (λ (r : CallResult). stepped r lent) c.over.ensures)
    ∙ sym (passes.whole _)

pub returns-in-Wait : goal.returns-in-Wait
unfolding part_taken_step
returns-in-Wait c =
    let args = c.args in
    let lent = stores args.packet.now args.headers.now args.body.now args.request.now in
    let passes = passed_call _ (awaiting args.c await.Taken) args.c lent _ c.same_await-fits.ensures c.guard.ensures
    c.in_default.is in
    part-call args.c.operation args.c lent _ _ _ c.after_part.ensures c.in-Wait.is
    (ap (λ (r : CallResult). stepped r lent) c.wants.ensures) ∙ sym (passes.whole _)

pub returns-in-Ask : goal.returns-in-Ask
unfolding part_taken_step
returns-in-Ask c =
    let args = c.args in
    let lent = stores args.packet.now args.headers.now args.body.now args.request.now in
    let passes = passed_call _ (awaiting args.c await.Taken) args.c lent _ c.same_await-fits.ensures c.guard.ensures
    c.in_default.is in
    part-call args.c.operation args.c lent _ _ _ c.after_part.ensures c.in-Ask.is
    (c.ask_part.ensures lent) ∙ sym (passes.whole _)

pub returns-in-Wrong : goal.returns-in-Wrong
unfolding part_taken_step
returns-in-Wrong c =
    let args = c.args in
    let lent = stores args.packet.now args.headers.now args.body.now args.request.now in
    let passes = passed_call _ (awaiting args.c await.Taken) args.c lent _ c.same_await-fits.ensures c.guard.ensures
    c.in_default.is in
    part-call args.c.operation args.c lent _ _ _ c.after_part.ensures c.in-Wrong.is
    (ap (λ (r : CallResult). stepped r lent) c.refuse-in-Wrong.ensures) ∙ sym (passes.whole _)
