-- `client::calls::abort` meets its contract. The guard refuses as the model does; then the ways of the code are those of `abort_for`. Assumes nothing.
use mathlib.Core.Path.{sym, ap, ◌∙◌}
use Rattle.client_model.specs.Calls.{abort_step}
use Rattle.client_model.specs.declared.CallResult.{CallResult}
use Rattle.client_model.specs.Step.{stores, stepped}
use Rattle.client_model.specs.Guard.{abort_fits}
use Rattle.client.proofs.Guards.{refused-call, passed_call}
use Rattle.client.proofs.Called.{abort_called}
use Rattle.client.proofs.calls.abort.Goals as goal

pub returns-in-Err : goal.returns-in-Err
unfolding abort_step
returns-in-Err c =
    let args = c.args in
    let lent = stores args.packet.now args.headers.now args.body.now args.request.now in
    refused-call _ (abort_fits args.c) args.c lent _ _ _ _ c.is_abortable-fits.ensures c.refuse.ensures
    c.guard.ensures c.in-Err.is

pub send_abort-requires : goal.send_abort-requires
send_abort-requires c =
    let args = c.args in
    let lent = stores args.packet.now args.headers.now args.body.now args.request.now in
    let passes = passed_call _ (abort_fits args.c) args.c lent _ c.is_abortable-fits.ensures c.guard.ensures
    c.in_default.is in
    passes.room.request

pub returns-in-First : goal.returns-in-First
unfolding abort_step
returns-in-First c =
    let args = c.args in
    let lent = stores args.packet.now args.headers.now args.body.now args.request.now in
    let passes = passed_call _ (abort_fits args.c) args.c lent _ c.is_abortable-fits.ensures c.guard.ensures
    c.in_default.is in
    abort_called args.c lent _ _ _ c.after_abort.ensures c.in-First.is
    (ap (λ (r : CallResult). stepped r lent) c.awaits_first.ensures) ∙ sym (passes.whole _)

pub returns-in-Drain : goal.returns-in-Drain
unfolding abort_step
returns-in-Drain c =
    let args = c.args in
    let lent = stores args.packet.now args.headers.now args.body.now args.request.now in
    let passes = passed_call _ (abort_fits args.c) args.c lent _ c.is_abortable-fits.ensures c.guard.ensures
    c.in_default.is in
    abort_called args.c lent _ _ _ c.after_abort.ensures c.in-Drain.is
    (ap (λ (r : CallResult). stepped r lent) c.wants.ensures)
    ∙ sym (passes.whole _)

pub returns-in-Send : goal.returns-in-Send
unfolding abort_step
returns-in-Send c =
    let args = c.args in
    let lent = stores args.packet.now args.headers.now args.body.now args.request.now in
    let passes = passed_call _ (abort_fits args.c) args.c lent _ c.is_abortable-fits.ensures c.guard.ensures
    c.in_default.is in
    abort_called args.c lent _ _ _ c.after_abort.ensures c.in-Send.is
    (c.send_abort.ensures lent) ∙ sym (passes.whole _)
