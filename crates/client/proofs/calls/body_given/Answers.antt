-- `client::calls::body_given` meets its contract. The guard refuses as the model does; then the ways of the code are those of `body_for`. Assumes
-- nothing.
use native.Mathlib.Omega.{arith}
use borrow.Enum.Refused.{opened}
use mathlib.Core.Path.{sym, ap, ◌∙◌}
use Rattle.client_model.specs.Step.{after}
use Rattle.client_model.specs.Request.{requests}
use Rattle.client_model.specs.Calls.{body_given_step}
use Rattle.client_model.specs.declared.Await.TheVariants as await
use Rattle.client_model.specs.declared.CallResult.{CallResult}
use Rattle.client_model.specs.Step.{stores, stepped}
use Rattle.client_model.specs.Guard.{awaiting}
use Rattle.outgoing.specs.Object.{Made}
use Rattle.client.proofs.Guards.{refused-call, passed_call}
use Rattle.client.proofs.Called.{body-other, request_bounds, body_much, body-goes}
use Rattle.client.proofs.calls.body_given.Goals as goal

pub returns-in-Err : goal.returns-in-Err
unfolding body_given_step
returns-in-Err c =
    let args = c.args in
    let lent = stores args.packet.now args.headers.now args.body.now args.request.now in
    refused-call _ (awaiting args.c await.Body) args.c lent _ _ _ _ c.same_await-fits.ensures c.refuse.ensures c.guard.ensures
    c.in-Err.is

pub returns-in_default-operation : goal.returns-in_default-operation
unfolding body_given_step
returns-in_default-operation c =
    let args = c.args in
    let lent = stores args.packet.now args.headers.now args.body.now args.request.now in
    let guarded = passed_call _ (awaiting args.c await.Body) args.c lent _ c.same_await-fits.ensures c.guard.ensures c.in_default.is in
    ap (λ (r : CallResult). stepped r lent) c.refuse-in_default-operation.ensures
    ∙ body-other args.c.operation args.c args.bytes.now lent (opened c.in_default-operation.in_default-operation-own.keys2)
    ∙ sym (guarded.whole _)

pub returns-then-chunk-bytes : goal.returns-then-chunk-bytes
unfolding body_given_step
returns-then-chunk-bytes c =
    let args = c.args in
    let lent = stores args.packet.now args.headers.now args.body.now args.request.now in
    let guarded = passed_call _ (awaiting args.c await.Body) args.c lent _ c.same_await-fits.ensures c.guard.ensures c.in_default.is in
    let q = c.in-Requesting in
    ap (λ (r : CallResult). stepped r lent) c.refuse-then-chunk-bytes.ensures
    ∙ body_much args.c.operation q.kind q.outgoing q.chunk q.srm q.first q.last q.is args.c args.bytes.now lent
    c.if-chunk-bytes.true
    ∙ sym (guarded.whole _)

pub body_given-k-requires : goal.body_given-k-requires
body_given-k-requires c =
    let args = c.args in
    let lent = stores args.packet.now args.headers.now args.body.now args.request.now in
    let guarded = passed_call _ (awaiting args.c await.Body) args.c lent _ c.same_await-fits.ensures c.guard.ensures c.in_default.is in
    let q = c.in-Requesting in
    let b = request_bounds args.c.operation q.kind q.outgoing q.chunk q.srm q.first q.last q.is guarded.bounds.operation in
    (c.if-chunk-bytes.false, b.chunk, b.begun, guarded.room.request)

pub requests-requires : goal.requests-requires
requests-requires c =
    let args = c.args in
    let lent = stores args.packet.now args.headers.now args.body.now args.request.now in
    let guarded = passed_call _ (awaiting args.c await.Body) args.c lent _ c.same_await-fits.ensures c.guard.ensures c.in_default.is in
    omega (arith, guarded.room.request, c.body_given-k.auto.reply)

pub returns : goal.returns
unfolding body_given_step
returns c =
    let args = c.args in
    let lent = stores args.packet.now args.headers.now args.body.now args.request.now in
    let guarded = passed_call _ (awaiting args.c await.Body) args.c lent _ c.same_await-fits.ensures c.guard.ensures c.in_default.is in
    let q = c.in-Requesting in
    c.requests.ensures lent
    ∙ ap (λ (m : Made). after 0 (requests args.c q.kind q.srm q.first m lent)) c.body_given-k.ensures
    ∙ body-goes args.c.operation q.kind q.outgoing q.chunk q.srm q.first q.last q.is args.c args.bytes.now lent
    c.if-chunk-bytes.false
    ∙ sym (guarded.whole _)
