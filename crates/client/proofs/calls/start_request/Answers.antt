-- `client::calls::start_request` meets its contract. The guard and the headers are refused as in the model. Assumes nothing.
use mathlib.Core.Path.{sym, ap, ◌∙◌}
use Prim.Native.Nat.{ℕ}
use Rattle.client_model.specs.Guard.{bad_headers, too_long_of}
use Rattle.client.specs.Guard.{checked_by}
use Rattle.client_model.specs.Step.{capacity_of}
use Rattle.client_model.specs.Request.{requests_first}
use Rattle.client_model.specs.Calls.{request_step}
use Rattle.client_model.specs.declared.Await.TheVariants as await
use Rattle.client_model.specs.declared.CallResult.{CallResult}
use Rattle.client_model.specs.Step.{stores, stepped}
use Rattle.client_model.specs.Guard.{awaiting}
use Rattle.client.proofs.Guards.{refused-call, passed_call, unchecked, checks}
use Rattle.client.proofs.Walks.{good}
use Rattle.client.proofs.Called.{passes}
use Rattle.client.proofs.calls.start_request.Goals as goal

pub returns-in-Err : goal.returns-in-Err
unfolding request_step
returns-in-Err c =
    let args = c.args in
    let lent = stores args.packet.now args.headers.now args.body.now args.request.now in
    refused-call _ (awaiting args.c await.Call) args.c lent _ _ _ _ c.same_await-fits.ensures c.refuse.ensures c.guard.ensures
    c.in-Err.is

pub capacity_of-requires : goal.capacity_of-requires
capacity_of-requires c =
    let args = c.args in
    let lent = stores args.packet.now args.headers.now args.body.now args.request.now in
    let guarded = passed_call _ (awaiting args.c await.Call) args.c lent _ c.same_await-fits.ensures c.guard.ensures c.in_default.is in
    guarded.bounds.remote

pub returns-in-Err-check_request : goal.returns-in-Err-check_request
unfolding request_step
returns-in-Err-check_request c =
    let args = c.args in
    let lent = stores args.packet.now args.headers.now args.body.now args.request.now in
    let guarded = passed_call _ (awaiting args.c await.Call) args.c lent _ c.same_await-fits.ensures c.guard.ensures c.in_default.is in
    let hs = args.header_bytes.now in
    let k = c.check_request.ensures ∙ ap (λ (n : ℕ). checked_by (bad_headers hs) (too_long_of n hs)) c.capacity_of.ensures.0 in
    let d = requests_first args.c args.kind hs args.has_body lent in
    ap (λ (r : CallResult). stepped r lent) c.refuse-in-Err-check_request.ensures
    ∙ unchecked (bad_headers hs) (too_long_of (capacity_of args.c) hs) args.c lent d _ _ k c.in-Err-check_request.is
    ∙ sym (guarded.whole _)

pub requests_first-requires : goal.requests_first-requires
requests_first-requires c =
    let args = c.args in
    let lent = stores args.packet.now args.headers.now args.body.now args.request.now in
    let guarded = passed_call _ (awaiting args.c await.Call) args.c lent _ c.same_await-fits.ensures c.guard.ensures c.in_default.is in
    let hs = args.header_bytes.now in
    let k = c.check_request.ensures ∙ ap (λ (n : ℕ). checked_by (bad_headers hs) (too_long_of n hs)) c.capacity_of.ensures.0 in (
      guarded.bounds.remote,
      (good hs (checks (bad_headers hs) (too_long_of (capacity_of args.c) hs) _ k c.in_default-check_request.is).good).short,
      guarded.room.headers,
      guarded.room.request,
    )

pub returns : goal.returns
unfolding request_step
returns c =
    let args = c.args in
    let lent = stores args.packet.now args.headers.now args.body.now args.request.now in
    let guarded = passed_call _ (awaiting args.c await.Call) args.c lent _ c.same_await-fits.ensures c.guard.ensures c.in_default.is in
    let hs = args.header_bytes.now in
    let k = c.check_request.ensures ∙ ap (λ (n : ℕ). checked_by (bad_headers hs) (too_long_of n hs)) c.capacity_of.ensures.0 in
    let d = requests_first args.c args.kind hs args.has_body lent in
    c.requests_first.ensures args.packet.now args.body.now
    ∙ passes (bad_headers hs) (too_long_of (capacity_of args.c) hs) args.c lent d
    (checks (bad_headers hs) (too_long_of (capacity_of args.c) hs) _ k c.in_default-check_request.is) ∙ sym (guarded.whole _)
