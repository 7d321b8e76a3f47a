-- `client::calls::bytes_offered` meets its contract. The guard and each end of the frame are the model's, and a slice
-- of bytes has bytes. Assumes nothing.
use native.Mathlib.Omega.{arith}
use Rattle.incoming.specs.Frame.{coming}
use Rattle.incoming.proofs.BytesPlaced.{octets-coming}
use Rattle.client_model.specs.declared.Await.TheVariants as await
use Rattle.client_model.specs.Step.{stores}
use Rattle.client_model.specs.Guard.{awaiting}
use Rattle.client_model.specs.Calls.{bytes_offered_step}
use Rattle.client.proofs.Guards.{refused-call, passed_call}
use Rattle.client.proofs.Answers.{framed-call, taken-after, more-call, short-call}
use Rattle.client.proofs.calls.bytes_offered.Goals as goal

pub returns-in-Err-clause-step : goal.returns-in-Err-clause-step
unfolding bytes_offered_step
returns-in-Err-clause-step c =
    let args = c.args in
    let lent = stores args.packet.now args.headers.now args.body.now args.request.now in
    refused-call _ (awaiting args.c await.Bytes) args.c lent _ _ _ _ c.same_await-fits.ensures c.refuse.ensures c.guard.ensures
    c.in-Err.is

pub read_packet-f-requires : goal.read_packet-f-requires
read_packet-f-requires c =
    let args = c.args in
    let lent = stores args.packet.now args.headers.now args.body.now args.request.now in
    let guarded = passed_call _ (awaiting args.c await.Bytes) args.c lent _ c.same_await-fits.ensures c.guard.ensures c.in_default.is in
    (guarded.bounds.begun, guarded.room.packet)

pub response_done-requires : goal.response_done-requires
response_done-requires c =
    let args = c.args in
    let lent = stores args.packet.now args.headers.now args.body.now args.request.now in
    let guarded = passed_call _ (awaiting args.c await.Bytes) args.c lent _ c.same_await-fits.ensures c.guard.ensures c.in_default.is in
    let w = c.read_packet-f.ensures.whole c.in-Whole.is in (
      omega (arith, w.1, guarded.room.packet, c.read_packet-f.auto.packet),
      guarded.bounds.remote,
      guarded.bounds.operation,
      guarded.room.headers,
      guarded.room.body,
      guarded.room.request,
    )

pub returns-in-More-clause-step : goal.returns-in-More-clause-step
returns-in-More-clause-step c =
    let args = c.args in
    let lent = stores args.packet.now args.headers.now args.body.now args.request.now in
    let guarded = passed_call _ (awaiting args.c await.Bytes) args.c lent _ c.same_await-fits.ensures c.guard.ensures c.in_default.is in
    let offered = coming args.packet.now args.c.begun args.placed args.input.now in
    let read = c.read_packet-f in
    framed-call args.c lent offered read.result _ _ _ guarded read.ensures.model c.in-More.is
    (more-call args.c _ _ _ _ _ _ c.with_taken.ensures c.took.ensures c.with_begun.ensures)

pub returns-in-More-clause-octets : goal.returns-in-More-clause-octets
returns-in-More-clause-octets c =
    let args = c.args in
    octets-coming args.packet.now args.c.begun args.placed args.input.now
    (λ i. (c.slice_known-1.given i).fits)
    (λ i. (c.shared_slice_known-1.given i).fits)

pub returns-in-Short-clause-step : goal.returns-in-Short-clause-step
returns-in-Short-clause-step c =
    let args = c.args in
    let lent = stores args.packet.now args.headers.now args.body.now args.request.now in
    let guarded = passed_call _ (awaiting args.c await.Bytes) args.c lent _ c.same_await-fits.ensures c.guard.ensures c.in_default.is in
    let offered = coming args.packet.now args.c.begun args.placed args.input.now in
    let read = c.read_packet-f in
    framed-call args.c lent offered read.result _ _ _ guarded read.ensures.model c.in-Short.is
    (short-call args.c read.result.begun _ _ _ _ c.with_taken-in-Short.ensures c.ends.ensures)

pub returns-in-Short-clause-octets : goal.returns-in-Short-clause-octets
returns-in-Short-clause-octets c =
    let args = c.args in
    octets-coming args.packet.now args.c.begun args.placed args.input.now
    (λ i. (c.slice_known-1.given i).fits)
    (λ i. (c.shared_slice_known-1.given i).fits)

pub returns-in-Whole-clause-step : goal.returns-in-Whole-clause-step
returns-in-Whole-clause-step c =
    let args = c.args in
    let lent = stores args.packet.now args.headers.now args.body.now args.request.now in
    let guarded = passed_call _ (awaiting args.c await.Bytes) args.c lent _ c.same_await-fits.ensures c.guard.ensures c.in_default.is in
    let offered = coming args.packet.now args.c.begun args.placed args.input.now in
    let read = c.read_packet-f in
    framed-call args.c lent offered read.result _ _ _ guarded read.ensures.model c.in-Whole.is
    (taken-after _ _ _ _ _ c.with_taken-in-Whole.ensures c.response_done.ensures)

pub returns-in-Whole-clause-octets : goal.returns-in-Whole-clause-octets
returns-in-Whole-clause-octets c =
    let args = c.args in
    octets-coming args.packet.now args.c.begun args.placed args.input.now
    (λ i. (c.slice_known-1.given i).fits)
    (λ i. (c.shared_slice_known-1.given i).fits)
