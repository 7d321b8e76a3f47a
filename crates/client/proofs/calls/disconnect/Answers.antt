-- `client::calls::disconnect` meets its contract. The guard and the headers are refused as in the model. Assumes nothing.
use native.Mathlib.Omega.{arith}
use mathlib.Core.Path.{sym, ap, ◌∙◌}
use lib.ListN.{length, length-append}
use lib.Dec.{ltb}
use Prim.Native.Nat.{ℕ, ◌≤◌}
use mathlib.Core.Bool.{true}
use mathlib.Core.List.{[], ◌++◌}
use borrow.Author.Tests.{ltb-false}
use Rattle.client_model.specs.Guard.{bad_headers}
use Rattle.client.specs.Guard.{checked_by}
use Rattle.client_model.specs.Request.{id_bytes}
use Rattle.packet.specs.FirstByte.{byte_of}
use Rattle.packet.specs.Packet.{packet_bytes}
use Rattle.packet.specs.declared.opcode.Opcode.TheVariants as op
use Rattle.client_model.specs.declared.Operation.TheVariants.{Disconnecting}
use Rattle.client_model.specs.Step.{sends}
use Rattle.client_model.specs.Calls.{disconnect_step}
use Rattle.client_model.specs.declared.Await.TheVariants as await
use Rattle.client_model.specs.declared.CallResult.{CallResult}
use Rattle.client_model.specs.Step.{stores, stepped}
use Rattle.client_model.specs.Guard.{awaiting}
use Rattle.client.proofs.Guards.{refused-call, passed_call, unchecked, checks}
use Rattle.client.proofs.Called.{leads_in, passes}
use Rattle.client.proofs.calls.disconnect.Goals as goal

pub returns-in-Err : goal.returns-in-Err
unfolding disconnect_step
returns-in-Err c =
    let args = c.args in
    let lent = stores args.packet.now args.headers.now args.body.now args.request.now in
    refused-call _ (awaiting args.c await.Call) args.c lent _ _ _ _ c.same_await-fits.ensures c.refuse.ensures c.guard.ensures
    c.in-Err.is

pub returns-in-Err-check_connect : goal.returns-in-Err-check_connect
unfolding disconnect_step
returns-in-Err-check_connect c =
    let args = c.args in
    let lent = stores args.packet.now args.headers.now args.body.now args.request.now in
    let guarded = passed_call _ (awaiting args.c await.Call) args.c lent _ c.same_await-fits.ensures c.guard.ensures c.in_default.is in
    let hs = args.header_bytes.now in
    let id = id_bytes args.c.connection_id in
    let k = c.check_connect.ensures ∙ ap (λ (n : ℕ). checked_by (bad_headers hs) (ltb 248 n)) (leads_in _ id hs c.id_length.ensures.0) in
    let d = sends args.c Disconnecting (packet_bytes (byte_of op.Disconnect true) [] (id ++ hs)) lent in
    ap (λ (r : CallResult). stepped r lent) c.refuse-in-Err-check_connect.ensures
    ∙ unchecked (bad_headers hs) (ltb 248 (length (id ++ hs))) args.c lent d _ _ k c.in-Err-check_connect.is ∙ sym (guarded.whole _)

pub send_disconnect-requires : goal.send_disconnect-requires
send_disconnect-requires c =
    let args = c.args in
    let lent = stores args.packet.now args.headers.now args.body.now args.request.now in
    let guarded = passed_call _ (awaiting args.c await.Call) args.c lent _ c.same_await-fits.ensures c.guard.ensures c.in_default.is in
    let hs = args.header_bytes.now in
    let id = id_bytes args.c.connection_id in
    let k = c.check_connect.ensures ∙ ap (λ (n : ℕ). checked_by (bad_headers hs) (ltb 248 n)) (leads_in _ id hs c.id_length.ensures.0) in
    let b : length (id ++ hs) ≤ 248 = ltb-false 248 (length (id ++ hs))
    (checks (bad_headers hs) (ltb 248 (length (id ++ hs))) _ k c.in_default-check_connect.is).brief in
    (omega (arith, b, length-append id hs), guarded.room.request)

pub returns : goal.returns
unfolding disconnect_step
returns c =
    let args = c.args in
    let lent = stores args.packet.now args.headers.now args.body.now args.request.now in
    let guarded = passed_call _ (awaiting args.c await.Call) args.c lent _ c.same_await-fits.ensures c.guard.ensures c.in_default.is in
    let hs = args.header_bytes.now in
    let id = id_bytes args.c.connection_id in
    let k = c.check_connect.ensures ∙ ap (λ (n : ℕ). checked_by (bad_headers hs) (ltb 248 n)) (leads_in _ id hs c.id_length.ensures.0) in
    let d = sends args.c Disconnecting (packet_bytes (byte_of op.Disconnect true) [] (id ++ hs)) lent in
    c.send_disconnect.ensures lent
    ∙ passes (bad_headers hs) (ltb 248 (length (id ++ hs))) args.c lent d
    (checks (bad_headers hs) (ltb 248 (length (id ++ hs))) _ k c.in_default-check_connect.is) ∙ sym (guarded.whole _)
