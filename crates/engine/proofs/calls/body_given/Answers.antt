-- `engine::calls::body_given` meets its contract. The guard refuses as the model does; then the ways of the code are those of `body_for`.
use borrow.Enum.Refused.{opened}
use native.Mathlib.Omega.{arith}
use mathlib.Core.Path.{sym, ap, ◌∙◌}
use Rattle.model.specs.Step.{stores, stepped}
use Rattle.model.specs.Calls.{body_given_step}
use Rattle.server.specs.declared.CallResult.{CallResult}
use Rattle.server.specs.declared.CallKind.TheVariants as kind
use Rattle.engine.proofs.Guards.{Goes, going}
use Rattle.engine.proofs.Carried.{refused-call}
use Rattle.engine.proofs.Objects.{body-other, sending_bounds, body_much, body-goes, packet-sent, packet-call}
use Rattle.engine.proofs.calls.body_given.Goals as goal

pub returns-in-Err : goal.returns-in-Err
unfolding body_given_step
returns-in-Err c =
    let k = c.args in
    let s = stores k.packet.now k.headers.now k.body.now k.reply.now in
    refused-call kind.FromBody k.e s _ _ _ _ c.refuse.ensures c.guard.ensures c.in-Err.is

pub returns-in_default-operation : goal.returns-in_default-operation
unfolding body_given_step
returns-in_default-operation c =
    let k = c.args in
    let s = stores k.packet.now k.headers.now k.body.now k.reply.now in
    let g : Goes kind.FromBody k.e s = going kind.FromBody _ _ _ c.guard.ensures c.in_default.is in
    ap (λ (r : CallResult). stepped r s) c.refuse-in_default-operation.ensures
    ∙ body-other k.e.operation k.e k.bytes.now s (opened c.in_default-operation.in_default-operation-own.keys2)
    ∙ sym (g.whole _)

pub returns-then-chunk-bytes : goal.returns-then-chunk-bytes
unfolding body_given_step
returns-then-chunk-bytes c =
    let k = c.args in
    let s = stores k.packet.now k.headers.now k.body.now k.reply.now in
    let g : Goes kind.FromBody k.e s = going kind.FromBody _ _ _ c.guard.ensures c.in_default.is in
    ap (λ (r : CallResult). stepped r s) c.refuse-then-chunk-bytes.ensures
    ∙ body_much k.e.operation _ _ _ _ c.in-Sending.is k.e k.bytes.now s c.if-chunk-bytes.true
    ∙ sym (g.whole _)

pub body_given-k-requires : goal.body_given-k-requires
body_given-k-requires c =
    let k = c.args in
    let s = stores k.packet.now k.headers.now k.body.now k.reply.now in
    let g : Goes kind.FromBody k.e s = going kind.FromBody _ _ _ c.guard.ensures c.in_default.is in
    let b = sending_bounds _ _ _ _ _ c.in-Sending.is _ g.bounds.operation in
    (c.if-chunk-bytes.false, b.chunk, b.begun, g.room.reply)

pub carry_out-requires : goal.carry_out-requires
carry_out-requires c =
    let k = c.args in
    let s = stores k.packet.now k.headers.now k.body.now k.reply.now in
    let g : Goes kind.FromBody k.e s = going kind.FromBody _ _ _ c.guard.ensures c.in_default.is in
    omega (arith, g.room.reply)

pub returns : goal.returns
unfolding body_given_step
returns c =
    let k = c.args in
    let s = stores k.packet.now k.headers.now k.body.now k.reply.now in
    let g : Goes kind.FromBody k.e s = going kind.FromBody _ _ _ c.guard.ensures c.in_default.is in
    packet-call k.e s _ _ _ _ (packet-sent k.e _ _ _ _ _ _ c.carry_out.ensures c.packet_plan.ensures c.body_given-k.ensures)
    ∙ body-goes k.e.operation _ _ _ _ c.in-Sending.is k.e k.bytes.now s c.if-chunk-bytes.false
    ∙ sym (g.whole _)
