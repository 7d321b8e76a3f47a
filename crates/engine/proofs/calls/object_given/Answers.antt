-- `engine::calls::object_given` meets its contract. The guard refuses as the model does; then the ways of the code are those of `object_for`.
use borrow.Enum.Refused.{opened}
use native.Mathlib.Omega.{arith}
use mathlib.Core.Bool.{◌||◌}
use mathlib.Core.Path.{◌≡◌, sym, ap, ◌∙◌}
use mathlib.Core.List.{List}
use Prim.Native.Nat.{ℕ, ◌≤◌}
use lib.ListN.{length}
use Rattle.connection.proofs.Front.{front_length}
use Rattle.outgoing.specs.declared.object.Outgoing.{Outgoing}
use Rattle.model.specs.Step.{stores, stepped}
use Rattle.model.specs.Calls.{object_given_step}
use Rattle.server.specs.declared.CallResult.{CallResult}
use Rattle.server.specs.declared.CallKind.TheVariants as kind
use Rattle.engine.proofs.Guards.{Goes, going}
use Rattle.engine.proofs.Carried.{refused-call}
use Rattle.engine.proofs.Objects.{object-other, object-bad, object-goes, good_length, store-front}
use Rattle.engine.proofs.calls.object_given.Goals as goal
use Rattle.engine.proofs.calls.object_given.Goals.{then-srm, else-srm}

pub returns-in-Err : goal.returns-in-Err
unfolding object_given_step
returns-in-Err c =
    let k = c.args in
    let s = stores k.packet.now k.headers.now k.body.now k.reply.now in
    refused-call kind.ObjectGiven k.e s _ _ _ _ c.refuse.ensures c.guard.ensures c.in-Err.is

pub returns-in_default-operation : goal.returns-in_default-operation
unfolding object_given_step
returns-in_default-operation c =
    let k = c.args in
    let s = stores k.packet.now k.headers.now k.body.now k.reply.now in
    let g : Goes kind.ObjectGiven k.e s = going kind.ObjectGiven _ _ _ c.guard.ensures c.in_default.is in
    ap (λ (r : CallResult). stepped r s) c.refuse-in_default-operation.ensures
    ∙ object-other k.e.operation k.e k.header_bytes.now k.has_body s (opened c.in_default-operation.in_default-operation-own.keys2)
    ∙ sym (g.whole _)

pub returns-then-is_bad_headers : goal.returns-then-is_bad_headers
unfolding object_given_step
returns-then-is_bad_headers c =
    let k = c.args in
    let s = stores k.packet.now k.headers.now k.body.now k.reply.now in
    let g : Goes kind.ObjectGiven k.e s = going kind.ObjectGiven _ _ _ c.guard.ensures c.in_default.is in
    ap (λ (r : CallResult). stepped r s) c.refuse-then-is_bad_headers.ensures
    ∙ object-bad k.e.operation _ _ _ _ c.in-Getting.is k.e k.header_bytes.now _ c.is_bad_headers.ensures k.has_body s
    c.if-is_bad_headers.true
    ∙ sym (g.whole _)

pub copy_into-requires : goal.copy_into-requires
copy_into-requires c =
    let k = c.args in
    let s = stores k.packet.now k.headers.now k.body.now k.reply.now in
    let g : Goes kind.ObjectGiven k.e s = going kind.ObjectGiven _ _ _ c.guard.ensures c.in_default.is in
    let fits : length k.header_bytes.now ≤ length k.headers.now
    = omega (arith, good_length k.header_bytes.now _ c.is_bad_headers.ensures c.if-is_bad_headers.false, g.room.headers) in
    omega (arith, fits)

pub sends_next-requires : goal.sends_next-requires
sends_next-requires c =
    let k = c.args in
    let s = stores k.packet.now k.headers.now k.body.now k.reply.now in
    let g : Goes kind.ObjectGiven k.e s = going kind.ObjectGiven _ _ _ c.guard.ensures c.in_default.is in
    let fits : length k.header_bytes.now ≤ length k.headers.now
    = omega (arith, good_length k.header_bytes.now _ c.is_bad_headers.ensures c.if-is_bad_headers.false, g.room.headers) in
    let f = c.copy_into.ensures ∙ store-front k.header_bytes.now k.headers.now fits in
    let h = ap (λ (x : List ℕ). length x) f ∙ front_length k.header_bytes.now k.headers.now fits in
    let t = ap (λ (x : Outgoing). x.total) c.object_of-o.ensures in
    (g.bounds.remote, omega (arith, h, t, fits), g.room.reply)

pub returns : goal.returns
unfolding object_given_step
returns c =
    let k = c.args in
    let b : c.if-srm.granted ≡ c.in-Getting.srm || c.in-Getting.confirm_srm =
    elim c.if-srm.branch [ then-srm w ↦ w.granted-is ∙ rw w.if-srm.true | else-srm w ↦ rw w.if-srm.false w.granted-is ] in
    let s = stores k.packet.now k.headers.now k.body.now k.reply.now in
    let g : Goes kind.ObjectGiven k.e s = going kind.ObjectGiven _ _ _ c.guard.ensures c.in_default.is in
    let fits : length k.header_bytes.now ≤ length k.headers.now
    = omega (arith, good_length k.header_bytes.now _ c.is_bad_headers.ensures c.if-is_bad_headers.false, g.room.headers) in
    object-goes k.e.operation _ _ _ _ c.in-Getting.is
    k.e k.header_bytes.now _ c.is_bad_headers.ensures k.has_body s c.if-is_bad_headers.false _ _ _ _
    c.sends_next.ensures c.object_of-o.ensures
    b
    (c.copy_into.ensures ∙ store-front k.header_bytes.now k.headers.now fits)
    ∙ sym (g.whole _)
