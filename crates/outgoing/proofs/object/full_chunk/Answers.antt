-- `outgoing::object::full_chunk` meets its contract. An empty chunk has no header; else Body in front of it, then the prefix. Assumes nothing.
use borrow.Author.Tests.{eq-eqb, ne_eqb}
use Prim.Native.Nat.{◌+◌}
use mathlib.Core.Bool.{false}
use mathlib.Core.Path.{◌∙◌, refl}
use Rattle.outgoing.specs.Object.{full_chunk}
use Rattle.outgoing.proofs.Sending.{sending-alike}
use Rattle.outgoing.proofs.object.full_chunk.Goals as goal

pub returns-then-size-eq0 : goal.returns-then-size-eq0
unfolding full_chunk
returns-then-size-eq0 c =
    let k = c in
    let x = c.args in
    rw (eq-eqb x.size 0 c.if-size-eq0.true) (c.send.ensures ∙ sending-alike false x.at {y = x.reply.now} c.ahead_with.ensures refl)

pub returns : goal.returns
unfolding full_chunk
returns c =
    let k = c in
    let l = c in
    let x = c.args in
    rw (ne_eqb x.size 0 c.if-size-eq0.false)
    (c.send-2.ensures ∙ sending-alike false (x.at + 3 + x.size) c.ahead_with-2.ensures c.put_head.ensures)
