-- `outgoing::object::body_after` meets its contract. The tests are those of `body_after`. Assumes nothing.
use mathlib.Core.Path.{◌∙◌}
use Rattle.outgoing.proofs.Sending.{after_none, after-short, after-room}
use Rattle.outgoing.proofs.object.body_after.Goals as goal

pub returns-then-capacity-at : goal.returns-then-capacity-at
returns-then-capacity-at c =
    let k = c in
    let x = c.args in
    c.send.ensures ∙ after-short x.capacity x.o x.at x.reply.now c.if-o.true c.if-capacity-at.true

pub returns-then-o : goal.returns-then-o
returns-then-o c =
    let k = c in
    let x = c.args in
    c.begin_chunk.ensures ∙ after-room x.capacity x.o x.at x.reply.now c.if-o.true c.if-capacity-at.false

pub returns : goal.returns
returns c =
    let k = c in
    let x = c.args in
    c.send-2.ensures ∙ after_none x.capacity x.o x.at x.reply.now c.if-o.false
