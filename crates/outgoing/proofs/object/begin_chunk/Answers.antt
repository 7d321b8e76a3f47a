-- `outgoing::object::begin_chunk` meets its contract. The tests are those of `begin_chunk`. Assumes nothing.
use mathlib.Core.Path.{◌∙◌, refl, ap}
use Rattle.outgoing.specs.Object.{reading}
use Rattle.outgoing.proofs.Sending.{made_alike, begun-empty, begun_ahead, begun_new}
use Rattle.outgoing.proofs.object.begin_chunk.Goals as goal

pub returns-then-size-eq0 : goal.returns-then-size-eq0
returns-then-size-eq0 c =
    let k = c in
    let x = c.args in
    c.full_chunk.ensures ∙ begun-empty x.o x.at x.size x.reply.now c.if-o.true c.if-size-eq0.true

pub returns-then-o : goal.returns-then-o
returns-then-o c =
    let k = c in
    let x = c.args in
    made_alike (c.waiting.ensures ∙ ap (λ o. reading o x.at 1 x.size) c.ahead_none.ensures) refl
    ∙ begun_ahead x.o x.at x.size x.reply.now c.if-o.true c.if-size-eq0.false

pub returns : goal.returns
returns c =
    let x = c.args in
    made_alike c.waiting-2.ensures refl ∙ begun_new x.o x.at x.size x.reply.now c.if-o.false
