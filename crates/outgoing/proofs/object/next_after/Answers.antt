-- `outgoing::object::next_after` meets its contract. The headers that fit are those of `fill`, and what follows is `next_filled`. Assumes nothing.
use native.Mathlib.Omega.{arith}
use mathlib.Core.Path.{sym, ap, ◌∙◌}
use lib.Seq.{length-take-le}
use Rattle.outgoing.specs.Object.{next_filled}
use Rattle.outgoing.specs.Steps.{why_of}
use Rattle.outgoing.proofs.Fitting.{packed}
use Rattle.outgoing.proofs.object.next_after.Goals as goal

pub slice_bounds-fill-end : goal.slice_bounds-fill-end
slice_bounds-fill-end c = sym (length-take-le _ _ (omega arith))

pub returns : goal.returns
returns c =
    let k = c in
    let f = c in
    let x = c.args in
    let r = c.fill-f.result in
    c.next_filled.ensures
    ∙ ap (λ o. next_filled (why_of r.why) x.capacity o r.at c.fill-f.new.reply) c.sent_to.ensures
    ∙ packed x.start x.capacity x.o x.headers.now x.reply.now r _ (omega arith) c.fill-f.ensures.model
