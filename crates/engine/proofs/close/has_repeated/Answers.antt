-- `engine::close::has_repeated` meets its contract: `contains` asks whether an id is a member of those behind it. Assumes nothing.
use Rattle.std.proofs.Common.{refl, sym, ◌∙◌}
use Rattle.journal.specs.Ids.{repeats}
use Rattle.engine.proofs.Closes.{repeats_by, none-behind}
use Rattle.engine.proofs.close.has_repeated.Goals as goal

pub loop-i-init : goal.loop-i-init
loop-i-init c = refl

pub returns-then-contains : goal.returns-then-contains
returns-then-contains c =
    rw c.if-contains.true at (sym (repeats_by c.args.ids.now c.loop-i.i _ c.loop-i-test.true c.contains.ensures.value) ∙ c.loop-i.invariant)

pub loop-i-preserved : goal.loop-i-preserved
loop-i-preserved c =
    rw c.if-contains.false at (sym (repeats_by c.args.ids.now c.loop-i.i _ c.loop-i-test.true c.contains.ensures.value) ∙ c.loop-i.invariant)

pub returns : goal.returns
unfolding repeats
returns c = rw (none-behind c.args.ids.now c.loop-i.i c.loop-i-test.false) at c.loop-i.invariant
