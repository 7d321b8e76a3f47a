-- `outgoing::queue::back_len` meets its contract: a turn counts one piece more. Assumes nothing.
use Rattle.std.proofs.Common.{length, arith, sym, ap, ◌∙◌}
use Rattle.outgoing.proofs.Walking.{back-goes, back-ends, gone_on, gone-all}
use Rattle.outgoing.proofs.queue.back_len.Goals as goal

pub overflow_sub-n : goal.overflow_sub-n
overflow_sub-n c = (back-goes _ _ _ _ c.in-Some.ensures).stop

pub overflow_add-n : goal.overflow_add-n
overflow_add-n c =
    let g = back-goes _ _ _ _ c.in-Some.ensures in
    omega (arith, g.start, g.stop, g.fits, c.loop-from.invariant.gone.behind)

pub loop-from-smaller : goal.loop-from-smaller
loop-from-smaller c = let g = back-goes _ _ _ _ c.in-Some.ensures in omega (arith, g.onward, g.fits)

pub loop-from-preserved : goal.loop-from-preserved
loop-from-preserved c =
    let g = back-goes _ _ _ _ c.in-Some.ensures in
    record { gone = gone_on c.loop-from.invariant.gone g; in_range = g.fits }

pub returns : goal.returns
returns c =
    let g = c.loop-from.invariant.gone in
    (sym (ap length (gone-all g (back-ends _ _ _ c.in_default.ensures)) ∙ g.size), omega (arith, g.behind, c.loop-from.invariant.in_range))
