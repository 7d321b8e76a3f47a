-- `outgoing::queue::put_back` meets its contract: a turn lays one piece more. Assumes nothing.
use Rattle.std.proofs.Common.{arith, sym, ap, ◌∙◌}
use Rattle.packet.specs.Placed.{laid}
use Rattle.packet.proofs.HeaderBytes.{part_length}
use Rattle.outgoing.proofs.Walking.{back-goes, back-ends, gone-all, laying_first, laying_room, laying_on}
use Rattle.outgoing.proofs.queue.put_back.Goals as goal

pub loop-from-init : goal.loop-from-init
loop-from-init c = record { laying = laying_first _ _ _; in_range = omega arith }

pub slice_bounds-copy_into-count : goal.slice_bounds-copy_into-count
slice_bounds-copy_into-count c = (back-goes _ _ _ _ c.in-Some.ensures).stop

pub slice_bounds-copy_into-start : goal.slice_bounds-copy_into-start
slice_bounds-copy_into-start c = let g = back-goes _ _ _ _ c.in-Some.ensures in omega (arith, g.stop, g.fits)

pub slice_bounds-copy_into-end : goal.slice_bounds-copy_into-end
slice_bounds-copy_into-end c = let g = back-goes _ _ _ _ c.in-Some.ensures in omega (arith, g.stop, g.fits)

pub copy_into-requires : goal.copy_into-requires
copy_into-requires c =
    let p = c.in-Some.field-0 in
    let g = back-goes c.args.part c.args.packet.now c.loop-from.at p c.in-Some.ensures in
    let w = c.loop-from.invariant.laying in
    omega (arith, laying_room w g c.requires, part_length c.args.packet.now p.from p.to g.fits, w.same)

pub overflow_sub-n : goal.overflow_sub-n
overflow_sub-n c = (back-goes _ _ _ _ c.in-Some.ensures).stop

pub loop-from-smaller : goal.loop-from-smaller
loop-from-smaller c = let g = back-goes _ _ _ _ c.in-Some.ensures in omega (arith, g.onward, g.fits)

pub loop-from-preserved : goal.loop-from-preserved
loop-from-preserved c =
    let g = back-goes _ _ _ _ c.in-Some.ensures in
    record { laying = laying_on c.loop-from.invariant.laying g c.requires _ c.copy_into.ensures; in_range = g.fits }

pub returns : goal.returns
returns c =
    let w = c.loop-from.invariant.laying in
    w.is ∙ ap (laid c.args.store.now 0) (sym (gone-all w.gone (back-ends _ _ _ c.in_default.ensures)))
