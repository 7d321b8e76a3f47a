-- `outgoing::object::fill` meets its contract: in a turn that goes on, a header fits. Assumes nothing.
use Rattle.std.proofs.Common.{arith, refl, sym, suc, length}
use Rattle.outgoing.proofs.Fitting.{goes, stopped}
use Rattle.outgoing.proofs.object.fill.Goals as goal

pub loop-end-init : goal.loop-end-init
loop-end-init c =
    record { room = omega arith; left = record { fuel = suc (length c.args.headers.now); enough = omega arith; is = refl } }

pub slice_bounds-copy_into-count : goal.slice_bounds-copy_into-count
slice_bounds-copy_into-count c = let g = goes c.loop-end.invariant.left (sym c.in-Ok.ensures) in omega (arith, g.next)

pub slice_bounds-copy_into-start : goal.slice_bounds-copy_into-start
slice_bounds-copy_into-start c = let g = goes c.loop-end.invariant.left (sym c.in-Ok.ensures) in omega (arith, g.next, g.fits)

pub slice_bounds-copy_into-end : goal.slice_bounds-copy_into-end
slice_bounds-copy_into-end c = let g = goes c.loop-end.invariant.left (sym c.in-Ok.ensures) in omega (arith, g.next, g.fits)

pub copy_into-requires : goal.copy_into-requires
copy_into-requires c = let g = goes c.loop-end.invariant.left (sym c.in-Ok.ensures) in omega (arith, g.room, g.size)

pub overflow_sub-at : goal.overflow_sub-at
overflow_sub-at c = let g = goes c.loop-end.invariant.left (sym c.in-Ok.ensures) in omega (arith, g.next)

pub overflow_add-at : goal.overflow_add-at
overflow_add-at c = let g = goes c.loop-end.invariant.left (sym c.in-Ok.ensures) in omega (arith, g.room)

pub loop-end-smaller : goal.loop-end-smaller
loop-end-smaller c = let g = goes c.loop-end.invariant.left (sym c.in-Ok.ensures) in omega (arith, g.next, g.fits)

pub loop-end-preserved : goal.loop-end-preserved
loop-end-preserved c =
    let g = goes c.loop-end.invariant.left (sym c.in-Ok.ensures) in
    record { room = g.room; left = g.on _ c.copy_into.ensures }

pub returns-in-Err : goal.returns-in-Err
returns-in-Err c = record { model = stopped c.loop-end.invariant.left (sym c.in-Err.ensures); within = c.loop-end.invariant.room }
