-- `table::nonces::push_front` meets its contract: each turn moves one number on (`Moved`). Assumes nothing.
use mathlib.Core.Path.{refl}
use Prim.Native.Nat.{◌<◌, ◌+◌}
use native.Mathlib.Omega.{arith}
use lib.ListN.{length}
use Rattle.table.proofs.Pushing.{moved_none, moved-one, moved_length, moved_all}
use Rattle.table.proofs.nonces.push_front.Goals as goal

pub loop-i-init : goal.loop-i-init
loop-i-init c = (refl, moved_none c.args.s.now c.args.x)

pub loop-i-preserved : goal.loop-i-preserved
loop-i-preserved c =
    let l = c.loop-i in
    let a = c.args in
    let h : l.i < length a.s.now = omega arith in
    let m = moved-one a.s.now a.x l.i l.s l.carry h l.invariant.1 in
    (moved_length a.s.now a.x (l.i + 1) _ _ (omega arith) m, m)

pub returns : goal.returns
returns c =
    let l = c.loop-i in
    let a = c.args in
    moved_all a.s.now a.x l.i l.s l.carry (omega (arith, c.loop-i-test.false, l.auto.i-end)) l.invariant.1
