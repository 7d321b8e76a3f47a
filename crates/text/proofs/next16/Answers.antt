-- `text::next16` meets its contract: the unit at a place is 0 where the units end, else it starts a piece. Assumes nothing.
use mathlib.Core.Path.{sym, ◌∙◌}
use Prim.Native.Nat.{◌<◌}
use native.Mathlib.Omega.{arith}
use native.Mathlib.Nat.{pos_of_ne-zero}
use lib.ListN.{get_or, drop, length-drop}
use Rattle.text.specs.Unicode.{units}
use Rattle.text.proofs.Pairs.{unit_there, end16, reads16}
use Rattle.text.proofs.next16.Goals as goal

pub returns-then-u-eq0 : goal.returns-then-u-eq0
returns-then-u-eq0 c = let x = c.args in end16 (drop x.at x.s.now) (sym c.unit_at-u.ensures.0 ∙ c.if-u-eq0.true)

pub overflow_add-at : goal.overflow_add-at
overflow_add-at c =
    let x = c.args in
    let u = c.unit_at-u in
    let h : 0 < get_or (units (drop x.at x.s.now)) 0 0 = rw u.ensures.0 at (pos_of_ne-zero c.if-u-eq0.false) in
    omega (arith, unit_there (drop x.at x.s.now) h, length-drop x.at x.s.now)

pub returns : goal.returns
returns c =
    let x = c.args in
    let u = c.unit_at-u in
    let v = c.unit_at in
    rw c.first16.ensures (reads16 x.s.now x.at u.result v.result u.ensures.0 v.ensures.0 c.if-u-eq0.false
    u.ensures.1)
