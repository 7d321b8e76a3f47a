-- `text::next8` meets its contract: the four bytes from a place on start a piece. Assumes nothing.
use native.Mathlib.Omega.{arith}
use lib.ListN.{drop, length-drop}
use Rattle.text.proofs.Sequences.{end8, reads8}
use Rattle.text.proofs.next8.Goals as goal

pub returns-then-s-at : goal.returns-then-s-at
returns-then-s-at c = let x = c.args in end8 (drop x.at x.s.now) (omega (arith, length-drop x.at x.s.now))

pub returns : goal.returns
returns c =
    let x = c.args in
    rw c.first8.ensures
    (reads8 x.s.now x.at _ _ _ _ (omega arith) c.byte_at.ensures.0 c.byte_at-2.ensures.0
    c.byte_at-3.ensures.0 c.byte_at-4.ensures.0)
