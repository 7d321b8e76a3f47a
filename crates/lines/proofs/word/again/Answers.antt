-- `lines::word::again` meets its contract. What is left to copy says what the store becomes (`Copies`). Assumes nothing.
use mathlib.Core.Path.{◌∙◌}
use lib.ListN.{length-set}
use Rattle.lines.proofs.Copies.{copied_turn}
use Rattle.lines.proofs.word.again.Goals as goal

pub loop-i-preserved : goal.loop-i-preserved
loop-i-preserved c =
    let l = c.loop-i in (
      simp length-set l.invariant.0,
      l.invariant.1 ∙ copied_turn l.out _ l.i l.n c.loop-i-test.true
          c.if-out-n.false c.if-out-i.false,
    )
