-- `lines::word::repeat` meets its contract. Each turn is one copy, and what is left to repeat says what the store becomes (`Copies`). Assumes
-- nothing.
use mathlib.Core.Path.{refl, ◌∙◌}
use borrow.Author.Tests.{eq-eqb, ne_eqb}
use Rattle.lines.specs.Word.{repeated}
use Rattle.lines.proofs.Copies.{repeated-turn}
use borrow.Author.Rules.{rules}
use Rattle.lines.proofs.word.repeat.Goals as goal

pub returns-then-count-eq0 : goal.returns-then-count-eq0
unfolding repeated
returns-then-count-eq0 c = simp (eq-eqb _ 0 c.if-count-eq0.true)

pub loop-init : goal.loop-init
unfolding repeated
loop-init c = (refl, simp (ne_eqb _ 0 c.if-count-eq0.false))

pub loop-preserved : goal.loop-preserved
loop-preserved c =
    let z = c in
    let l = c.loop in (
      search rules,
      l.invariant.1 ∙ repeated-turn l.out _ _ _ l.n _ _ l.counter c.loop-test.true c.again-next.ensures
          c.if-next-n.false,
    )
