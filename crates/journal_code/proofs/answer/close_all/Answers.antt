-- `journal_code::answer::close_all` meets its contract: each turn closes one id more, and what is still to be closed decides what is
-- left (proofs/Closes).
use mathlib.Core.Path.{◌∙◌}
use Rattle.journal_code.proofs.Closes.{closing_on}
use Rattle.journal_code.proofs.answer.close_all.Goals as goal

pub loop-id-preserved : goal.loop-id-preserved
loop-id-preserved c =
    let x = c.args in
    let v = c.loop-id.invariant in
    let w = c.in-Some.ensures.steps in (
      w.0 ∙ v.0,
      closing_on x.ids.now x.count x.tables.now _ c.in-Some.id.now _ c.loop-id.left c.loop-id.tables _ _ _ (w.1.1 ∙ v.0) w.1.0 v.1
          c.be32_at.ensures c.close_link-left.ensures.value c.close_link-left.ensures.store,
    )
