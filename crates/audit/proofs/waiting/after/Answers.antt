-- `audit::waiting::after` meets its contract: its tests are those of the definition. Assumes nothing.
use Rattle.std.proofs.Common.{sym, refl, ◌∙◌}
use Rattle.audit.proofs.waiting.after.Goals as goal

pub returns-then-is_handed : goal.returns-then-is_handed
returns-then-is_handed c = rw (sym c.is_handed.ensures ∙ c.if-is_handed.true) c.handed_over.ensures

pub returns-then-is_waiting : goal.returns-then-is_waiting
returns-then-is_waiting c =
    rw (
      sym c.is_handed.ensures ∙ c.if-is_handed.false,
      sym c.is_waiting.ensures ∙ c.if-is_waiting.true,
    ) c.noted.ensures

pub returns : goal.returns
returns c =
    rw (
      sym c.is_handed.ensures ∙ c.if-is_handed.false,
      sym c.is_waiting.ensures ∙ c.if-is_waiting.false,
    ) refl
