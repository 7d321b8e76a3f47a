-- `audit::compare::same_body` meets its contract: its tests are those of the definition. Assumes nothing.
use Rattle.std.proofs.Common.{sym, refl, ◌∙◌}
use Rattle.audit.proofs.compare.same_body.Goals as goal

pub returns-then-is_equal : goal.returns-then-is_equal
returns-then-is_equal c = rw (sym c.is_equal.ensures ∙ c.if-is_equal.true) refl

pub returns : goal.returns
returns c = rw (sym c.is_equal.ensures ∙ c.if-is_equal.false, c.differ_at.ensures) refl
