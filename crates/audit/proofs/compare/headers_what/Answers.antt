-- `audit::compare::headers_what` meets its contract: its tests are those of the definition. Assumes nothing.
use Rattle.std.proofs.Common.{sym, refl, ◌∙◌}
use Rattle.audit.proofs.compare.headers_what.Goals as goal

pub returns-then-is_held : goal.returns-then-is_held
returns-then-is_held c = rw (sym c.is_held.ensures ∙ c.if-is_held.true) refl

pub returns : goal.returns
returns c = rw (sym c.is_held.ensures ∙ c.if-is_held.false, c.differ_at.ensures) refl
