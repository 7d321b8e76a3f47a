-- `audit::compare::target_length` meets its contract: its tests are those of the definition. Assumes nothing.
use Rattle.std.proofs.Common.{sym, refl, ◌∙◌}
use Rattle.audit.proofs.compare.target_length.Goals as goal

pub returns-then-is_named : goal.returns-then-is_named
returns-then-is_named c = rw (sym c.is_named.ensures ∙ c.if-is_named.true) refl

pub returns-else-is_named : goal.returns-else-is_named
returns-else-is_named c = rw (sym c.is_named.ensures ∙ c.if-is_named.false) refl
