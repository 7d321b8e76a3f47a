-- `calendar::date::days_in_year` meets its contract: the year's days go by its leap day. Assumes nothing.
use mathlib.Core.Path.{sym, ◌∙◌}
use Rattle.calendar.proofs.date.days_in_year.Goals as goal

pub returns-then-is_leap : goal.returns-then-is_leap
returns-then-is_leap c = rw (sym c.is_leap.ensures ∙ c.if-is_leap.true)

pub returns-else-is_leap : goal.returns-else-is_leap
returns-else-is_leap c = rw (sym c.is_leap.ensures ∙ c.if-is_leap.false)
