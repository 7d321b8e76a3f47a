-- `calendar::date::rolled` meets its contract: a day that exists is in none of the years past the last. Assumes nothing.
use mathlib.Core.Path.{sym, ◌∙◌}
use Rattle.calendar.proofs.Months.{existing}
use Rattle.calendar.proofs.date.rolled.Goals as goal

pub next_date-requires : goal.next_date-requires
next_date-requires c = (existing c.args.date (sym c.is_date.ensures ∙ c.if-not-is_date.false)).year
