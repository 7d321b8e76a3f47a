-- `calendar::date::date_in_year` meets its contract. The invariant: what is left of the days counts from the first of `month`. Assumes nothing.
use Rattle.calendar.proofs.Place.{InYear}
use Rattle.calendar.proofs.date.date_in_year.Given as goal

abbrev pub invariant-loop-size : goal.invariant-loop-size
invariant-loop-size l = InYear l.year l.days l.month l.left l.size

abbrev pub decreases-loop-size : goal.decreases-loop-size
decreases-loop-size l = l.left
