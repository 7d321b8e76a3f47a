-- `calendar::date::date_after_epoch` meets its contract. The invariant: what is left of the days counts from the first of January of `year`.
-- Assumes nothing.
use Rattle.calendar.proofs.Place.{InYears}
use Rattle.calendar.proofs.date.date_after_epoch.Given as goal

abbrev pub invariant-loop-size : goal.invariant-loop-size
invariant-loop-size l = InYears l.days l.year l.left l.size

abbrev pub decreases-loop-size : goal.decreases-loop-size
decreases-loop-size l = l.left
