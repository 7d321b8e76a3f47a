-- `calendar::date::next_date` meets its contract: its two tests are those of `next_day`, in their order. Assumes nothing.
use borrow.Author.Tests.{lt-ltb, le-ltb}
use Rattle.calendar.specs.Day.{next_day}
use Rattle.calendar.proofs.date.next_date.Goals as goal

pub returns-then-date-days_in : goal.returns-then-date-days_in
unfolding next_day
returns-then-date-days_in c = rw (← c.days_in.ensures, lt-ltb _ _ c.if-date-days_in.true)

pub returns-then-date-lt12 : goal.returns-then-date-lt12
unfolding next_day
returns-then-date-lt12 c =
    let a = c in
    rw (← c.days_in.ensures, le-ltb _ _ c.if-date-days_in.false, lt-ltb _ _ c.if-date-lt12.true)

pub returns : goal.returns
unfolding next_day
returns c =
    let a = c in
    rw (← c.days_in.ensures, le-ltb _ _ c.if-date-days_in.false, le-ltb _ _ c.if-date-lt12.false)
