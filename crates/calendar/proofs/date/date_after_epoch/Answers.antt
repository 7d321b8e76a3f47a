-- `calendar::date::date_after_epoch` meets its contract. The invariant: what is left of the days counts from the first of January of `year`.
-- Assumes nothing.
use mathlib.Core.Path.{◌∙◌}
use Rattle.calendar.proofs.Months.{year_size}
use Rattle.calendar.proofs.Place.{year_first, year_next, year_found}
use native.Mathlib.Omega.{arith}
use Rattle.calendar.proofs.date.date_after_epoch.Goals as goal

pub loop-size-init : goal.loop-size-init
loop-size-init c = year_first c.args.days c.days_in_year-size.result c.requires c.days_in_year-size.ensures

pub overflow_add-year : goal.overflow_add-year
overflow_add-year c = omega (arith, c.loop-size.invariant.years)

pub loop-size-smaller : goal.loop-size-smaller
loop-size-smaller c =
    let l = c.loop-size in
    omega (arith, l.invariant.sized, year_size l.year)

pub loop-size-preserved : goal.loop-size-preserved
loop-size-preserved c =
    let l = c.loop-size in
    year_next c.args.days l.year l.left l.size l.invariant c.days_in_year-size-in-loop-size.result
    c.loop-size-test.true c.days_in_year-size-in-loop-size.ensures

pub date_in_year-requires : goal.date_in_year-requires
date_in_year-requires c = omega (arith, c.loop-size.invariant.sized)

pub returns : goal.returns
returns c =
    let l = c.loop-size in
    c.date_in_year.ensures
    ∙ year_found c.args.days l.year l.left l.size l.invariant c.loop-size-test.false
