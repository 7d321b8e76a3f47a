-- `calendar::date::date_in_year` meets its contract. The invariant: what is left of the days counts from the first of `month`. Assumes nothing.
use mathlib.Core.Path.{◌∙◌}
use Rattle.calendar.proofs.Months.{month_size, month_most}
use Rattle.calendar.proofs.Place.{month_first, month_high, month_next, month_found}
use native.Mathlib.Omega.{arith}
use Rattle.calendar.proofs.date.date_in_year.Goals as goal

pub loop-size-init : goal.loop-size-init
loop-size-init c = month_first c.args.year c.args.days c.from-size.result c.requires (c.from-size.ensures ∙ c.days_in.ensures)

pub overflow_add-month : goal.overflow_add-month
overflow_add-month c =
    let l = c.loop-size in
    let x = c.args in
    omega (arith, month_high x.year x.days l.month l.left l.size l.invariant)

pub loop-size-smaller : goal.loop-size-smaller
loop-size-smaller c =
    let l = c.loop-size in
    let x = c.args in
    let high = month_high x.year x.days l.month l.left l.size l.invariant in
    omega (arith, month_size x.year l.month l.invariant.low high)

pub loop-size-preserved : goal.loop-size-preserved
loop-size-preserved c =
    let l = c.loop-size in
    let x = c.args in
    month_next x.year x.days l.month l.left l.size l.invariant c.from-size-in-loop-size.result c.loop-size-test.true
    (c.from-size-in-loop-size.ensures ∙ c.days_in-in-loop-size.ensures)

pub overflow_add-result : goal.overflow_add-result
overflow_add-result c =
    let l = c.loop-size in
    let x = c.args in
    omega (arith, l.invariant.sized, month_most x.year l.month)

pub overflow_cast-result : goal.overflow_cast-result
overflow_cast-result c =
    let l = c.loop-size in
    let x = c.args in
    omega (arith, l.invariant.sized, month_most x.year l.month)

pub returns : goal.returns
returns c =
    let l = c.loop-size in
    let x = c.args in
    month_found x.year x.days l.month l.left l.size l.invariant c.loop-size-test.false
