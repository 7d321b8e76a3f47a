-- `calendar::date::days_before_month` meets its contract. The days of one month more. Assumes nothing.
use mathlib.Core.Path.{refl}
use native.Mathlib.Omega.{arith}
use Rattle.calendar.specs.Day.{days_before_month}
use Rattle.calendar.proofs.Months.{month_most}
use Rattle.calendar.proofs.Count.{month_after}
use Rattle.calendar.proofs.date.days_before_month.Goals as goal

pub loop-m-init : goal.loop-m-init
unfolding days_before_month
loop-m-init c = (refl, omega arith)

pub loop-m-preserved : goal.loop-m-preserved
loop-m-preserved c =
    let y = c.args.year in
    let m = c.loop-m.m in
    (omega (arith, month_after y m), omega (arith, month_most y m))
