-- `calendar::date::days_before_month` meets its contract. The invariant: the days of the months before `m` are counted. Assumes nothing.
use mathlib.Core.Path.{◌≡◌}
use Prim.Native.Nat.{◌*◌, ◌≤◌}
use Rattle.calendar.specs.Day.{days_before_month}
use Rattle.calendar.proofs.date.days_before_month.Given as goal

abbrev pub invariant-loop-m : goal.invariant-loop-m
invariant-loop-m l = (l.days ≡ days_before_month l.year l.m) × (l.days ≤ 31 * l.m)
