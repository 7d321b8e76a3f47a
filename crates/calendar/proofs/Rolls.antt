-- A date that is rolled forward becomes the next day of the count, over the end of a month and of a year. Assumes nothing.
use mathlib.Core.Path.{◌≡◌, refl, ap}
use mathlib.Core.Bool.{Bool, true, false}
use Prim.Native.Nat.{ℕ, ◌+◌, ◌≤◌, ◌<◌}
use native.Mathlib.Omega.{arith}
use lib.Dec.{ltb}
use borrow.Author.Tests.{ltb-true, ltb-false, eq-eqb}
use Rattle.base.specs.Pick.{pick}
use Rattle.calendar.specs.Day.{date, days_in, is_date, is_last, days_before_month, day_number, next_day}
use Rattle.calendar.specs.Day.{rolled, roll_number, rolled_number, rolled_date}
use Rattle.calendar.specs.declared.date.RollError.TheVariants.{Nonexistent, Outside}
use Rattle.std.proofs.Common.{Ok, Err}
use Rattle.calendar.specs.Claims.{Later, Counts}
use Rattle.calendar.specs.declared.date.Date.{Date}
use Rattle.calendar.proofs.Months.{first_month, january, december, month_size, twelve_months, Existing, existing, exists_day}
use Rattle.calendar.proofs.Count.{month_after, year_after}

-- a date that is rolled exists, is not the last, and becomes the next day
pub record Rolls (d : Date) : Type 0 where
  pub there : is_date d ≡ true
  pub not_last : is_last d ≡ false
  pub becomes : rolled_date d ≡ next_day d

pub rolls : (d : Date) → rolled_number d ≡ 0 → Rolls d
unfolding rolled
rolls d = go (is_date d) (is_last d) refl refl
  where
    go : (a b : Bool) → is_date d ≡ a → is_last d ≡ b
        → roll_number (pick a (pick b (Err Outside) (Ok (next_day d))) (Err Nonexistent)) ≡ 0 → Rolls d
    go true true e f h = absurd (omega arith)
    go true false e f h = record { there = e; not_last = f; becomes = rw (e, f) }
    go false b e f h = absurd (omega arith)

pub last_day : (d : Date) → d.year ≡ 9999 → d.month ≡ 12 → d.day ≡ 31 → is_last d ≡ true
unfolding is_last
last_day d y m n = rw (eq-eqb d.year 9999 y, eq-eqb d.month 12 m, eq-eqb d.day 31 n)

module _ (d : Date) (x : Existing d.year d.month d.day) where
  abbrev size : ℕ
  size = days_in d.year d.month

  day_on : d.day < size → Later d (date d.year d.month (d.day + 1))
  unfolding day_number
  day_on h = record { there = exists_day d.year d.month (d.day + 1) x.year (omega arith) (omega arith); counted = omega arith }

  month_on : size ≤ d.day → d.month < 12 → Later d (date d.year (d.month + 1) 1)
  unfolding day_number
  month_on h l =
      let some = month_size d.year (d.month + 1) (omega arith) (omega arith) in
      record {
        there = exists_day d.year (d.month + 1) 1 x.year (omega arith) (omega arith);
        counted = omega (arith, month_after d.year d.month);
      }

  module _ (h : size ≤ d.day) (l : 12 ≤ d.month) where
    is_december : d.month ≡ 12
    is_december = omega arith

    thirty_first : d.day ≡ 31
    thirty_first = omega (arith, ap (days_in d.year) is_december, december d.year)

    year_on : d.year < 9999 → Later d (date (d.year + 1) 1 1)
    unfolding day_number
    year_on y =
        let m = is_december in
        let e = thirty_first in
        let months = ap (days_before_month d.year) is_december in
        let whole = twelve_months d.year in
        let last = month_after d.year 12 in
        let december-size = december d.year in
        let next = january (d.year + 1) in
        let first = first_month (d.year + 1) in
        record { there = exists_day (d.year + 1) 1 1 (omega arith) (omega arith) (omega arith); counted = omega (arith, year_after d.year) }

next-later : (d : Date) → is_date d ≡ true → is_last d ≡ false → Later d (next_day d)
unfolding next_day
next-later d p q = go (ltb d.day (days_in d.year d.month)) (ltb d.month 12) (ltb d.year 9999) refl refl refl
  where
    x : Existing d.year d.month d.day
    x = existing d p

    go : (a b c : Bool) → ltb d.day (days_in d.year d.month) ≡ a → ltb d.month 12 ≡ b → ltb d.year 9999 ≡ c → Later d (next_day d)
    go true b c e f g = rw e (day_on d x (ltb-true d.day (days_in d.year d.month) e))
    go false true c e f g = rw (e, f) (month_on d x (ltb-false d.day (days_in d.year d.month) e) (ltb-true d.month 12 f))
    go false false true e f g =
        let h = ltb-false d.day (days_in d.year d.month) e in
        let l = ltb-false d.month 12 f in
        rw (e, f) (year_on d x h l (ltb-true d.year 9999 g))
    go false false false e f g =
        let h = ltb-false d.day (days_in d.year d.month) e in
        let l = ltb-false d.month 12 f in
        let y = ltb-false d.year 9999 g in
        let last = last_day d (omega (arith, x.year)) (is_december d x h l) (thirty_first d x h l) in
        let z : ◌≡◌ {A = ℕ} 0 1 = cc in
        absurd (omega arith)

pub counts : Counts
counts d h =
    let r = rolls d h in
    rw r.becomes (next-later d r.there r.not_last)
