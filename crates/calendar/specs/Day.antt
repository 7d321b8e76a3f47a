-- The Gregorian calendar in the years 0 to 9999, its leap years carried back to year 0 (request (f)): which days exist, the count of days,
-- the date so many days after a first of January, and a date rolled forward one day.
use Rattle.std.specs.Prelude.{ℕ, zero, suc, ◌+◌, ◌-◌, ◌%◌, List, [], ◌∷◌, Bool, ◌&&◌, ◌||◌, not, get_or, eqb, leb, ltb, Result, Ok, Err}
use Rattle.base.specs.Pick.{pick}
use Rattle.calendar.specs.declared.date.Date.{Date}
use Rattle.calendar.specs.declared.date.Rolling.{Rolling}
use Rattle.calendar.specs.declared.date.RollError.{RollError}
use Rattle.calendar.specs.declared.date.RollError.TheVariants.{Nonexistent, Outside}

-- A date by its numbers. There may be no such day.
abbrev pub date : ℕ → ℕ → ℕ → Date
date y m d = record { year = y; month = m; day = d }

-- ---- which days exist

-- The year has a leap day. Year 0 has.
unfoldable pub leap : ℕ → Bool
leap y = eqb (y % 4) 0 && (not (eqb (y % 100) 0) || eqb (y % 400) 0)

-- The days of each month in a common year, by the month's number.
abbrev pub common : List ℕ
common = 0 ∷ 31 ∷ 28 ∷ 31 ∷ 30 ∷ 31 ∷ 30 ∷ 31 ∷ 31 ∷ 30 ∷ 31 ∷ 30 ∷ 31 ∷ []

-- The days of a month: 0 if there is no such month.
unfoldable pub days_in : ℕ → ℕ → ℕ
days_in y m = pick (eqb m 2 && leap y) 29 (get_or common m 0)

-- The day exists. None is in a month that there is not.
unfoldable pub is_date : Date → Bool
is_date d = leb d.year 9999 && (leb 1 d.day && leb d.day (days_in d.year d.month))

-- The day is 9999-12-31.
unfoldable pub is_last : Date → Bool
is_last d = eqb d.year 9999 && (eqb d.month 12 && eqb d.day 31)

-- ---- the count of days

-- The days of a year.
abbrev pub year_days : ℕ → ℕ
year_days y = pick (leap y) 366 365

-- The days from 0000-01-01 to the first of January of a year.
unfoldable pub days_before_year : ℕ → ℕ
days_before_year zero = 0
days_before_year (suc y) = days_before_year y + year_days y

-- The days of a year before a month. Months count from 1, and month 0 has no days.
unfoldable pub days_before_month : ℕ → ℕ → ℕ
days_before_month y zero = 0
days_before_month y (suc m) = days_before_month y m + days_in y m

-- The number of a day, where 0000-01-01 is day 0.
unfoldable pub day_number : Date → ℕ
day_number d = days_before_year d.year + days_before_month d.year d.month + (d.day - 1)

-- ---- from a count of days to a date

-- The date n days after the first of month m of year y, if it is in that month or the f months behind it.
unfoldable pub month_from : ℕ → ℕ → ℕ → ℕ → Date
month_from zero y m n = date y m (n + 1)
month_from (suc f) y m n = pick (ltb n (days_in y m)) (date y m (n + 1)) (month_from f y (m + 1) (n - days_in y m))

-- The date n days after the first of January of year y, if it is in that year or the f years behind it.
unfoldable pub date_from : ℕ → ℕ → ℕ → Date
date_from zero y n = month_from 12 y 1 n
date_from (suc f) y n = pick (ltb n (year_days y)) (month_from 12 y 1 n) (date_from f (y + 1) (n - year_days y))

-- ---- one day forward

-- The day behind a day that exists: over the end of December the first of January of the next year.
unfoldable pub next_day : Date → Date
next_day d =
    pick (ltb d.day (days_in d.year d.month)) (date d.year d.month (d.day + 1))
    (pick (ltb d.month 12) (date d.year (d.month + 1) 1) (date (d.year + 1) 1 1))

-- What rolling a date answers: the day behind it, or why there is none, that the day does not exist before that it is the last.
unfoldable pub rolled : Date → Result Date RollError
rolled d = pick (is_date d) (pick (is_last d) (Err Outside) (Ok (next_day d))) (Err Nonexistent)

-- The number of an answer (docs/DECISIONS.md, part B): 17 if the day does not exist, 18 if it is the last.
abbrev pub roll_number : {A : Type 0} → Result A RollError → ℕ
roll_number (Ok a) = 0
roll_number (Err Nonexistent) = 17
roll_number (Err Outside) = 18

-- The number that rolling a date answers.
abbrev pub rolled_number : Date → ℕ
rolled_number d = roll_number (rolled d)

-- The answer alone.
abbrev pub answer_of : Result Date RollError → Result (Unit {0}) RollError
answer_of (Ok e) = Ok tt
answer_of (Err r) = Err r

-- The date afterwards. A refusal changes nothing.
abbrev pub date_after : Date → Result Date RollError → Date
date_after d (Ok e) = e
date_after d (Err r) = d

abbrev pub rolled_date : Date → Date
rolled_date d = date_after d (rolled d)

-- The answer, and the date afterwards.
abbrev pub rolling : Result (Unit {0}) RollError → Date → Rolling
rolling a d = record { answer = a; date = d }

-- What rolling a date forward gives.
abbrev pub rolled_by : Date → Rolling
rolled_by d = rolling (answer_of (rolled d)) (rolled_date d)
