-- The lengths of months and years, and what it takes that a day exists. Assumes nothing.
use mathlib.Core.Path.{◌≡◌, refl, subst}
use mathlib.Core.Bool.{Bool, true, false, ◌&&◌}
use Prim.Native.Nat.{ℕ, zero, suc, ◌+◌, ◌-◌, ◌≤◌, ◌<◌}
use native.Mathlib.Omega.{arith}
use lib.Dec.{T, eqb, leb, ltb, leb→le}
use lib.ListN.{get_or, get_or-eq_default}
use borrow.Author.Tests.{leb-true, le-leb, ltb-true, ltb-false, ne_eqb}
use Rattle.base.proofs.Below.{at_each, and_left, and_right}
use Rattle.base.specs.Pick.{pick}
use Rattle.calendar.specs.Day.{date, leap, common, days_in, year_days, is_date, days_before_month}
use Rattle.calendar.specs.declared.date.Date.{Date}

pub both : (a b : Bool) → (a && b) ≡ true → (a ≡ true) × (b ≡ true)
both true b e = (refl, e)
both false b e =
    let z : ◌≡◌ {A = ℕ} 0 1 = cc in
    absurd (omega arith)

-- ---- months

-- the days of a month, by whether the year has a leap day
abbrev size : Bool → ℕ → ℕ
size b m = pick (eqb m 2 && b) 29 (get_or common m 0)

abbrev is_size : ℕ → Bool
is_size n = leb 28 n && leb n 31

sizes : (b : Bool) (m : ℕ) → m < 12 → T (is_size (size b (m + 1)))
sizes true = at_each (λ m. is_size (size true (m + 1))) 12 tt
sizes false = at_each (λ m. is_size (size false (m + 1))) 12 tt

-- the days of the months before a month
abbrev before : Bool → ℕ → ℕ
before b zero = 0
before b (suc m) = before b m + size b m

year_of : (b : Bool) → before b 13 ≡ pick b 366 365
year_of true = refl
year_of false = refl

module _ (y : ℕ) where
  pub no_month : (m : ℕ) → 12 < m → days_in y m ≡ 0
  unfolding days_in
  no_month m h = rw (ne_eqb m 2 (λ e. omega arith)) (get_or-eq_default common 0 h)

  month_zero : days_in y 0 ≡ 0
  unfolding days_in
  month_zero = refl

  pub january : days_in y 1 ≡ 31
  unfolding days_in
  january = refl

  pub december : days_in y 12 ≡ 31
  unfolding days_in
  december = refl

  -- a month that there is has at least 28 days and at most 31
  pub month_size : (m : ℕ) → 1 ≤ m → m ≤ 12 → (28 ≤ days_in y m) × (days_in y m ≤ 31)
  unfolding days_in
  month_size m l h =
      let k : (m - 1) + 1 ≡ m = omega arith in
      let n = size (leap y) ((m - 1) + 1) in
      let t = sizes (leap y) (m - 1) (omega arith) in
      subst (λ (i : ℕ). (28 ≤ size (leap y) i) × (size (leap y) i ≤ 31)) k
      (leb→le 28 n (and_left (leb 28 n) (leb n 31) t), leb→le n 31 (and_right (leb 28 n) (leb n 31) t))

  pub month_most : (m : ℕ) → days_in y m ≤ 31
  month_most zero = omega (arith, month_zero)
  month_most (suc m) = go (ltb m 12) refl
    where
      go : (t : Bool) → ltb m 12 ≡ t → days_in y (suc m) ≤ 31
      go true e = (month_size (suc m) (omega arith) (omega (arith, ltb-true m 12 e))).1
      go false e = omega (arith, no_month (suc m) (omega (arith, ltb-false m 12 e)))

  -- only a month that there is has days
  has_days : (m : ℕ) → 1 ≤ days_in y m → (1 ≤ m) × (m ≤ 12)
  has_days zero h = absurd (omega (arith, month_zero))
  has_days (suc m) h = go (ltb m 12) refl
    where
      go : (t : Bool) → ltb m 12 ≡ t → (1 ≤ suc m) × (suc m ≤ 12)
      go true e = (omega arith, omega (arith, ltb-true m 12 e))
      go false e = absurd (omega (arith, no_month (suc m) (omega (arith, ltb-false m 12 e))))

  -- ---- years

  pub first_month : days_before_month y 1 ≡ 0
  unfolding days_in days_before_month
  first_month = refl

  -- the months of a year are the year
  pub twelve_months : days_before_month y 13 ≡ year_days y
  unfolding days_in days_before_month
  twelve_months = year_of (leap y)

  pub year_size : (365 ≤ year_days y) × (year_days y ≤ 366)
  year_size = go (leap y)
    where
      go : (b : Bool) → (365 ≤ pick b 366 365) × (pick b 366 365 ≤ 366)
      go true = (omega arith, omega arith)
      go false = (omega arith, omega arith)

-- ---- days

-- what it takes that a day exists
pub record Existing (y m d : ℕ) : Type 0 where
  pub year : y ≤ 9999
  pub month_low : 1 ≤ m
  pub month_high : m ≤ 12
  pub day_low : 1 ≤ d
  pub day_high : d ≤ days_in y m

pub existing : (d : Date) → is_date d ≡ true → Existing d.year d.month d.day
unfolding is_date
existing d e =
    let n = days_in d.year d.month in
    let year = both (leb d.year 9999) (leb 1 d.day && leb d.day n) e in
    let day = both (leb 1 d.day) (leb d.day n) year.1 in
    let low = leb-true 1 d.day day.0 in
    let high = leb-true d.day n day.1 in
    let month = has_days d.year d.month (omega arith) in
    record { year = leb-true d.year 9999 year.0; month_low = month.0; month_high = month.1; day_low = low; day_high = high }

pub exists_day : (y m d : ℕ) → y ≤ 9999 → 1 ≤ d → d ≤ days_in y m → is_date (date y m d) ≡ true
unfolding is_date
exists_day y m d h l u = rw (le-leb y 9999 h, le-leb 1 d l, le-leb d (days_in y m) u)
