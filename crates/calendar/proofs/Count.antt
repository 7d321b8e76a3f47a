-- The count of days: it grows from day to day, so that it tells days apart; and the days before a year without counting them one by one.
-- Assumes nothing.
use mathlib.Core.Path.{◌≡◌, refl, subst, sym, ap, ◌∙◌}
use mathlib.Core.Bool.{Bool, true, false, ◌&&◌, ◌||◌, not}
use Prim.Native.Nat.{ℕ, zero, suc, ◌+◌, ◌-◌, ◌*◌, ◌/◌, ◌%◌, ◌≤◌, ◌<◌}
use native.Mathlib.Numerals.{add-one}
use native.Mathlib.Nat.{div-add-mod', div-eq_of_lt-le, add-div_right, add-mul, mod-lt}
use native.Mathlib.Omega.{arith}
use lib.Dec.{eqb, ltb}
use borrow.Author.Tests.{eqb-true, eqb-false, ltb-true, ltb-false}
use Rattle.base.specs.Pick.{pick}
use Rattle.calendar.specs.Day.{date, leap, days_in, year_days, days_before_year, days_before_month, day_number}
use Rattle.calendar.specs.Claims.{OneDay}
use Rattle.calendar.specs.declared.date.Date.{Date}
use Rattle.calendar.proofs.Months.{twelve_months, Existing, existing}

-- ---- growing

-- what is added at a place is there at each later place
grows : (f g : ℕ → ℕ) → ((k : ℕ) → f (suc k) ≡ f k + g k) → (m n : ℕ) → m < n → f m + g m ≤ f n
grows f g step m zero h = absurd (omega arith)
grows f g step m (suc n) h = go (eqb m n) refl (λ l. grows f g step m n l)
  where
    go : (t : Bool) → eqb m n ≡ t → (m < n → f m + g m ≤ f n) → f m + g m ≤ f (suc n)
    go true e before = subst (λ (k : ℕ). f m + g m ≤ f (suc k)) (eqb-true m n e) (omega (arith, step m))
    go false e before =
        let other = eqb-false m n e in
        omega (arith, step n, before (omega arith))

pub month_after : (y m : ℕ) → days_before_month y (m + 1) ≡ days_before_month y m + days_in y m
unfolding days_before_month
month_after y m = rw (add-one m)

pub year_after : (y : ℕ) → days_before_year (y + 1) ≡ days_before_year y + year_days y
unfolding days_before_year
year_after y = rw (add-one y)

months_before : (y m n : ℕ) → m < n → days_before_month y m + days_in y m ≤ days_before_month y n
unfolding days_before_month
months_before y = grows (days_before_month y) (days_in y) (λ k. refl)

years_before : (y z : ℕ) → y < z → days_before_year y + year_days y ≤ days_before_year z
unfolding days_before_year
years_before = grows days_before_year year_days (λ k. refl)

-- ---- days apart

-- a day is in its year
in_year : (y m d : ℕ) → Existing y m d → days_before_month y m + (d - 1) < year_days y
in_year y m d x = omega (arith, twelve_months y, months_before y m 13 (omega arith))

module _ (d e : Date) (x : Existing d.year d.month d.day) (z : Existing e.year e.month e.day) where
  earlier_year : d.year < e.year → day_number d < day_number e
  unfolding day_number
  earlier_year h = omega (arith, in_year d.year d.month d.day x, years_before d.year e.year h)

  earlier_month : d.year ≡ e.year → d.month < e.month → day_number d < day_number e
  unfolding day_number
  earlier_month same h =
      let y = ap days_before_year same in
      let m = ap (λ (k : ℕ). days_before_month k e.month) same in
      omega (arith, months_before d.year d.month e.month h)

  earlier_day : d.year ≡ e.year → d.month ≡ e.month → d.day < e.day → day_number d < day_number e
  unfolding day_number
  earlier_day same sameM h =
      let y = ap days_before_year same in
      let m : days_before_month d.year d.month ≡ days_before_month e.year e.month = cc in
      omega arith

-- two numbers are equal if what grows with them is
level : (a b i j : ℕ) → (a < b → i < j) → (b < a → j < i) → i ≡ j → a ≡ b
level a b i j up down e = go (ltb a b) (ltb b a) refl refl
  where
    go : (t u : Bool) → ltb a b ≡ t → ltb b a ≡ u → a ≡ b
    go true u p q = absurd (omega (arith, up (ltb-true a b p)))
    go false true p q = absurd (omega (arith, down (ltb-true b a q)))
    go false false p q = omega (arith, ltb-false a b p, ltb-false b a q)

same-date : (y m d z n e : ℕ) → y ≡ z → m ≡ n → d ≡ e → date y m d ≡ date z n e
same-date y m d z n e p q r = cc

pub one_day : OneDay
one_day d e p q same =
    let x = existing d p in
    let z = existing e q in
    let y = level d.year e.year (day_number d) (day_number e) (earlier_year d e x z) (earlier_year e d z x) same in
    let m = level d.month e.month (day_number d) (day_number e) (earlier_month d e x z y) (earlier_month e d z x (sym y)) same in
    let n = level d.day e.day (day_number d) (day_number e) (earlier_day d e x z y m) (earlier_day e d z x (sym y) (sym m)) same in
    same-date d.year d.month d.day e.year e.month e.day y m n

-- ---- the days before a year at once

abbrev pub closed : ℕ → ℕ
closed y = 365 * y + (y + 3) / 4 + (y + 399) / 400 - (y + 99) / 100

-- a quotient that is rounded up grows by one behind each multiple of the divisor
module _ (k : ℕ) (pos : 0 < k) (y : ℕ) where
  abbrev q : ℕ
  q = y / k

  -- a number between two multiples of the divisor, rounded up
  between : (p : ℕ) → p * k ≤ y + (k - 1) → y + (k - 1) < p * k + k → (y + (k - 1)) / k ≡ p
  between p low high = div-eq_of_lt-le k low (rw (add-mul p 1 k) (omega arith))

  rounded : (b : Bool) → eqb (y % k) 0 ≡ b → (y + (k - 1)) / k ≡ q + pick b 0 1
  rounded true e =
      let zero_left = eqb-true (y % k) 0 e in
      between (q + 0) (omega (arith, div-add-mod' y k)) (omega (arith, div-add-mod' y k))
  rounded false e =
      let some_left = eqb-false (y % k) 0 e in
      let below = mod-lt y pos in
      let next = add-mul q 1 k in
      between (q + 1) (omega (arith, div-add-mod' y k)) (omega (arith, div-add-mod' y k))

  rounded_next : (b : Bool) → eqb (y % k) 0 ≡ b → (suc y + (k - 1)) / k ≡ (y + (k - 1)) / k + pick b 1 0
  rounded_next b e =
      let same : suc y + (k - 1) ≡ y + k = omega arith in
      ap (λ (n : ℕ). n / k) same ∙ add-div_right y pos ∙ go b (rounded b e)
    where
      go : (b : Bool) → (y + (k - 1)) / k ≡ q + pick b 0 1 → q + 1 ≡ (y + (k - 1)) / k + pick b 1 0
      go true f = omega arith
      go false f = omega arith

-- the closed form from a year to the next, where `a`, `b` and `c` are its quotients and grow by `i`, `j` and `k`
next-closed : (y a b c i j k n : ℕ) → c ≤ 365 * y → n + k ≡ 365 + i + j → 365 * y + a + b - c + n ≡ 365 * suc y + (a + i) + (b + j) - (c + k)
next-closed y a b c i j k n h e = omega arith

-- a leap day is a multiple of four, less a multiple of a hundred, and a multiple of four hundred
module _ (y : ℕ) where
  balance : (a b c : Bool) → eqb (y % 4) 0 ≡ a → eqb (y % 400) 0 ≡ b → eqb (y % 100) 0 ≡ c
      → pick (a && (not c || b)) 366 365 + pick c 1 0 ≡ 365 + pick a 1 0 + pick b 1 0
  balance true true true e f g = refl
  balance true true false e f g = absurd (omega (arith, eqb-true (y % 400) 0 f, eqb-false (y % 100) 0 g))
  balance true false true e f g = refl
  balance true false false e f g = refl
  balance false true c e f g = absurd (omega (arith, eqb-false (y % 4) 0 e, eqb-true (y % 400) 0 f))
  balance false false true e f g = absurd (omega (arith, eqb-false (y % 4) 0 e, eqb-true (y % 100) 0 g))
  balance false false false e f g = refl

  closed-step : closed y + year_days y ≡ closed (suc y)
  unfolding leap
  closed-step =
      let a = eqb (y % 4) 0 in
      let b = eqb (y % 400) 0 in
      let c = eqb (y % 100) 0 in
      rw (rounded_next 4 (omega arith) y a refl, rounded_next 400 (omega arith) y b refl, rounded_next 100 (omega arith) y c refl)
      (next-closed y ((y + 3) / 4) ((y + 399) / 400) ((y + 99) / 100) (pick a 1 0) (pick b 1 0) (pick c 1 0) (year_days y) (omega arith)
      (balance a b c refl refl refl))

pub closed-form : (y : ℕ) → closed y ≡ days_before_year y
unfolding days_before_year
closed-form zero = refl
closed-form (suc y) = sym (closed-step y) ∙ ap (λ (n : ℕ). n + year_days y) (closed-form y)
