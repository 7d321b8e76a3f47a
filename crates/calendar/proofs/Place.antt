-- The date at a count of days: it exists, and its number is that count; and how the loops over years and months come to it. Assumes nothing.
use mathlib.Core.Path.{◌≡◌, refl, subst, sym, ap, ◌∙◌}
use mathlib.Core.Bool.{Bool, true, false}
use Prim.Native.Nat.{ℕ, zero, suc, ◌+◌, ◌-◌, ◌*◌, ◌≤◌, ◌<◌}
use native.Mathlib.Omega.{arith}
use lib.Dec.{ltb}
use borrow.Author.Tests.{ltb-true, ltb-false, lt-ltb, le-ltb}
use Rattle.base.specs.Pick.{pick}
use Rattle.calendar.specs.Day.{date, days_in, year_days, is_date, days_before_year, days_before_month, day_number, month_from, date_from}
use Rattle.calendar.specs.declared.date.Date.{Date}
use Rattle.calendar.proofs.Months.{first_month, twelve_months, year_size, exists_day}
use Rattle.calendar.proofs.Count.{month_after, year_after}

-- ---- the date exists and has the number

pub record Reached (n : ℕ) (d : Date) : Type 0 where
  pub there : is_date d ≡ true
  pub counted : day_number d ≡ n

-- no month is behind December
past_december : (y m : ℕ) → m ≡ 13 → days_before_month y m ≡ year_days y
past_december y m e = ap (days_before_month y) e ∙ twelve_months y

reach_month : (f y m n : ℕ) → y ≤ 9999 → m + f ≡ 13 → days_before_month y m + n < year_days y
    → Reached (days_before_year y + days_before_month y m + n) (month_from f y m n)
unfolding month_from day_number
reach_month zero y m n h e inside = absurd (omega (arith, past_december y m (omega arith)))
reach_month (suc f) y m n h e inside = go (ltb n (days_in y m)) refl (λ i j. reach_month f y (m + 1) (n - days_in y m) h i j)
  where
    go : (t : Bool) → ltb n (days_in y m) ≡ t
        → (m + 1 + f ≡ 13 → days_before_month y (m + 1) + (n - days_in y m) < year_days y
        → Reached (days_before_year y + days_before_month y (m + 1) + (n - days_in y m)) (month_from f y (m + 1) (n - days_in y m)))
        → Reached (days_before_year y + days_before_month y m + n) (pick t (date y m (n + 1)) (month_from f y (m + 1) (n - days_in y m)))
    go true l next = record { there = exists_day y m (n + 1) h (omega arith) (omega (arith, ltb-true n (days_in y m) l)); counted = omega arith }
    go false l next =
        let past = ltb-false n (days_in y m) l in
        let after = month_after y m in
        let same : days_before_year y + days_before_month y (m + 1) + (n - days_in y m) ≡ days_before_year y + days_before_month y m + n = omega arith in
        subst (λ (k : ℕ). Reached k (month_from f y (m + 1) (n - days_in y m))) same
        (next (omega arith) (omega arith))

pub reach : (f y n : ℕ) → y + f ≤ 10000 → n < f * 365 → Reached (days_before_year y + n) (date_from f y n)
unfolding date_from
reach zero y n h inside = absurd (omega arith)
reach (suc f) y n h inside = go (ltb n (year_days y)) refl (λ i j. reach f (y + 1) (n - year_days y) i j)
  where
    go : (t : Bool) → ltb n (year_days y) ≡ t
        → (y + 1 + f ≤ 10000 → n - year_days y < f * 365 → Reached (days_before_year (y + 1) + (n - year_days y)) (date_from f (y + 1) (n - year_days y)))
        → Reached (days_before_year y + n) (pick t (month_from 12 y 1 n) (date_from f (y + 1) (n - year_days y)))
    go true l next =
        let first = first_month y in
        let same : days_before_year y + days_before_month y 1 + n ≡ days_before_year y + n = omega arith in
        subst (λ (k : ℕ). Reached k (month_from 12 y 1 n)) same
        (reach_month 12 y 1 n (omega arith) refl (omega (arith, ltb-true n (year_days y) l)))
    go false l next =
        let past = ltb-false n (year_days y) l in
        let after = year_after y in
        let size = year_size y in
        let same : days_before_year (y + 1) + (n - year_days y) ≡ days_before_year y + n = omega arith in
        subst (λ (k : ℕ). Reached k (date_from f (y + 1) (n - year_days y))) same
        (next (omega arith) (omega arith))

-- ---- the loop over months

-- `n` days after the first of January of `y` are `left` days after the first of month `m`, which has `size` days
pub record InYear (y n m left size : ℕ) : Type 0 where
  pub fuel : ℕ
  pub months : m + fuel ≡ 13
  pub low : 1 ≤ m
  pub sized : size ≡ days_in y m
  pub counted : days_before_month y m + left ≡ n
  pub inside : n < year_days y
  pub same : month_from 12 y 1 n ≡ month_from fuel y m left

pub month_first : (y n size : ℕ) → n < year_days y → size ≡ days_in y 1 → InYear y n 1 n size
month_first y n size h e =
    record { fuel = 12; months = refl; low = omega arith; sized = e; counted = omega (arith, first_month y); inside = h; same = refl }

module _ (y n m left size : ℕ) (x : InYear y n m left size) where
  -- December is the last month that is looked at
  pub month_high : m ≤ 12
  month_high = go (ltb 12 m) refl
    where
      go : (t : Bool) → ltb 12 m ≡ t → m ≤ 12
      go true e =
          let past = ltb-true 12 m e in
          absurd (omega (arith, past_december y m (omega arith)))
      go false e = ltb-false 12 m e

  step : (f : ℕ) → days_in y m ≤ left → month_from (suc f) y m left ≡ month_from f y (m + 1) (left - days_in y m)
  unfolding month_from
  step f h = rw (le-ltb left (days_in y m) h)

  stop : (f : ℕ) → left < days_in y m → date y m (left + 1) ≡ month_from f y m left
  unfolding month_from
  stop zero h = refl
  stop (suc f) h = rw (lt-ltb left (days_in y m) h)

  pub month_next : (next : ℕ) → size ≤ left → next ≡ days_in y (m + 1) → InYear y n (m + 1) (left - size) next
  month_next next h e =
      let high = month_high in
      let one : suc (x.fuel - 1) ≡ x.fuel = omega arith in
      let moved : month_from x.fuel y m left ≡ month_from (x.fuel - 1) y (m + 1) (left - size) =
      ap (λ (k : ℕ). month_from k y m left) (sym one) ∙ step (x.fuel - 1) (omega arith)
      ∙ ap (λ (k : ℕ). month_from (x.fuel - 1) y (m + 1) (left - k)) (sym x.sized) in
      record {
        fuel = x.fuel - 1;
        months = omega arith;
        low = omega arith;
        sized = e;
        counted = omega (arith, month_after y m);
        inside = x.inside;
        same = x.same ∙ moved;
      }

  pub month_found : left < size → date y m (left + 1) ≡ month_from 12 y 1 n
  month_found h = stop x.fuel (omega arith) ∙ sym x.same

-- ---- the loop over years

-- `n` days after the first day of 1970 are `left` days after the first of January of `y`, which has `size` days
pub record InYears (n y left size : ℕ) : Type 0 where
  pub fuel : ℕ
  pub years : y + fuel ≡ 2107
  pub sized : size ≡ year_days y
  pub enough : left < fuel * 365
  pub same : date_from 137 1970 n ≡ date_from fuel y left

pub year_first : (n size : ℕ) → n < 137 * 365 → size ≡ year_days 1970 → InYears n 1970 n size
year_first n size h e = record { fuel = 137; years = refl; sized = e; enough = h; same = refl }

module _ (n y left size : ℕ) (x : InYears n y left size) where
  step_year : (f : ℕ) → year_days y ≤ left → date_from (suc f) y left ≡ date_from f (y + 1) (left - year_days y)
  unfolding date_from
  step_year f h = rw (le-ltb left (year_days y) h)

  stop_year : (f : ℕ) → left < year_days y → month_from 12 y 1 left ≡ date_from f y left
  unfolding date_from
  stop_year zero h = refl
  stop_year (suc f) h = rw (lt-ltb left (year_days y) h)

  pub year_next : (next : ℕ) → size ≤ left → next ≡ year_days (y + 1) → InYears n (y + 1) (left - size) next
  year_next next h e =
      let least = year_size y in
      let one : suc (x.fuel - 1) ≡ x.fuel = omega arith in
      let moved : date_from x.fuel y left ≡ date_from (x.fuel - 1) (y + 1) (left - size) =
      ap (λ (k : ℕ). date_from k y left) (sym one) ∙ step_year (x.fuel - 1) (omega arith)
      ∙ ap (λ (k : ℕ). date_from (x.fuel - 1) (y + 1) (left - k)) (sym x.sized) in
      record { fuel = x.fuel - 1; years = omega arith; sized = e; enough = omega arith; same = x.same ∙ moved }

  pub year_found : left < size → month_from 12 y 1 left ≡ date_from 137 1970 n
  year_found h = stop_year x.fuel (omega arith) ∙ sym x.same
