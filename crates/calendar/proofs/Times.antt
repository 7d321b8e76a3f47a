-- Both conversions: every LegacyTime comes back from its text, and a text that reads as a LegacyTime is its text. An instant has one moment,
-- and a moment one instant. Assumes nothing.
use mathlib.Core.Path.{◌≡◌, refl, sym, ap, ◌∙◌}
use mathlib.Core.List.{List}
use mathlib.Core.Bool.{Bool, true, false, ◌&&◌, not}
use Prim.Native.Nat.{ℕ, ◌+◌, ◌-◌, ◌*◌, ◌/◌, ◌%◌, ◌^◌, ◌≤◌, ◌<◌}
use native.Mathlib.Omega.{arith}
use lib.Dec.{ltb}
use lib.ListN.{length}
use lib.Seq.{paste, take-length}
use borrow.Author.Tests.{ltb-true, ltb-false, lt-ltb, le-ltb}
use Rattle.base.specs.Pick.{pick}
use Rattle.calendar.specs.Day.{date, leap, days_in, is_date, days_before_year, days_before_month, day_number, date_from}
use Rattle.calendar.specs.Time.{instant, is_instant, moment, epoch, text_of, all_digits, is_form, number_at, read_instant}
use Rattle.calendar.specs.Time.{legacy_for, legacy_at, legacy_of, instant_of, time_of, writing, write_time}
use Rattle.calendar.specs.Claims.{ComesBack, OneText, last_text, LastTime}
use Rattle.calendar.specs.declared.date.Date.{Date}
use Rattle.calendar.specs.declared.time.Instant.{Instant}
use Rattle.calendar.specs.declared.time.LegacyError.TheVariants.{Malformed, Nonexistent, Outside}
use Rattle.std.proofs.Common.{Ok, Err}
use Rattle.calendar.proofs.Months.{both, month_most, existing}
use Rattle.calendar.proofs.Count.{one_day, closed-form}
use Rattle.calendar.proofs.Place.{Reached, reach}
use Rattle.calendar.proofs.Text.{InPlaces, text-size, form, read_back, text-form, text-back}

-- ---- what it takes that an instant exists

record There (i : Instant) : Type 0 where
  date : is_date i.date ≡ true
  hour : i.hour < 24
  minute : i.minute < 60
  second : i.second < 60

there : (i : Instant) → is_instant i ≡ true → There i
unfolding is_instant
there i e =
    let h = ltb i.hour 24 in
    let m = ltb i.minute 60 in
    let s = ltb i.second 60 in
    let a = both (is_date i.date) (h && (m && s)) e in
    let b = both h (m && s) a.1 in
    let c = both m s b.1 in
    record {
      date = a.0;
      hour = ltb-true i.hour 24 b.0;
      minute = ltb-true i.minute 60 c.0;
      second = ltb-true i.second 60 c.1;
    }

is_there_lem : (i : Instant) → There i → is_instant i ≡ true
unfolding is_instant
is_there_lem i x = rw (x.date, lt-ltb i.hour 24 x.hour, lt-ltb i.minute 60 x.minute, lt-ltb i.second 60 x.second)

in_places : (i : Instant) → There i → InPlaces i
in_places i x =
    let d = existing i.date x.date in
    let n = month_most i.date.year i.date.month in
    record {
      year = omega arith;
      month = omega arith;
      day = omega arith;
      hour = omega arith;
      minute = omega arith;
      second = omega arith;
    }

-- ---- a moment has one instant

same-instant : (c d : Date) (h g m n s r : ℕ) → c ≡ d → h ≡ g → m ≡ n → s ≡ r → instant c h m s ≡ instant d g n r
same-instant c d h g m n s r p q t u = cc

module _ (i j : Instant) (x : There i) (y : There j) (e : moment i ≡ moment j) where
  abbrev clock : Instant → ℕ
  clock k = k.hour * 3600 + k.minute * 60 + k.second

  same_day : day_number i.date ≡ day_number j.date
  unfolding moment
  same_day = omega arith

  same-clock : clock i ≡ clock j
  unfolding moment
  same-clock = omega (arith, same_day)

  one-instant : i ≡ j
  one-instant =
      let d = one_day i.date j.date x.date y.date same_day in
      let c = same-clock in
      same-instant i.date j.date i.hour j.hour i.minute j.minute i.second j.second d
      (omega arith) (omega arith) (omega arith)

-- ---- the instant of a LegacyTime

epoch_day : days_before_year 1970 ≡ 719528
epoch_day = sym (closed-form 1970)

module _ (n : ℕ) (h : n < 2 ^ 32) where
  day_reached : Reached (days_before_year 1970 + n / 86400) (date_from 137 1970 (n / 86400))
  day_reached = reach 137 1970 (n / 86400) (omega arith) (omega arith)

  of_there : There (instant_of n)
  unfolding instant_of
  of_there = record { date = day_reached.there; hour = omega arith; minute = omega arith; second = omega arith }

  -- the hours, minutes and seconds of a day are its seconds
  day_clock : n % 86400 / 3600 * 3600 + n % 3600 / 60 * 60 + n % 60 ≡ n % 86400
  day_clock = omega arith

  of_moment : moment (instant_of n) ≡ epoch + n
  unfolding instant_of moment
  of_moment =
      let d = day_reached.counted in
      let first = epoch_day in
      let c = day_clock in
      omega arith

-- the text of a LegacyTime at the front of a target
pub written : (n : ℕ) (m t t' : List ℕ) → 16 ≤ length t → m ≡ time_of n → t' ≡ paste t 0 m (length m) → writing (Ok tt) t' ≡ write_time n t
unfolding write_time time_of
written n m t t' h made e =
    let size : length m ≡ 16 = ap length made ∙ text-size (instant_of n) in
    rw (le-ltb (length t) 16 h, ← made) (ap (writing (Ok tt)) (e ∙ rw (take-length m, size)))

-- ---- the claims

seconds_of : (i : Instant) (n : ℕ) → is_instant i ≡ true → moment i ≡ epoch + n → n < 2 ^ 32 → legacy_at i ≡ Ok n
unfolding legacy_for
seconds_of i n t m h =
    let exact : (epoch + n) - epoch ≡ n = omega arith in
    rw (t, m, le-ltb (epoch + n) epoch (omega arith), lt-ltb (epoch + n) (epoch + 2 ^ 32) (omega arith), exact)

pub comes_back : ComesBack
unfolding legacy_of time_of
comes_back n h =
    let i = instant_of n in
    let x = of_there n h in
    rw (text-form i, read_back i (in_places i x)) (seconds_of i n (is_there_lem i x) (of_moment n h) h)

-- what a text that converts says
record Converts (t : List ℕ) (n : ℕ) : Type 0 where
  formed : is_form t ≡ true
  exists_then : is_instant (read_instant t) ≡ true
  counted : moment (read_instant t) ≡ epoch + n
  small : n < 2 ^ 32

converts : (t : List ℕ) (n : ℕ) → legacy_of t ≡ Ok n → Converts t n
unfolding legacy_of legacy_for
converts t n = go (is_form t) (is_instant i) (ltb (moment i) epoch) (ltb (moment i) (epoch + 2 ^ 32)) refl refl refl refl
  where
    i : Instant
    i = read_instant t

    go : (f g a b : Bool) → is_form t ≡ f → is_instant i ≡ g → ltb (moment i) epoch ≡ a → ltb (moment i) (epoch + 2 ^ 32) ≡ b
        → pick f (pick g (pick (not a && b) (Ok (moment i - epoch)) (Err Outside)) (Err Nonexistent)) (Err Malformed) ≡ Ok n → Converts t n
    go false g a b p q r s e =
        let z : ◌≡◌ {A = ℕ} 0 1 = cc in
        absurd (omega arith)
    go true false a b p q r s e =
        let z : ◌≡◌ {A = ℕ} 0 1 = cc in
        absurd (omega arith)
    go true true true b p q r s e =
        let z : ◌≡◌ {A = ℕ} 0 1 = cc in
        absurd (omega arith)
    go true true false false p q r s e =
        let z : ◌≡◌ {A = ℕ} 0 1 = cc in
        absurd (omega arith)
    go true true false true p q r s e =
        let since : moment i - epoch ≡ n = cc in
        let low = ltb-false (moment i) epoch r in
        let high = ltb-true (moment i) (epoch + 2 ^ 32) s in
        record { formed = p; exists_then = q; counted = omega arith; small = omega arith }

pub one-text : OneText
unfolding time_of
one-text t n e =
    let x = converts t n e in
    let i = read_instant t in
    let same = one-instant (instant_of n) i (of_there n x.small) (there i x.exists_then) (of_moment n x.small ∙ sym x.counted) in
    ap text_of same ∙ text-back t (form t x.formed)

abbrev last : Instant
last = instant (date 2106 2 7) 6 28 15

last-there : is_instant last ≡ true
unfolding is_instant is_date days_in leap
last-there = refl

last-moment : moment last ≡ epoch + (2 ^ 32 - 1)
unfolding moment day_number days_before_month days_in
last-moment = rw (← closed-form 2106)

last_legacy : legacy_of last_text ≡ Ok (2 ^ 32 - 1)
unfolding legacy_of is_form all_digits read_instant number_at
last_legacy = seconds_of last (2 ^ 32 - 1) last-there last-moment (omega arith)

pub last-time : LastTime
last-time = one-text last_text (2 ^ 32 - 1) last_legacy
