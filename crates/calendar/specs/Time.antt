-- LegacyTime, the seconds since 1970-01-01 00:00:00 UTC in 32 bits, and Time, the text YYYYMMDDTHHMMSSZ (headers 0xC4 and 0x44,
-- docs/PROTOCOL.md#headers; request (f)): each converted to the other.
use Rattle.std.specs.Prelude.{ℕ, zero, suc, ◌+◌, ◌-◌, ◌*◌, ◌/◌, ◌%◌, ◌^◌, ◌≤◌, List, [], ◌∷◌, ◌++◌, Bool, true, ◌&&◌, not, length, get_or, take, drop, eqb, leb, ltb, Result, Ok, Err}
use Rattle.base.specs.Pick.{pick}
use Rattle.calendar.specs.Day.{date, is_date, day_number, date_from}
use Rattle.calendar.specs.declared.date.Date.{Date}
use Rattle.calendar.specs.declared.time.Instant.{Instant}
use Rattle.base.specs.declared.Short.{Short}
use Rattle.base.specs.Store.{short}
use Rattle.calendar.specs.declared.time.LegacyError.{LegacyError}
use Rattle.calendar.specs.declared.time.LegacyError.TheVariants.{Malformed, Nonexistent, Outside}

-- A date and a time of day, by their numbers. There may be no such time.
abbrev pub instant : Date → ℕ → ℕ → ℕ → Instant
instant d h m s = record { date = d; hour = h; minute = m; second = s }

-- The date and the time of day exist. There is no second 60.
unfoldable pub is_instant : Instant → Bool
is_instant i = is_date i.date && (ltb i.hour 24 && (ltb i.minute 60 && ltb i.second 60))

-- The seconds since 0000-01-01 00:00:00.
unfoldable pub moment : Instant → ℕ
moment i = day_number i.date * 86400 + i.hour * 3600 + i.minute * 60 + i.second

-- The moment of 1970-01-01 00:00:00, which is day 719,528.
abbrev pub epoch : ℕ
epoch = 719528 * 86400

-- ---- text

-- The last k decimal digits of a number, as bytes.
unfoldable pub decimal : ℕ → ℕ → List ℕ
decimal zero x = []
decimal (suc k) x = decimal k (x / 10) ++ ((0x30 + x % 10) ∷ [])

-- The text of an instant: the mark T is 0x54, and the mark Z is 0x5A.
unfoldable pub text_of : Instant → List ℕ
text_of i =
    decimal 4 i.date.year ++ (decimal 2 i.date.month ++ (decimal 2 i.date.day ++ (0x54
    ∷ (decimal 2 i.hour ++ (decimal 2 i.minute ++ (decimal 2 i.second ++ (0x5A ∷ [])))))))

-- A byte is a decimal digit.
abbrev pub is_digit_of : ℕ → Bool
is_digit_of b = leb 0x30 b && leb b 0x39

-- Each byte of a list is a decimal digit.
unfoldable pub all_digits : List ℕ → Bool
all_digits [] = true
all_digits (b ∷ l) = is_digit_of b && all_digits l

-- The text has the form YYYYMMDDTHHMMSSZ.
unfoldable pub is_form : List ℕ → Bool
is_form t =
    eqb (length t) 16 && (all_digits (take 8 t) && (eqb (get_or t 8 0) 0x54
    && (all_digits (take 6 (drop 9 t)) && eqb (get_or t 15 0) 0x5A)))

-- The number of the k digits at a place.
unfoldable pub number_at : List ℕ → ℕ → ℕ → ℕ
number_at t at zero = 0
number_at t at (suc k) = number_at t at k * 10 + (get_or t (at + k) 0 - 0x30)

-- The byte `b` is a digit.
pub record Digit (b : ℕ) : Type 0 where
  pub low : 0x30 ≤ b
  pub high : b ≤ 0x39

-- Two digits stand at the place `at` of the text `t`.
pub record DigitsAt (t : List ℕ) (at : ℕ) : Type 0 where
  pub inside : at + 2 ≤ length t
  pub tens : Digit (get_or t at 0)
  pub ones : Digit (get_or t (at + 1) 0)

-- The instant that a text of the form names.
unfoldable pub read_instant : List ℕ → Instant
read_instant t =
    instant (date (number_at t 0 4) (number_at t 4 2) (number_at t 6 2)) (number_at t 9 2) (number_at t 11 2) (number_at t 13 2)

-- ---- from text to seconds

-- The LegacyTime of a moment, by whether there is such a time: 17 if there is none, then 18 if it lies outside the 32 bits.
unfoldable pub legacy_for : Bool → ℕ → Result ℕ LegacyError
legacy_for exists m =
    pick exists (pick (not (ltb m epoch) && ltb m (epoch + 2 ^ 32)) (Ok (m - epoch)) (Err Outside)) (Err Nonexistent)

-- The LegacyTime of an instant.
abbrev pub legacy_at : Instant → Result ℕ LegacyError
legacy_at i = legacy_for (is_instant i) (moment i)

-- The LegacyTime of a text: 16, before both, if the text lacks the form.
unfoldable pub legacy_of : List ℕ → Result ℕ LegacyError
legacy_of t = pick (is_form t) (legacy_at (read_instant t)) (Err Malformed)

-- The number of an answer (docs/DECISIONS.md, part B).
abbrev pub legacy_number : Result ℕ LegacyError → ℕ
legacy_number (Ok n) = 0
legacy_number (Err Malformed) = 16
legacy_number (Err Nonexistent) = 17
legacy_number (Err Outside) = 18

-- ---- from seconds to text

-- The instant of a LegacyTime. The seconds of 32 bits are less than 137 years.
unfoldable pub instant_of : ℕ → Instant
instant_of n = instant (date_from 137 1970 (n / 86400)) (n % 86400 / 3600) (n % 3600 / 60) (n % 60)

-- The Time of a LegacyTime.
unfoldable pub time_of : ℕ → List ℕ
time_of n = text_of (instant_of n)

-- The number of an answer.
abbrev pub wrote_number : Result (Unit {0}) Short → ℕ
wrote_number (Ok u) = 0
wrote_number (Err e) = 10

-- What writing gives: the number of its answer, and the target afterwards.
pub record Writing : Type 0 where
  pub number : ℕ
  pub target : List ℕ

-- Makes a `Writing`, with the number of the answer `r`.
abbrev pub writing : Result (Unit {0}) Short → List ℕ → Writing
writing r t = record { number = wrote_number r; target = t }

-- The text stands at the target's front, and places past the text stay. A target under 16 bytes stays whole.
unfoldable pub write_time : ℕ → List ℕ → Writing
write_time n t = pick (ltb (length t) 16) (writing (Err short) t) (writing (Ok tt) (time_of n ++ drop 16 t))
