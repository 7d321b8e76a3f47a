-- What is proved of the definitions: every LegacyTime comes back; a text that reads as a LegacyTime is its text; rolling a date counts the
-- days; and the count tells days apart.
use Rattle.std.specs.Prelude.{ℕ, ◌+◌, ◌-◌, ◌^◌, ◌<◌, ◌≡◌, List, [], ◌∷◌, true, Ok}
use Rattle.calendar.specs.Day.{is_date, day_number, rolled_number, rolled_date}
use Rattle.calendar.specs.Time.{legacy_of, time_of}
use Rattle.calendar.specs.declared.date.Date.{Date}

-- Every LegacyTime converts and comes back equal.
abbrev pub ComesBack : Type 0
ComesBack = (n : ℕ) → n < 2 ^ 32 → legacy_of (time_of n) ≡ Ok n

-- A text that reads as n is n's text.
abbrev pub OneText : Type 0
OneText = (t : List ℕ) (n : ℕ) → legacy_of t ≡ Ok n → time_of n ≡ t

-- The text 21060207T062815Z.
abbrev pub last_text : List ℕ
last_text = 0x32 ∷ 0x31 ∷ 0x30 ∷ 0x36 ∷ 0x30 ∷ 0x32 ∷ 0x30 ∷ 0x37 ∷ 0x54 ∷ 0x30 ∷ 0x36 ∷ 0x32 ∷ 0x38 ∷ 0x31 ∷ 0x35 ∷ 0x5A ∷ []

-- The text of the last LegacyTime is 21060207T062815Z.
abbrev pub LastTime : Type 0
LastTime = time_of (2 ^ 32 - 1) ≡ last_text

-- Day e exists, and is one day after day d by the count.
pub record Later (d e : Date) : Type 0 where
  pub there : is_date e ≡ true
  pub counted : day_number e ≡ day_number d + 1

-- A date that is rolled forward becomes the next day of the count.
abbrev pub Counts : Type 0
Counts = (d : Date) → rolled_number d ≡ 0 → Later d (rolled_date d)

-- Different days have different numbers.
abbrev pub OneDay : Type 0
OneDay = (d e : Date) → is_date d ≡ true → is_date e ≡ true → day_number d ≡ day_number e → d ≡ e
