-- The names below an archive (docs/ARCHIVE.md#as-a-receiver-files-it): that of a session, by its clock and 64 random bits, that of a record, by
-- its number, and that of a record which is not filed to its end. No byte of a client's is in them.
use Rattle.std.specs.Prelude.{ℕ, ◌/◌, ◌%◌, List, [], ◌∷◌, ◌++◌}
use Rattle.calendar.specs.Time.{decimal, time_of}
use Rattle.files.specs.Path.{hex_digit}

-- The eight hexadecimal digits of a number of 32 bits.
abbrev pub hex8 : ℕ → List ℕ
hex8 n =
    hex_digit (n / 268435456 % 16) ∷ hex_digit (n / 16777216 % 16) ∷ hex_digit (n / 1048576 % 16) ∷ hex_digit (n / 65536 % 16)
    ∷ hex_digit (n / 4096 % 16) ∷ hex_digit (n / 256 % 16) ∷ hex_digit (n / 16 % 16) ∷ hex_digit (n % 16) ∷ []

-- The name of a session that began at a clock: its time, a hyphen, and 64 random bits in two numbers.
unfoldable pub session_name : ℕ → ℕ → ℕ → List ℕ
session_name clock high low = time_of clock ++ (0x2D ∷ (hex8 high ++ hex8 low))

-- The name of a record: six digits.
unfoldable pub record_name : ℕ → List ℕ
record_name n = decimal 6 n

-- The name of a record while it is being filed: `.part` behind it.
unfoldable pub part_name : ℕ → List ℕ
part_name n = record_name n ++ (0x2E ∷ 0x70 ∷ 0x61 ∷ 0x72 ∷ 0x74 ∷ [])
