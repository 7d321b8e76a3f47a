-- What an error of the system means for a file or a folder that was to be opened, by Linux's number of the error.
use Rattle.std.specs.Prelude.{ℕ, Bool, false, ◌||◌, eqb, ℤ, pos, negsuc}
use Rattle.base.specs.Pick.{pick}
use Rattle.packet.specs.ResponseCodes as response

-- Whether the error has a number.
abbrev pub is_error : ℤ → ℕ → Bool
is_error (pos n) k = eqb n k
is_error (negsuc n) k = false

-- The reply to a request for a file that cannot be opened: Not Found if no file has that name (2); Forbidden if it may not be opened (1, 13), is a
-- socket (6), a folder (21) or a link (40); otherwise Internal Server Error.
unfoldable pub refusal_of : ℤ → ℕ
refusal_of e =
    pick (is_error e 2) response.not_found
    (pick (is_error e 1 || (is_error e 6 || (is_error e 13 || (is_error e 21 || is_error e 40)))) response.forbidden response.internal_server_error)

-- A file that cannot be opened for writing may be open to readers: it may not be written (1, 13), it is a program that is running (26), or its
-- file system is read only (30).
unfoldable pub read_alone : ℤ → Bool
read_alone e = is_error e 1 || (is_error e 13 || (is_error e 26 || is_error e 30))

-- A folder that cannot be opened is not there: nothing has that name (2), or what has it is no folder (20).
unfoldable pub missing : ℤ → Bool
missing e = is_error e 2 || is_error e 20

-- What was to be written has no room: on the disk (28), or in a user's share of it (122).
unfoldable pub is_full : ℤ → Bool
is_full e = is_error e 28 || is_error e 122
