-- The checks of passwords (docs/PROTOCOL.md#eight-wrong): the history of the Connects that came to a check or were stopped, the latest
-- first, and its last 64 as one number, the window.
use Rattle.std.specs.Prelude.{ℕ, ◌+◌, ◌*◌, ◌%◌, ◌^◌, ◌≡◌, Bool, true, false, List, [], ◌∷◌, take, leb}

-- What became of a Connect that carried a response: the check passed; it failed, also for want of a password or of a user id; or the
-- Connect was stopped before the check.
pub data Check : Type 0 where
  right wrong stop : Check

-- The check failed; a stop is no check.
abbrev pub is_wrong : Check → Bool
is_wrong right = false
is_wrong wrong = true
is_wrong stop = false

-- A flag as a bit.
abbrev pub bit : Bool → ℕ
bit false = 0
bit true = 1

-- How many checks of a history were wrong.
unfoldable pub wrongs : List Check → ℕ
wrongs [] = 0
wrongs (c ∷ h) = bit (is_wrong c) + wrongs h

-- How many checks the window covers.
abbrev pub window_length : ℕ
window_length = 64

-- From so many wrong checks on in the window, a Connect with a response is stopped.
abbrev pub most_wrong : ℕ
most_wrong = 8

-- Whether eight or more of the last 64 checks were wrong.
unfoldable pub too_many_of : List Check → Bool
too_many_of h = leb most_wrong (wrongs (take window_length h))

-- The window `w` with one check more: its lowest bit is set if that check was wrong, and the oldest bit is lost.
abbrev pub shifted : ℕ → Bool → ℕ
shifted w b = (w * 2 + bit b) % 2 ^ 64

-- The window of a history.
unfoldable pub window_of : List Check → ℕ
window_of [] = 0
window_of (c ∷ h) = shifted (window_of h) (is_wrong c)

-- The rule that a history keeps: a Connect was stopped if too many checks before it were wrong, and came to a check if not.
abbrev pub Ruled : List Check → Type 0
Ruled [] = Unit {0}
Ruled (right ∷ h) = (too_many_of h ≡ false) × Ruled h
Ruled (wrong ∷ h) = (too_many_of h ≡ false) × Ruled h
Ruled (stop ∷ h) = (too_many_of h ≡ true) × Ruled h
