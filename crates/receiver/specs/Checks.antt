-- What a receiver makes of the letters of password checks (docs/PROTOCOL.md#eight-wrong): whether another check may be made, and the letter
-- of a check that came out. Which letters count, and how, stands in filing's Tries.
use Rattle.std.specs.Prelude.{ℕ, Bool, true, false, List, [], ◌∷◌, ◌==◌}
use Rattle.base.specs.Pick.{pick}
use Rattle.filing.specs.declared.payload.CheckMade.{CheckMade}
use Rattle.filing.specs.Tries.{right_letter, stop_letter, wrong_letter, open_letter, last_letters, check_allowed}
use Rattle.receiver.specs.declared.checks.Verdict.{Verdict}
use Rattle.receiver.specs.declared.checks.Verdict.TheVariants.{Allowed, Stopped, Open}

-- Whether a check among the letters is being made.
unfoldable pub has_open : List ℕ → Bool
has_open [] = false
has_open (b ∷ l) = pick (b == open_letter) true (has_open l)

-- What the letters in front of a check say. If too many stand for wrong checks, it is worth waiting for those that are being made.
unfoldable pub letter_verdict : List ℕ → Verdict
letter_verdict l = pick (check_allowed (last_letters l)) Allowed (pick (has_open l) Open Stopped)

-- The letter of a check, by whether it was stopped and whether the password was right.
unfoldable pub letter_for : CheckMade → ℕ
letter_for c = pick c.stopped stop_letter (pick c.right right_letter wrong_letter)

-- A letter that is to be on the disk before the client is told: that of a wrong check, so that a power cut buys no further try.
abbrev pub is_lasting : ℕ → Bool
is_lasting letter = letter == wrong_letter
