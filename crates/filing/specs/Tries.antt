-- The checks of passwords over all connections of a receiver (docs/PROTOCOL.md#eight-wrong). The engine's window is that of one connection. A
-- receiver keeps one letter for each check in a file that every process appends to, and judges by the last 64 letters before its own.
use Rattle.std.specs.Prelude.{ℕ, ◌-◌, Bool, not, List, [], ◌∷◌, eqb, length, drop}
use Rattle.base.specs.Pick.{pick}
use Rattle.journal.specs.Checks.{Check, right, wrong, stop, too_many_of}

-- The letters: `r`, a right password; `s`, stopped before the check; `w`, a wrong one; `?`, a check that is being made, or whose process died.
abbrev pub right_letter : ℕ
right_letter = 0x72

abbrev pub stop_letter : ℕ
stop_letter = 0x73

abbrev pub wrong_letter : ℕ
wrong_letter = 0x77

abbrev pub open_letter : ℕ
open_letter = 0x3F

-- The check that a letter stands for. Whatever is neither `r` nor `s` counts as wrong, damage too.
unfoldable pub letter_check : ℕ → Check
letter_check b = pick (eqb b right_letter) right (pick (eqb b stop_letter) stop wrong)

-- The history of some letters, the latest first.
abbrev pub history_of : List ℕ → List Check
history_of [] = []
history_of (b ∷ l) = letter_check b ∷ history_of l

-- A password may be checked: fewer than eight of the last 64 letters, the latest first, stand for wrong checks.
unfoldable pub check_allowed : List ℕ → Bool
check_allowed l = not (too_many_of (history_of l))

-- The last 64 letters of a file, in its order. No more than these are looked at, so their order plays no part.
abbrev pub last_letters : List ℕ → List ℕ
last_letters l = drop (length l - 64) l

-- A letter may become another: a check that is being made may come out in any way, and no other letter changes.
pub data Becomes : ℕ → ℕ → Type 0 where
  stays : {b : ℕ} → Becomes b b
  settles : {b : ℕ} → Becomes open_letter b

-- Some letters as they were read, and as they are once every check among them has come out.
abbrev pub Settled : List ℕ → List ℕ → Type 0
Settled [] [] = Unit {0}
Settled [] (c ∷ m) = ⊥
Settled (b ∷ l) [] = ⊥
Settled (b ∷ l) (c ∷ m) = Becomes b c × Settled l m
