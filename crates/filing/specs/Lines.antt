-- Texts that an operator writes: lines, and in a line a word, a separator and a value. A line ends with a line feed; the last one need not.
use Rattle.std.specs.Prelude.{ℕ, ◌≤◌, Bool, ◌&&◌, List, [], ◌∷◌, eqb, ltb, length}
use Prim.Native.Char.{code}
use Prim.Native.String as string
use Rattle.std.proofs.Math.Option.{Option, none, some}
use Rattle.base.specs.Pick.{pick}
use Rattle.base.specs.Place.{Place, Some, None}
use Rattle.packet.specs.Auth.{same}

-- A place stands in a text of `n` bytes.
abbrev pub PlaceFits : ℕ → Place → Type 0
PlaceFits n (Some p) = (p.start ≤ p.end) × (p.end ≤ n)
PlaceFits n None = Unit {0}

-- The bytes of a text of ASCII.
abbrev pub bytes : string.String → List ℕ
bytes string.[] = []
bytes (string.◌∷◌ c s) = code c ∷ bytes s

-- What stands before the first byte `x`: all if there is none.
unfoldable pub up_to : ℕ → List ℕ → List ℕ
up_to x [] = []
up_to x (b ∷ s) = pick (eqb b x) [] (b ∷ up_to x s)

-- What stands behind the first byte `x`: nothing if there is none.
unfoldable pub behind : ℕ → List ℕ → List ℕ
behind x [] = []
behind x (b ∷ s) = pick (eqb b x) s (behind x s)

-- The byte `b` in front of the first line.
abbrev pub on_first : ℕ → List (List ℕ) → List (List ℕ)
on_first b [] = (b ∷ []) ∷ []
on_first b (l ∷ ls) = (b ∷ l) ∷ ls

-- The lines of a text, without the line feeds.
unfoldable pub lines_of : List ℕ → List (List ℕ)
lines_of [] = []
lines_of (b ∷ s) = pick (eqb b 10) ([] ∷ lines_of s) (on_first b (lines_of s))

-- Whether a line has the word `w`, and the separator behind it.
unfoldable pub under : ℕ → List ℕ → List ℕ → Bool
under separator w l = ltb (length (up_to separator l)) (length l) && same (up_to separator l) w

-- The value behind the word `w`: that of the first line which has it.
unfoldable pub value_for : ℕ → List ℕ → List (List ℕ) → Option (List ℕ)
value_for separator w [] = none
value_for separator w (l ∷ ls) = pick (under separator w l) (some (behind separator l)) (value_for separator w ls)
