-- Texts that came from elsewhere, as a line of a log shows them: no control character of theirs goes to a terminal.
use Rattle.std.specs.Prelude.{ℕ, List, [], ◌∷◌, ◌&&◌, ◌||◌, eqb, ltb}
use Rattle.base.specs.Pick.{pick}
use Rattle.lines.specs.Word.{Filled, filled}
use Rattle.lines.specs.Output.{put_bytes}

-- The sign for the byte `b` behind `before`: a question mark for U+0000 to U+001F, U+007F, and U+0080 to U+009F, which are two bytes in UTF-8.
unfoldable pub shown : ℕ → ℕ → ℕ
shown before b = pick (ltb b 32 || (eqb b 127 || (eqb before 0xC2 && ltb b 160))) 63 b

-- Bytes behind the first `n` of a store, one after the other; `before` stands in front of them.
abbrev pub put_shown : List ℕ → ℕ → ℕ → List ℕ → Filled
put_shown out n before [] = filled out n
put_shown out n before (b ∷ l) = let m = put_bytes out n (shown before b ∷ []) in put_shown m.bytes m.used b l
