-- What a program prints of bytes: all of them in hexadecimal, or how many there are and their MD5.
use Rattle.std.specs.Prelude.{ℕ, List, [], ◌∷◌, ◌++◌, length, eqb, ltb}
use Rattle.std.specs.Fmt.{decimal}
use Rattle.base.specs.Pick.{pick}
use Rattle.digest.specs.Md5.{digest_of}
use Rattle.lines.specs.Output.{hex_of}

-- How many bytes `s` has and their MD5, as #COUNT:DIGEST.
abbrev pub sum_text : List ℕ → List ℕ
sum_text s = 35 ∷ (decimal (length s) ++ (58 ∷ hex_of (digest_of s)))

-- The bytes `s` in hexadecimal, a dash if there are none, and their number and digest if they are more than `longest`.
unfoldable pub shown_text : List ℕ → ℕ → List ℕ
shown_text s longest = pick (eqb (length s) 0) (45 ∷ []) (pick (ltb longest (length s)) (sum_text s) (hex_of s))
