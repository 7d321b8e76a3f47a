-- Texts that are put into an output: behind the first `n` bytes of a store, as far as there is room. What does not fit is left out.
use Rattle.std.specs.Prelude.{ℕ, zero, suc, ◌+◌, ◌-◌, ◌*◌, ◌/◌, ◌%◌, List, [], ◌∷◌, ◌++◌, Bool, true, false, length, take, drop, eqb, ltb}
use Rattle.std.proofs.Math.Seq.{paste}
use Rattle.io.specs.Digits.{last_digits, hex_digit_ascii}
use Rattle.base.specs.Pick.{pick}
use Rattle.digest.specs.Md5.{digest_of}
use Rattle.lines.specs.Word.{Filled, filled, piece_of, line_feed}

-- The smaller number.
unfoldable pub least_of : ℕ → ℕ → ℕ
least_of a b = pick (ltb a b) a b

-- The bytes `s` behind the first `n`.
unfoldable pub put_bytes : List ℕ → ℕ → List ℕ → Filled
put_bytes out n s =
    let at = least_of n (length out) in
    let k = least_of (length s) (length out - at) in filled (paste out at (take k s) (length (take k s))) (at + k)

-- The line of `text` with the number `k`.
abbrev pub put_line : List ℕ → ℕ → List ℕ → ℕ → Filled
put_line out n text k = put_bytes out n (piece_of text k line_feed)

-- ---- hexadecimal

-- The two digits of a byte.
abbrev pub hex_pair : ℕ → List ℕ
hex_pair b = hex_digit_ascii (b / 16 % 16) ∷ hex_digit_ascii (b % 16) ∷ []

-- The digits of bytes.
abbrev pub hex_of : List ℕ → List ℕ
hex_of [] = []
hex_of (b ∷ bs) = hex_digit_ascii (b / 16 % 16) ∷ hex_digit_ascii (b % 16) ∷ hex_of bs

-- The digits of as many bytes as there is room for, at the front of a store.
unfoldable pub hex_front : List ℕ → List ℕ → Filled
hex_front out s =
    let k = 2 * least_of (length s) (length out / 2) in filled (paste out 0 (hex_of s) k) k

-- The bytes `s` in hexadecimal.
unfoldable pub put_digits : List ℕ → ℕ → List ℕ → Filled
put_digits out n s =
    let at = least_of n (length out) in
    let m = hex_front (drop at out) s in filled (take at out ++ m.bytes) (at + m.used)

-- ---- decimal numbers

-- How many decimal digits `n` has, if they are at most `f`.
abbrev pub places_in : ℕ → ℕ → ℕ
places_in zero n = 0
places_in (suc f) n = pick (ltb n 10) 1 (suc (places_in f (n / 10)))

-- The number `n` in decimal digits, which are no more than one more than `n`.
unfoldable pub decimal_of : ℕ → List ℕ
decimal_of n = last_digits 10 (places_in (suc n) n) n

-- A flag: 1 or 0.
abbrev pub flag_text : Bool → List ℕ
flag_text true = 49 ∷ []
flag_text false = 48 ∷ []

-- ---- a run of bytes

-- How many bytes `s` has and their MD5, as #COUNT:DIGEST.
unfoldable pub put_digest : List ℕ → ℕ → List ℕ → Filled
put_digest out n s =
    let a = put_bytes out n (35 ∷ []) in
    let b = put_bytes a.bytes a.used (decimal_of (length s)) in
    let c = put_bytes b.bytes b.used (58 ∷ []) in put_digits c.bytes c.used (digest_of s)

-- The bytes `s` in hexadecimal, a dash if there are none, and their digest if they are more than `longest`.
unfoldable pub put_hex : List ℕ → ℕ → List ℕ → ℕ → Filled
put_hex out n s longest =
    pick (eqb (length s) 0) (put_bytes out n (45 ∷ [])) (pick (ltb longest (length s)) (put_digest out n s) (put_digits out n s))

-- What is left of `n` collected bytes of a store that is written out if it is half full.
abbrev pub left_after : List ℕ → ℕ → ℕ
left_after out n = pick (ltb n (length out / 2)) n 0
