-- Words of a line: where a byte and a piece stand in a text, decimal numbers, and bytes in hexadecimal with groups that are repeated.
use Rattle.std.specs.Prelude.{ℕ, zero, suc, ◌+◌, ◌-◌, ◌*◌, List, [], ◌∷◌, Bool, true, false, ◌&&◌, ◌||◌, length, get_or, set, take, drop, eqb, ltb, leb}
use Rattle.base.specs.Pick.{pick}
use Rattle.lines.specs.declared.word.Place.{Place}
use Rattle.lines.specs.declared.word.Scan.{Scan}

-- A store, and how many of its bytes are in use.
pub record Filled : Type 0 where
  pub bytes : List ℕ
  pub used : ℕ

-- Makes a `Filled`.
abbrev pub filled : List ℕ → ℕ → Filled
filled out n = record { bytes = out; used = n }

-- What stands in `s` from `start` up to `end`.
abbrev pub between : List ℕ → ℕ → ℕ → List ℕ
between s start end = take (end - start) (drop start s)

-- ---- places

-- How many bytes stand in front of the first `byte`: all of them if there is none.
abbrev pub until_byte : ℕ → List ℕ → ℕ
until_byte byte [] = 0
until_byte byte (x ∷ xs) = pick (eqb x byte) 0 (suc (until_byte byte xs))

-- The first place of `byte` in `s` from `from` on, or the end of `s`.
unfoldable pub first_from : List ℕ → ℕ → ℕ → ℕ
first_from s from byte = from + until_byte byte (drop from s)

-- The place after `end`, or `end` if that is the end of `s`.
unfoldable pub place_after : List ℕ → ℕ → ℕ
place_after s end = pick (ltb end (length s)) (end + 1) end

-- Where the piece with the number `k` starts, if `byte` stands between two pieces.
abbrev pub piece_start : ℕ → List ℕ → ℕ → ℕ
piece_start byte text zero = 0
piece_start byte text (suc k) = place_after text (first_from text (piece_start byte text k) byte)

-- Where that piece stands.
unfoldable pub piece_at : List ℕ → ℕ → ℕ → Place
piece_at text k byte =
    record { start = piece_start byte text k; end = first_from text (piece_start byte text k) byte }

-- The bytes of that piece.
abbrev pub piece_of : List ℕ → ℕ → ℕ → List ℕ
piece_of text k byte = between text (piece_at text k byte).start (piece_at text k byte).end

-- The ends of a line and of a word: a line feed and a space.
abbrev pub line_feed : ℕ
line_feed = 10

abbrev pub space : ℕ
space = 32

-- ---- a line's number

-- Whether two runs of bytes are the same.
abbrev pub same : List ℕ → List ℕ → Bool
same [] [] = true
same [] (y ∷ ys) = false
same (x ∷ xs) [] = false
same (x ∷ xs) (y ∷ ys) = eqb x y && same xs ys

-- The number of the line that is `w`, if the line with the number `k` starts at `at` and at most `f` lines are looked at; the number of all
-- lines if there is none.
abbrev pub line_from : ℕ → List ℕ → List ℕ → ℕ → ℕ → ℕ
line_from zero text w at k = k
line_from (suc f) text w at k =
    pick (ltb at (length text))
    (pick (same (between text at (first_from text at line_feed)) w) k (line_from f text w (first_from text at line_feed + 1) (k + 1))) k

-- The number of the line of `text` that is `w`, from 0.
abbrev pub line_number : List ℕ → List ℕ → ℕ
line_number text w = line_from (length text) text w 0 0

-- ---- numbers

-- What a hexadecimal digit in lower case stands for, or 0 for any other sign.
unfoldable pub value_of : ℕ → ℕ
value_of c = pick (ltb c 48) 0 (pick (ltb c 58) (c - 48) (pick (ltb c 97) 0 (pick (ltb c 103) (c - 87) 0)))

-- `n` with the digit `c` behind it, up to the tenth digit.
unfoldable pub with_digit : ℕ → ℕ → ℕ
with_digit n c = pick (leb 1000000000 n) n (n * 10 + value_of c)

-- `n` with the digits of a word behind it.
abbrev pub number_from : ℕ → List ℕ → ℕ
number_from n [] = n
number_from n (c ∷ cs) = number_from (with_digit n c) cs

-- The number that a word is.
abbrev pub number_of : List ℕ → ℕ
number_of s = number_from 0 s

-- ---- bytes in hexadecimal

-- `k` bytes from `i` on are copied to `n`, one after the other, as far as the store goes.
abbrev pub copied_on : ℕ → List ℕ → ℕ → ℕ → Filled
copied_on zero out i n = filled out n
copied_on (suc k) out i n =
    pick (leb (length out) n || leb (length out) i) (filled out n) (copied_on k (set out n (get_or out i 0)) (i + 1) (n + 1))

-- What stands from `from` up to `to` is copied to `n`, and behind it again, `k` times or until nothing fits.
abbrev pub repeated_on : ℕ → List ℕ → ℕ → ℕ → ℕ → Filled
repeated_on zero out from to n = filled out n
repeated_on (suc k) out from to n =
    let m = copied_on (to - from) out from n in pick (eqb m.used n) (filled m.bytes n) (repeated_on k m.bytes from to m.used)

-- What stands from `from` up to `to` stands there `count` times, as far as there is room.
unfoldable pub repeated : List ℕ → ℕ → ℕ → ℕ → Filled
repeated out from to count = pick (eqb count 0) (filled out from) (repeated_on (count - 1) out from to to)

-- The byte `b` behind the first `n`, if there is room.
unfoldable pub pushed : List ℕ → ℕ → ℕ → Filled
pushed out n b = pick (ltb n (length out)) (filled (set out n b) (n + 1)) (filled out n)

-- How far a word is read, and the store that its bytes are in.
pub record Scanned : Type 0 where
  pub scan : Scan
  pub bytes : List ℕ

-- Makes a `Scanned`.
abbrev pub scanned : Scan → List ℕ → Scanned
scanned p out = record { scan = p; bytes = out }

-- Makes a `Scan`: a place, how many bytes there are, and the start of the group.
abbrev pub scan : ℕ → ℕ → ℕ → Scan
scan at n unit = record { at = at; n = n; unit = unit }

-- The count behind the star at `p`, and the group that it repeats.
unfoldable pub scanned_group : List ℕ → Scan → List ℕ → Scanned
scanned_group s p out =
    let start = p.at + 1 in
    let end = first_from s start 41 in
    let m = repeated out p.unit p.n (number_of (between s start end)) in scanned (scan end m.used m.used) m.bytes

-- The two digits at `p`.
unfoldable pub scanned_pair : List ℕ → Scan → List ℕ → Scanned
scanned_pair s p out =
    let m = pushed out p.n (value_of (get_or s p.at 0) * 16 + value_of (get_or s (p.at + 1) 0)) in
    scanned (scan (place_after s (p.at + 1)) m.used p.unit) m.bytes

-- What stands at `p`: a star with a count, a sign that is passed over, behind which a group starts, or two digits.
unfoldable pub scanned_one : List ℕ → Scan → List ℕ → Scanned
scanned_one s p out =
    pick (eqb (get_or s p.at 0) 42) (scanned_group s p out)
    (pick (ltb (get_or s p.at 0) 48 || eqb (get_or s p.at 0) 58) (scanned (scan (p.at + 1) p.n p.n) out) (scanned_pair s p out))

-- A word from `p` on, in at most `f` steps.
abbrev pub scanned_from : ℕ → List ℕ → Scan → List ℕ → Scanned
scanned_from zero s p out = scanned p out
scanned_from (suc f) s p out =
    pick (ltb p.at (length s)) (scanned_from f s (scanned_one s p out).scan (scanned_one s p out).bytes) (scanned p out)

-- The bytes that a word says, in the store `out`, and how many they are.
unfoldable pub unhexed : List ℕ → List ℕ → Filled
unhexed s out =
    let m = scanned_from (length s) s (scan 0 0 0) out in
    filled m.bytes (pick (leb m.scan.n (length out)) m.scan.n 0)
