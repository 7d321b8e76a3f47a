-- Text in UTF-16 and UTF-8 as a list of scalar values, and back, after the Unicode Standard, section 3.9. What is ill-formed becomes
-- U+FFFD, as Rust's lossy decoding has it.
use Rattle.std.specs.Prelude.{Bool, true, false, not, ◌&&◌, List, [], ◌∷◌, ◌++◌, ℕ, zero, suc, ◌+◌, ◌-◌, ◌*◌, ◌/◌, ◌%◌, ◌≤◌, ◌<◌, eqb, leb, ltb, length, get_or, drop}
use Rattle.base.specs.Pick.{pick}
use Rattle.base.specs.Bytes.{bytes16}
use Rattle.text.specs.declared.Piece.{Piece}

-- What stands before the first zero.
unfoldable pub up_to_zero_of : List ℕ → List ℕ
up_to_zero_of [] = []
up_to_zero_of (zero ∷ r) = []
up_to_zero_of (suc u ∷ r) = suc u ∷ up_to_zero_of r

-- The scalar value `c`, which `n` well-formed bytes say.
abbrev pub keeps : ℕ → ℕ → Piece
keeps c n = record { code = c; size = n; kept = true }

-- U+FFFD in place of `n` ill-formed bytes.
abbrev pub replaces : ℕ → Piece
replaces n = record { code = 0xFFFD; size = n; kept = false }

-- The scalar values of some pieces.
unfoldable pub codes : List Piece → List ℕ
codes [] = []
codes (p ∷ ps) = p.code ∷ codes ps

-- No piece was replaced.
unfoldable pub all_kept : List Piece → Bool
all_kept [] = true
all_kept (p ∷ ps) = p.kept && all_kept ps

-- How many bytes some pieces were read from.
unfoldable pub sizes : List Piece → ℕ
sizes [] = 0
sizes (p ∷ ps) = p.size + sizes ps

-- Well-formed pieces cover all of `n` bytes.
unfoldable pub whole : List Piece → ℕ → Bool
whole ps n = all_kept ps && eqb (sizes ps) n

-- ---- UTF-16 (table 3-5), the high-order byte of a unit first

-- The units of some bytes; an odd last byte is no unit.
unfoldable pub units : List ℕ → List ℕ
units [] = []
units (a ∷ []) = []
units (a ∷ b ∷ r) = (a * 256 + b) ∷ units r

-- `u` is a high surrogate, and `v` a low one.
unfoldable pub is_pair : ℕ → ℕ → Bool
is_pair u v = (leb 0xD800 u && ltb u 0xDC00) && (leb 0xDC00 v && ltb v 0xE000)

-- The piece that the unit `u` starts if `v` follows: a pair, an unpaired surrogate, or any other unit.
unfoldable pub first16 : ℕ → ℕ → Piece
first16 u v =
    pick (is_pair u v) (keeps (0x10000 + (u - 0xD800) * 0x400 + (v - 0xDC00)) 4)
    (pick (leb 0xD800 u && ltb u 0xE000) (replaces 2) (keeps u 2))

-- The pieces of some units; behind the last stands 0, which is in no pair.
unfoldable pub paired : List ℕ → List Piece
paired [] = []
paired (u ∷ []) = first16 u 0 ∷ []
paired (u ∷ v ∷ r) = first16 u v ∷ pick (is_pair u v) (paired r) (paired (v ∷ r))

-- The pieces of UTF-16 text, up to the first zero unit.
unfoldable pub pieces16 : List ℕ → List Piece
pieces16 s = paired (up_to_zero_of (units s))

-- The scalar values of UTF-16 text.
unfoldable pub scalars16 : List ℕ → List ℕ
scalars16 s = codes (pieces16 s)

-- The bytes are UTF-16: an even number of them, no zero unit, and each surrogate in a pair.
unfoldable pub well_formed16 : List ℕ → Bool
well_formed16 s = whole (pieces16 s) (length s)

-- ---- UTF-8 (tables 3-6 and 3-7)

-- How many bytes a sequence has by its first byte; 0 if no sequence starts with it.
unfoldable pub need : ℕ → ℕ
need b = pick (ltb b 0x80) 1 (pick (ltb b 0xC2) 0 (pick (ltb b 0xE0) 2 (pick (ltb b 0xF0) 3 (pick (ltb b 0xF5) 4 0))))

-- The smallest second byte after the first byte `b`.
unfoldable pub low : ℕ → ℕ
low b = pick (eqb b 0xE0) 0xA0 (pick (eqb b 0xF0) 0x90 0x80)

-- The largest second byte after the first byte `b`.
unfoldable pub high : ℕ → ℕ
high b = pick (eqb b 0xED) 0x9F (pick (eqb b 0xF4) 0x8F 0xBF)

-- `x` lies between `lo` and `hi`.
unfoldable pub inside : ℕ → ℕ → ℕ → Bool
inside lo hi x = leb lo x && leb x hi

-- The piece that the bytes `b`, `c`, `d`, `e` start: a sequence of table 3-7, with the bits that table 3-6 gives it, or the longest part of
-- one (D93b).
unfoldable pub first8 : ℕ → ℕ → ℕ → ℕ → Piece
first8 b c d e =
    pick (eqb (need b) 0) (replaces 1)
    (pick (eqb (need b) 1) (keeps b 1)
    (pick (not (inside (low b) (high b) c)) (replaces 1)
    (pick (eqb (need b) 2) (keeps (b % 0x20 * 0x40 + c % 0x40) 2)
    (pick (not (inside 0x80 0xBF d)) (replaces 2)
    (pick (eqb (need b) 3) (keeps (b % 0x10 * 0x1000 + c % 0x40 * 0x40 + d % 0x40) 3)
    (pick (not (inside 0x80 0xBF e)) (replaces 3) (keeps (b % 0x08 * 0x40000 + c % 0x40 * 0x1000 + d % 0x40 * 0x40 + e % 0x40) 4)))))))

-- The first `n` pieces of some bytes; behind the last byte stands 0, which is in no range.
unfoldable pub split8 : ℕ → List ℕ → List Piece
split8 zero s = []
split8 (suc n) [] = []
split8 (suc n) (b ∷ r) =
    let p = first8 b (get_or r 0 0) (get_or r 1 0) (get_or r 2 0) in p ∷ split8 n (drop p.size (b ∷ r))

-- All pieces of UTF-8 text: each takes a byte or more, so there are no more of them than bytes.
unfoldable pub pieces8 : List ℕ → List Piece
pieces8 s = split8 (length s) s

-- The scalar values of UTF-8 text, what is ill-formed replaced.
unfoldable pub lossy : List ℕ → List ℕ
lossy s = codes (pieces8 s)

-- The scalar values up to the first zero byte.
unfoldable pub scalars8 : List ℕ → List ℕ
scalars8 s = lossy (up_to_zero_of s)

-- The bytes are UTF-8: sequences of table 3-7 alone, and no zero.
unfoldable pub well_formed8 : List ℕ → Bool
well_formed8 s = whole (pieces8 (up_to_zero_of s)) (length s)

-- ---- scalar values written

-- `c` is a scalar value (D76): no surrogate, and below 0x110000.
pub record Scalar (c : ℕ) : Type 0 where
  pub small : c < 0x110000
  pub apart : 0xD800 ≤ c → 0xE000 ≤ c

-- `P` holds of each number of a list.
abbrev pub Each : (ℕ → Type 0) → List ℕ → Type 0
Each P [] = Unit {0}
Each P (c ∷ cs) = P c × Each P cs

-- A list of scalar values.
abbrev pub Scalars : List ℕ → Type 0
Scalars cs = Each Scalar cs

-- A list with no zero in it.
abbrev pub NoZero : List ℕ → Type 0
NoZero cs = Each (λ (c : ℕ). 0 < c) cs

-- A list of bytes.
abbrev pub Octets : List ℕ → Type 0
Octets s = (k : ℕ) → get_or s k 0 < 256

-- The bytes of the scalar value `c` in UTF-8 (table 3-6).
unfoldable pub utf8 : ℕ → List ℕ
utf8 c =
    pick (ltb c 0x80) (c ∷ [])
    (pick (ltb c 0x800) ((0xC0 + c / 0x40) ∷ (0x80 + c % 0x40) ∷ [])
    (pick (ltb c 0x10000) ((0xE0 + c / 0x1000) ∷ (0x80 + c / 0x40 % 0x40) ∷ (0x80 + c % 0x40) ∷ [])
    ((0xF0 + c / 0x40000) ∷ (0x80 + c / 0x1000 % 0x40) ∷ (0x80 + c / 0x40 % 0x40) ∷ (0x80 + c % 0x40) ∷ [])))

-- The bytes of the scalar value `c` in UTF-16 (table 3-5).
unfoldable pub utf16 : ℕ → List ℕ
utf16 c =
    pick (ltb c 0x10000) (bytes16 c) (bytes16 (0xD800 + (c - 0x10000) / 0x400) ++ bytes16 (0xDC00 + (c - 0x10000) % 0x400))

-- What `f` gives for each scalar value, one after the other.
unfoldable pub joined : (ℕ → List ℕ) → List ℕ → List ℕ
joined f [] = []
joined f (c ∷ cs) = f c ++ joined f cs

-- Scalar values in UTF-8.
abbrev pub text8 : List ℕ → List ℕ
text8 cs = joined utf8 cs

-- Scalar values in UTF-16, the high-order byte of a unit first.
abbrev pub utf16be : List ℕ → List ℕ
utf16be cs = joined utf16 cs
