-- MD5 as RFC 1321 gives it, whose sections the comments name, and OBEX's request digest (IrOBEX 1.5, section 3.6.3;
-- docs/PROTOCOL.md#digest). A word is a number below 2 ^ 32, a message a list of bytes.
use Rattle.std.specs.Prelude.{ℕ, zero, suc, ◌+◌, ◌-◌, ◌*◌, ◌/◌, ◌%◌, ◌^◌, List, [], ◌∷◌, ◌++◌, reverse, length, take, drop, replicate, bit_and, bit_or, bit_xor, slice_index}
use Rattle.digest.specs.declared.md5.Regs.{Regs}
use Rattle.digest.specs.declared.md5.Octets16.{Octets16}

-- The sum of two words, modulo 2 ^ 32 (section 2).
abbrev pub add32 : ℕ → ℕ → ℕ
add32 x y = (x + y) % 2 ^ 32

-- The complement of a word, bit by bit (section 2).
abbrev pub not32 : ℕ → ℕ
not32 x = 2 ^ 32 - 1 - x

-- The word `x` rotated to the left by `s` bits (section 2).
abbrev pub rotl : ℕ → ℕ → ℕ
rotl x s = bit_or (x * 2 ^ s % 2 ^ 32) (x / 2 ^ (32 - s))

-- The functions F, G, H and I, by the round, counted from 0 (section 3.4).
abbrev pub mix_of : ℕ → ℕ → ℕ → ℕ → ℕ
mix_of zero x y z = bit_or (bit_and x y) (bit_and (not32 x) z)
mix_of (suc zero) x y z = bit_or (bit_and x z) (bit_and y (not32 z))
mix_of (suc (suc zero)) x y z = bit_xor (bit_xor x y) z
mix_of (suc (suc (suc r))) x y z = bit_xor y (bit_or x (not32 z))

-- Which message word step `i` takes, by the round, counted from 0 (section 3.4).
abbrev pub word_at : ℕ → ℕ → ℕ
word_at zero i = i
word_at (suc zero) i = (5 * i + 1) % 16
word_at (suc (suc zero)) i = (3 * i + 5) % 16
word_at (suc (suc (suc r))) i = 7 * i % 16

-- The shifts of the 64 steps (section 3.4).
abbrev pub shifts : List ℕ
shifts =
    7 ∷ 12 ∷ 17 ∷ 22 ∷ 7 ∷ 12 ∷ 17 ∷ 22 ∷ 7 ∷ 12 ∷ 17 ∷ 22 ∷ 7 ∷ 12 ∷ 17 ∷ 22 ∷
    5 ∷ 9 ∷ 14 ∷ 20 ∷ 5 ∷ 9 ∷ 14 ∷ 20 ∷ 5 ∷ 9 ∷ 14 ∷ 20 ∷ 5 ∷ 9 ∷ 14 ∷ 20 ∷
    4 ∷ 11 ∷ 16 ∷ 23 ∷ 4 ∷ 11 ∷ 16 ∷ 23 ∷ 4 ∷ 11 ∷ 16 ∷ 23 ∷ 4 ∷ 11 ∷ 16 ∷ 23 ∷
    6 ∷ 10 ∷ 15 ∷ 21 ∷ 6 ∷ 10 ∷ 15 ∷ 21 ∷ 6 ∷ 10 ∷ 15 ∷ 21 ∷ 6 ∷ 10 ∷ 15 ∷ 21 ∷ []

-- The table T: the whole part of 4294967296 times abs (sin (i + 1)) (section 3.4).
abbrev pub table : List ℕ
table =
    0xd76aa478 ∷ 0xe8c7b756 ∷ 0x242070db ∷ 0xc1bdceee ∷ 0xf57c0faf ∷ 0x4787c62a ∷ 0xa8304613 ∷ 0xfd469501 ∷
    0x698098d8 ∷ 0x8b44f7af ∷ 0xffff5bb1 ∷ 0x895cd7be ∷ 0x6b901122 ∷ 0xfd987193 ∷ 0xa679438e ∷ 0x49b40821 ∷
    0xf61e2562 ∷ 0xc040b340 ∷ 0x265e5a51 ∷ 0xe9b6c7aa ∷ 0xd62f105d ∷ 0x02441453 ∷ 0xd8a1e681 ∷ 0xe7d3fbc8 ∷
    0x21e1cde6 ∷ 0xc33707d6 ∷ 0xf4d50d87 ∷ 0x455a14ed ∷ 0xa9e3e905 ∷ 0xfcefa3f8 ∷ 0x676f02d9 ∷ 0x8d2a4c8a ∷
    0xfffa3942 ∷ 0x8771f681 ∷ 0x6d9d6122 ∷ 0xfde5380c ∷ 0xa4beea44 ∷ 0x4bdecfa9 ∷ 0xf6bb4b60 ∷ 0xbebfbc70 ∷
    0x289b7ec6 ∷ 0xeaa127fa ∷ 0xd4ef3085 ∷ 0x04881d05 ∷ 0xd9d4d039 ∷ 0xe6db99e5 ∷ 0x1fa27cf8 ∷ 0xc4ac5665 ∷
    0xf4292244 ∷ 0x432aff97 ∷ 0xab9423a7 ∷ 0xfc93a039 ∷ 0x655b59c3 ∷ 0x8f0ccc92 ∷ 0xffeff47d ∷ 0x85845dd1 ∷
    0x6fa87e4f ∷ 0xfe2ce6e0 ∷ 0xa3014314 ∷ 0x4e0811a1 ∷ 0xf7537e82 ∷ 0xbd3af235 ∷ 0x2ad7d2bb ∷ 0xeb86d391 ∷ []

-- Step `i` on the word `x`: a = b + ((a + f(b, c, d) + X[k] + T[i]) <<< s), and the registers change places (section 3.4).
unfoldable pub step_of : Regs → ℕ → ℕ → Regs
step_of s i x =
    record {
      a = s.d;
      b = add32 s.b (rotl ((s.a + mix_of (i / 16) s.b s.c s.d + x + slice_index table i) % 2 ^ 32) (slice_index shifts i));
      c = s.b;
      d = s.c;
    }

-- The sum of a step in the order in which RFC 1321 writes it (section 3.4), wrapped after each addition: of the register `a`, the
-- function's value `f`, the word `x` and the constant `t`. proofs/SumOrder says that it is the sum of `step_of`.
abbrev pub rfc_sum : ℕ → ℕ → ℕ → ℕ → ℕ
rfc_sum a f x t = add32 (add32 (add32 a f) x) t

-- The sum of a step in the order in which the hardware group adds by hand. proofs/SumOrder says that it is the sum of `step_of` too.
abbrev pub hand_sum : ℕ → ℕ → ℕ → ℕ → ℕ
hand_sum a f x t = add32 (add32 (add32 t x) f) a

-- Word `k` of a block: four bytes, the low-order one first (section 2).
unfoldable pub word : List ℕ → ℕ → ℕ
word p k = slice_index p (4 * k) + 256 * slice_index p (4 * k + 1) + 65536 * slice_index p (4 * k + 2) + 16777216 * slice_index p (4 * k + 3)

-- The registers after the first n steps on a block.
unfoldable pub steps : List ℕ → ℕ → Regs → Regs
steps p zero s = s
steps p (suc n) s = step_of (steps p n s) n (word p (word_at (n / 16) n))

-- The registers `s` and `t`, added word by word (section 3.4).
abbrev pub plus : Regs → Regs → Regs
plus s t = record { a = add32 s.a t.a; b = add32 s.b t.b; c = add32 s.c t.c; d = add32 s.d t.d }

-- One block: the 64 steps, added to the registers from before (section 3.4).
unfoldable pub block_of : List ℕ → Regs → Regs
block_of p s = plus s (steps p 64 s)

-- How many zero bytes follow the byte with the 1 bit behind a message of `n` bytes, up to 56 bytes modulo 64 (section 3.1).
abbrev pub zeros : ℕ → ℕ
zeros n = (119 - n % 64) % 64

-- The k low-order bytes of a number, the lowest first.
unfoldable pub le : ℕ → ℕ → List ℕ
le zero x = []
le (suc k) x = x % 256 ∷ le k (x / 256)

-- The message with a 1 bit, 0 bits up to 56 bytes modulo 64, and its length in bits, modulo 2 ^ 64, the low-order byte first (sections 3.1
-- and 3.2).
unfoldable pub padded : List ℕ → List ℕ
padded m = m ++ (128 ∷ (replicate (zeros (length m)) 0 ++ le 8 (8 * length m % 2 ^ 64)))

-- The registers at the start (section 3.3).
abbrev pub start : Regs
start = record { a = 0x67452301; b = 0xefcdab89; c = 0x98badcfe; d = 0x10325476 }

-- The registers after n blocks of the padded message `p`.
unfoldable pub blocks : List ℕ → ℕ → Regs
blocks p zero = start
blocks p (suc n) = block_of (take 64 (drop (64 * n) p)) (blocks p n)

-- The output: the four registers, the low-order byte of each first (section 3.5).
unfoldable pub output_of : Regs → List ℕ
output_of s = le 4 s.a ++ (le 4 s.b ++ (le 4 s.c ++ le 4 s.d))

-- The digest of a message.
unfoldable pub digest_of : List ℕ → List ℕ
digest_of m = output_of (blocks (padded m) (length (padded m) / 64))

-- ---- sixteen bytes as two numbers

-- The number that some bytes are, the low-order byte first.
unfoldable pub le_value : List ℕ → ℕ
le_value [] = 0
le_value (b ∷ l) = b + 256 * le_value l

-- The k low-order bytes of a number, the highest of them first.
unfoldable pub be : ℕ → ℕ → List ℕ
be k x = reverse (le k x)

-- The number that some bytes are, the high-order byte first.
unfoldable pub be_value : List ℕ → ℕ
be_value l = le_value (reverse l)

-- The sixteen bytes of two numbers.
unfoldable pub octets16 : Octets16 → List ℕ
octets16 n = be 8 n.first ++ be 8 n.second

-- The two numbers of sixteen bytes.
unfoldable pub numbers16 : List ℕ → Octets16
numbers16 l = record { first = be_value (take 8 l); second = be_value (take 8 (drop 8 l)) }

-- ---- the request digest: H(nonce ":" password)

-- The digest of a nonce and a password, with a colon, 0x3A, between them.
unfoldable pub request_digest : List ℕ → List ℕ → List ℕ
request_digest nonce password = digest_of (nonce ++ (0x3A ∷ password))
