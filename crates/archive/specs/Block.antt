-- A block of the archive (request (a); docs/ARCHIVE.md): 512 bytes, which are a 16-bit length whose top bit marks the last block, a 32-bit
-- number from 0, 490 payload bytes, of which unused ones are zero, and the MD5 of the 496 bytes before it. Numbers are big-endian.
use Rattle.std.specs.Prelude.{ℕ, ◌+◌, ◌-◌, ◌%◌, List, [], ◌∷◌, ◌++◌, Bool, true, false, ◌&&◌, ◌||◌, not, length, take, drop, replicate, ltb, leb, eqb}
use Rattle.base.specs.Pick.{pick}
use Rattle.base.specs.Bytes.{be16, be32, bytes16, bytes32}
use Rattle.digest.specs.Md5.{digest_of}

-- The longest body, in bytes.
abbrev pub longest : ℕ
longest = 4294967295

-- ---- as it is written

-- The length field of a block with `n` payload bytes: the top bit marks the last block.
abbrev pub length_field : Bool → ℕ → ℕ
length_field last n = pick last (32768 + n) n

-- The head of block `k`: the length field and the number.
abbrev pub head_of : Bool → ℕ → ℕ → List ℕ
head_of last k n = bytes16 (length_field last n) ++ bytes32 k

-- What the check of block `k` with the payload `p` is of.
unfoldable pub checked : Bool → ℕ → List ℕ → List ℕ
checked last k p = head_of last k (length p) ++ (p ++ replicate (490 - length p) 0)

-- Block `k` with the payload `p`.
unfoldable pub block : Bool → ℕ → List ℕ → List ℕ
block last k p = checked last k p ++ digest_of (checked last k p)

-- ---- as it is read

-- Two lists are the same.
unfoldable pub same : List ℕ → List ℕ → Bool
same [] [] = true
same [] (y ∷ ys) = false
same (x ∷ xs) [] = false
same (x ∷ xs) (y ∷ ys) = eqb x y && same xs ys

-- The check of the block `x` is right.
abbrev pub right_check : List ℕ → Bool
right_check x = same (digest_of (take 496 x)) (drop 496 x)

-- The block `x` is marked as the last.
abbrev pub is_last_block : List ℕ → Bool
is_last_block x = leb 32768 (be16 x 0)

-- How many payload bytes the block `x` uses.
abbrev pub used : List ℕ → ℕ
used x = be16 x 0 % 32768

-- The payload bytes that the block `x` uses.
unfoldable pub payload_of : List ℕ → List ℕ
payload_of x = take (used x) (drop 6 x)

-- Block `k` may use `n` bytes: every block but the last carries 490, and a last block of length 0 occurs only as block 0.
unfoldable pub right_length : ℕ → Bool → ℕ → Bool
right_length k last n = pick last (leb n 490 && (ltb 0 n || eqb k 0)) (eqb n 490)

-- A list is all zeros.
unfoldable pub all_zero : List ℕ → Bool
all_zero [] = true
all_zero (b ∷ l) = eqb b 0 && all_zero l

-- The payload bytes that the block `x` does not use are zero.
abbrev pub right_padding : List ℕ → Bool
right_padding x = all_zero (take (490 - used x) (drop (6 + used x) x))

-- Length, padding and end mark of block `k` keep the rules, behind blocks that hold `before` body bytes. If `ended`, one of them was the
-- last, and no block may follow.
unfoldable pub right_form : ℕ → Bool → ℕ → List ℕ → Bool
right_form k ended before x =
    not ended && (right_length k (is_last_block x) (used x) && (right_padding x && leb (before + used x) longest))

-- The number of the fault of block `k`, the lowest that fits it; 0 if it has none.
unfoldable pub fault_of : ℕ → Bool → ℕ → List ℕ → ℕ
fault_of k ended before x = pick (right_check x) (pick (eqb (be32 x 2) k) (pick (right_form k ended before x) 0 13) 12) 11
