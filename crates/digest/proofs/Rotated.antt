-- The rotation of a step: the library's, by the shifts of the table. Assumes nothing.
use Rattle.std.proofs.Common.{◌≡◌, ℕ, ◌-◌, ◌%◌, ◌<◌, Bool, ◌&&◌, ltb, slice_index, arith}
use lib.Dec.{T, ltb→lt}
use Rattle.std.specs.Int.{w32, rotate_left}
use Rattle.digest.specs.Md5.{rotl, shifts}
use Rattle.base.proofs.Below.{below, at_each, and_left, and_right}

rotated : (x n : ℕ) → 0 < n → n < 32 → rotate_left w32 x n ≡ rotl x n
rotated x n low high =
    let short : n % 32 ≡ n = omega arith in
    let rest : (32 - n) % 32 ≡ 32 - n = omega arith in
    rw (short, rest)

-- each shift of the table
abbrev between : ℕ → Bool
between i = ltb 0 (slice_index shifts i) && ltb (slice_index shifts i) 32

pub rotated_is : (x i : ℕ) → i < 64 → rotate_left w32 x (slice_index shifts i) ≡ rotl x (slice_index shifts i)
rotated_is x i h =
    let all : T (below between 64) = tt in
    let at : T (between i) = at_each between 64 all i h in
    rotated x (slice_index shifts i) (ltb→lt 0 (slice_index shifts i) (and_left _ (ltb (slice_index shifts i) 32) at))
    (ltb→lt (slice_index shifts i) 32 (and_right (ltb 0 (slice_index shifts i)) _ at))
