-- What stands at a place of a store that holds some bytes of a log.
use Rattle.std.specs.Prelude.{ℕ, ◌+◌, ◌%◌, ◌^◌, List, length, take, drop, nat_le}
use Rattle.base.specs.Pick.{pick}
use Rattle.base.specs.Bytes.{be32}

-- The number of four bytes at the place `at`; 0 if they are not there.
unfoldable pub four_at : List ℕ → ℕ → ℕ
four_at s at = pick (nat_le (at + 4) (length s)) (be32 s at) 0

-- The payload of `n` bytes of a frame at the place `at`, as far as it is there; places have 64 bits.
abbrev pub payload_at : List ℕ → ℕ → ℕ → List ℕ
payload_at s at n = take n (drop ((at + 16) % 2 ^ 64) s)
