-- Numbers in packets and headers (IrOBEX 1.5, section 2.1): they are written in network byte order, the high-order byte first.
use Rattle.std.specs.Prelude.{List, [], ◌∷◌, ℕ, ◌+◌, ◌*◌, ◌/◌, ◌%◌, get_or}

-- The 16-bit number that `s` has at `at`.
abbrev pub be16 : List ℕ → ℕ → ℕ
be16 s at = get_or s at 0 * 256 + get_or s (at + 1) 0

-- The two bytes of the 16-bit number `n`.
abbrev pub bytes16 : ℕ → List ℕ
bytes16 n = n / 256 ∷ n % 256 ∷ []

-- The 32-bit number that `s` has at `at`.
abbrev pub be32 : List ℕ → ℕ → ℕ
be32 s at = ((get_or s at 0 * 256 + get_or s (at + 1) 0) * 256 + get_or s (at + 2) 0) * 256 + get_or s (at + 3) 0

-- The four bytes of the 32-bit number `n`.
abbrev pub bytes32 : ℕ → List ℕ
bytes32 n = n / 16777216 % 256 ∷ n / 65536 % 256 ∷ n / 256 % 256 ∷ n % 256 ∷ []
