-- The places of the table store (docs/PROTOCOL.md#stores). The open ids have places 0 to 63 (`max_connections`).
use Rattle.std.specs.Prelude.{ℕ}

-- How many nonces are remembered.
abbrev pub max_nonces : ℕ
max_nonces = 32

-- Where the first halves of the nonces begin, the eight bytes that come first.
abbrev pub first_halves : ℕ
first_halves = 64

-- Where their second halves begin.
abbrev pub second_halves : ℕ
second_halves = 96

-- Where the lengths of the Targets begin, beside the ids in their order.
abbrev pub target_lengths : ℕ
target_lengths = 128

-- Where the first eight bytes of the Targets begin.
abbrev pub target_firsts : ℕ
target_firsts = 192

-- Where the second eight bytes of the Targets begin.
abbrev pub target_seconds : ℕ
target_seconds = 256

-- How long the table store must be.
abbrev pub table_length : ℕ
table_length = 320
