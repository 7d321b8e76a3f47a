-- The laws of response codes. Assumes nothing.
use mathlib.Core.Path.{◌≡◌, refl}
use mathlib.Core.Bool.{false}
use Prim.Native.Nat.{ℕ, ◌+◌, ◌<◌, ◌≤◌}
use native.Mathlib.Omega.{arith}
use lib.ListN.{length}
use Rattle.packet.specs.Codes.{codes, is_code, sent_code}
use Rattle.base.proofs.Below.{run}

how_many : length codes ≡ 38
unfolding codes
how_many = refl

-- a number from 0x80 on is no code
pub no_code : (b : ℕ) → 0x80 ≤ b → b < 256 → is_code b ≡ false
unfolding codes is_code
no_code b l h = run is_code false 0x80 0xFF tt b l (omega arith)

-- the byte sent is the code plus 0x80
pub sent : (b : ℕ) → b < 0x80 → sent_code b ≡ b + 0x80
sent b h = omega arith
