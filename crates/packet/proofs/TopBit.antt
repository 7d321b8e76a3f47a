-- The top bit of a byte, as the code's mask sets it: one test over the 256 bytes. Assumes nothing.
use mathlib.Core.Path.{◌≡◌}
use Prim.Native.Nat.{ℕ, ◌<◌}
use lib.Bits.{bit_or}
use Rattle.packet.specs.FirstByte.{top_bit}
use Rattle.base.proofs.Below.{numbers_agree}

pub set_top : (x : ℕ) → x < 256 → bit_or x 128 ≡ top_bit x
set_top x h = numbers_agree (λ x. bit_or x 128) top_bit 256 tt x h
