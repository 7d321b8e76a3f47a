-- The two low bits of a byte: as the code's masks read them, one test over the 256 bytes each, and of two flags. Assumes nothing.
use mathlib.Core.Path.{◌≡◌, refl}
use mathlib.Core.Bool.{Bool, true, false, not}
use Prim.Native.Nat.{ℕ, ◌<◌, ◌/◌, ◌%◌}
use lib.Bits.{bit_and}
use lib.Dec.{eqb}
use Rattle.base.proofs.Below.{tests_agree}
use Rattle.packet.specs.Flags.{flag_bits}

pub bit_0 : (x : ℕ) → x < 256 → not (eqb (bit_and x 1) 0) ≡ eqb (x % 2) 1
bit_0 x h = tests_agree (λ x. not (eqb (bit_and x 1) 0)) (λ x. eqb (x % 2) 1) 256 tt x h

pub bit_1 : (x : ℕ) → x < 256 → not (eqb (bit_and x 2) 0) ≡ eqb (x / 2 % 2) 1
bit_1 x h = tests_agree (λ x. not (eqb (bit_and x 2) 0)) (λ x. eqb (x / 2 % 2) 1) 256 tt x h

-- two flags in a byte read back
pub flags-read : (a b : Bool) → (eqb (flag_bits a b % 2) 1 ≡ a) × (eqb (flag_bits a b / 2 % 2) 1 ≡ b)
unfolding flag_bits
flags-read true true = (refl, refl)
flags-read true false = (refl, refl)
flags-read false true = (refl, refl)
flags-read false false = (refl, refl)
