-- The sum of MD5's step: RFC 1321's order and the order by hand give one number, for any four. Assumes nothing.
use Rattle.std.proofs.Common.{◌≡◌, ℕ, ◌+◌, ◌%◌, ◌^◌, sym, refl, ap, ◌∙◌, arith}
use native.Mathlib.Nat.{mod-add-mod}
use Rattle.digest.specs.Md5.{add32, rotl, mix_of, rfc_sum, hand_sum, start, step_of}

-- wrapping after each addition or once, at the end, is the same: each order gives the sum that `step_of` and the contract of `sum4` have
pub rfc_once : (a f x t : ℕ) → rfc_sum a f x t ≡ (a + f + x + t) % 2 ^ 32
rfc_once a f x t = simp mod-add-mod

pub hand_once : (a f x t : ℕ) → hand_sum a f x t ≡ (a + f + x + t) % 2 ^ 32
hand_once a f x t = simp mod-add-mod (ap (λ (n : ℕ). n % 2 ^ 32) (omega arith))

-- the two orders, for any four numbers, so for any four of 32 bits
pub same_sum : (a f x t : ℕ) → hand_sum a f x t ≡ rfc_sum a f x t
same_sum a f x t = hand_once a f x t ∙ sym (rfc_once a f x t)

-- the worked step at `digest::md5::step`: the function's value, the three partial sums, the rotated sum and the registers after it
pub worked_value : mix_of 0 0xefcdab89 0x98badcfe 0x10325476 ≡ 0x98badcfe
worked_value = refl

pub worked_sums : (add32 0xd76aa478 0x00636261 ≡ 0xd7ce06d9)
    × (add32 0xd7ce06d9 0x98badcfe ≡ 0x7088e3d7)
    × (add32 0x7088e3d7 0x67452301 ≡ 0xd7ce06d8)
worked_sums = (refl, refl, refl)

pub worked_rotated : rotl 0xd7ce06d8 7 ≡ 0xe7036c6b
worked_rotated = refl

pub worked_step : step_of start 0 0x00636261 ≡ record { a = 0x10325476; b = 0xd6d117f4; c = 0xefcdab89; d = 0x98badcfe }
unfolding step_of
worked_step = refl
