-- Values of the definitions, computed: the digest of no bytes (RFC 1321, A.5), and sixteen bytes as two numbers.
use Rattle.std.specs.Prelude.{◌≡◌, [], ◌∷◌, refl}
use Rattle.digest.specs.Md5.{step_of, word, steps, block_of, le, padded, blocks, output_of, digest_of, le_value, be, be_value, octets16, numbers16}

pub empty : digest_of []
    ≡ 0xd4 ∷ 0x1d ∷ 0x8c ∷ 0xd9 ∷ 0x8f ∷ 0x00 ∷ 0xb2 ∷ 0x04 ∷ 0xe9 ∷ 0x80 ∷ 0x09 ∷ 0x98 ∷ 0xec ∷ 0xf8 ∷ 0x42 ∷ 0x7e ∷ []
unfolding step_of word steps block_of le padded blocks output_of digest_of
empty = refl

-- The bytes 0 to 15 are those of two numbers, which read back.
pub in_order : octets16 (record { first = 0x0001020304050607; second = 0x08090a0b0c0d0e0f })
    ≡ 0 ∷ 1 ∷ 2 ∷ 3 ∷ 4 ∷ 5 ∷ 6 ∷ 7 ∷ 8 ∷ 9 ∷ 10 ∷ 11 ∷ 12 ∷ 13 ∷ 14 ∷ 15 ∷ []
unfolding le be octets16
in_order = refl

pub value_in_order : numbers16 (0 ∷ 1 ∷ 2 ∷ 3 ∷ 4 ∷ 5 ∷ 6 ∷ 7 ∷ 8 ∷ 9 ∷ 10 ∷ 11 ∷ 12 ∷ 13 ∷ 14 ∷ 15 ∷ [])
    ≡ record { first = 0x0001020304050607; second = 0x08090a0b0c0d0e0f }
unfolding le_value be_value numbers16
value_in_order = refl
