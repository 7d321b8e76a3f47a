-- Worked examples of the definitions, computed. Assumes nothing.
use mathlib.Core.Path.{◌≡◌, refl}
use mathlib.Core.List.{[], ◌∷◌}
use Rattle.text.specs.Unicode.{up_to_zero_of, codes, units, is_pair, first16, paired, pieces16, scalars16, need, low, high, inside, first8, split8, pieces8, lossy, scalars8, utf8, utf16, joined}
use Rattle.text.specs.Text.{unicode_text, unicode_bytes}

-- a high surrogate before another unit (P11); a pair; the reverse; one at the end; up to a zero unit; a zero byte is none; an odd last byte
pub unpaired : scalars16 (0xD8 ∷ 0x00 ∷ 0x00 ∷ 0x41 ∷ []) ≡ 0xFFFD ∷ 0x41 ∷ []
unfolding scalars16 pieces16 codes units up_to_zero_of paired first16 is_pair
unpaired = refl

pub pair : scalars16 (0xD8 ∷ 0x3D ∷ 0xDE ∷ 0x00 ∷ []) ≡ 0x1F600 ∷ []
unfolding scalars16 pieces16 codes units up_to_zero_of paired first16 is_pair
pair = refl

pub reverse : scalars16 (0xDE ∷ 0x00 ∷ 0xD8 ∷ 0x3D ∷ []) ≡ 0xFFFD ∷ 0xFFFD ∷ []
unfolding scalars16 pieces16 codes units up_to_zero_of paired first16 is_pair
reverse = refl

pub up_to_zero : scalars16 (0x00 ∷ 0x41 ∷ 0x42 ∷ 0x00 ∷ 0x00 ∷ 0x43 ∷ 0x00 ∷ 0x00 ∷ 0x00 ∷ 0x44 ∷ []) ≡ 0x41 ∷ 0x4200 ∷ 0x43 ∷ []
unfolding scalars16 pieces16 codes units up_to_zero_of paired first16 is_pair
up_to_zero = refl

pub odd_byte : scalars16 (0x00 ∷ 0x41 ∷ 0x42 ∷ []) ≡ 0x41 ∷ []
unfolding scalars16 pieces16 codes units up_to_zero_of paired first16 is_pair
odd_byte = refl

-- ill-formed parts of UTF-8: three, one, two, three and four of them; one that breaks off; bytes after a zero are not read
pub parts : lossy (0xF0 ∷ 0x80 ∷ 0x80 ∷ []) ≡ 0xFFFD ∷ 0xFFFD ∷ 0xFFFD ∷ []
unfolding lossy pieces8 split8 codes first8 need low high inside
parts = refl

pub part : lossy (0xF0 ∷ 0x90 ∷ 0x80 ∷ []) ≡ 0xFFFD ∷ []
unfolding lossy pieces8 split8 codes first8 need low high inside
part = refl

pub overlong : lossy (0xC0 ∷ 0x80 ∷ []) ≡ 0xFFFD ∷ 0xFFFD ∷ []
unfolding lossy pieces8 split8 codes first8 need low high inside
overlong = refl

pub surrogate : lossy (0xED ∷ 0xA0 ∷ 0x80 ∷ []) ≡ 0xFFFD ∷ 0xFFFD ∷ 0xFFFD ∷ []
unfolding lossy pieces8 split8 codes first8 need low high inside
surrogate = refl

pub beyond : lossy (0xF4 ∷ 0x90 ∷ 0x80 ∷ 0x80 ∷ []) ≡ 0xFFFD ∷ 0xFFFD ∷ 0xFFFD ∷ 0xFFFD ∷ []
unfolding lossy pieces8 split8 codes first8 need low high inside
beyond = refl

pub breaks_off : scalars8 (0xE2 ∷ 0x82 ∷ 0x41 ∷ 0xE2 ∷ 0x82 ∷ 0xAC ∷ 0x00 ∷ 0x42 ∷ []) ≡ 0xFFFD ∷ 0x41 ∷ 0x20AC ∷ []
unfolding scalars8 up_to_zero_of lossy pieces8 split8 codes first8 need low high inside
breaks_off = refl

-- the Euro sign and a smiling face, in UTF-8 and UTF-16 (Unicode, tables 3-5 and 3-6)
pub text : unicode_text (0x20 ∷ 0xAC ∷ 0xD8 ∷ 0x3D ∷ 0xDE ∷ 0x00 ∷ []) ≡ 0xE2 ∷ 0x82 ∷ 0xAC ∷ 0xF0 ∷ 0x9F ∷ 0x98 ∷ 0x80 ∷ []
unfolding unicode_text joined utf8 scalars16 pieces16 codes units up_to_zero_of paired first16 is_pair
text = refl

pub bytes : unicode_bytes (0xE2 ∷ 0x82 ∷ 0xAC ∷ 0xF0 ∷ 0x9F ∷ 0x98 ∷ 0x80 ∷ []) ≡ 0x20 ∷ 0xAC ∷ 0xD8 ∷ 0x3D ∷ 0xDE ∷ 0x00 ∷ []
unfolding unicode_bytes joined utf16 lossy pieces8 split8 codes first8 need low high inside
bytes = refl
