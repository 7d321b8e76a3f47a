-- The bytes of a scalar value, by its range. Assumes nothing.
use mathlib.Core.Path.{◌≡◌}
use mathlib.Core.List.{[], ◌∷◌}
use Prim.Native.Nat.{ℕ, ◌+◌, ◌-◌, ◌/◌, ◌%◌, ◌≤◌, ◌<◌}
use native.Mathlib.Omega.{arith}
use borrow.Author.Tests.{lt-ltb, le-ltb}
use Rattle.text.specs.Unicode.{utf8, utf16}

pub utf8_1 : (c : ℕ) → c < 0x80 → utf8 c ≡ c ∷ []
unfolding utf8
utf8_1 c h = rw (lt-ltb c 0x80 h)

pub utf8_2 : (c : ℕ) → 0x80 ≤ c → c < 0x800 → utf8 c ≡ (0xC0 + c / 0x40) ∷ (0x80 + c % 0x40) ∷ []
unfolding utf8
utf8_2 c a h = rw (le-ltb c 0x80 a, lt-ltb c 0x800 h)

pub utf8_3 : (c : ℕ) → 0x800 ≤ c → c < 0x10000 → utf8 c ≡ (0xE0 + c / 0x1000) ∷ (0x80 + c / 0x40 % 0x40) ∷ (0x80 + c % 0x40) ∷ []
unfolding utf8
utf8_3 c a h = rw (le-ltb c 0x80 (omega arith), le-ltb c 0x800 a, lt-ltb c 0x10000 h)

pub utf8_4 : (c : ℕ) → 0x10000 ≤ c
    → utf8 c ≡ (0xF0 + c / 0x40000) ∷ (0x80 + c / 0x1000 % 0x40) ∷ (0x80 + c / 0x40 % 0x40) ∷ (0x80 + c % 0x40) ∷ []
unfolding utf8
utf8_4 c a = rw (le-ltb c 0x80 (omega arith), le-ltb c 0x800 (omega arith), le-ltb c 0x10000 a)

pub utf16_1 : (c : ℕ) → c < 0x10000 → utf16 c ≡ c / 0x100 ∷ c % 0x100 ∷ []
unfolding utf16
utf16_1 c h = rw (lt-ltb c 0x10000 h)

pub utf16_2 : (c : ℕ) → 0x10000 ≤ c
    → let u = 0xD800 + (c - 0x10000) / 0x400 in
    let v = 0xDC00 + (c - 0x10000) % 0x400 in
    utf16 c ≡ u / 0x100 ∷ u % 0x100 ∷ v / 0x100 ∷ v % 0x100 ∷ []
unfolding utf16
utf16_2 c h = rw (le-ltb c 0x10000 h)
