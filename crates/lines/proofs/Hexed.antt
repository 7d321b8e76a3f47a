-- Bytes in hexadecimal as a text: each digit is ASCII, and the digits of a part and of what follows it are those of both. Assumes nothing.
use Rattle.std.proofs.Common.{◌≡◌, ℕ, ◌+◌, ◌*◌, ◌/◌, ◌%◌, ◌≤◌, ◌<◌, List, [], ◌∷◌, ◌++◌, length, take, All, refl, sym, ap, ◌∙◌, arith, rules, inl, inr}
use lib.Seq.{paste, take_all}
use borrow.Author.Tests.{lt-ltb, le-ltb}
use Rattle.std.proofs.lemmas.Bool.{cases_lt}
use Rattle.std.proofs.lemmas.List.Edits.{take-paste}
use Rattle.std.proofs.lemmas.Str.Ascii.{IsAscii-from_all}
use Rattle.std.specs.Str.{IsAscii}
use Rattle.io.specs.Digits.{hex_digit_ascii}
use Rattle.lines.specs.Word.{Filled, filled}
use Rattle.lines.specs.Output.{least_of, hex_of, hex_front}
use Rattle.lines.proofs.Texts.{length_hex}

pub hex_append : (a b : List ℕ) → hex_of a ++ hex_of b ≡ hex_of (a ++ b)
hex_append [] b = refl
hex_append (x ∷ a) b =
    ap (λ (l : List ℕ). hex_digit_ascii (x / 16 % 16) ∷ hex_digit_ascii (x % 16) ∷ l) (hex_append a b)

digit_small : (d : ℕ) → d < 16 → hex_digit_ascii d < 128
digit_small d h = grind arith

digits_small : (s : List ℕ) → All (λ b. b < 128) (hex_of s)
digits_small [] = search rules
digits_small (x ∷ s) =
    let h = digit_small (x / 16 % 16) (omega arith) in let l = digit_small (x % 16) (omega arith) in let r = digits_small s in search rules

pub hex_ascii : (s : List ℕ) → IsAscii (hex_of s)
hex_ascii s = IsAscii-from_all (hex_of s) (digits_small s)

fewer : (a b : ℕ) → a ≤ b → least_of a b ≡ a
unfolding least_of
fewer a b h = elim (cases_lt a b) [
  | inl less ↦ simp (lt-ltb a b less)
  | inr more ↦ let e : b ≡ a = omega arith in simp (le-ltb a b more) e
]

-- where the store has room for all digits, they stand at its front
pub hex_taken : (out s out' : List ℕ) (n : ℕ) → filled out' n ≡ hex_front out s → 2 * length s ≤ length out → take n out' ≡ hex_of s
unfolding hex_front
hex_taken out s out' n e h =
    let k : least_of (length s) (length out / 2) ≡ length s = fewer (length s) (length out / 2) (omega arith) in
    let u : n ≡ 2 * length s = ap (λ (m : Filled). m.used) e ∙ ap (λ (j : ℕ). 2 * j) k in
    let b : out' ≡ paste out 0 (hex_of s) (2 * length s) = ap (λ (m : Filled). m.bytes) e ∙ ap (λ (j : ℕ). paste out 0 (hex_of s) (2 * j)) k in
    let l = length_hex s in
    let z : 0 + 2 * length s ≡ 2 * length s = omega arith in
    rw (u, b) (sym (ap (λ (j : ℕ). take j (paste out 0 (hex_of s) (2 * length s))) z) ∙ take-paste out 0 (hex_of s) (2 * length s) (omega arith) (omega arith) ∙ take_all (2 * length s) (hex_of s) (omega arith))
