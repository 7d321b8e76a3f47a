-- Letters of the checks over all connections, one by one: what each stands for, and the count along a list. Assumes nothing.
use Prim.Native.Nat.{ℕ, ◌+◌, ◌≤◌, ◌<◌}
use mathlib.Core.Path.{◌≡◌, refl}
use mathlib.Core.List.{List, [], ◌∷◌}
use native.Mathlib.Omega.{arith}
use native.Mathlib.Numerals.{add-one}
use lib.ListN.{length, get_or, drop}
use lib.Seq.{drop-cons}
use borrow.Author.Tests.{eq-eqb, ne_eqb}
use Rattle.journal.specs.Checks.{Check, right, wrong, stop, is_wrong, bit, wrongs}
use Rattle.filing.specs.Tries.{letter_check, history_of}

pub letter_right : (b : ℕ) → b ≡ 0x72 → 0 ≡ bit (is_wrong (letter_check b))
unfolding letter_check
letter_right b e = rw (eq-eqb b 0x72 e) refl

pub letter_stop : (b : ℕ) → (b ≡ 0x72 → ⊥) → b ≡ 0x73 → 0 ≡ bit (is_wrong (letter_check b))
unfolding letter_check
letter_stop b n e = rw (ne_eqb b 0x72 n, eq-eqb b 0x73 e) refl

pub letter_wrong : (b : ℕ) → (b ≡ 0x72 → ⊥) → (b ≡ 0x73 → ⊥) → 1 ≡ bit (is_wrong (letter_check b))
unfolding letter_check
letter_wrong b n m = rw (ne_eqb b 0x72 n, ne_eqb b 0x73 m) refl

pub bit_most : (c : Check) → bit (is_wrong c) ≤ 1
bit_most right = omega arith
bit_most wrong = omega arith
bit_most stop = omega arith

-- one letter more is counted
pub count_next : (l : List ℕ) (i : ℕ) (h : i < length l)
    → wrongs (history_of (drop i l)) ≡ bit (is_wrong (letter_check (get_or l i 0))) + wrongs (history_of (drop (i + 1) l))
unfolding wrongs
count_next l i h = rw (add-one i, drop-cons l i 0 h) refl

pub length_history : (l : List ℕ) → length (history_of l) ≡ length l
length_history [] = refl
length_history (b ∷ l) = omega (arith, length_history l)
