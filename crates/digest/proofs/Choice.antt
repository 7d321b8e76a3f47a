-- A choice bit by bit: where a bit of x is set the bit of y, else the bit of z. Assumes nothing.
use Rattle.std.proofs.Common.{◌≡◌, ℕ, zero, suc, ◌-◌, ◌*◌, ◌/◌, ◌%◌, ◌^◌, ◌<◌, Bool, T, eqb, sym, ap, ◌∙◌, pow-suc, arith, eqb→eq}
use lib.Arith.{lt-one}
use lib.Bits.{bit_and, bit_or, bit_xor, and_shr, or_shr, xor_shr, and_mod, or_mod, xor_mod}
use Rattle.base.proofs.Below.{below, at_each}

-- numbers whose halves and last digits are equal are equal
by_digits : (m n : ℕ) → m / 2 ≡ n / 2 → m % 2 ≡ n % 2 → m ≡ n
by_digits m n p q = omega arith

-- the choice in three operations, and as the two halves that n, the complement of x, leaves
abbrev chosen : ℕ → ℕ → ℕ → ℕ
chosen x y z = bit_xor z (bit_and x (bit_xor y z))

abbrev halves : ℕ → ℕ → ℕ → ℕ → ℕ
halves n x y z = bit_or (bit_and x y) (bit_and n z)

chosen_half : (x y z : ℕ) → chosen x y z / 2 ≡ chosen (x / 2) (y / 2) (z / 2)
chosen_half x y z = xor_shr z (bit_and x (bit_xor y z)) 1 ∙ rw (and_shr x (bit_xor y z) 1, xor_shr y z 1)

chosen_digit : (x y z : ℕ) → chosen x y z % 2 ≡ chosen (x % 2) (y % 2) (z % 2)
chosen_digit x y z = xor_mod z (bit_and x (bit_xor y z)) 1 ∙ rw (and_mod x (bit_xor y z) 1, xor_mod y z 1)

halves_half : (n x y z : ℕ) → halves n x y z / 2 ≡ halves (n / 2) (x / 2) (y / 2) (z / 2)
halves_half n x y z = or_shr (bit_and x y) (bit_and n z) 1 ∙ rw (and_shr x y 1, and_shr n z 1)

halves_digit : (n x y z : ℕ) → halves n x y z % 2 ≡ halves (n % 2) (x % 2) (y % 2) (z % 2)
halves_digit n x y z = or_mod (bit_and x y) (bit_and n z) 1 ∙ rw (and_mod x y 1, and_mod n z 1)

-- on one digit: the eight cases
abbrev agrees : ℕ → ℕ → ℕ → Bool
agrees x y z = eqb (chosen x y z) (halves (1 - x) x y z)

digit : (x y z : ℕ) → x < 2 → y < 2 → z < 2 → chosen x y z ≡ halves (1 - x) x y z
digit x y z h i j =
    let all : T (below (λ a. below (λ b. below (λ c. agrees a b c) 2) 2) 2) = tt in
    eqb→eq (chosen x y z) (halves (1 - x) x y z)
    (at_each (λ c. agrees x y c) 2
    (at_each (λ b. below (λ c. agrees x b c) 2) 2
    (at_each (λ a. below (λ b. below (λ c. agrees a b c) 2) 2) 2 all x h) y i) z j)

-- on k digits
pub choice : (k x y z : ℕ) → x < 2 ^ k → y < 2 ^ k → z < 2 ^ k → chosen x y z ≡ halves (2 ^ k - 1 - x) x y z
choice zero x y z h i j = rw (lt-one h, lt-one j)
choice (suc k) x y z h i j =
    let m = 2 ^ k in
    let double : 2 ^ suc k ≡ m * 2 = pow-suc 2 k in
    let n = 2 ^ suc k - 1 - x in
    let half : n / 2 ≡ m - 1 - x / 2 = omega arith in
    let last : n % 2 ≡ 1 - x % 2 = omega arith in
    by_digits (chosen x y z) (halves n x y z)
    (chosen_half x y z ∙ choice k (x / 2) (y / 2) (z / 2) (omega arith) (omega arith) (omega arith)
    ∙ ap (λ (c : ℕ). halves c (x / 2) (y / 2) (z / 2)) (sym half) ∙ sym (halves_half n x y z))
    (chosen_digit x y z ∙ digit (x % 2) (y % 2) (z % 2) (omega arith) (omega arith) (omega arith)
    ∙ ap (λ (c : ℕ). halves c (x % 2) (y % 2) (z % 2)) (sym last) ∙ sym (halves_digit n x y z))
