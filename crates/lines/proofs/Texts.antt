-- Digits of bytes, one after the other, and how many decimal digits a number has. Assumes nothing.
use mathlib.Core.Path.{◌≡◌, refl, sym, ap, subst, ◌∙◌}
use mathlib.Core.List.{List, [], ◌∷◌, ◌++◌, append-nil}
use Prim.Native.Nat.{ℕ, zero, suc, ◌+◌, ◌-◌, ◌*◌, ◌/◌, ◌%◌, ◌^◌, ◌≤◌, ◌<◌}
use native.Mathlib.Omega.{arith}
use native.Mathlib.Nat.{pow-suc}
use lib.ListN.{length, get_or, set, take, drop, length-drop, drop_of_length-le}
use lib.Seq.{paste, paste-suc, take_all}
use borrow.Author.Tests.{lt-ltb, le-ltb}
use Rattle.io.specs.Digits.{last_digits, hex_digit_ascii, IsDigitCount}
use Rattle.lines.specs.Word.{filled}
use Rattle.lines.specs.Output.{least_of, put_bytes, hex_of, hex_front, put_digits, places_in, decimal_of}

-- ---- bytes behind the first ones

-- of what the code has: the place, the count, and the store into which the first `k` bytes were copied
pub put_of : (out s after : List ℕ) (n at k : ℕ) → at ≡ least_of n (length out) → k ≡ least_of (length s) (length out - at)
    → after ≡ paste out at (take (k - 0) (drop 0 s)) (length (take (k - 0) (drop 0 s)))
    → filled after (at + k) ≡ put_bytes out n s
unfolding put_bytes
put_of out s after n at k e f g =
    let z : k - 0 ≡ k = omega arith in
    rw (← e, ← f) (ap (λ (l : List ℕ). filled l (at + k)) (g ∙ ap (λ (j : ℕ). paste out at (take j s) (length (take j s))) z))

-- of a part that is lent up to the end of the store, and filled with digits
pub part_digits : (out p s : List ℕ) (n at k : ℕ) → at ≡ least_of n (length out) → at ≤ length out
    → filled p k ≡ hex_front (take (length out - at) (drop at out)) s
    → filled (take at out ++ (p ++ drop (length out - at) (drop at out))) (at + k) ≡ put_digits out n s
unfolding put_digits
part_digits out p s n at k e h g =
    let l = length-drop at out in
    let a : take (length out - at) (drop at out) ≡ drop at out = take_all (length out - at) (drop at out) (omega arith) in
    let b : drop (length out - at) (drop at out) ≡ [] = drop_of_length-le (drop at out) {i = length out - at} (omega arith) in
    let q : filled p k ≡ hex_front (drop at out) s = g ∙ ap (λ (x : List ℕ). hex_front x s) a in rw (b, append-nil p, ← e, ← q) refl

-- ---- hexadecimal

pub length_hex : (s : List ℕ) → length (hex_of s) ≡ 2 * length s
length_hex [] = refl
length_hex (b ∷ bs) = let h = length_hex bs in omega arith

high_digit : (s : List ℕ) (n : ℕ) → n < length s → get_or (hex_of s) (2 * n) 0 ≡ hex_digit_ascii (get_or s n 0 / 16 % 16)
high_digit [] n h = absurd (omega arith)
high_digit (b ∷ bs) zero h = refl
high_digit (b ∷ bs) (suc n) h =
    let e : 2 * suc n ≡ suc (suc (2 * n)) = omega arith in
    ap (λ (k : ℕ). get_or (hex_of (b ∷ bs)) k 0) e ∙ high_digit bs n (omega arith)

low_digit : (s : List ℕ) (n : ℕ) → n < length s → get_or (hex_of s) (2 * n + 1) 0 ≡ hex_digit_ascii (get_or s n 0 % 16)
low_digit [] n h = absurd (omega arith)
low_digit (b ∷ bs) zero h = refl
low_digit (b ∷ bs) (suc n) h =
    let e : 2 * suc n + 1 ≡ suc (suc (2 * n + 1)) = omega arith in
    ap (λ (k : ℕ). get_or (hex_of (b ∷ bs)) k 0) e ∙ low_digit bs n (omega arith)

-- one element more at the front
paste_on : (d s : List ℕ) (j v : ℕ) → j < length d → j < length s → get_or s j 0 ≡ v → set (paste d 0 s j) j v ≡ paste d 0 s (j + 1)
paste_on d s j v h k e =
    let z : 0 + j ≡ j = omega arith in
    let m : suc j ≡ j + 1 = omega arith in
    ap (set (paste d 0 s j) j) (sym e)
    ∙ ap (λ (i : ℕ). set (paste d 0 s j) i (get_or s j 0)) (sym z)
    ∙ paste-suc d 0 s j 0 (omega arith) k
    ∙ ap (paste d 0 s) m

-- two digits more
pub hex_turn : (out₀ s out : List ℕ) (n : ℕ) → out ≡ paste out₀ 0 (hex_of s) (2 * n) → 2 * n + 1 < length out₀ → n < length s
    → set (set out (2 * n) (hex_digit_ascii (get_or s n 0 / 16 % 16))) (2 * n + 1) (hex_digit_ascii (get_or s n 0 % 16)) ≡ paste out₀ 0 (hex_of s) (2 * (n + 1))
hex_turn out₀ s out n e h k =
    let l = length_hex s in
    let m : 2 * n + 1 + 1 ≡ 2 * (n + 1) = omega arith in
    ap (λ (x : List ℕ). set (set x (2 * n) (hex_digit_ascii (get_or s n 0 / 16 % 16))) (2 * n + 1) (hex_digit_ascii (get_or s n 0 % 16))) e
    ∙ ap (λ (x : List ℕ). set x (2 * n + 1) (hex_digit_ascii (get_or s n 0 % 16)))
    (paste_on out₀ (hex_of s) (2 * n) (hex_digit_ascii (get_or s n 0 / 16 % 16)) (omega arith) (omega arith) (high_digit s n k))
    ∙ paste_on out₀ (hex_of s) (2 * n + 1) (hex_digit_ascii (get_or s n 0 % 16)) (omega arith) (omega arith) (low_digit s n k)
    ∙ ap (paste out₀ 0 (hex_of s)) m

-- ---- decimal

one_up : (k : ℕ) → 1 ≤ 10 ^ k
one_up zero = omega arith
one_up (suc k) = let h = one_up k in let e = pow-suc 10 k in omega arith

-- the fewest digits of a number are as many as the definition counts
pub places_are : (f n k : ℕ) → k ≤ f → IsDigitCount 10 1 n k → k ≡ places_in f n
places_are f n zero h w = let o = w.0 in absurd (omega arith)
places_are zero n (suc k) h w = absurd (omega arith)
places_are (suc f) n (suc zero) h w = let t : n < 10 = w.1 in simp (lt-ltb n 10 t)
places_are (suc f) n (suc (suc k)) h w =
    let c : suc (suc k) - 1 ≡ suc k = omega arith in
    let d : k ≡ suc k - 1 = omega arith in
    let p : 10 ^ suc k ≤ n = subst (λ (m : ℕ). 10 ^ m ≤ n) c (w.2 (omega arith)) in
    let u : n < 10 ^ suc (suc k) = w.1 in
    let a = pow-suc 10 (suc k) in
    let b = pow-suc 10 k in
    let o = one_up k in
    let t : 10 ≤ n = omega arith in
    let less : n / 10 < 10 ^ suc k = omega arith in
    let more : 10 ^ k ≤ n / 10 = omega arith in
    let r = places_are f (n / 10) (suc k) (omega arith) (omega arith, less, λ z. subst (λ (m : ℕ). 10 ^ m ≤ n / 10) d more) in
    ap suc r ∙ simp (le-ltb n 10 t)

below_power : (k : ℕ) → k < 10 ^ k
below_power zero = omega arith
below_power (suc k) = let h = below_power k in let e = pow-suc 10 k in omega arith

few_places : (n k : ℕ) → IsDigitCount 10 1 n k → k ≤ suc n
few_places n zero w = omega arith
few_places n (suc zero) w = omega arith
few_places n (suc (suc k)) w =
    let c : suc (suc k) - 1 ≡ suc k = omega arith in
    let p : 10 ^ suc k ≤ n = subst (λ (m : ℕ). 10 ^ m ≤ n) c (w.2 (omega arith)) in let b = below_power (suc k) in omega arith

pub decimal_is : (text : List ℕ) (n k : ℕ) → IsDigitCount 10 1 n k → text ≡ last_digits 10 k n → text ≡ decimal_of n
unfolding decimal_of
decimal_is text n k w e = e ∙ ap (λ (j : ℕ). last_digits 10 j n) (places_are (suc n) n k (few_places n k w) w)
