-- What stands where in a padded message. Assumes nothing.
use Rattle.std.proofs.Common.{◌≡◌, ℕ, ◌+◌, ◌*◌, ◌/◌, ◌%◌, ◌^◌, ◌<◌, ◌≤◌, max, List, ◌∷◌, ◌++◌, length, take, drop, replicate, sym, ap, ◌∙◌, arith, length-append, length-drop}
use lib.ListN.{length-replicate}
use lib.Seq.{take-append-le, drop-append-le}
use Rattle.digest.proofs.Octets.{length-le}
use Rattle.digest.specs.Md5.{zeros, le, padded}

-- the length field
abbrev pub field : List ℕ → List ℕ
field m = le 8 (8 * length m % 2 ^ 64)

abbrev tail : List ℕ → List ℕ
tail m = replicate (zeros (length m)) 0 ++ field m

pub length-padded : (m : List ℕ) → length (padded m) ≡ length m + 1 + zeros (length m) + 8
unfolding padded
length-padded m =
    let a = length-append m (128 ∷ tail m) in
    let b = length-append (replicate (zeros (length m)) 0) (field m) in
    omega (arith, a, b, length-replicate {A = ℕ} (zeros (length m)) 0, length-le 8 (8 * length m % 2 ^ 64))

-- a part of the message is that part of the padded message
pub in_part : (m : List ℕ) (at n : ℕ) → at + n ≤ length m → take n (drop at (padded m)) ≡ take n (drop at m)
unfolding padded
in_part m at n h =
    ap (λ (r : List ℕ). take n r) (drop-append-le at m (128 ∷ tail m) (omega arith))
    ∙ take-append-le n (drop at m) (128 ∷ tail m) (omega (arith, length-drop at m))

-- the same length for a message in two parts
pub field_end : (p r : List ℕ) → length p + length r + 1 + zeros (length p + length r) + 8 ≡ length (padded (p ++ r))
field_end p r = sym (length-padded (p ++ r) ∙ ap (λ (n : ℕ). n + 1 + zeros n + 8) (length-append p r))

-- the blocks of a prefix and the whole blocks of a message are among the padded message's
pub before-end : (p r : ℕ) → p < 64 → max ((p + 63) / 64) ((p + r) / 64) ≤ (p + r + 1 + zeros (p + r) + 8) / 64
before-end p r h = omega arith

pub whole_part : (n : ℕ) → 64 * (n / 64) ≤ n
whole_part n = omega arith
