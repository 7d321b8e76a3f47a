-- Proves a rule for all numbers below a bound by one test, which antt computes number by number. Assumes nothing.
use mathlib.Core.Path.{◌≡◌, refl, subst}
use mathlib.Core.Bool.{Bool, true, false, not, ◌&&◌}
use Prim.Native.Nat.{ℕ, zero, suc, ◌+◌, ◌-◌, ◌≤◌, ◌<◌}
use native.Mathlib.Omega.{arith}
use native.Mathlib.Nat.{le_of_suc-le-suc, not-suc-le-zero}
use lib.Dec.{T, eqb, eqb→eq}

pub and_left : (a b : Bool) → T (a && b) → T a
and_left true b t = tt
and_left false b t = t

pub and_right : (a b : Bool) → T (a && b) → T b
and_right true b t = t
and_right false b t = absurd t

-- the test `f` passes at each number below `n`
abbrev pub below : (ℕ → Bool) → ℕ → Bool
below f zero = true
below f (suc n) = f zero && below (λ k. f (suc k)) n

pub at_each : (f : ℕ → Bool) (n : ℕ) → T (below f n) → (k : ℕ) → k < n → T (f k)
at_each f zero t k h = absurd (not-suc-le-zero h)
at_each f (suc n) t zero h = and_left (f zero) (below (λ k. f (suc k)) n) t
at_each f (suc n) t (suc k) h = at_each (λ k. f (suc k)) n (and_right (f zero) (below (λ k. f (suc k)) n) t) k (le_of_suc-le-suc h)

-- two functions agree below `n` if one test finds their values equal there
pub numbers_agree : (f g : ℕ → ℕ) (n : ℕ) → T (below (λ k. eqb (f k) (g k)) n) → (k : ℕ) → k < n → f k ≡ g k
numbers_agree f g n t k h = eqb→eq (f k) (g k) (at_each (λ k. eqb (f k) (g k)) n t k h)

-- the tests `a` and `b` give the same answer
abbrev pub alike : Bool → Bool → Bool
alike true b = b
alike false b = not b

alike-eq : (a b : Bool) → T (alike a b) → a ≡ b
alike-eq true true t = refl
alike-eq true false t = absurd t
alike-eq false true t = absurd t
alike-eq false false t = refl

pub tests_agree : (f g : ℕ → Bool) (n : ℕ) → T (below (λ k. alike (f k) (g k)) n) → (k : ℕ) → k < n → f k ≡ g k
tests_agree f g n t k h = alike-eq (f k) (g k) (at_each (λ k. alike (f k) (g k)) n t k h)

-- the test `f` answers `v` at each number from `lo` to `hi`
pub run : (f : ℕ → Bool) (v : Bool) (lo hi : ℕ) → T (below (λ k. alike (f (lo + k)) v) (hi + 1 - lo))
    → (b : ℕ) → lo ≤ b → b ≤ hi → f b ≡ v
run f v lo hi t b l h =
    let e : lo + (b - lo) ≡ b = omega arith in
    subst (λ (m : ℕ). f m ≡ v) e
    (alike-eq (f (lo + (b - lo))) v (at_each (λ k. alike (f (lo + k)) v) (hi + 1 - lo) t (b - lo) (omega arith)))
