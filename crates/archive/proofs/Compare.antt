-- Lists compared element by element: two of them with one another, and one with zeros. Assumes nothing.
use mathlib.Core.Path.{◌≡◌, refl, ap, ap₂}
use mathlib.Core.Bool.{Bool, true, false, ◌&&◌}
use mathlib.Core.List.{List, [], ◌∷◌}
use Prim.Native.Nat.{ℕ, zero, suc}
use lib.Dec.{eqb}
use lib.ListN.{length, replicate}
use borrow.Author.Tests.{eqb-true, eq-eqb}
use Rattle.std.specs.List.{list_all}
use Rattle.std.specs.Cmp.Lexicographic.{pointwise}
use Rattle.archive.specs.Block.{same, all_zero}

-- both of two tests hold
pub both : (a b : Bool) → (a && b) ≡ true → (a ≡ true) × (b ≡ true)
both true b e = (refl, e)
both false b e =
    let z : ◌≡◌ {A = Bool} true false = cc in
    (e, cc)

-- ---- two lists

pub same_refl : (l : List ℕ) → same l l ≡ true
unfolding same
same_refl [] = refl
same_refl (x ∷ l) = rw (eq-eqb x x refl) (same_refl l)

pub same-eq : (a b : List ℕ) → same a b ≡ true → a ≡ b
unfolding same
same-eq [] [] e = refl
same-eq [] (y ∷ b) e = cc
same-eq (x ∷ a) [] e = cc
same-eq (x ∷ a) (y ∷ b) e =
    let q = both (eqb x y) (same a b) e in
    ap₂ (λ (h : ℕ) (t : List ℕ). h ∷ t) (eqb-true x y q.0) (same-eq a b q.1)

-- `==` of two slices
pub same_pointwise : (a b : List ℕ) → pointwise eqb a b ≡ same a b
unfolding same
same_pointwise [] [] = refl
same_pointwise [] (y ∷ b) = refl
same_pointwise (x ∷ a) [] = refl
same_pointwise (x ∷ a) (y ∷ b) = ap (λ (t : Bool). eqb x y && t) (same_pointwise a b)

-- ---- zeros

pub zero-zeros : (n : ℕ) → all_zero (replicate n 0) ≡ true
unfolding all_zero
zero-zeros zero = refl
zero-zeros (suc n) = zero-zeros n

pub zeros-only : (l : List ℕ) → all_zero l ≡ true → l ≡ replicate (length l) 0
unfolding all_zero
zeros-only [] e = refl
zeros-only (x ∷ l) e =
    let q = both (eqb x 0) (all_zero l) e in
    ap₂ (λ (h : ℕ) (t : List ℕ). h ∷ t) (eqb-true x 0 q.0) (zeros-only l q.1)

-- `all` of the items of a slice
pub all_zeros : (l : List ℕ) → list_all (λ (x : ℕ). eqb x 0) l ≡ all_zero l
unfolding all_zero
all_zeros [] = refl
all_zeros (x ∷ l) = ap (λ (t : Bool). eqb x 0 && t) (all_zeros l)
