-- Equal bytes, by `same`. Of general use. Assumes nothing.
use mathlib.Core.Path.{◌≡◌, refl, sym, ◌∙◌, subst}
use mathlib.Core.Bool.{Bool, true, false, ◌&&◌}
use mathlib.Core.List.{List, [], ◌∷◌}
use Prim.Native.Nat.{ℕ}
use native.Mathlib.Omega.{arith}
use lib.Dec.{eqb}
use borrow.Author.Tests.{eqb-true, eq-eqb}
use Rattle.packet.specs.Auth.{same}

pub same_self : (l : List ℕ) → same l l ≡ true
unfolding same
same_self [] = refl
same_self (x ∷ l) = rw (eq-eqb x x refl) (same_self l)

and_true : (a b : Bool) → (a && b) ≡ true → (a ≡ true) × (b ≡ true)
and_true true b e = (refl, e)
and_true false b e = let z : ◌≡◌ {A = ℕ} 0 1 = cc in absurd (omega arith)

pub same-equal : (l m : List ℕ) → same l m ≡ true → l ≡ m
unfolding same
same-equal [] [] e = refl
same-equal [] (y ∷ ys) e = let z : ◌≡◌ {A = ℕ} 0 1 = cc in absurd (omega arith)
same-equal (x ∷ xs) [] e = let z : ◌≡◌ {A = ℕ} 0 1 = cc in absurd (omega arith)
same-equal (x ∷ xs) (y ∷ ys) e =
    let a = and_true (eqb x y) (same xs ys) e in
    let p : x ≡ y = eqb-true x y a.0 in
    let q : xs ≡ ys = same-equal xs ys a.1 in
    cc

-- a test that holds just where two lists are equal
pub same_is : (a b : List ℕ) (x : Bool) → (x ≡ true → a ≡ b) → (a ≡ b → x ≡ true) → x ≡ same a b
same_is a b x to from = go x (same a b) refl refl
  where
    go : (y z : Bool) → x ≡ y → same a b ≡ z → x ≡ same a b
    go true z p q = p ∙ sym (subst (λ (l : List ℕ). same a l ≡ true) (to p) (same_self a))
    go false true p q = from (same-equal a b q) ∙ sym q
    go false false p q = p ∙ sym q
