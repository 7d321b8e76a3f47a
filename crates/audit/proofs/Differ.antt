-- Where two lists differ first, step by step, and lists of two lengths, which are not the same. Assumes nothing.
use Rattle.std.proofs.Common.{◌≡◌, ℕ, suc, ◌+◌, ◌<◌, ◌≤◌, Bool, true, false, List, [], ◌∷◌, length, get_or, drop, refl, ap, add-one, arith, drop_of_length-le, drop-cons, eq-eqb, ne_eqb}
use Rattle.archive.specs.Block.{same}
use Rattle.archive.proofs.Compare.{same-eq}
use Rattle.audit.specs.Compare.{differ_at}

-- two lists of two lengths are not the same
pub unlike : (a b : List ℕ) → (length a ≡ length b → ⊥) → same a b ≡ false
unlike a b f = go (same a b) refl
  where
    go : (t : Bool) → same a b ≡ t → same a b ≡ false
    go true e = absurd (f (ap length (same-eq a b e)))
    go false e = e

-- nothing is left of the second
differ_none : (a : List ℕ) → differ_at a [] ≡ 0
unfolding differ_at
differ_none [] = refl
differ_none (x ∷ a) = refl

pub differ_start : (a b : List ℕ) → differ_at a b ≡ 0 + differ_at (drop 0 a) (drop 0 b)
differ_start a b = omega arith

module _ (a b : List ℕ) (i : ℕ) where
  pub differ_end : (length a ≤ i) → differ_at (drop i a) (drop i b) ≡ 0
  unfolding differ_at
  differ_end h = rw (drop_of_length-le a {i = i} h) refl

  pub differ_end_2 : (length b ≤ i) → differ_at (drop i a) (drop i b) ≡ 0
  differ_end_2 h = rw (drop_of_length-le b {i = i} h) (differ_none (drop i a))

  module _ (h : i < length a) (k : i < length b) where
    pub differ_next : get_or a i 0 ≡ get_or b i 0 → i + differ_at (drop i a) (drop i b) ≡ (i + 1) + differ_at (drop (i + 1) a) (drop (i + 1) b)
    unfolding differ_at
    differ_next e =
        let d : differ_at (drop i a) (drop i b) ≡ suc (differ_at (drop (i + 1) a) (drop (i + 1) b)) =
        rw (add-one i, drop-cons a i 0 h, drop-cons b i 0 k, eq-eqb (get_or a i 0) (get_or b i 0) e) refl in
        omega (arith, d)

    pub differ_here : (get_or a i 0 ≡ get_or b i 0 → ⊥) → differ_at (drop i a) (drop i b) ≡ 0
    unfolding differ_at
    differ_here e = rw (drop-cons a i 0 h, drop-cons b i 0 k, ne_eqb (get_or a i 0) (get_or b i 0) e) refl
