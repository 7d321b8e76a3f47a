-- A number is put in front of a list by moving each of the others on by one: a copy of `x ∷ s` into `s`, place by place, with the number
-- that the next place gets in hand. Assumes nothing.
use mathlib.Core.Path.{◌≡◌, refl, ap, ◌∙◌, subst}
use mathlib.Core.List.{List, ◌∷◌, ◌++◌, append-nil}
use Prim.Native.Nat.{ℕ, suc, ◌+◌, ◌≤◌, ◌<◌}
use native.Mathlib.Omega.{arith}
use native.Mathlib.Nat.{zero-add}
use native.Mathlib.Numerals.{add-one}
use lib.ListN.{length, get_or, set, take, drop}
use lib.Seq.{paste, paste-zero, paste-suc, length-paste, get_or-drop, get_or-append-add, length-take-le, drop-length}
use Rattle.table.specs.Nonces.{pushed}

-- the first `i` are moved on, and `carry` is what the next place gets
pub record Moved (s₀ : List ℕ) (x i : ℕ) (s : List ℕ) (carry : ℕ) : Type 0 where
  pub list : s ≡ paste s₀ 0 (x ∷ s₀) i
  pub hand : carry ≡ get_or (x ∷ s₀) i 0

pub moved_none : (s : List ℕ) (x : ℕ) → Moved s x 0 s x
moved_none s x = record { list = paste-zero s 0 (x ∷ s); hand = refl }

-- what is not moved yet stands where it was
behind : (s₀ : List ℕ) (x i : ℕ) → i < length s₀ → get_or (paste s₀ 0 (x ∷ s₀) i) i 0 ≡ get_or s₀ i 0
behind s₀ x i h =
    let n : length (take i (x ∷ s₀)) ≡ i = length-take-le i (x ∷ s₀) (omega arith) in
    let a : i ≡ length (take i (x ∷ s₀)) + 0 = omega arith in
    let b : 0 + i + 0 ≡ i = omega arith in
    ap (λ (k : ℕ). get_or (take i (x ∷ s₀) ++ drop (0 + i) s₀) k 0) a ∙ get_or-append-add (take i (x ∷ s₀)) (drop (0 + i) s₀) 0 0
    ∙ get_or-drop (0 + i) s₀ 0 0 ∙ ap (λ (k : ℕ). get_or s₀ k 0) b

pub moved-one : (s₀ : List ℕ) (x i : ℕ) (s : List ℕ) (carry : ℕ) → i < length s₀ → Moved s₀ x i s carry
    → Moved s₀ x (i + 1) (set s i carry) (get_or s i 0)
moved-one s₀ x i s carry h m =
    let z : 0 + i ≡ i = zero-add i in
    record {
      list = rw (add-one i, m.list, m.hand)
          (subst (λ (k : ℕ). set (paste s₀ 0 (x ∷ s₀) i) k (get_or (x ∷ s₀) i 0) ≡ paste s₀ 0 (x ∷ s₀) (suc i)) z
          (paste-suc s₀ 0 (x ∷ s₀) i 0 (omega arith) (omega arith)));
      hand = rw (add-one i, m.list) (behind s₀ x i h);
    }

pub moved_length : (s₀ : List ℕ) (x i : ℕ) (s : List ℕ) (carry : ℕ) → i ≤ length s₀ → Moved s₀ x i s carry → length s ≡ length s₀
moved_length s₀ x i s carry h m = ap length m.list ∙ length-paste s₀ 0 (x ∷ s₀) i (omega arith) (omega arith)

pub moved_all : (s₀ : List ℕ) (x i : ℕ) (s : List ℕ) (carry : ℕ) → i ≡ length s₀ → Moved s₀ x i s carry → s ≡ pushed x s₀
moved_all s₀ x i s carry e m =
    let z : 0 + length s₀ ≡ length s₀ = zero-add (length s₀) in
    m.list ∙ ap (λ (k : ℕ). paste s₀ 0 (x ∷ s₀) k) e ∙ ap (λ (k : ℕ). take (length s₀) (x ∷ s₀) ++ drop k s₀) z
    ∙ ap (λ (l : List ℕ). take (length s₀) (x ∷ s₀) ++ l) (drop-length s₀) ∙ append-nil (take (length s₀) (x ∷ s₀))
