-- Numbers stored one by one from a place on: what stands where afterwards. Assumes nothing.
use mathlib.Core.Path.{◌≡◌, refl, ap, ◌∙◌}
use mathlib.Core.List.{List, [], ◌∷◌, ◌++◌}
use Prim.Native.Nat.{ℕ, zero, suc, ◌+◌, ◌≤◌, ◌<◌}
use native.Mathlib.Omega.{arith}
use lib.ListN.{length, get_or, set, take, length-set}
use lib.Seq.{sets, get_or-set_same, get_or-set_other, take-set-le}

-- what stands before that place stays
pub stored-before : (v l : List ℕ) (i j : ℕ) → j < i → get_or (sets l i v) j 0 ≡ get_or l j 0
stored-before [] l i j h = refl
stored-before (x ∷ v) l i j h = stored-before v (set l i x) (suc i) j (omega arith) ∙ get_or-set_other l i j x 0 (λ e. omega arith)

-- and what stands behind them
pub stored-behind : (v l : List ℕ) (i j : ℕ) → i + length v ≤ j → get_or (sets l i v) j 0 ≡ get_or l j 0
stored-behind [] l i j h = refl
stored-behind (x ∷ v) l i j h = stored-behind v (set l i x) (suc i) j (omega arith) ∙ get_or-set_other l i j x 0 (λ e. omega arith)

-- they stand there
pub stored_at : (v l : List ℕ) (i k : ℕ) → k < length v → i + length v ≤ length l → get_or (sets l i v) (i + k) 0 ≡ get_or v k 0
stored_at [] l i k h r = absurd (omega arith)
stored_at (x ∷ v) l i zero h r =
    let z : i + 0 ≡ i = omega arith in
    ap (λ (n : ℕ). get_or (sets (set l i x) (suc i) v) n 0) z ∙ stored-before v (set l i x) (suc i) i (omega arith)
    ∙ get_or-set_same l i x 0 (omega arith)
stored_at (x ∷ v) l i (suc k) h r =
    let z : i + suc k ≡ suc i + k = omega arith in
    ap (λ (n : ℕ). get_or (sets (set l i x) (suc i) v) n 0) z ∙ stored_at v (set l i x) (suc i) k (omega arith) (omega (arith, length-set l i x))

-- one more
pub stored_more : (v l : List ℕ) (i x : ℕ) → sets l i (v ++ (x ∷ [])) ≡ set (sets l i v) (i + length v) x
stored_more [] l i x = let z : i ≡ i + 0 = omega arith in ap (λ (n : ℕ). set l n x) z
stored_more (y ∷ v) l i x =
    let z : suc i + length v ≡ i + suc (length v) = omega arith in
    stored_more v (set l i y) (suc i) x ∙ ap (λ (n : ℕ). set (sets (set l i y) (suc i) v) n x) z

pub stored-front : (v l : List ℕ) (n i : ℕ) → n ≤ i → take n (sets l i v) ≡ take n l
stored-front [] l n i h = refl
stored-front (x ∷ v) l n i h = stored-front v (set l i x) n (suc i) (omega arith) ∙ take-set-le n l i x h
