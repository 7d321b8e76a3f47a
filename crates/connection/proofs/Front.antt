-- Bytes, or ids, at the front of a store: what a store and a copy add to them. Assumes nothing.
use Rattle.std.proofs.Common.{◌≡◌, ℕ, suc, ◌+◌, ◌-◌, ◌<◌, ◌≤◌, List, [], ◌∷◌, ◌++◌, length, get_or, drop, set, sym, refl, ap, ◌∙◌, append_assoc, append-nil, add-one, arith, length-append, length-drop, get_or-drop, drop-cons, drop-drop, take_at, get_or-append-add}
use lib.Seq.{set-append_seam, drop-append-add, take-length, paste, sets}
use Rattle.connection.specs.Reply.{front}

pub front_length : (q y : List ℕ) → length q ≤ length y → length (front q y) ≡ length y
front_length q y h = omega (arith, length-append q (drop (length q) y), length-drop (length q) y)

-- what stands behind them is the store's
pub front-behind : (q y : List ℕ) (i : ℕ) → length q ≤ i → get_or (front q y) i 0 ≡ get_or y i 0
front-behind q y i h =
    let n : i ≡ length q + (i - length q) = omega arith in
    ap (λ (k : ℕ). get_or (front q y) k 0) n
    ∙ get_or-append-add q (drop (length q) y) (i - length q) 0
    ∙ get_or-drop (length q) y (i - length q) 0
    ∙ ap (λ (k : ℕ). get_or y k 0) (sym n)

-- a store's places from `n` on, if no more than `n` stand at its front
pub front-drop : (q y : List ℕ) (n : ℕ) → length q ≤ n → drop n (front q y) ≡ drop n y
front-drop q y n h =
    let m : n ≡ length q + (n - length q) = omega arith in
    ap (λ (k : ℕ). drop k (front q y)) m ∙ drop-append-add q (drop (length q) y) (n - length q) ∙ drop-drop (n - length q) (length q) y
    ∙ ap (λ (k : ℕ). drop k y) (sym m)

-- one more
pub front-set : (q y : List ℕ) (x : ℕ) → length q < length y → set (front q y) (length q) x ≡ front (q ++ (x ∷ [])) y
front-set q y x h =
    let n : length (q ++ (x ∷ [])) ≡ suc (length q) = length-append q (x ∷ []) ∙ add-one (length q) in
    ap (λ (l : List ℕ). set (q ++ l) (length q) x) (drop-cons y (length q) 0 h)
    ∙ set-append_seam q (get_or y (length q) 0) (drop (suc (length q)) y) x
    ∙ sym (rw (n, append_assoc))

pub front-sets : (v q y : List ℕ) (n : ℕ) → n ≡ length q → length q + length v ≤ length y → sets (front q y) n v ≡ front (q ++ v) y
front-sets [] q y n e h = ap (λ (l : List ℕ). front l y) (sym (append-nil q))
front-sets (x ∷ v) q y n e h =
    let m : suc n ≡ length (q ++ (x ∷ [])) = omega (arith, e, length-append q (x ∷ [])) in
    ap (λ (k : ℕ). sets (set (front q y) k x) (suc n) v) e
    ∙ ap (λ (l : List ℕ). sets l (suc n) v) (front-set q y x (omega arith))
    ∙ front-sets v (q ++ (x ∷ [])) y (suc n) m (omega arith)
    ∙ ap (λ (l : List ℕ). front l y) (append_assoc q (x ∷ []) v)

-- a piece more
pub front-paste : (q y v : List ℕ) → length q + length v ≤ length y → paste (front q y) (length q) v (length v) ≡ front (q ++ v) y
front-paste q y v h =
    simp (take_at q (drop (length q) y) (length q) refl, take-length v, drop-append-add q (drop (length q) y) (length v), drop-drop (length v) (length q) y, length-append q v)
