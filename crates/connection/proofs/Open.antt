-- Membership in a list as the library tests it, and at most 65 candidates are passed over. Assumes nothing.
use Rattle.std.proofs.Common.{◌≡◌, ℕ, zero, suc, ◌+◌, ◌-◌, ◌%◌, ◌^◌, ◌<◌, ◌≤◌, Bool, true, false, ◌||◌, eqb, List, [], ◌∷◌, length, get_or, take, drop, sym, refl, ap, ◌∙◌, suc-le-suc, zero-le, le_trans, le_refl, add-one, arith, drop_of_length-le, length-take-le, drop-cons, get_or-take, below_more, ne_eqb, eqb-true}
use Rattle.std.specs.List.{list_any}
use Rattle.base.specs.Pick.{pick}
use Rattle.table.proofs.Columns.{eqb-turned}
use Rattle.journal.specs.Ids.{member, taken, first_free, new_id}

pub any_member : (x : ℕ) (l : List ℕ) → list_any (λ (y : ℕ). eqb y x) l ≡ member x l
any_member x [] = refl
any_member x (y ∷ l) = rw (eqb-turned y x) (ap (λ (b : Bool). eqb x y || b) (any_member x l))

-- ---- a list has no more different members than places

remove : ℕ → List ℕ → List ℕ
remove x [] = []
remove x (y ∷ ys) = pick (eqb x y) ys (y ∷ remove x ys)

-- the test x = y, with its outcome
shorter_by : (x y : ℕ) (ys : List ℕ) (b : Bool) → (b || member x ys) ≡ true
    → (member x ys ≡ true → suc (length (remove x ys)) ≤ length ys)
    → suc (length (pick b ys (y ∷ remove x ys))) ≤ suc (length ys)
shorter_by x y ys true e ih = le_refl (suc (length ys))
shorter_by x y ys false e ih = suc-le-suc (ih e)

shorter : (x : ℕ) (ys : List ℕ) → member x ys ≡ true → suc (length (remove x ys)) ≤ length ys
unfolding remove
shorter x [] e = let z : ◌≡◌ {A = ℕ} 0 1 = cc in omega arith
shorter x (y ∷ ys) e = shorter_by x y ys (eqb x y) e (shorter x ys)

stays_by : (x z y : ℕ) (ys : List ℕ) (b : Bool) → eqb x y ≡ b → (x ≡ z → ⊥) → member z (y ∷ ys) ≡ true
    → (member z ys ≡ true → member z (remove x ys) ≡ true) → member z (pick b ys (y ∷ remove x ys)) ≡ true
stays_by x z y ys true q ne e ih =
    let d : z ≡ y → ⊥ = λ (r : z ≡ y). ne (eqb-true x y q ∙ sym r) in
    rw (ne_eqb z y d) at e
stays_by x z y ys false q ne e ih = tested (eqb z y) e
  where
    tested : (t : Bool) → (t || member z ys) ≡ true → (t || member z (remove x ys)) ≡ true
    tested true r = refl
    tested false r = ih r

stays : (x z : ℕ) (ys : List ℕ) → (x ≡ z → ⊥) → member z ys ≡ true → member z (remove x ys) ≡ true
unfolding remove
stays x z [] ne e = e
stays x z (y ∷ ys) ne e = stays_by x z y ys (eqb x y) refl ne e (stays x z ys ne)

-- k different numbers, all in the list, are no more than its places
pub pigeonhole : (k : ℕ) (f : ℕ → ℕ) (xs : List ℕ)
    → ((i j : ℕ) → i < j → j < k → f i ≡ f j → ⊥)
    → ((i : ℕ) → i < k → member (f i) xs ≡ true)
    → k ≤ length xs
pigeonhole zero f xs ne all = zero-le
pigeonhole (suc k) f xs ne all =
    le_trans
    (suc-le-suc
    (pigeonhole k f (remove (f k) xs)
    (λ i j l h. ne i j l (omega arith))
    (λ i h. stays (f k) (f i) xs (λ (q : f k ≡ f i). ne i k h (le_refl (suc k)) (sym q)) (all i (omega arith)))))
    (shorter (f k) xs (all k (le_refl (suc k))))

-- how many candidates from c on stand in front of x, wrapping
abbrev pub looked : ℕ → ℕ → ℕ
looked c x = (x + 2 ^ 32 - c) % 2 ^ 32

pub none-looked : (c : ℕ) → looked c c ≡ 0
none-looked c = omega arith

pub one-looked : (c k x y : ℕ) → c < 2 ^ 32 → k ≤ 65 → x ≡ (c + k) % 2 ^ 32 → y ≡ (x + 1) % 2 ^ 32 → looked c y ≡ k + 1
one-looked c k x y h l e f = omega arith

-- candidates from c on, wrapping
pub apart : (c i j : ℕ) → i < j → j < 67 → (c + i) % 2 ^ 32 ≡ (c + j) % 2 ^ 32 → ⊥
apart c i j l h e = omega arith

-- of any 66 candidates one is free
pub enough : (xs : List ℕ) (c k : ℕ) → length xs ≤ 64 → k ≤ 66 → ((i : ℕ) → i < k → taken xs ((c + i) % 2 ^ 32) ≡ true) → k ≤ 65
enough xs c k l h all =
    le_trans
    (pigeonhole k (λ (i : ℕ). (c + i) % 2 ^ 32) (0xFFFFFFFF ∷ xs) (λ i j p q. apart c i j p (omega arith)) all)
    (suc-le-suc l)

-- one candidate of the search
pub passed : (n : ℕ) (xs : List ℕ) (c : ℕ) → taken xs c ≡ true → first_free (suc n) xs c ≡ first_free n xs ((c + 1) % 2 ^ 32)
unfolding first_free
passed n xs c e = rw e

pub found : (n : ℕ) (xs : List ℕ) (c : ℕ) → taken xs c ≡ false → first_free (suc n) xs c ≡ c
unfolding first_free
found n xs c e = rw e

-- a search from the k-th candidate on, all before it being passed over
free-from : (n k : ℕ) (xs : List ℕ) (c : ℕ) → k + n ≡ 66 → length xs ≤ 64 → ((i : ℕ) → i < k → taken xs ((c + i) % 2 ^ 32) ≡ true)
    → taken xs (first_free n xs ((c + k) % 2 ^ 32)) ≡ false
free-from zero k xs c e l all = absurd (omega (arith, enough xs c k l (omega arith) all))
free-from (suc n) k xs c e l all = go (taken xs ((c + k) % 2 ^ 32)) refl (free-from n (k + 1) xs c (omega arith) l)
  where
    go : (t : Bool) → taken xs ((c + k) % 2 ^ 32) ≡ t
        → (((i : ℕ) → i < k + 1 → taken xs ((c + i) % 2 ^ 32) ≡ true) → taken xs (first_free n xs ((c + (k + 1)) % 2 ^ 32)) ≡ false)
        → taken xs (first_free (suc n) xs ((c + k) % 2 ^ 32)) ≡ false
    go true q ih =
        let w : ((c + k) % 2 ^ 32 + 1) % 2 ^ 32 ≡ (c + (k + 1)) % 2 ^ 32 = omega arith in
        rw (passed n xs ((c + k) % 2 ^ 32) q, w) (ih (below_more (λ (i : ℕ). taken xs ((c + i) % 2 ^ 32) ≡ true) k all q))
    go false q ih = rw (found n xs ((c + k) % 2 ^ 32) q) q

-- the theorem on the search, for the reader (TRACE, 01-ID-1): where at most 64 are open, it yields an id that is not, and not the reserved one
pub new_free : (xs : List ℕ) (c : ℕ) → length xs ≤ 64 → c < 2 ^ 32 → taken xs (new_id xs c) ≡ false
new_free xs c l h =
    let e : (c + 0) % 2 ^ 32 ≡ c = omega arith in
    rw e at (free-from 66 0 xs c refl l (λ i k. absurd (omega arith)))
