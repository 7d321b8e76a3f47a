-- The nonces that the table store remembers are those taken last: one more stands in front, and the oldest of 32 falls out. What stands
-- in front of place 64 does not count. Assumes nothing.
use mathlib.Core.Path.{◌≡◌, refl, sym, ap, ap₂, ◌∙◌}
use mathlib.Core.Bool.{Bool, true, false, ◌||◌, ◌&&◌}
use mathlib.Core.List.{List, [], ◌∷◌, ◌++◌}
use Prim.Native.Nat.{ℕ, zero, suc, ◌+◌, ◌-◌, ◌≤◌, ◌<◌}
use native.Mathlib.Omega.{arith}
use native.Mathlib.Numerals.{add-one}
use borrow.Author.Tests.{ltb-true, ltb-false}
use lib.Dec.{eqb, ltb}
use lib.ListN.{length, get_or, take, drop, length-append, length-drop, length-take}
use lib.Seq.{drop-cons, drop-drop, take-take, take_all, take-add, take_at, drop_at, take-append-le, length-take-le}
use Rattle.std.specs.List.{list_any, zip}
use Rattle.base.specs.Pick.{pick}
use Rattle.digest.specs.declared.md5.Octets16.{Octets16}
use Rattle.table.specs.Nonces.{pushed, pushed_at, remembered_with, counted, joined, remembered, nonce_at, same_nonce, among}

-- ---- a search among the pairs of their halves

pub among_pairs : (n : Octets16) (xs ys : List ℕ)
    → list_any (λ (p : ℕ × ℕ). eqb p.0 n.first && eqb p.1 n.second) (zip xs ys) ≡ among n (joined xs ys)
unfolding among
among_pairs n [] ys = refl
among_pairs n (x ∷ xs) [] = refl
among_pairs n (x ∷ xs) (y ∷ ys) = ap (λ (b : Bool). (eqb x n.first && eqb y n.second) || b) (among_pairs n xs ys)

-- ---- one more

-- a number more in front of the 32 from the place `at` on, in a store that has them
module _ (at x : ℕ) (t : List ℕ) (h : at + 32 ≤ length t) where
  abbrev part : List ℕ
  part = pushed x (take 32 (drop at t))

  before-length : length (take at t) ≡ at
  before-length = length-take-le at t (omega arith)

  part_length : length (take 32 (drop at t)) ≡ 32
  part_length = length-take-le 32 (drop at t) (omega (arith, length-drop at t))

  pushed-length : length part ≡ 32
  pushed-length =
      ap (λ (i : ℕ). length (take i (x ∷ take 32 (drop at t)))) part_length
      ∙ length-take-le 32 (x ∷ take 32 (drop at t)) (omega (arith, part_length))

  store_length : length (pushed_at at x t) ≡ length t
  store_length =
      omega (
        arith,
        length-append (take at t) (part ++ drop 32 (drop at t)),
        length-append part (drop 32 (drop at t)),
        before-length,
        pushed-length,
        length-drop 32 (drop at t),
        length-drop at t,
      )

  -- what stands in front of them and behind them stays
  before : take at (pushed_at at x t) ≡ take at t
  before = take_at (take at t) (part ++ drop 32 (drop at t)) at before-length

  behind : drop (at + 32) (pushed_at at x t) ≡ drop (at + 32) t
  behind =
      sym (drop-drop 32 at (pushed_at at x t)) ∙ ap (drop 32) (drop_at (take at t) (part ++ drop 32 (drop at t)) at before-length)
      ∙ drop_at part (drop 32 (drop at t)) 32 pushed-length ∙ drop-drop 32 at t

  -- the first of them are the number and those that stood there
  at_front : (m : ℕ) → m ≤ 32 → take m (drop at (pushed_at at x t)) ≡ take m (x ∷ drop at t)
  at_front m l =
      ap (take m) (drop_at (take at t) (part ++ drop 32 (drop at t)) at before-length)
      ∙ take-append-le m part (drop 32 (drop at t)) (omega (arith, pushed-length))
      ∙ ap (λ (i : ℕ). take m (take i (x ∷ take 32 (drop at t)))) part_length
      ∙ take-take m 32 (x ∷ take 32 (drop at t)) l
      ∙ go m l
    where
      go : (i : ℕ) → i ≤ 32 → take i (x ∷ take 32 (drop at t)) ≡ take i (x ∷ drop at t)
      go zero g = refl
      go (suc i) g = ap (λ (r : List ℕ). x ∷ r) (take-take i 32 (drop at t) (omega arith))

-- a part of a list, by what stands in front of its end
part-before : (m at end : ℕ) (t : List ℕ) → at + m ≤ end → end ≤ length t → take m (drop at t) ≡ take m (drop at (take end t))
part-before m at end t h l =
    let k = end - at in
    let a : at + k ≡ end = omega arith in
    let n : length (take at t) ≡ at = length-take-le at t (omega arith) in
    sym (take-take m k (drop at t) (omega arith))
    ∙ ap (take m) (sym (drop_at (take at t) (take k (drop at t)) at n) ∙ ap (drop at) (sym (take-add at k t) ∙ ap (λ (i : ℕ). take i t) a))

module _ (n : Octets16) (t : List ℕ) (r : 128 ≤ length t) where
  abbrev firsts : List ℕ
  firsts = pushed_at 64 n.first t

  long : 128 ≤ length firsts
  long = omega (arith, store_length 64 n.first t (omega arith))

  pub remembered-length : length (remembered_with n t) ≡ length t
  unfolding remembered_with
  remembered-length = store_length 96 n.second firsts (omega (arith, long)) ∙ store_length 64 n.first t (omega arith)

  -- what stands in front of place 64 stays
  pub remembered-front : (m : ℕ) → m ≤ 64 → take m (remembered_with n t) ≡ take m t
  unfolding remembered_with
  remembered-front m l =
      sym (take-take m 96 (remembered_with n t) (omega arith)) ∙ ap (take m) (before 96 n.second firsts (omega (arith, long)))
      ∙ take-take m 96 firsts (omega arith) ∙ sym (take-take m 64 firsts l) ∙ ap (take m) (before 64 n.first t (omega arith)) ∙ take-take m 64 t l

  halves : (m : ℕ) → m ≤ 32 → remembered m (remembered_with n t) ≡ joined (take m (n.first ∷ drop 64 t)) (take m (n.second ∷ drop 96 t))
  unfolding remembered remembered_with
  halves m l =
      let u = remembered_with n t in
      let w : 128 ≤ length u = omega (arith, remembered-length) in
      ap₂ joined
      (part-before m 64 96 u (omega arith) (omega arith)
      ∙ ap (λ (z : List ℕ). take m (drop 64 z)) (before 96 n.second firsts (omega (arith, long)))
      ∙ sym (part-before m 64 96 firsts (omega arith) (omega (arith, long))) ∙ at_front 64 n.first t (omega arith) m l)
      (at_front 96 n.second firsts (omega (arith, long)) m l
      ∙ ap (λ (z : List ℕ). take m (n.second ∷ z)) (behind 64 n.first t (omega arith)))

-- the first of some nonces
take-joined : (k : ℕ) (xs ys : List ℕ) → take k (joined xs ys) ≡ joined (take k xs) (take k ys)
take-joined zero xs ys = refl
take-joined (suc k) [] ys = refl
take-joined (suc k) (x ∷ xs) [] = refl
take-joined (suc k) (x ∷ xs) (y ∷ ys) = ap (λ (l : List Octets16). record { first = x; second = y } ∷ l) (take-joined k xs ys)

-- the nonces remembered with one more are the last 32 of it and those remembered before
pub remembered-more : (x : Octets16) (n : ℕ) (t : List ℕ) → n ≤ 32 → 128 ≤ length t
    → remembered (counted n) (remembered_with x t) ≡ take 32 (x ∷ remembered n t)
unfolding counted remembered
remembered-more x n t l r = go (ltb n 32) refl
  where
    all_of : (at : ℕ) → n < 32 → take 31 (take n (drop at t)) ≡ take n (drop at t)
    all_of at k = take_all 31 (take n (drop at t)) (omega (arith, length-take n (drop at t), k))

    go : (b : Bool) → ltb n 32 ≡ b → remembered (pick b (n + 1) n) (remembered_with x t) ≡ take 32 (x ∷ remembered n t)
    go true e =
        let k : n < 32 = ltb-true _ _ e in
        ap (λ (i : ℕ). remembered i (remembered_with x t)) (add-one n) ∙ halves x t r (suc n) (omega arith)
        ∙ ap (λ (z : List Octets16). x ∷ z) (sym (take-joined 31 (take n (drop 64 t)) (take n (drop 96 t)) ∙ ap₂ joined (all_of 64 k) (all_of 96 k)))
    go false e =
        let k : n ≡ 32 = omega (arith, ltb-false n 32 e, l) in
        ap (λ (i : ℕ). remembered i (remembered_with x t)) k ∙ halves x t r 32 (omega arith)
        ∙ ap (λ (z : List Octets16). x ∷ z) (sym (take-joined 31 (take n (drop 64 t)) (take n (drop 96 t))
        ∙ ap₂ joined (take-take 31 n (drop 64 t) (omega arith)) (take-take 31 n (drop 96 t) (omega arith))))

-- a count of 32 at most stays one
pub counted-few : (n : ℕ) → n ≤ 32 → counted n ≤ 32
unfolding counted
counted-few n l = go (ltb n 32) refl
  where
    go : (b : Bool) → ltb n 32 ≡ b → pick b (n + 1) n ≤ 32
    go true e = let k : n < 32 = ltb-true _ _ e in omega arith
    go false e = l

-- ---- two stores that remember the same

abbrev pub SameNonces : List ℕ → List ℕ → Type 0
SameNonces t u = (n : ℕ) → n ≤ 32 → remembered n t ≡ remembered n u

-- they do if they differ in front of place 64 alone
pub same-behind : (t u : List ℕ) → drop 64 t ≡ drop 64 u → SameNonces t u
unfolding remembered
same-behind t u e n l =
    ap₂ (λ (a b : List ℕ). joined (take n a) (take n b)) e (sym (drop-drop 32 64 t) ∙ ap (drop 32) e ∙ drop-drop 32 64 u)

-- numbers up to a place, by the store up to a later one
up_to : (a n m : ℕ) (t : List ℕ) → a + n ≤ m → take n (drop a (take m t)) ≡ take n (drop a t)
up_to zero n m t h = take-take n m t (omega arith)
up_to (suc a) n zero t h = absurd (omega arith)
up_to (suc a) n (suc m) [] h = refl
up_to (suc a) n (suc m) (x ∷ t) h = up_to a n m t (omega arith)

-- they do if they differ from place 128 on alone
pub same-before : (t u : List ℕ) → take 128 t ≡ take 128 u → SameNonces t u
unfolding remembered
same-before t u e n l =
    let part : (a : ℕ) → a + n ≤ 128 → take n (drop a t) ≡ take n (drop a u) =
    λ a h. sym (up_to a n 128 t h) ∙ ap (λ (k : List ℕ). take n (drop a k)) e ∙ up_to a n 128 u h in
    ap₂ joined (part 64 (omega arith)) (part 96 (omega arith))
