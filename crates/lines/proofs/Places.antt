-- One turn of the loops that look for a byte, read a number, and count lines, and their ends. Each loop keeps what its definition has still to
-- say of the rest. Assumes nothing.
use mathlib.Core.Path.{◌≡◌, refl, sym, ap, subst, ◌∙◌}
use mathlib.Core.List.{List, [], ◌∷◌}
use mathlib.Core.Bool.{Bool, true, false, cond, ◌&&◌}
use Prim.Native.Nat.{ℕ, zero, suc, ◌+◌, ◌-◌, ◌≤◌, ◌<◌}
use native.Mathlib.Omega.{arith}
use lib.ListN.{length}
use lib.Dec.{T, eqb, ltb}
use borrow.Author.Tests.{lt-ltb, le-ltb, eq-eqb, eqb-true, ltb-false}
use Rattle.std.specs.Prelude.{Some, None}
use Rattle.std.specs.List.{position, position_or_len}
use Rattle.std.proofs.lemmas.List.Recursion.{is_position_or_len}
use Rattle.base.specs.Pick.{pick}
use Rattle.lines.specs.Word.{between, until_byte, first_from, line_feed, same, line_from}

-- ---- a byte that is looked for

pick_suc : (b : Bool) (n : ℕ) → pick b 0 (suc n) ≡ cond b 0 (1 + n)
pick_suc true n = refl
pick_suc false n = omega arith

until_place : (byte : ℕ) (s : List ℕ) → until_byte byte s ≡ position_or_len (λ (x : ℕ). eqb x byte) s
until_place byte = is_position_or_len (until_byte byte) (λ (x : ℕ). eqb x byte) refl (λ x xs. pick_suc (eqb x byte) (until_byte byte xs))

pick_le : (b : Bool) (n k : ℕ) → n ≤ k → pick b 0 (suc n) ≤ suc k
pick_le true n k h = omega arith
pick_le false n k h = omega arith

pub until_le : (byte : ℕ) (s : List ℕ) → until_byte byte s ≤ length s
until_le byte [] = omega arith
until_le byte (x ∷ xs) = pick_le (eqb x byte) _ _ (until_le byte xs)

some_place : (b : Bool) (n i : ℕ) → cond b (Some n) None ≡ Some i → n ≡ i
some_place true n i e = cc
some_place false n i e = cc

none_place : (n m : ℕ) → cond (ltb n m) (Some n) None ≡ None → m ≤ n
none_place n m e = none_by (ltb n m) refl e
  where
    none_by : (b : Bool) → ltb n m ≡ b → cond b (Some n) None ≡ None → m ≤ n
    none_by true t e = cc
    none_by false t e = ltb-false n m t

-- what `position` of the slice's items gives
pub until_found : (byte i : ℕ) (s : List ℕ) → position (λ (x : ℕ). eqb x byte) s ≡ Some i → until_byte byte s ≡ i
until_found byte i s e = until_place byte s ∙ some_place _ _ i e

pub until_end : (byte : ℕ) (s : List ℕ) → position (λ (x : ℕ). eqb x byte) s ≡ None → until_byte byte s ≡ length s
until_end byte s e =
    let l : length s ≤ position_or_len (λ (x : ℕ). eqb x byte) s = none_place _ _ e in
    let p = until_place byte s in let u = until_le byte s in omega arith

-- ---- a number

-- ---- the number of a line

pub same_refl : (a : List ℕ) → same a a ≡ true
same_refl [] = refl
same_refl (x ∷ xs) = simp (eq-eqb x x refl, same_refl xs)

pub same_true : (a b : List ℕ) → a ≡ b → same a b ≡ true
same_true a b e = ap (same a) (sym e) ∙ same_refl a

same_head : (x y : ℕ) (xs ys : List ℕ) (t : Bool) → eqb x y ≡ t → (x ∷ xs ≡ y ∷ ys → ⊥) → ((xs ≡ ys → ⊥) → same xs ys ≡ false)
    → (t && same xs ys) ≡ false
same_head x y xs ys false e h f = refl
same_head x y xs ys true e h f = f (λ g. h (ap (λ (n : ℕ). n ∷ xs) (eqb-true x y e) ∙ ap (λ (r : List ℕ). y ∷ r) g))

pub same_false : (a b : List ℕ) → (a ≡ b → ⊥) → same a b ≡ false
same_false [] [] h = absurd (h refl)
same_false [] (y ∷ ys) h = refl
same_false (x ∷ xs) [] h = refl
same_false (x ∷ xs) (y ∷ ys) h = same_head x y xs ys (eqb x y) refl h (same_false xs ys)

pub differs : (t : Bool) → t ≡ false → t ≡ true → ⊥
differs t e f = subst (λ (b : Bool). T b) (sym f ∙ e) tt

-- a line that is another one is passed
pub line_turn : (text w : List ℕ) (g at k next f : ℕ) → at < length text → length text - at ≤ f → g ≡ line_from f text w at k
    → same (between text at (first_from text at line_feed)) w ≡ false
    → next ≡ first_from text at line_feed + 1
    → at < next
    → (m : ℕ) × ((length text - next ≤ m) × (g ≡ line_from m text w next (k + 1)))
line_turn text w g at k next zero h l e t n o = absurd (omega arith)
line_turn text w g at k next (suc f) h l e t n o = (f, (omega arith, e ∙ simp (lt-ltb _ _ h, t, n)))

pub line_found : (text w : List ℕ) (g at k f : ℕ) → at < length text → length text - at ≤ f → g ≡ line_from f text w at k
    → same (between text at (first_from text at line_feed)) w ≡ true
    → k ≡ g
line_found text w g at k zero h l e t = absurd (omega arith)
line_found text w g at k (suc f) h l e t = sym (e ∙ simp (lt-ltb _ _ h, t))

pub line_end_lem : (text w : List ℕ) (g at k f : ℕ) → length text ≤ at → g ≡ line_from f text w at k → k ≡ g
line_end_lem text w g at k zero h e = sym e
line_end_lem text w g at k (suc f) h e = sym (e ∙ simp (le-ltb _ _ h))
