-- A column of the table store, from which what stands beside an id is taken out. Assumes nothing.
use mathlib.Core.Path.{◌≡◌, refl, sym, ap, ◌∙◌}
use mathlib.Core.Bool.{Bool, true, false, cond, true≢false}
use mathlib.Core.List.{List, [], ◌∷◌, ◌++◌, append-nil}
use Prim.Native.Nat.{ℕ, suc, ◌+◌, ◌≤◌, ◌<◌}
use native.Mathlib.Omega.{arith}
use native.Mathlib.Numerals.{add-one}
use borrow.Author.Tests.{eq-eqb, ne_eqb, eqb-true, ltb-true, ltb-false}
use lib.Dec.{eqb, ltb}
use lib.ListN.{length, get_or, set, take, drop, length-take, length-append, drop_of_length-le}
use lib.Seq.{sets, length-sets, take-suc, drop-cons, get_or-take, length-take-le}
use Rattle.std.specs.Prelude.{Option, Some, None, MatchOption}
use Rattle.std.specs.List.{position, position_or_len}
use Rattle.std.proofs.lemmas.List.Recursion.{is_position_or_len}
use Rattle.base.specs.Pick.{pick}
use Rattle.table.specs.Targets.{place_of, beside, column_closed, targets_closed}
use Rattle.table.proofs.Stored.{stored-before, stored-behind, stored_more, stored-front}

-- ---- the place of an id

pub eqb-turned : (x y : ℕ) → eqb x y ≡ eqb y x
eqb-turned x y = go (eqb x y) refl
  where
    go : (b : Bool) → eqb x y ≡ b → b ≡ eqb y x
    go true e = sym (eq-eqb y x (sym (eqb-true x y e)))
    go false e = sym (ne_eqb y x (λ q. absurd (true≢false (sym (eq-eqb x y (sym q)) ∙ e))))

pick_next : (b : Bool) (n : ℕ) → pick b 0 (suc n) ≡ cond b 0 (1 + n)
pick_next true n = refl
pick_next false n = omega arith

first_place : (x : ℕ) (l : List ℕ) → place_of x l ≡ position_or_len (λ (y : ℕ). eqb y x) l
unfolding place_of
first_place x = is_position_or_len (place_of x) (λ (y : ℕ). eqb y x) refl (λ y ys. rw (eqb-turned x y) (pick_next (eqb y x) (place_of x ys)))

place_within : (x : ℕ) (l : List ℕ) → place_of x l ≤ length l
unfolding place_of
place_within x [] = omega arith
place_within x (y ∷ l) = go (eqb x y) (place_within x l)
  where
    go : (b : Bool) → place_of x l ≤ length l → pick b 0 (suc (place_of x l)) ≤ suc (length l)
    go true h = omega arith
    go false h = omega arith

-- what `position` of the numbers gives
pub place_found : (x n : ℕ) (l : List ℕ) (r : Option ℕ) → r ≡ position (λ (y : ℕ). eqb y x) l → n ≡ length l
    → MatchOption r (place_of x l ≡ n) (λ p. (p ≡ place_of x l) × (p < n))
place_found x n l r e h = rw e (go (ltb q (length l)) refl)
  where
    q : ℕ
    q = position_or_len (λ (y : ℕ). eqb y x) l

    go : (b : Bool) → ltb q (length l) ≡ b → MatchOption (cond b (Some q) None) (place_of x l ≡ n) (λ p. (p ≡ place_of x l) × (p < n))
    go true t = (sym (first_place x l), omega (arith, ltb-true q (length l) t))
    go false t = omega (arith, first_place x l, place_within x l, ltb-false q (length l) t)

-- ---- what stands beside ids

pub beside_shorter : (x : ℕ) (l t : List ℕ) (at : ℕ) → length (beside x l t at) ≤ length l
unfolding beside
beside_shorter x [] t at = omega arith
beside_shorter x (y ∷ l) t at = go (eqb x y) (beside_shorter x l t (at + 1))
  where
    go : (b : Bool) → length (beside x l t (at + 1)) ≤ length l
        → length (pick b (beside x l t (at + 1)) (get_or t at 0 ∷ beside x l t (at + 1))) ≤ suc (length l)
    go true h = omega arith
    go false h = omega arith

-- one id more
beside-last : (x : ℕ) (l t : List ℕ) (at y : ℕ)
    → beside x (l ++ (y ∷ [])) t at ≡ beside x l t at ++ pick (eqb x y) [] (get_or t (at + length l) 0 ∷ [])
unfolding beside
beside-last x [] t at y = let z : at ≡ at + 0 = omega arith in ap (λ (n : ℕ). pick (eqb x y) [] (get_or t n 0 ∷ [])) z
beside-last x (u ∷ l) t at y =
    go (eqb x u) (beside-last x l t (at + 1) y ∙ ap (λ (n : ℕ). beside x l t (at + 1) ++ pick (eqb x y) [] (get_or t n 0 ∷ [])) (next at l))
  where
    next : (k : ℕ) (m : List ℕ) → k + 1 + length m ≡ k + suc (length m)
    next k m = omega arith

    go : (b : Bool) → beside x (l ++ (y ∷ [])) t (at + 1) ≡ beside x l t (at + 1) ++ pick (eqb x y) [] (get_or t (at + suc (length l)) 0 ∷ [])
        → pick b (beside x (l ++ (y ∷ [])) t (at + 1)) (get_or t at 0 ∷ beside x (l ++ (y ∷ [])) t (at + 1))
        ≡ pick b (beside x l t (at + 1)) (get_or t at 0 ∷ beside x l t (at + 1)) ++ pick (eqb x y) [] (get_or t (at + suc (length l)) 0 ∷ [])
    go true more = more
    go false more = ap (λ (k : List ℕ). get_or t at 0 ∷ k) more

-- ---- the loop: beside the first `i` ids the column is gone through

pub record Moved (t₀ : List ℕ) (at x i : ℕ) (t : List ℕ) (kept : ℕ) : Type 0 where
  pub count : kept ≡ length (beside x (take i t₀) t₀ at)
  pub store : t ≡ sets t₀ at (beside x (take i t₀) t₀ at)

pub moved_none : (t : List ℕ) (at x : ℕ) → Moved t at x 0 t 0
unfolding beside
moved_none t at x = record { count = refl; store = refl }

pub moved_bounds : (t₀ : List ℕ) (at x i : ℕ) (t : List ℕ) (kept : ℕ) → Moved t₀ at x i t kept → (kept ≤ i) × (length t ≡ length t₀)
moved_bounds t₀ at x i t kept m = (
  omega (arith, m.count, beside_shorter x (take i t₀) t₀ at, length-take i t₀),
  ap length m.store
      ∙ length-sets t₀ at (beside x (take i t₀) t₀ at),
)

module _ (t₀ : List ℕ) (at x i : ℕ) (t : List ℕ) (kept : ℕ) (h : at + i < length t₀) (k : i < at) (m : Moved t₀ at x i t kept) where
  abbrev moved : List ℕ
  moved = beside x (take i t₀) t₀ at

  few : length moved ≤ i
  few = omega (arith, m.count, (moved_bounds t₀ at x i t kept m).0)

  -- the id, and the number beside it, are still the store's
  pub id_stands : get_or t i 0 ≡ get_or t₀ i 0
  id_stands = ap (λ (l : List ℕ). get_or l i 0) m.store ∙ stored-before moved t₀ at i k

  number-stands : get_or t (at + i) 0 ≡ get_or t₀ (at + i) 0
  number-stands = ap (λ (l : List ℕ). get_or l (at + i) 0) m.store ∙ stored-behind moved t₀ at (at + i) (omega (arith, few))

  step : beside x (take (i + 1) t₀) t₀ at ≡ moved ++ pick (eqb x (get_or t₀ i 0)) [] (get_or t₀ (at + i) 0 ∷ [])
  step =
      let n : length (take i t₀) ≡ i = length-take-le i t₀ (omega arith) in
      ap (λ (l : List ℕ). beside x l t₀ at) (ap (λ (n : ℕ). take n t₀) (add-one i) ∙ take-suc t₀ i 0 (omega arith))
      ∙ beside-last x (take i t₀) t₀ at (get_or t₀ i 0)
      ∙ ap (λ (n : ℕ). moved ++ pick (eqb x (get_or t₀ i 0)) [] (get_or t₀ (at + n) 0 ∷ [])) n

  pub moved_keeps : (get_or t i 0 ≡ x → ⊥) → Moved t₀ at x (i + 1) (set t (at + kept) (get_or t (at + i) 0)) (kept + 1)
  moved_keeps ne =
      let q : beside x (take (i + 1) t₀) t₀ at ≡ moved ++ (get_or t₀ (at + i) 0 ∷ []) =
      step ∙ rw (ne_eqb x (get_or t₀ i 0) (λ e. ne (id_stands ∙ sym e))) in
      record {
        count = rw (q, length-append, ← m.count) refl;
        store = rw (q, m.count, number-stands, m.store) (sym (stored_more moved t₀ at (get_or t₀ (at + i) 0)));
      }

  pub moved_skips : get_or t i 0 ≡ x → Moved t₀ at x (i + 1) t kept
  moved_skips e =
      let q : beside x (take (i + 1) t₀) t₀ at ≡ moved = step ∙ rw (eq-eqb x (get_or t₀ i 0) (sym e ∙ id_stands)) (append-nil moved) in
      record { count = rw q m.count; store = rw q m.store }

-- ---- a column that is closed

module _ (x n at : ℕ) (t : List ℕ) where
  pub length_column : length (column_closed x n at t) ≡ length t
  unfolding column_closed
  length_column = length-sets t at (beside x (take n t) t at)

  -- the ids in front of it stay
  pub column_front : (m : ℕ) → m ≤ at → take m (column_closed x n at t) ≡ take m t
  unfolding column_closed
  column_front m h = stored-front (beside x (take n t) t at) t m at h

  -- and so does what stands outside of it
  pub column_before : (j : ℕ) → j < at → get_or (column_closed x n at t) j 0 ≡ get_or t j 0
  unfolding column_closed
  column_before j h = stored-before (beside x (take n t) t at) t at j h

  pub column_behind : (j : ℕ) → at + n ≤ j → get_or (column_closed x n at t) j 0 ≡ get_or t j 0
  unfolding column_closed
  column_behind j h =
      stored-behind (beside x (take n t) t at) t at j (omega (arith, beside_shorter x (take n t) t at, length-take n t))

pub length_columns : (x n : ℕ) (t : List ℕ) → length (targets_closed x n t) ≡ length t
unfolding targets_closed
length_columns x n t = length_column x n 256 _ ∙ length_column x n 192 _ ∙ length_column x n 128 t

pub columns_front : (x n : ℕ) (t : List ℕ) (m : ℕ) → m ≤ 128 → take m (targets_closed x n t) ≡ take m t
unfolding targets_closed
columns_front x n t m h = column_front x n 256 _ m (omega arith) ∙ column_front x n 192 _ m (omega arith) ∙ column_front x n 128 t m h
