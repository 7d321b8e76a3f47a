-- Each open id carries the Target under which it was opened last: what opening and closing do to the table store is what the log of openings
-- says (`Naming` of the journal). Assumes nothing.
use Rattle.std.proofs.Common.{◌≡◌, ℕ, suc, ◌+◌, ◌<◌, ◌≤◌, Bool, true, false, ◌||◌, eqb, List, [], ◌∷◌, ◌++◌, length, get_or, take, set, sym, refl, ap, ◌∙◌, subst, true≢false, arith, length-set, length-take, get_or-set_other, eq-eqb, ne_eqb, eqb-true}
use mathlib.Core.Bool.{false≢true}
use borrow.Author.Tests.{eqb-false}
use Rattle.base.specs.Pick.{pick}
use Rattle.table.specs.Targets.{target_bytes, place_of, target_at, target_set, beside, column_closed, targets_closed}
use Rattle.table.specs.declared.targets.Target.{Target}
use Rattle.journal.specs.Ids.{member, without}
use Rattle.journal.specs.Naming.{Opening, target_of}
use Rattle.table.proofs.Stored.{stored_at}
use Rattle.table.proofs.Columns.{beside_shorter, length_column, column_front, column_before, column_behind}
use Rattle.table.proofs.Naming.{target-stands, target-stays}
use Rattle.connection.specs.Peer.{closed_tables}
use Rattle.connection.specs.Reply.{front}
use Rattle.connection.proofs.Front.{front-behind}
use Rattle.connection.proofs.Closing.{without_shorter}

-- ---- places of ids

pub placed : (x : ℕ) (l : List ℕ) → member x l ≡ true → place_of x l < length l
unfolding place_of
placed x [] m = absurd (false≢true m)
placed x (y ∷ l) m = go (eqb x y) m (placed x l)
  where
    go : (b : Bool) → (b || member x l) ≡ true → (member x l ≡ true → place_of x l < length l) → pick b 0 (suc (place_of x l)) < suc (length l)
    go true m f = omega arith
    go false m f = let h = f m in omega arith

-- a number that has a place is in the list
pub found-open : (x : ℕ) (l : List ℕ) → place_of x l < length l → member x l ≡ true
unfolding place_of
found-open x [] h = absurd (omega arith)
found-open x (y ∷ l) h = go (eqb x y) h (found-open x l)
  where
    go : (b : Bool) → pick b 0 (suc (place_of x l)) < suc (length l) → (place_of x l < length l → member x l ≡ true) → (b || member x l) ≡ true
    go true h f = refl
    go false h f = f (omega arith)

pub none-open : (x : ℕ) (l : List ℕ) → place_of x l ≡ length l → member x l ≡ false
unfolding place_of
none-open x [] e = refl
none-open x (y ∷ l) e = go (eqb x y) e (none-open x l)
  where
    go : (b : Bool) → pick b 0 (suc (place_of x l)) ≡ suc (length l) → (place_of x l ≡ length l → member x l ≡ false) → (b || member x l) ≡ false
    go true e f = absurd (omega arith)
    go false e f = f (omega arith)

-- two ids have two places
places_apart : (x y : ℕ) (l : List ℕ) → (x ≡ y → ⊥) → member x l ≡ true → place_of x l ≡ place_of y l → ⊥
unfolding place_of
places_apart x y [] ne m = absurd (false≢true m)
places_apart x y (z ∷ l) ne m = go (eqb x z) (eqb y z) refl refl m (places_apart x y l ne)
  where
    go : (a b : Bool) → eqb x z ≡ a → eqb y z ≡ b → (a || member x l) ≡ true → (member x l ≡ true → place_of x l ≡ place_of y l → ⊥)
        → pick a 0 (suc (place_of x l)) ≡ pick b 0 (suc (place_of y l)) → ⊥
    go true true p q m f e = ne (eqb-true x z p ∙ sym (eqb-true y z q))
    go true false p q m f e = omega arith
    go false true p q m f e = omega arith
    go false false p q m f e = f m (omega arith)

-- an id more at the end, which was not there
place_last : (x : ℕ) (l : List ℕ) → member x l ≡ false → place_of x (l ++ (x ∷ [])) ≡ length l
unfolding place_of
place_last x [] m = rw (eq-eqb x x refl)
place_last x (y ∷ l) m = go (eqb x y) m (place_last x l)
  where
    go : (b : Bool) → (b || member x l) ≡ false → (member x l ≡ false → place_of x (l ++ (x ∷ [])) ≡ length l)
        → pick b 0 (suc (place_of x (l ++ (x ∷ [])))) ≡ suc (length l)
    go true m f = absurd (true≢false m)
    go false m f = ap suc (f m)

place_before : (x y : ℕ) (l : List ℕ) → member x l ≡ true → place_of x (l ++ (y ∷ [])) ≡ place_of x l
unfolding place_of
place_before x y [] m = absurd (false≢true m)
place_before x y (z ∷ l) m = go (eqb x z) m (place_before x y l)
  where
    go : (b : Bool) → (b || member x l) ≡ true → (member x l ≡ true → place_of x (l ++ (y ∷ [])) ≡ place_of x l)
        → pick b 0 (suc (place_of x (l ++ (y ∷ [])))) ≡ pick b 0 (suc (place_of x l))
    go true m f = refl
    go false m f = ap suc (f m)

member-before : (x y : ℕ) (l : List ℕ) → (x ≡ y → ⊥) → member x (l ++ (y ∷ [])) ≡ true → member x l ≡ true
member-before x y [] ne m = absurd (ne (eqb-true x y (or_nothing (eqb x y) m)))
  where
    or_nothing : (b : Bool) → (b || false) ≡ true → b ≡ true
    or_nothing true m = refl
    or_nothing false m = m
member-before x y (z ∷ l) ne m = go (eqb x z) m (member-before x y l ne)
  where
    go : (b : Bool) → (b || member x (l ++ (y ∷ []))) ≡ true → (member x (l ++ (y ∷ [])) ≡ true → member x l ≡ true) → (b || member x l) ≡ true
    go true m f = refl
    go false m f = f m

-- ---- what stands beside an id once another is closed

without_other : (x y : ℕ) (l : List ℕ) → member y (without x l) ≡ true → (x ≡ y → ⊥) × (member y l ≡ true)
unfolding without
without_other x y [] m = absurd (false≢true m)
without_other x y (z ∷ l) m = go (eqb x z) (eqb y z) refl refl (without_other x y l) m
  where
    go : (a b : Bool) → eqb x z ≡ a → eqb y z ≡ b → (member y (without x l) ≡ true → (x ≡ y → ⊥) × (member y l ≡ true))
        → member y (pick a (without x l) (z ∷ without x l)) ≡ true → (x ≡ y → ⊥) × ((b || member y l) ≡ true)
    go true true p q f m = ((f m).0, refl)
    go true false p q f m = f m
    go false true p q f m = (λ e. eqb-false x z p (e ∙ eqb-true y z q), refl)
    go false false p q f m = f (sym (ap (λ (b : Bool). b || member y (without x l)) q) ∙ m)

beside_at : (x y : ℕ) (l t : List ℕ) (at : ℕ) → (x ≡ y → ⊥) → member y l ≡ true
    → get_or (beside x l t at) (place_of y (without x l)) 0 ≡ get_or t (at + place_of y l) 0
unfolding beside without place_of
beside_at x y [] t at ne m = absurd (false≢true m)
beside_at x y (z ∷ l) t at ne m = go (eqb x z) (eqb y z) refl refl m (beside_at x y l t (at + 1) ne)
  where
    shift : (n : ℕ) → get_or t (at + 1 + n) 0 ≡ get_or t (at + suc n) 0
    shift n = let e : at + 1 + n ≡ at + suc n = omega arith in ap (λ (k : ℕ). get_or t k 0) e

    here : get_or t at 0 ≡ get_or t (at + 0) 0
    here = let e : at ≡ at + 0 = omega arith in ap (λ (k : ℕ). get_or t k 0) e

    go : (a b : Bool) → eqb x z ≡ a → eqb y z ≡ b → (b || member y l) ≡ true
        → (member y l ≡ true → get_or (beside x l t (at + 1)) (place_of y (without x l)) 0 ≡ get_or t (at + 1 + place_of y l) 0)
        → get_or (pick a (beside x l t (at + 1)) (get_or t at 0 ∷ beside x l t (at + 1))) (place_of y (pick a (without x l) (z ∷ without x l))) 0
        ≡ get_or t (at + pick b 0 (suc (place_of y l))) 0
    go true true p q m f = absurd (ne (eqb-true x z p ∙ sym (eqb-true y z q)))
    go true false p q m f = f m ∙ shift (place_of y l)
    go false true p q m f = rw q here
    go false false p q m f = rw q (f m ∙ shift (place_of y l))

-- as many are left as ids
beside-length : (x : ℕ) (l t : List ℕ) (at : ℕ) → length (beside x l t at) ≡ length (without x l)
unfolding beside without
beside-length x [] t at = refl
beside-length x (y ∷ l) t at = go (eqb x y) (beside-length x l t (at + 1))
  where
    go : (b : Bool) → length (beside x l t (at + 1)) ≡ length (without x l)
        → length (pick b (beside x l t (at + 1)) (get_or t at 0 ∷ beside x l t (at + 1))) ≡ length (pick b (without x l) (y ∷ without x l))
    go true e = e
    go false e = ap suc e

column_at : (x y n at : ℕ) (t : List ℕ) → at + n ≤ length t → member y (without x (take n t)) ≡ true
    → get_or (column_closed x n at t) (at + place_of y (without x (take n t))) 0 ≡ get_or t (at + place_of y (take n t)) 0
unfolding column_closed
column_at x y n at t h m =
    let o = without_other x y (take n t) m in
    let k : place_of y (without x (take n t)) < length (beside x (take n t) t at) = omega (arith, placed y (without x (take n t)) m, beside-length x (take n t) t at) in
    stored_at (beside x (take n t) t at) t at (place_of y (without x (take n t))) k (omega (arith, beside_shorter x (take n t) t at, length-take n t))
    ∙ beside_at x y (take n t) t at o.0 o.1

module _ (x y n : ℕ) (t : List ℕ) (few : n ≤ 64) (room : 320 ≤ length t) (m : member y (without x (take n t)) ≡ true) where
  abbrev now : ℕ
  now = place_of y (without x (take n t))

  abbrev was : ℕ
  was = place_of y (take n t)

  abbrev one : List ℕ
  one = column_closed x n 128 t

  abbrev two : List ℕ
  two = column_closed x n 192 one

  now-small : now < 64
  now-small = omega (arith, placed y (without x (take n t)) m, without_shorter x (take n t), length-take n t)

  was-small : was < n
  was-small = omega (arith, placed y (take n t) (without_other x y (take n t) m).1, length-take n t)

  -- of a later column, where the columns in front of it are closed
  one-front : take n one ≡ take n t
  one-front = column_front x n 128 t n (omega arith)

  two-front : take n two ≡ take n t
  two-front = column_front x n 192 one n (omega arith) ∙ one-front

  column_in : (u : List ℕ) (at : ℕ) → take n u ≡ take n t → at + n ≤ length u
      → get_or (column_closed x n at u) (at + now) 0 ≡ get_or u (at + was) 0
  column_in u at e h =
      subst (λ (l : List ℕ). get_or (column_closed x n at u) (at + place_of y (without x l)) 0 ≡ get_or u (at + place_of y l) 0) e
      (column_at x y n at u h (subst (λ (l : List ℕ). member y (without x l) ≡ true) (sym e) m))

  lengths : get_or (targets_closed x n t) (128 + now) 0 ≡ get_or t (128 + was) 0
  unfolding targets_closed
  lengths =
      column_before x n 256 two (128 + now) (omega (arith, now-small)) ∙ column_before x n 192 one (128 + now) (omega (arith, now-small))
      ∙ column_in t 128 refl (omega arith)

  firsts : get_or (targets_closed x n t) (192 + now) 0 ≡ get_or t (192 + was) 0
  unfolding targets_closed
  firsts =
      column_before x n 256 two (192 + now) (omega (arith, now-small)) ∙ column_in one 192 one-front (omega (arith, length_column x n 128 t))
      ∙ column_behind x n 128 t (192 + was) (omega arith)

  seconds : get_or (targets_closed x n t) (256 + now) 0 ≡ get_or t (256 + was) 0
  unfolding targets_closed
  seconds =
      column_in two 256 two-front (omega (arith, length_column x n 128 t, length_column x n 192 one))
      ∙ column_behind x n 192 one (256 + was) (omega arith) ∙ column_behind x n 128 t (256 + was) (omega arith)

  -- an id that stays open keeps its Target, wherever it moves
  pub closed-target : target_at (closed_tables x n t) now ≡ target_at t was
  unfolding target_at closed_tables
  closed-target =
      let q = without x (take n t) in
      let u = targets_closed x n t in
      let b : (c : ℕ) → 64 ≤ c → get_or (front q u) (c + now) 0 ≡ get_or u (c + now) 0 =
      λ c h. front-behind q u (c + now) (omega (arith, without_shorter x (take n t), length-take n t)) in
      rw (b 128 (omega arith), b 192 (omega arith), b 256 (omega arith), lengths, firsts, seconds) refl

-- ---- the ids carry what the openings say

abbrev pub Carried : List ℕ → List ℕ → List Opening → Type 0
Carried t ids os = (y : ℕ) → member y ids ≡ true → target_bytes (target_at t (place_of y ids)) ≡ target_of y os

pub carried_none : (t : List ℕ) (os : List Opening) → Carried t [] os
carried_none t os y m = absurd (false≢true m)

pub carried-closed : (x n : ℕ) (t : List ℕ) (os : List Opening) → n ≤ 64 → 320 ≤ length t → Carried t (take n t) os
    → Carried (closed_tables x n t) (without x (take n t)) os
carried-closed x n t os few room c y m = ap target_bytes (closed-target x y n t few room m) ∙ c y (without_other x y (take n t) m).1

module _ (id : ℕ) (g : Target) (os : List Opening) where
  abbrev opened : List Opening
  opened = record { id = id; target = target_bytes g } ∷ os

  newest : target_of id opened ≡ target_bytes g
  unfolding target_of
  newest = rw (eq-eqb id id refl)

  older : (y : ℕ) → (y ≡ id → ⊥) → target_of y opened ≡ target_of y os
  unfolding target_of
  older y ne = rw (ne_eqb y id ne)

  -- an open id takes the newer Target
  pub carried_again : (t ids : List ℕ) → length ids ≤ 64 → 320 ≤ length t → member id ids ≡ true → Carried t ids os
      → Carried (target_set t (place_of id ids) g) ids opened
  carried_again t ids few room i c y m = go (eqb y id) refl
    where
      go : (b : Bool) → eqb y id ≡ b → target_bytes (target_at (target_set t (place_of id ids) g) (place_of y ids)) ≡ target_of y opened
      go true e =
          let q : y ≡ id = eqb-true y id e in
          ap (λ (z : ℕ). target_bytes (target_at (target_set t (place_of id ids) g) (place_of z ids))) q
          ∙ ap target_bytes (target-stands t (place_of id ids) g (omega (arith, placed id ids i)) room) ∙ sym newest ∙ ap (λ (z : ℕ). target_of z opened) (sym q)
      go false e =
          ap target_bytes (target-stays t (place_of id ids) g (place_of y ids) (omega (arith, placed id ids i)) (omega (arith, placed y ids m))
          (places_apart y id ids (eqb-false y id e) m))
          ∙ c y m ∙ sym (older y (eqb-false y id e))

  -- an id stands in front of all Targets
  far : (t : List ℕ) (n k : ℕ) → n < 64 → target_at (set t n id) k ≡ target_at t k
  unfolding target_at
  far t n k few =
      let b : (a : ℕ) → 64 ≤ a → get_or (set t n id) (a + k) 0 ≡ get_or t (a + k) 0 = λ a h. get_or-set_other t n (a + k) id 0 (λ e. omega arith) in
      rw (b 128 (omega arith), b 192 (omega arith), b 256 (omega arith)) refl

  -- a new id behind the others
  pub carried-more : (t ids : List ℕ) (n : ℕ) → length ids ≡ n → n < 64 → 320 ≤ length t → member id ids ≡ false → Carried t ids os
      → Carried (target_set (set t n id) n g) (ids ++ (id ∷ [])) opened
  carried-more t ids n l few room i c y m = go (eqb y id) refl
    where
      u : List ℕ
      u = set t n id

      go : (b : Bool) → eqb y id ≡ b → target_bytes (target_at (target_set u n g) (place_of y (ids ++ (id ∷ [])))) ≡ target_of y opened
      go true e =
          let q : y ≡ id = eqb-true y id e in
          ap (λ (z : ℕ). target_bytes (target_at (target_set u n g) (place_of z (ids ++ (id ∷ []))))) q
          ∙ ap (λ (k : ℕ). target_bytes (target_at (target_set u n g) k)) (place_last id ids i ∙ l)
          ∙ ap target_bytes (target-stands u n g few (omega (arith, length-set t n id))) ∙ sym newest ∙ ap (λ (z : ℕ). target_of z opened) (sym q)
      go false e =
          let ne = eqb-false y id e in
          let k = member-before y id ids ne m in
          ap (λ (p : ℕ). target_bytes (target_at (target_set u n g) p)) (place_before y id ids k)
          ∙ ap target_bytes (target-stays u n g (place_of y ids) few (omega (arith, placed y ids k)) (λ j. omega (arith, placed y ids k)) ∙ far t n (place_of y ids) few)
          ∙ c y k ∙ sym (older y ne)
