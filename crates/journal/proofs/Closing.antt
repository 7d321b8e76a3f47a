-- Closing ids one after the other leaves the ids that are not among them, in their order; so the order in which they close plays no part.
-- Assumes nothing.
use mathlib.Core.Path.{◌≡◌, refl, sym, ap, ap₂, ◌∙◌}
use mathlib.Core.Bool.{Bool, true, false, ◌||◌}
use mathlib.Core.List.{List, [], ◌∷◌}
use Prim.Native.Nat.{ℕ}
use lib.Dec.{eqb}
use borrow.Author.Tests.{eqb-true, eqb-false, eq-eqb, ne_eqb}
use Rattle.base.specs.Pick.{pick}
use Rattle.journal.specs.Ids.{member, without, without_all, rest, Reordered, same, keep, swap, both, InAnyOrder}

eqb-turned : (x y : ℕ) → eqb y x ≡ eqb x y
eqb-turned x y = go (eqb x y) refl
  where
    go : (t : Bool) → eqb x y ≡ t → eqb y x ≡ eqb x y
    go true e = eq-eqb y x (sym (eqb-true x y e)) ∙ sym e
    go false e = ne_eqb y x (λ q. eqb-false x y e (sym q)) ∙ sym e

rest-none : (ids : List ℕ) → rest [] ids ≡ ids
unfolding rest
rest-none [] = refl
rest-none (y ∷ ys) = ap (λ (k : List ℕ). y ∷ k) (rest-none ys)

rest-one : (x : ℕ) (l ids : List ℕ) → rest l (without x ids) ≡ rest (x ∷ l) ids
unfolding rest without
rest-one x l [] = refl
rest-one x l (y ∷ ys) = rw (eqb-turned x y) (go (eqb x y) (rest-one x l ys))
  where
    go : (t : Bool) → rest l (without x ys) ≡ rest (x ∷ l) ys
        → rest l (pick t (without x ys) (y ∷ without x ys)) ≡ pick (t || member y l) (rest (x ∷ l) ys) (y ∷ rest (x ∷ l) ys)
    go true e = e
    go false e = ap (λ (k : List ℕ). pick (member y l) k (y ∷ k)) e

-- closing each alone leaves the others
closed-rest : (l ids : List ℕ) → without_all l ids ≡ rest l ids
unfolding without_all
closed-rest [] ids = sym (rest-none ids)
closed-rest (x ∷ l) ids = closed-rest l (without x ids) ∙ rest-one x l ids

or_turned : (a b c : Bool) → (a || (b || c)) ≡ (b || (a || c))
or_turned true true c = refl
or_turned true false c = refl
or_turned false b c = refl

-- the same are among them in any order
member-reordered : (y : ℕ) {l m : List ℕ} → Reordered l m → member y l ≡ member y m
member-reordered y same = refl
member-reordered y (keep x {l} {m} r) = ap (λ (t : Bool). eqb y x || t) (member-reordered y r)
member-reordered y (swap a b {l}) = or_turned (eqb y a) (eqb y b) (member y l)
member-reordered y (both r q) = member-reordered y r ∙ member-reordered y q

rest_by : (l m ids : List ℕ) → ((y : ℕ) → member y l ≡ member y m) → rest l ids ≡ rest m ids
unfolding rest
rest_by l m [] e = refl
rest_by l m (y ∷ ys) e = ap₂ (λ (t : Bool) (k : List ℕ). pick t k (y ∷ k)) (e y) (rest_by l m ys e)

pub in_any_order : InAnyOrder
in_any_order =
    record {
      others = closed-rest;
      order = λ ids l m r. closed-rest l ids ∙ rest_by l m ids (λ y. member-reordered y r) ∙ sym (closed-rest m ids);
    }
