-- Connection ids (docs/PROTOCOL.md#connection-ids): the open ones are a list of at most 64 numbers. The source's set has no bound.
use Rattle.std.specs.Prelude.{◌≡◌, Bool, true, false, ◌&&◌, ◌||◌, List, [], ◌∷◌, ℕ, zero, suc, ◌+◌, ◌%◌, ◌^◌, eqb}
use Rattle.base.specs.Pick.{pick}
pub use Rattle.packet.specs.Codes.{member}

-- All numbers of the list but `x`.
unfoldable pub without : ℕ → List ℕ → List ℕ
without x [] = []
without x (y ∷ ys) = pick (eqb x y) (without x ys) (y ∷ without x ys)

-- The ids that are left once each number of the list was closed alone, one after the other (docs/PROTOCOL.md#closing-several).
unfoldable pub without_all : List ℕ → List ℕ → List ℕ
without_all [] ids = ids
without_all (x ∷ l) ids = without_all l (without x ids)

-- Every number of the list is one of the ids.
unfoldable pub all_open : List ℕ → List ℕ → Bool
all_open [] ids = true
all_open (x ∷ l) ids = member x ids && all_open l ids

-- A number occurs twice in the list.
unfoldable pub repeats : List ℕ → Bool
repeats [] = false
repeats (x ∷ l) = member x l || repeats l

-- The number that the source reserves as an invalid connection id.
abbrev pub invalid_id : ℕ
invalid_id = 0xFFFFFFFF

-- The search passes the candidate `c` over: it is open, or reserved.
abbrev pub taken : List ℕ → ℕ → Bool
taken ids c = eqb c invalid_id || member c ids

-- The first of `n` candidates from `c` on, wrapping to 0, that the search does not pass over.
unfoldable pub first_free : ℕ → List ℕ → ℕ → ℕ
first_free zero ids c = c
first_free (suc n) ids c = pick (taken ids c) (first_free n ids ((c + 1) % 2 ^ 32)) c

-- The id that the search yields. Of 66 candidates in a row at most 64 are open and one is reserved, so one is free.
abbrev pub new_id : List ℕ → ℕ → ℕ
new_id ids counter = first_free 66 ids counter

-- ---- the same in any order

-- The second list is the first in another order, or in the same.
pub data Reordered : List ℕ → List ℕ → Type 0 where
  same : {l : List ℕ} → Reordered l l
  keep : (x : ℕ) {l m : List ℕ} → Reordered l m → Reordered (x ∷ l) (x ∷ m)
  swap : (x y : ℕ) {l : List ℕ} → Reordered (x ∷ y ∷ l) (y ∷ x ∷ l)
  both : {l m n : List ℕ} → Reordered l m → Reordered m n → Reordered l n

-- The ids that are not among those of the list, in the order in which they were.
unfoldable pub rest : List ℕ → List ℕ → List ℕ
rest l [] = []
rest l (y ∷ ys) = pick (member y l) (rest l ys) (y ∷ rest l ys)

-- The ids that are left by closing each alone are those that are not among the closed ones, and they are the same in any order.
pub record InAnyOrder : Type 0 where
  pub others : (l ids : List ℕ) → without_all l ids ≡ rest l ids
  pub order : (ids l m : List ℕ) → Reordered l m → without_all l ids ≡ without_all m ids
