-- The nonces that the engine took last, as the table store holds them (docs/PROTOCOL.md#nonces): the latest in front, its two halves at
-- places of their own. How many of the 32 places are taken stands in the state, so that whatever the store holds at the start counts for
-- nothing, zeros included.
use Rattle.std.specs.Prelude.{ℕ, ◌+◌, Bool, false, ◌&&◌, ◌||◌, List, [], ◌∷◌, ◌++◌, length, get_or, take, drop, eqb, ltb}
use Rattle.base.specs.Pick.{pick}
use Rattle.digest.specs.declared.md5.Octets16.{Octets16}
use Rattle.table.specs.Places.{max_nonces, first_halves, second_halves}

-- ---- remembering one more

-- One number in front; the last falls out.
abbrev pub pushed : ℕ → List ℕ → List ℕ
pushed x l = take (length l) (x ∷ l)

-- A number more in front of the 32 that stand from the place `at` on.
abbrev pub pushed_at : ℕ → ℕ → List ℕ → List ℕ
pushed_at at x t = take at t ++ (pushed x (take max_nonces (drop at t)) ++ drop max_nonces (drop at t))

-- The table store once the nonce `n` is remembered too.
unfoldable pub remembered_with : Octets16 → List ℕ → List ℕ
remembered_with n t = pushed_at second_halves n.second (pushed_at first_halves n.first t)

-- How many nonces are remembered after one more, if `n` were.
unfoldable pub counted : ℕ → ℕ
counted n = pick (ltb n max_nonces) (n + 1) n

-- ---- what is remembered

-- Nonces from their first halves and their second halves.
abbrev pub joined : List ℕ → List ℕ → List Octets16
joined [] ys = []
joined (x ∷ xs) [] = []
joined (x ∷ xs) (y ∷ ys) = record { first = x; second = y } ∷ joined xs ys

-- The `n` nonces taken last, the latest first.
unfoldable pub remembered : ℕ → List ℕ → List Octets16
remembered n t = joined (take n (drop first_halves t)) (take n (drop second_halves t))

-- The nonce at the `i`-th of the 32 places.
abbrev pub nonce_at : List ℕ → ℕ → Octets16
nonce_at t i = record { first = get_or t (first_halves + i) 0; second = get_or t (second_halves + i) 0 }

-- Whether two nonces are the same, in both halves.
abbrev pub same_nonce : Octets16 → Octets16 → Bool
same_nonce a b = eqb a.first b.first && eqb a.second b.second

-- Whether a nonce is one of these.
unfoldable pub among : Octets16 → List Octets16 → Bool
among n [] = false
among n (m ∷ ms) = same_nonce m n || among n ms
