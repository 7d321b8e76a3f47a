-- Bytes at the front of a lent store: all of them, or none, and then the store is as it was.
use Rattle.std.specs.Prelude.{ℕ, List, ◌++◌, ltb, length, drop}
use Rattle.base.specs.Pick.{pick}

-- How many bytes a writer says that it wrote, and the store afterwards.
pub record Filled : Type 0 where
  pub count : ℕ
  pub store : List ℕ

-- Makes a `Filled`.
abbrev pub filled : ℕ → List ℕ → Filled
filled n s = record { count = n; store = s }

-- The bytes `t` go to the front of the store `d`. If they are more than it holds, none do.
unfoldable pub fit : List ℕ → List ℕ → Filled
fit t d = pick (ltb (length d) (length t)) (filled 0 d) (filled (length t) (t ++ drop (length t) d))
