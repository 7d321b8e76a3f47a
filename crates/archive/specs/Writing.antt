-- All blocks of a body (request (a); docs/ARCHIVE.md): full ones, numbered from 0, and then the last. What a call of `write` gives.
use Rattle.std.specs.Prelude.{ℕ, zero, suc, ◌+◌, ◌-◌, ◌*◌, ◌/◌, true, false, List, ◌++◌, length, take, drop, ltb, eqb, Result, Ok, Err}
use Rattle.base.specs.Pick.{pick}
use Rattle.archive.specs.Block.{longest, block}
use Rattle.archive.specs.declared.block.WriteError.{WriteError}
use Rattle.archive.specs.declared.block.WriteError.TheVariants.{Short, TooLong}

-- How many blocks a body of `n` bytes takes: an empty one takes one.
unfoldable pub block_count : ℕ → ℕ
block_count n = pick (eqb n 0) 1 ((n + 489) / 490)

-- `m` full blocks of the body `b` from number `k` on, and then the last one.
unfoldable pub blocks_from : ℕ → ℕ → List ℕ → List ℕ
blocks_from zero k b = block true k b
blocks_from (suc m) k b = block false k (take 490 b) ++ blocks_from m (k + 1) (drop 490 b)

-- All blocks of the body `b`.
unfoldable pub blocks_of : List ℕ → List ℕ
blocks_of b = blocks_from (block_count (length b) - 1) 0 b

-- The target `t` with the result `q` at its front: places past the result stay as they were.
abbrev pub front : List ℕ → List ℕ → List ℕ
front q t = q ++ drop (length q) t

-- The number of an answer (docs/DECISIONS.md, part B).
abbrev pub wrote_number : Result ℕ WriteError → ℕ
wrote_number (Ok n) = 0
wrote_number (Err Short) = 10
wrote_number (Err TooLong) = 13

-- What a call gives: its answer, and the target afterwards.
pub record Writing : Type 0 where
  pub answer : Result ℕ WriteError
  pub target : List ℕ

-- Makes a `Writing`.
abbrev pub writing : Result ℕ WriteError → List ℕ → Writing
writing r t = record { answer = r; target = t }

-- The body `b` written to the target `t`: 10 comes before 13, and neither changes the target.
unfoldable pub written : List ℕ → List ℕ → Writing
written b t =
    pick (ltb (length t) (512 * block_count (length b))) (writing (Err Short) t)
    (pick (ltb longest (length b)) (writing (Err TooLong) t)
    (writing (Ok (512 * block_count (length b))) (front (blocks_of b) t)))
