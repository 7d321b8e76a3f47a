-- All blocks of an input (request (a); docs/ARCHIVE.md): the first faulty one decides, and then what is left over. What a call of `read`
-- gives.
use Rattle.std.specs.Prelude.{ℕ, zero, suc, ◌+◌, ◌*◌, ◌/◌, ◌%◌, List, [], ◌++◌, Bool, false, ◌&&◌, length, take, drop, ltb, eqb, Option, Some, None, Result, Ok, Err}
use Rattle.base.specs.Pick.{pick}
use Rattle.archive.specs.Block.{is_last_block, payload_of, fault_of}
use Rattle.archive.specs.Writing.{front}
use Rattle.archive.specs.declared.block.BodyError.{BodyError}
use Rattle.archive.specs.declared.block.BodyError.TheVariants.{Short, Damaged, Misplaced, Malformed}

-- What is known behind some blocks: the number of the first fault, or 0; whether the last block came; and the body so far.
pub record Judged : Type 0 where
  pub fault : ℕ
  pub ended : Bool
  pub body : List ℕ

-- Makes a `Judged`.
abbrev pub judged : ℕ → Bool → List ℕ → Judged
judged f e b = record { fault = f; ended = e; body = b }

-- `m` blocks at the front of `x`, from number `k` on, behind the body bytes `b`: the first faulty one decides.
unfoldable pub judge : ℕ → ℕ → Bool → List ℕ → List ℕ → Judged
judge zero k ended b x = judged 0 ended b
judge (suc m) k ended b x =
    let y = take 512 x in
    let f = fault_of k ended (length b) y in
    pick (eqb f 0) (judge m (k + 1) (is_last_block y) (b ++ payload_of y) (drop 512 x)) (judged f ended b)

-- All whole blocks of the input `x`, judged.
unfoldable pub judged_all : List ℕ → Judged
judged_all x = judge (length x / 512) 0 false [] x

-- The body that the whole blocks of the input `x` hold, up to the first faulty one.
abbrev pub body_of : List ℕ → List ℕ
body_of x = (judged_all x).body

-- The number of the fault of the input `x`, or 0: that of the first faulty block. Bytes left over and a missing last block are judged after
-- all blocks.
unfoldable pub fault_in : List ℕ → ℕ
fault_in x = pick (eqb (judged_all x).fault 0) (pick (eqb (length x % 512) 0 && (judged_all x).ended) 0 13) (judged_all x).fault

-- The number of the first faulty one of `m` blocks at the front of `x`, which are counted from `k`, or of the block behind them.
unfoldable pub sound_from : ℕ → ℕ → Bool → List ℕ → List ℕ → ℕ
sound_from zero k ended b x = k
sound_from (suc m) k ended b x =
    let y = take 512 x in
    pick (eqb (fault_of k ended (length b) y) 0) (sound_from m (k + 1) (is_last_block y) (b ++ payload_of y) (drop 512 x)) k

-- How many whole blocks of the input `x` stand before the first faulty one.
unfoldable pub sound_in : List ℕ → ℕ
sound_in x = sound_from (length x / 512) 0 false [] x

-- The number of a refusal, and of an answer (docs/DECISIONS.md, part B).
abbrev pub error_number : BodyError → ℕ
error_number Short = 10
error_number Damaged = 11
error_number Misplaced = 12
error_number Malformed = 13

abbrev pub body_number : Result ℕ BodyError → ℕ
body_number (Ok n) = 0
body_number (Err e) = error_number e

-- The answer for an input with the fault `f`.
unfoldable pub refused_for : ℕ → BodyError
refused_for f = pick (eqb f 11) Damaged (pick (eqb f 12) Misplaced Malformed)

-- The fault with the number `f`; 0 is none.
unfoldable pub fault_for : ℕ → Option BodyError
fault_for f = pick (eqb f 0) None (Some (refused_for f))

-- The length of the body that the input `x` holds, or its fault.
unfoldable pub body_in : List ℕ → Result ℕ BodyError
body_in x = pick (eqb (fault_in x) 0) (Ok (length (body_of x))) (Err (refused_for (fault_in x)))

-- What a call gives: its answer, and the target afterwards.
pub record Reading : Type 0 where
  pub answer : Result ℕ BodyError
  pub target : List ℕ

-- Makes a `Reading`.
abbrev pub reading : Result ℕ BodyError → List ℕ → Reading
reading r t = record { answer = r; target = t }

-- The input `x` read to the target `t`: 10 comes first, by whole blocks; 11 to 13 leave the target as it was.
unfoldable pub read_into : List ℕ → List ℕ → Reading
read_into x t =
    pick (ltb (length t) (490 * (length x / 512))) (reading (Err Short) t)
    (pick (eqb (fault_in x) 0) (reading (Ok (length (body_of x))) (front (body_of x) t)) (reading (Err (refused_for (fault_in x))) t))
