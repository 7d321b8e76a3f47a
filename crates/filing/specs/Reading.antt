-- The log read back: frame after frame, up to the first that is at fault or the first that is not whole. The numbers are those of blocks
-- (docs/ARCHIVE.md): 11 if a check is wrong, 12 if a number is not the next, 13 if the filling is not zero; the lowest that fits. Bytes that
-- are no whole frame are what a cut left.
use Rattle.std.specs.Prelude.{ℕ, zero, suc, ◌+◌, List, [], ◌∷◌, ◌++◌, length, take, drop, ltb, eqb, Result, Ok, Err}
use Rattle.base.specs.Pick.{pick}
use Rattle.base.specs.Bytes.{be32}
use Rattle.digest.specs.Md5.{digest_of}
use Rattle.archive.specs.Block.{same, all_zero}
use Rattle.filing.specs.Frame.{Content, check_at, frame_length, before_at}
use Rattle.filing.specs.declared.frame.NoFrame.{NoFrame}
use Rattle.filing.specs.declared.frame.NoFrame.TheVariants.{End, Cut, Damaged, Misplaced, Malformed}

-- A log as it reads.
pub record Log : Type 0 where
  -- The whole frames up to the first fault.
  pub contents : List Content
  -- How it ended: 0 at the end of a frame, 1 in the middle of one, else the fault's number.
  pub rest : ℕ

-- Makes a `Log`.
abbrev pub log : List Content → ℕ → Log
log cs n = record { contents = cs; rest = n }

-- A log with one frame more in front.
abbrev pub put_first : Content → Log → Log
put_first c l = log (c ∷ l.contents) l.rest

-- The length of the payload of the frame at the front of `x`, by its own word.
abbrev pub size_in : List ℕ → ℕ
size_in x = be32 x 8

-- What the frame at the front of `x` holds.
abbrev pub content_of : List ℕ → Content
content_of x = record { kind = take 4 x; clock = be32 x 12; payload = take (size_in x) (drop 16 x) }

-- The check that the frame at the front of `x` carries.
abbrev pub check_in : List ℕ → List ℕ
check_in x = take 16 (drop (check_at (size_in x)) x)

-- The fault of frame `n` at the front of `x`, behind the check `before`; 0 if it has none.
unfoldable pub frame_fault : List ℕ → ℕ → List ℕ → ℕ
frame_fault before n x =
    pick (same (digest_of (before ++ take (check_at (size_in x)) x)) (check_in x))
    (pick (eqb (be32 x 4) n) (pick (all_zero (drop (16 + size_in x) (take (check_at (size_in x)) x))) 0 13) 12)
    11

-- At most so many frames.
unfoldable pub read_from : ℕ → List ℕ → ℕ → List ℕ → Log
read_from zero before n x = log [] 1
read_from (suc f) before n [] = log [] 0
read_from (suc f) before n (a ∷ x) =
    let y = a ∷ x in
    pick (ltb (length y) 32) (log [] 1)
    (pick (ltb (length y) (check_at (size_in y) + 16)) (log [] 1)
    (pick (eqb (frame_fault before n y) 0)
    (put_first (content_of y) (read_from f (check_in y) (n + 1) (drop (check_at (size_in y) + 16) y)))
    (log [] (frame_fault before n y))))

-- A whole log. Each turn takes a frame of 32 bytes at least, so there are more turns than frames.
unfoldable pub read_log : List ℕ → Log
read_log x = read_from (length x + 1) [] 0 x

-- ---- one turn

-- What a frame of `size` payload bytes with the fault `f` is found to be.
unfoldable pub turn_for : ℕ → ℕ → Result ℕ NoFrame
turn_for f size = pick (eqb f 0) (Ok size) (Err (pick (eqb f 11) Damaged (pick (eqb f 12) Misplaced Malformed)))

-- What stands at the front of `x`, behind the check `before`, if frame `n` is due.
unfoldable pub turn_of : List ℕ → ℕ → List ℕ → Result ℕ NoFrame
turn_of before n x =
    pick (eqb (length x) 0) (Err End)
    (pick (ltb (length x) 32) (Err Cut)
    (pick (ltb (length x) (frame_length (size_in x))) (Err Cut) (turn_for (frame_fault before n x) (size_in x))))

-- The same at place `at` of the store `s`.
unfoldable pub turn_at : List ℕ → ℕ → ℕ → Result ℕ NoFrame
turn_at s at n = turn_of (before_at s at n) n (drop at s)

-- A log as it reads by what its first turn finds; `l` is what is behind a whole frame.
abbrev pub after_turn : Result ℕ NoFrame → List ℕ → Log → Log
after_turn (Err End) x l = log [] 0
after_turn (Err Cut) x l = log [] 1
after_turn (Err Damaged) x l = log [] 11
after_turn (Err Misplaced) x l = log [] 12
after_turn (Err Malformed) x l = log [] 13
after_turn (Ok size) x l = put_first (content_of x) l
