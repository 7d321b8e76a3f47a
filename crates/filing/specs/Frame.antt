-- The log as bytes (docs/ARCHIVE.md, "The log"): frames of whole rows of sixteen. A frame has four letters, its number, its payload's length and
-- the clock, then the payload filled up with zeros to a whole row, then the MD5 of the check before it and of all this. Numbers are
-- big-endian.
use Rattle.std.specs.Prelude.{ℕ, ◌+◌, ◌-◌, ◌%◌, List, [], ◌∷◌, ◌++◌, length, replicate, take, drop, ltb, eqb, Ok, Err}
use Rattle.std.proofs.Math.Seq.{paste}
use Rattle.base.specs.Pick.{pick}
use Rattle.base.specs.Bytes.{bytes32}
use Rattle.digest.specs.Md5.{digest_of}
use Rattle.archive.specs.Block.{longest}
use Rattle.archive.specs.Writing.{Writing, writing}
use Rattle.archive.specs.declared.block.WriteError.TheVariants.{Short, TooLong}

-- What a frame holds: four letters, the clock in seconds since 1970, and the payload.
pub record Content : Type 0 where
  pub kind : List ℕ
  pub clock : ℕ
  pub payload : List ℕ

-- How many zeros fill a payload of `n` bytes up to a whole row.
abbrev pub filling : ℕ → ℕ
filling n = (16 - n % 16) % 16

-- Where the check begins in a frame whose payload has `n` bytes, and how many bytes the frame has.
abbrev pub check_at : ℕ → ℕ
check_at n = 16 + (n + filling n)

abbrev pub frame_length : ℕ → ℕ
frame_length n = check_at n + 16

-- What the check is of, except for the check before.
unfoldable pub rows_of : ℕ → Content → List ℕ
rows_of n c =
    c.kind
    ++ (bytes32 n ++ (bytes32 (length c.payload) ++ (bytes32 c.clock ++ (c.payload ++ replicate (filling (length c.payload)) 0))))

-- The check of frame `n` behind the check `before`; there is none before frame 0.
unfoldable pub check_of : List ℕ → ℕ → Content → List ℕ
check_of before n c = digest_of (before ++ rows_of n c)

-- All frames from number `n` on.
unfoldable pub frames_from : List ℕ → ℕ → List Content → List ℕ
frames_from before n [] = []
frames_from before n (c ∷ cs) = rows_of n c ++ (check_of before n c ++ frames_from (check_of before n c) (n + 1) cs)

-- A whole log.
abbrev pub log_bytes : List Content → List ℕ
log_bytes cs = frames_from [] 0 cs

-- ---- one frame in a store

-- The place from which on the check of frame `n` at place `at` is taken: that of the check before, which frame 0 has not.
unfoldable pub chain_at : ℕ → ℕ → ℕ
chain_at at n = pick (eqb n 0) at (at - 16)

-- The check before frame `n` at place `at` of the store `s`.
unfoldable pub before_at : List ℕ → ℕ → ℕ → List ℕ
before_at s at n = take (at - chain_at at n) (drop (chain_at at n) s)

-- The store `s` with the rows of frame `n` at place `at`, except for the check.
abbrev pub rows_laid : List ℕ → ℕ → ℕ → Content → List ℕ
rows_laid s at n c = paste s at (rows_of n c) (check_at (length c.payload))

-- The store `s` with the check of frame `n` at place `at`, whose rows stand there and whose payload has `size` bytes.
abbrev pub check_laid : List ℕ → ℕ → ℕ → ℕ → List ℕ
check_laid s at n size = paste s (at + check_at size) (digest_of (before_at s at n ++ take (check_at size) (drop at s))) 16

-- Frame `n` behind the check `before`.
unfoldable pub frame_of : List ℕ → ℕ → Content → List ℕ
frame_of before n c = rows_of n c ++ check_of before n c

-- Frame `n` written at place `at` of the store `s`, behind the check that stands there: 10 comes before 13, and neither changes the store.
unfoldable pub frame_written : List ℕ → ℕ → ℕ → Content → Writing
frame_written s at n c =
    let size = length c.payload in
    pick (ltb (length s) (at + frame_length size)) (writing (Err Short) s)
    (pick (ltb longest size) (writing (Err TooLong) s)
    (writing (Ok (frame_length size)) (paste s at (frame_of (before_at s at n) n c) (frame_length size))))
