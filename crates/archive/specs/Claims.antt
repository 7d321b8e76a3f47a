-- One sequence of blocks for each body, and back: what is written reads as the body, and nothing else reads as it. A refusal changes
-- nothing, and the first faulty block decides which it is.
use Rattle.std.specs.Prelude.{ℕ, ◌*◌, ◌/◌, ◌<◌, ◌≤◌, ◌≡◌, false, List, [], length, get_or, take, drop, Ok}
use Rattle.archive.specs.Block.{longest, fault_of}
use Rattle.archive.specs.Writing.{block_count, blocks_of, front, wrote_number, written}
use Rattle.archive.specs.Reading.{judge, Judged, read_into, reading, body_number}

-- Each entry is a byte.
abbrev pub Octets : List ℕ → Type 0
Octets l = (k : ℕ) → get_or l k 0 < 256

-- What is written for the body `b` reads as `b`, and places past it stay unwritten.
abbrev pub ReadsWritten : Type 0
ReadsWritten =
    (b t : List ℕ) → length b ≤ longest → 490 * block_count (length b) ≤ length t
    → read_into (blocks_of b) t ≡ reading (Ok (length b)) (front b t)

-- What a call of `write` gives for the body `b` in any target `t`, a call of `read` turns back into `b` in any target `u` with room.
abbrev pub RoundTrip : Type 0
RoundTrip =
    (b t u : List ℕ) (n : ℕ) → (written b t).answer ≡ Ok n → 490 * (n / 512) ≤ length u
    → read_into (take n (written b t).target) u ≡ reading (Ok (length b)) (front b u)

-- The input `x` is what is written for the `n` bytes that were read to the front of the target `t`.
pub record OneSequence (x t : List ℕ) (n : ℕ) : Type 0 where
  pub short : n ≤ longest
  pub written : x ≡ blocks_of (take n (read_into x t).target)

-- Whatever reads as a body is what is written for this body.
abbrev pub WritesRead : Type 0
WritesRead = (x t : List ℕ) (n : ℕ) → Octets x → (read_into x t).answer ≡ Ok n → OneSequence x t n

-- A call of `write` that is refused leaves the target as it was.
abbrev pub RefusedWriteLeaves : Type 0
RefusedWriteLeaves = (b t : List ℕ) → 0 < wrote_number (written b t).answer → (written b t).target ≡ t

-- A call of `read` that is refused leaves the target as it was.
abbrev pub RefusedReadLeaves : Type 0
RefusedReadLeaves = (x t : List ℕ) → 0 < body_number (read_into x t).answer → (read_into x t).target ≡ t

-- The first `k` blocks of the input `x`, judged.
abbrev pub before : List ℕ → ℕ → Judged
before x k = judge k 0 false [] x

-- If the blocks before block `k` have no fault and block `k` has one, then its number is the answer's.
abbrev pub FirstDecides : Type 0
FirstDecides =
    (x t : List ℕ) (k : ℕ) → k < length x / 512 → (before x k).fault ≡ 0 → 490 * (length x / 512) ≤ length t
    → 0 < fault_of k (before x k).ended (length (before x k).body) (take 512 (drop (512 * k) x))
    → body_number (read_into x t).answer ≡ fault_of k (before x k).ended (length (before x k).body) (take 512 (drop (512 * k) x))
