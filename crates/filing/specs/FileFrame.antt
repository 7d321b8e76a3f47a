-- The payload of the frame `file`, which says that a record is to be filed (docs/ARCHIVE.md, "The log"): its number, the lengths of headers and body,
-- how many blocks the body takes, the MD5 of headers and body, and the Target under which the record was handed over.
use Rattle.std.specs.Prelude.{ℕ, ◌-◌, ◌%◌, Bool, List, [], ◌∷◌, ◌++◌, ltb, eqb, length, get_or, take, drop}
use Rattle.std.proofs.Math.Option.{Option, none, some}
use Rattle.base.specs.Pick.{pick}
use Rattle.base.specs.Bytes.{be32, bytes32}
use Rattle.archive.specs.Writing.{block_count}
use Rattle.digest.specs.Md5.{digest_of}
use Rattle.packet.specs.AuthWrite.{given}
use Rattle.filing.specs.Entries.{Handed}
use Rattle.filing.specs.declared.file.FileNumbers.{FileNumbers}
use Rattle.std.specs.Prelude.{Option as Found, Some, None}
use Rattle.filing.specs.declared.file.RecordMarks.{RecordMarks}

-- What the frame says.
pub record FileFrame : Type 0 where
  pub number : ℕ
  -- The lengths of headers and body, and how many blocks the body takes: none if there is no body.
  pub headers : ℕ
  pub body : ℕ
  pub blocks : ℕ
  -- Both MD5s. Without a body the second is that of no bytes.
  pub headers_sum : List ℕ
  pub body_sum : List ℕ
  pub target : Option (List ℕ)

-- The bytes of a body or of a Target that may be missing.
abbrev pub bytes_in : Option (List ℕ) → List ℕ
bytes_in none = []
bytes_in (some l) = l

-- The byte in front of a Target: its length, or 255 if there is none.
abbrev pub target_mark : Option (List ℕ) → ℕ
target_mark none = 255
target_mark (some t) = length t % 256

-- How many blocks a body takes.
abbrev pub blocks_for : Option (List ℕ) → ℕ
blocks_for none = 0
blocks_for (some b) = block_count (length b)

-- The payload of the frame.
unfoldable pub file_bytes : FileFrame → List ℕ
file_bytes f =
    bytes32 f.number
    ++ (bytes32 f.headers
    ++ (bytes32 f.body
    ++ (bytes32 f.blocks ++ (f.headers_sum ++ (f.body_sum ++ (target_mark f.target ∷ bytes_in f.target))))))

-- What the frame of record `n` says.
unfoldable pub file_of : ℕ → Handed → FileFrame
file_of n h =
    record {
      number = n;
      headers = length h.given.headers;
      body = length (bytes_in h.given.body);
      blocks = blocks_for h.given.body;
      headers_sum = digest_of h.given.headers;
      body_sum = digest_of (bytes_in h.given.body);
      target = h.target;
    }

-- ---- in the code's words

-- A record as the code has it: what is there of it, its headers, its body and its Target.
abbrev pub handed_by : RecordMarks → List ℕ → List ℕ → List ℕ → Handed
handed_by m hs b t = record { given = record { headers = hs; body = given m.has_body b }; target = given m.has_target t }

-- The payload of the frame without the Target's bytes.
unfoldable pub file_row : RecordMarks → List ℕ → List ℕ → List ℕ → List ℕ
file_row m hs b t = take 49 (file_bytes (file_of m.number (handed_by m hs b t)))

-- ---- the frame read

-- The byte `m` may stand in front of `n` bytes: it is their number, or 255 in front of none.
abbrev pub right_mark : ℕ → ℕ → Bool
right_mark m n = pick (eqb m 255) (eqb n 0) (eqb m n)

-- The numbers of a payload.
abbrev pub numbers_in : List ℕ → FileNumbers
numbers_in p = record { number = be32 p 0; headers = be32 p 4; body = be32 p 8; blocks = be32 p 12; target = get_or p 48 0 }

-- A payload as it reads.
unfoldable pub file_read : List ℕ → Found FileNumbers
file_read p = pick (ltb (length p) 49) None (pick (right_mark (get_or p 48 0) (length p - 49)) (Some (numbers_in p)) None)

-- What the payload `p` with these numbers says: the MD5s and the Target stand where they were written.
abbrev pub frame_with : FileNumbers → List ℕ → FileFrame
frame_with n p =
    record {
      number = n.number;
      headers = n.headers;
      body = n.body;
      blocks = n.blocks;
      headers_sum = take 16 (drop 16 p);
      body_sum = take 16 (drop 32 p);
      target = pick (eqb n.target 255) none (some (drop 49 p));
    }

-- What a payload says by what was read of it.
abbrev pub frame_by : Found FileNumbers → List ℕ → Option FileFrame
frame_by None p = none
frame_by (Some n) p = some (frame_with n p)

-- What a payload says, if it is one of the frame `file`.
abbrev pub file_in : List ℕ → Option FileFrame
file_in p = frame_by (file_read p) p
