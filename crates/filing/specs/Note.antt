-- The note beside a record (docs/ARCHIVE.md, "The note"), line by line: what the frame `file` of the log says, where that frame stands, and the MD5s
-- of the files. Numbers are decimal without leading zeros, bytes are hexadecimal, a line ends with a line feed.
use Rattle.std.specs.Prelude.{ℕ, ◌+◌, ◌≡◌, Bool, ◌&&◌, not, List, [], ◌∷◌, ◌++◌, ltb, leb, eqb, length, Ok, Err}
use Rattle.std.proofs.Math.Option.{Option, none, some}
use Rattle.std.proofs.Math.Seq.{paste}
use Rattle.base.specs.Pick.{pick}
use Rattle.archive.specs.Writing.{Writing, writing, front}
use Rattle.archive.specs.declared.block.WriteError.TheVariants.{Short, TooLong}
use Rattle.calendar.specs.Time.{decimal, time_of}
use Rattle.files.specs.Path.{hex_of}
use Rattle.filing.specs.FileFrame.{FileFrame, file_in}
use Rattle.filing.specs.declared.note.LogPlace.{LogPlace}

-- ---- numbers and bytes as text

-- Digits without the zeros in front; the last digit stays.
unfoldable pub stripped : List ℕ → List ℕ
stripped [] = []
stripped (a ∷ []) = a ∷ []
stripped (a ∷ b ∷ l) = pick (eqb a 0x30) (stripped (b ∷ l)) (a ∷ b ∷ l)

-- A number of 64 bits in decimal: it has twenty digits at most.
unfoldable pub decimal_of : ℕ → List ℕ
decimal_of x = stripped (decimal 20 x)

-- ---- the words, letter by letter in ASCII

-- `# record `
abbrev pub record_text : List ℕ
record_text = 35 ∷ 32 ∷ 114 ∷ 101 ∷ 99 ∷ 111 ∷ 114 ∷ 100 ∷ 32 ∷ []

-- ` of session `
abbrev pub session_text : List ℕ
session_text = 32 ∷ 111 ∷ 102 ∷ 32 ∷ 115 ∷ 101 ∷ 115 ∷ 115 ∷ 105 ∷ 111 ∷ 110 ∷ 32 ∷ []

-- `# filed `
abbrev pub filed_text : List ℕ
filed_text = 35 ∷ 32 ∷ 102 ∷ 105 ∷ 108 ∷ 101 ∷ 100 ∷ 32 ∷ []

-- `# headers `
abbrev pub headers_text : List ℕ
headers_text = 35 ∷ 32 ∷ 104 ∷ 101 ∷ 97 ∷ 100 ∷ 101 ∷ 114 ∷ 115 ∷ 32 ∷ []

-- ` bytes`
abbrev pub bytes_text : List ℕ
bytes_text = 32 ∷ 98 ∷ 121 ∷ 116 ∷ 101 ∷ 115 ∷ 10 ∷ []

-- `# body `
abbrev pub body_text : List ℕ
body_text = 35 ∷ 32 ∷ 98 ∷ 111 ∷ 100 ∷ 121 ∷ 32 ∷ []

-- ` bytes in `
abbrev pub in_text : List ℕ
in_text = 32 ∷ 98 ∷ 121 ∷ 116 ∷ 101 ∷ 115 ∷ 32 ∷ 105 ∷ 110 ∷ 32 ∷ []

-- ` blocks`
abbrev pub blocks_text : List ℕ
blocks_text = 32 ∷ 98 ∷ 108 ∷ 111 ∷ 99 ∷ 107 ∷ 115 ∷ 10 ∷ []

-- `# body none`
abbrev pub no_body_text : List ℕ
no_body_text = 35 ∷ 32 ∷ 98 ∷ 111 ∷ 100 ∷ 121 ∷ 32 ∷ 110 ∷ 111 ∷ 110 ∷ 101 ∷ 10 ∷ []

-- `# target `
abbrev pub target_text : List ℕ
target_text = 35 ∷ 32 ∷ 116 ∷ 97 ∷ 114 ∷ 103 ∷ 101 ∷ 116 ∷ 32 ∷ []

-- `# target none`
abbrev pub no_target_text : List ℕ
no_target_text = 35 ∷ 32 ∷ 116 ∷ 97 ∷ 114 ∷ 103 ∷ 101 ∷ 116 ∷ 32 ∷ 110 ∷ 111 ∷ 110 ∷ 101 ∷ 10 ∷ []

-- `# target -`
abbrev pub empty_target_text : List ℕ
empty_target_text = 35 ∷ 32 ∷ 116 ∷ 97 ∷ 114 ∷ 103 ∷ 101 ∷ 116 ∷ 32 ∷ 45 ∷ 10 ∷ []

-- `# log frames 0 to `
abbrev pub frames_text : List ℕ
frames_text = 35 ∷ 32 ∷ 108 ∷ 111 ∷ 103 ∷ 32 ∷ 102 ∷ 114 ∷ 97 ∷ 109 ∷ 101 ∷ 115 ∷ 32 ∷ 48 ∷ 32 ∷ 116 ∷ 111 ∷ 32 ∷ []

-- `, `
abbrev pub comma_text : List ℕ
comma_text = 44 ∷ 32 ∷ []

-- ` bytes, check `
abbrev pub check_text : List ℕ
check_text = 32 ∷ 98 ∷ 121 ∷ 116 ∷ 101 ∷ 115 ∷ 44 ∷ 32 ∷ 99 ∷ 104 ∷ 101 ∷ 99 ∷ 107 ∷ 32 ∷ []

-- `  headers`
abbrev pub headers_name : List ℕ
headers_name = 32 ∷ 32 ∷ 104 ∷ 101 ∷ 97 ∷ 100 ∷ 101 ∷ 114 ∷ 115 ∷ 10 ∷ []

-- `  body`
abbrev pub body_name : List ℕ
body_name = 32 ∷ 32 ∷ 98 ∷ 111 ∷ 100 ∷ 121 ∷ 10 ∷ []

-- ---- the lines

-- The end of a line.
abbrev pub line_end : List ℕ
line_end = 10 ∷ []

-- Which record of which session it is.
abbrev pub record_line : ℕ → List ℕ → List ℕ
record_line number name = record_text ++ (decimal_of number ++ (session_text ++ (name ++ line_end)))

-- When it was filed.
abbrev pub filed_line : ℕ → List ℕ
filed_line clock = filed_text ++ (time_of clock ++ line_end)

-- How long the headers are.
abbrev pub headers_line : ℕ → List ℕ
headers_line n = headers_text ++ (decimal_of n ++ bytes_text)

-- How long the body is and how many blocks it takes; a record without a body takes none.
abbrev pub body_line : ℕ → ℕ → List ℕ
body_line n blocks = pick (eqb blocks 0) no_body_text (body_text ++ (decimal_of n ++ (in_text ++ (decimal_of blocks ++ blocks_text))))

-- The Target.
abbrev pub target_line : Option (List ℕ) → List ℕ
target_line none = no_target_text
target_line (some t) = pick (eqb (length t) 0) empty_target_text (target_text ++ (hex_of t ++ line_end))

-- Where the frame `file` stands: its number, the length of the log up to its end, and its check.
abbrev pub log_line : LogPlace → List ℕ → List ℕ
log_line p check = frames_text ++ (decimal_of p.frame ++ (comma_text ++ (decimal_of p.bytes ++ (check_text ++ (hex_of check ++ line_end)))))

-- The MD5s of the files, as `md5sum` writes them: that of the headers, and that of the body's blocks if there are any.
abbrev pub sum_lines : ℕ → List ℕ → List ℕ → List ℕ
sum_lines blocks headers body = hex_of headers ++ (headers_name ++ pick (eqb blocks 0) [] (hex_of body ++ body_name))

-- The note of the record that the frame `f` tells, in the session with this name. The frame stands at the place `p` of the log and has this check;
-- `body` is the MD5 of the body's blocks.
unfoldable pub note_of : List ℕ → LogPlace → FileFrame → List ℕ → List ℕ → List ℕ
note_of name p f check body =
    record_line f.number name
    ++ (filed_line p.clock
    ++ (headers_line f.headers
    ++ (body_line f.body f.blocks
    ++ (target_line f.target ++ (log_line p check ++ sum_lines f.blocks f.headers_sum body)))))

-- ---- what a call of `write_note` gives

-- A session's name, a check, an MD5 and the payload of a frame `file` may have these lengths.
abbrev pub right_lengths : ℕ → ℕ → ℕ → ℕ → Bool
right_lengths name check body payload = eqb name 33 && (eqb check 16 && (eqb body 16 && (leb 49 payload && leb payload 303)))

-- The note of what a payload says; 13 if it says nothing.
abbrev pub note_for : List ℕ → List ℕ → LogPlace → Option FileFrame → List ℕ → List ℕ → Writing
note_for s name p none check body = writing (Err TooLong) s
note_for s name p (some f) check body = writing (Ok (length (note_of name p f check body))) (front (note_of name p f check body) s)

-- A note written to the front of the store `s`, which is to have room for the longest: 10 comes before 13, and neither changes the store.
unfoldable pub note_written : List ℕ → List ℕ → LogPlace → List ℕ → List ℕ → List ℕ → Writing
note_written s name p payload check body =
    pick (ltb (length s) 1024) (writing (Err Short) s)
    (pick (not (right_lengths (length name) (length check) (length body) (length payload))) (writing (Err TooLong) s)
    (note_for s name p (file_in payload) check body))

-- ---- bytes laid in a store

-- The bytes `p` are laid at place `at` of the store `s`: it is then the store `t`, and they end at the place `end`.
pub record Laid (s : List ℕ) (at : ℕ) (p : List ℕ) (end : ℕ) (t : List ℕ) : Type 0 where
  pub ends : end ≡ at + length p
  pub lays : t ≡ paste s at p (length p)
