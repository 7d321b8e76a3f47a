-- What a filed record is beside the one that the log stands for (docs/AUDIT.md), file by file.
use Rattle.std.specs.Prelude.{ℕ, suc, ◌/◌, Bool, ◌&&◌, List, [], ◌∷◌, length, take, drop, ◌==◌, nat_lt}
use Rattle.base.specs.Pick.{pick}
use Rattle.digest.specs.Md5.{octets16}
use Rattle.table.specs.Targets.{is_named}
use Rattle.table.specs.declared.targets.Target.{Target}
use Rattle.archive.specs.Block.{same}
use Rattle.archive.specs.Reading.{fault_in, sound_in}
use Rattle.filing.specs.FileFrame.{file_row}
use Rattle.audit.specs.declared.compare.What.{What}
use Rattle.audit.specs.declared.compare.What.TheVariants.{Same, Headers, BodyMissing, Block, End, Body, Long, NoFile, OtherFile, Files, Note}
use Rattle.audit.specs.declared.waiting.FileFrame.{FileFrame}

-- Where two lists differ first: the end of the shorter one if it begins the other.
unfoldable pub differ_at : List ℕ → List ℕ → ℕ
differ_at [] ys = 0
differ_at (x ∷ xs) [] = 0
differ_at (x ∷ xs) (y ∷ ys) = pick (x == y) (suc (differ_at xs ys)) 0

-- A file is there and has the bytes that are due.
abbrev pub is_held : Bool → List ℕ → List ℕ → Bool
is_held there filed due = there && same filed due

-- The headers that are filed, if they are there, beside those that came.
abbrev pub headers_what : Bool → List ℕ → List ℕ → What
headers_what there filed kept = pick (is_held there filed kept) Same (Headers (differ_at filed kept))

-- ---- the body

-- Blocks with a fault, of which the first `sound` of `count` have none.
unfoldable pub fault_what : ℕ → ℕ → ℕ → What
fault_what fault sound count = pick (nat_lt sound count) (Block sound fault) End

-- Blocks that do not read as a body: they have a fault, or are more than fit.
unfoldable pub damaged_what : List ℕ → What
damaged_what x = pick (fault_in x == 0) Long (fault_what (fault_in x) (sound_in x) (length x / 512))

-- The body that is filed beside the one that came.
abbrev pub same_body : List ℕ → List ℕ → What
same_body filed body = pick (same filed body) Same (Body (differ_at filed body))

-- A record that has no file `body`, if a body came.
abbrev pub unfiled_what : Bool → What
unfiled_what came = pick came BodyMissing Same

-- ---- the frame `file`, and the note

-- The payload of a frame `file` beside the row and the Target that are due.
abbrev pub row_what : List ℕ → List ℕ → List ℕ → What
row_what p row target = pick (same (take 49 p) row && same (drop 49 p) target) Same OtherFile

-- How many bytes a Target has, and these; the mark has none.
abbrev pub named_length : Target → ℕ
named_length g = pick (is_named g) g.length 0

abbrev pub target_due : Target → List ℕ
target_due g = take (named_length g) (octets16 g.bytes)

-- The row that record `n` owes.
abbrev pub row_due : ℕ → Bool → Target → List ℕ → List ℕ → List ℕ
row_due n came g hs b = file_row (record { number = n; has_body = came; has_target = is_named g }) hs b (target_due g)

-- The payload of the frame `file` of record `n` beside what it owes.
abbrev pub payload_what : List ℕ → ℕ → Bool → Target → List ℕ → List ℕ → What
payload_what p n came g hs b = row_what p (row_due n came g hs b) (target_due g)

-- The same of the frame, if there is one: more than 80 bytes say something else.
abbrev pub file_what : FileFrame → ℕ → Bool → Target → List ℕ → List ℕ → What
file_what f n came g hs b =
    pick f.is_there (pick (nat_lt 80 f.size) OtherFile (payload_what (take f.size f.row) n came g hs b)) NoFile

-- A note beside the text that is due.
abbrev pub text_what : List ℕ → List ℕ → What
text_what filed due = pick (same filed due) Same Note

-- A record of which a file is there, or is missing.
abbrev pub there_what : Bool → What
there_what there = pick there Same Files
