-- The verdict on a record (docs/AUDIT.md): by the code that the client was answered and by what is found below the session's folder. Success
-- without the record is grave, and so is a record that differs from the log's.
use Rattle.std.specs.Prelude.{ℕ, ◌+◌, ◌%◌, ◌^◌, Bool, true, false, ◌==◌}
use Rattle.base.specs.Pick.{pick}
use Rattle.audit.specs.declared.compare.What.{What}
use Rattle.audit.specs.declared.compare.What.TheVariants as files
use Rattle.audit.specs.declared.verdict.Found.{Found}
use Rattle.audit.specs.declared.verdict.Found.TheVariants.{Absent, Part, There}
use Rattle.audit.specs.declared.verdict.Word.{Word}
use Rattle.audit.specs.declared.verdict.Word.TheVariants.{Missing, NotFiled, NotFiledPart, Same, SameFiled, Differs}
use Rattle.audit.specs.declared.verdict.Counts.{Counts}

-- Nothing differs.
abbrev pub is_same : What → Bool
is_same files.Same = true
is_same (files.Headers n) = false
is_same files.BodyMissing = false
is_same files.BodyThere = false
is_same (files.Block k f) = false
is_same files.End = false
is_same (files.Body n) = false
is_same files.Long = false
is_same files.NoFile = false
is_same files.OtherFile = false
is_same files.Files = false
is_same files.Note = false

-- The record has no folder of its name: success (0x20) is then grave.
unfoldable pub absent_word : ℕ → Bool → Word
absent_word code part = pick (code == 0x20) Missing (pick part NotFiledPart NotFiled)

-- The record has its folder.
unfoldable pub there_word : ℕ → What → Word
there_word code what = pick (is_same what) (pick (code == 0x20) Same SameFiled) (Differs what)

-- The verdict.
abbrev pub word_of : ℕ → Found → Word
word_of code Absent = absent_word code false
word_of code Part = absent_word code true
word_of code (There what) = there_word code what

-- It is grave.
abbrev pub is_grave : Word → Bool
is_grave Missing = true
is_grave NotFiled = false
is_grave NotFiledPart = false
is_grave Same = false
is_grave SameFiled = false
is_grave (Differs what) = true

-- The record is filed as the log has it.
abbrev pub is_kept : Word → Bool
is_kept Missing = false
is_kept NotFiled = false
is_kept NotFiledPart = false
is_kept Same = true
is_kept SameFiled = true
is_kept (Differs what) = false

-- ---- counts, of 64 bits

-- One more, if `b`.
unfoldable pub one_more : ℕ → Bool → ℕ
one_more n b = pick b ((n + 1) % 2 ^ 64) n

-- One record more.
abbrev pub counted_by : Counts → Word → Counts
counted_by c w = record { records = one_more c.records true; same = one_more c.same (is_kept w); grave = one_more c.grave (is_grave w) }

-- One grave word more, if `b`.
abbrev pub with_grave : Counts → Bool → Counts
with_grave c b = record { records = c.records; same = c.same; grave = one_more c.grave b }

-- The counts of two sessions.
abbrev pub added : Counts → Counts → Counts
added a b =
    record {
      records = (a.records + b.records) % 2 ^ 64;
      same = (a.same + b.same) % 2 ^ 64;
      grave = (a.grave + b.grave) % 2 ^ 64;
    }
