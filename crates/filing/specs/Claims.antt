-- What is claimed of filing, of the log, and of the checks over all connections.
use Rattle.std.specs.Prelude.{◌≡◌, Bool, true, false, ◌&&◌, ℕ, suc, ◌+◌, ◌≤◌, ◌<◌, ◌^◌, length, take, drop, List, [], ◌∷◌, ◌++◌, Some, Ok}
use Rattle.std.proofs.Math.Option.{some}
use Rattle.journal.specs.Record.{Record}
use Rattle.journal.specs.Calls.{Fed}
use Rattle.journal.specs.Checks.{too_many_of}
use Rattle.journal.specs.Journal.{Journal, begin, more, read_up, taken_up, journal_records, journal_ends}
use Rattle.journal.specs.Naming.{Naming}
use Rattle.filing.specs.declared.plan.Step.{Step}
use Rattle.filing.specs.declared.plan.Step.TheVariants.{MakePart}
use Rattle.filing.specs.Plan.{plan_for, steps_from, runs, code_for}
use Rattle.filing.specs.Entries.{LogEntry, received, entry_step, names_step, log_handed, journal_handed, log_records, first_end, log_ends, log_of, Joins}
use Rattle.filing.specs.Frame.{Content, frame_length, log_bytes}
use Rattle.filing.specs.Reading.{Log, log, size_in, check_in, read_from, read_log, turn_of, after_turn}
use Rattle.filing.specs.declared.frame.Kind.{Kind}
use Rattle.filing.specs.ReadBack.{kind_read, entry_read, entry_with}
use Rattle.filing.specs.Kinds.{kind_number, letters_of, entry_in, entries_in, Encodes, OpenFrame, opening_bytes, opened, open_row, settings_in}
use Rattle.filing.specs.declared.payload.OpenNumbers.{OpenNumbers}
use Rattle.filing.specs.declared.payload.OpenFlags.{OpenFlags}
use Rattle.filing.specs.declared.content.Event.{Event}
use Rattle.filing.specs.declared.content.Event.TheVariants.{Filing}
use Rattle.filing.specs.declared.file.RecordMarks.{RecordMarks}
use Rattle.packet.specs.AuthWrite.{given}
use Rattle.filing.specs.FileFrame.{FileFrame, bytes_in, file_bytes, file_of, handed_by, file_row, file_in}
use Rattle.filing.specs.Contents.{payload_for, content_by, entry_by, Noted, contents_by, entries_by}
use Rattle.archive.specs.Writing.{writing, front}
use Rattle.filing.specs.declared.note.LogPlace.{LogPlace}
use Rattle.filing.specs.Note.{note_of, note_for, note_written}
use Rattle.filing.specs.Cases.{example_place, example_name, example_payload, example_check, example_sum, example_note}
use Rattle.calendar.specs.Time.{all_digits}
use Rattle.filing.specs.Names.{record_name, part_name}
use Rattle.filing.specs.Tries.{history_of, check_allowed, Settled}

-- ---- filing

-- The plan is the first step and, as long as there is one, the step behind it.
abbrev pub PlanByNext : Type 0
PlanByNext = (body : Bool) (n : ℕ) → 8 < n → steps_from n MakePart body ≡ plan_for body

-- If a record is filed, every step of its plan was carried out, once and in its order.
abbrev pub FiledWhole : Type 0
FiledWhole = (body : Bool) (os : List Bool) → (runs (plan_for body) os).filed ≡ true → (runs (plan_for body) os).steps ≡ plan_for body

-- Each step of a plan went well: there are so many outcomes, and all of them are true.
abbrev pub Well : List Step → List Bool → Type 0
Well [] os = Unit {0}
Well (s ∷ l) [] = ⊥
Well (s ∷ l) (o ∷ os) = (o ≡ true) × Well l os

-- If a record is filed, each step of its plan went well.
abbrev pub FiledWell : Type 0
FiledWell = (body : Bool) (os : List Bool) → (runs (plan_for body) os).filed ≡ true → Well (plan_for body) os

-- Success is the code of a filing only if the record is filed.
abbrev pub SuccessFiled : Type 0
SuccessFiled = (filed full : Bool) → code_for filed full ≡ 0x20 → filed ≡ true

-- ---- the log and the journal

-- The log of some calls stands for the records that these must hand over.
abbrev pub LogStands : Type 0
LogStands = (j : Journal) (fs : List Fed) → log_records j (log_of j fs) ≡ journal_records j fs

-- It stands for their Targets too.
abbrev pub LogNames : Type 0
LogNames = (j : Journal) (n : Naming) (fs : List Fed) → log_handed j n (log_of j fs) ≡ journal_handed j n fs

-- It tells the number with which the engine must end.
abbrev pub LogTellsEnd : Type 0
LogTellsEnd = (j : Journal) (fs : List Fed) → first_end (log_ends j (log_of j fs)) ≡ first_end (journal_ends j fs)

-- The log `es` stands for the first of the records that `es ++ fs` stands for.
pub record Begins (j : Journal) (es fs : List LogEntry) : Type 0 where
  pub more : List Record
  pub whole : log_records j (es ++ fs) ≡ log_records j es ++ more

-- A log that was cut off stands for the first records.
abbrev pub CutLog : Type 0
CutLog = (j : Journal) (es fs : List LogEntry) → Begins j es fs

-- A packet that came in pieces may stand in one entry: after a piece that leaves it unfinished, the next is read as both at once.
abbrev pub Pieces : Type 0
Pieces =
    (j : Journal) (a b q : List ℕ) → j.ended ≡ false → read_up j.begun a ≡ more q
    → entry_step j (received (a ++ b)) ≡ entry_step (begin j q) (received b)

-- The same of Targets.
abbrev pub PiecesName : Type 0
PiecesName =
    (j : Journal) (n : Naming) (a b q : List ℕ) → j.ended ≡ false → read_up j.begun a ≡ more q
    → names_step j n (received (a ++ b)) ≡ names_step (begin j q) n (received b)

-- A log in which pieces are joined stands for the same records, Targets and end.
pub record Same (j : Journal) (n : Naming) (es fs : List LogEntry) : Type 0 where
  pub handed : log_handed j n fs ≡ log_handed j n es
  pub end : first_end (log_ends j fs) ≡ first_end (log_ends j es)

abbrev pub JoinedSame : Type 0
JoinedSame = (j : Journal) (n : Naming) (es fs : List LogEntry) → Joins j es fs → Same j n es fs

-- The bytes that a call took are read as all that it was offered.
abbrev pub TakenReads : Type 0
TakenReads = (p i : List ℕ) → read_up p (take (taken_up p i) i) ≡ read_up p i

-- ---- the log as bytes

-- Each content has four letters, and a clock and a length of 32 bits.
abbrev pub AllFit : List Content → Type 0
AllFit [] = Unit {0}
AllFit (c ∷ cs) = (length c.kind ≡ 4) × (c.clock < 2 ^ 32) × (length c.payload < 2 ^ 32) × AllFit cs

-- What is written reads as what it was made of.
abbrev pub LogReads : Type 0
LogReads = (cs : List Content) → AllFit cs → length cs < 2 ^ 32 → read_log (log_bytes cs) ≡ log cs 0

-- A log reads as the first of the contents `cs`, and no frame of it is at fault.
pub record FirstOf (cs : List Content) (l : Log) : Type 0 where
  pub lost : List Content
  pub whole : l.contents ++ lost ≡ cs
  pub fine : l.rest ≤ 1

-- A log that is cut after any byte reads as its first frames.
abbrev pub CutReads : Type 0
CutReads = (cs : List Content) (n : ℕ) → AllFit cs → length cs < 2 ^ 32 → FirstOf cs (read_log (take n (log_bytes cs)))

-- What the reader finds at a frame is a step of reading: nothing more, a fault, or the frame and what follows it.
abbrev pub TurnReads : Type 0
TurnReads =
    (f : ℕ) (before : List ℕ) (n : ℕ) (x : List ℕ)
    → read_from (suc f) before n x ≡ after_turn (turn_of before n x) x (read_from f (check_in x) (n + 1) (drop (frame_length (size_in x)) x))

-- The frames of a log stand for its entries.
abbrev pub EntriesBack : Type 0
EntriesBack = (es : List LogEntry) (cs : List Content) → Encodes es cs → entries_in cs ≡ es

-- The payload of the first frame is its first row and what follows that.
abbrev pub RowOpens : Type 0
RowOpens = (n : OpenNumbers) (f : OpenFlags) (more : List ℕ) → open_row n f ++ more ≡ opening_bytes (opened n f more)

-- The first frame tells the journal's settings.
abbrev pub SettingsBack : Type 0
SettingsBack =
    (o : OpenFrame) → o.limit < 2 ^ 32
    → settings_in (opening_bytes o)
    ≡ record {
      limit = o.limit;
      srm = o.srm;
      authentication = o.authentication;
      demands_user = o.enforces_user && o.asks_user;
      refuses = o.refuses;
    }

-- ---- frames as the code reads them

-- The letters of a kind are read as that kind.
abbrev pub KindsRead : Type 0
KindsRead = (k : Kind) → kind_read (kind_number k) ≡ Some k

-- What is read of a payload is the entry that its frame stands for.
abbrev pub EntryReads : Type 0
EntryReads = (k : Kind) (t : ℕ) (p : List ℕ) → entry_with (entry_read k p) p ≡ entry_in (record { kind = letters_of k; clock = t; payload = p })

-- ---- what is logged of an event

-- The frame of an event stands for the entry that the event is.
abbrev pub EventTells : Type 0
EventTells = (e : Event) (t : ℕ) (a b c : List ℕ) → entry_in (content_by e t a b c) ≡ entry_by e (a ++ (b ++ c))

-- The frames of some events stand for their entries.
abbrev pub NotedBack : Type 0
NotedBack = (l : List Noted) → entries_in (contents_by l) ≡ entries_by l

-- ---- the frame of a record

-- The payload of the frame `file` is its row and the Target behind it.
abbrev pub FilingSays : Type 0
FilingSays =
    (m : RecordMarks) (hs b t : List ℕ)
    → payload_for Filing (file_row m hs b t) (bytes_in (given m.has_target t)) [] ≡ file_bytes (file_of m.number (handed_by m hs b t))

-- What the frame says fits: numbers of 32 bits, MD5s of sixteen bytes, a Target of 254 bytes at most.
abbrev pub FitsFile : FileFrame → Type 0
FitsFile f =
    (f.number < 2 ^ 32) × (f.headers < 2 ^ 32) × (f.body < 2 ^ 32) × (f.blocks < 2 ^ 32) × (length f.headers_sum ≡ 16)
    × (length f.body_sum ≡ 16) × (length (bytes_in f.target) < 255)

-- What is written of a record is read back.
abbrev pub FileBack : Type 0
FileBack = (f : FileFrame) → FitsFile f → file_in (file_bytes f) ≡ some f

-- ---- the note

-- The note that is written of a frame is that of what the frame says, in a store that has room.
abbrev pub NoteSays : Type 0
NoteSays =
    (s name : List ℕ) (p : LogPlace) (f : FileFrame) (check body : List ℕ) → 1024 ≤ length s → FitsFile f → length name ≡ 33 → length check ≡ 16
    → length body ≡ 16
    → note_written s name p (file_bytes f) check body
    ≡ writing (Ok (length (note_of name p f check body))) (front (note_of name p f check body) s)

-- The note of the example is the one that was made by other means.
abbrev pub ExampleNote : Type 0
ExampleNote = note_for [] example_name example_place (file_in example_payload) example_check example_sum ≡ writing (Ok (length example_note)) example_note

-- ---- names

-- Two records of a session have two names, and those of a record being filed are others.
pub record RecordNames : Type 0 where
  pub one : (m n : ℕ) → m < 1000000 → n < 1000000 → record_name m ≡ record_name n → m ≡ n
  pub other : (m n : ℕ) → part_name m ≡ record_name n → ⊥

-- The name of a record has no byte but digits, so that it holds no slash and does not begin with a dot.
abbrev pub PlainNames : Type 0
PlainNames = (n : ℕ) → all_digits (record_name n) ≡ true

-- ---- the checks over all connections

-- A process that may check by the letters that it read may check by the letters as they come out: however many processes check at once, no
-- password is checked behind eight wrong ones among the last 64.
abbrev pub NeverMore : Type 0
NeverMore = (l m : List ℕ) → Settled l m → check_allowed l ≡ true → too_many_of (history_of m) ≡ false
