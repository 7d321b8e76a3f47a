-- The paths of what a receiver files and of what it gives out (docs/ARCHIVE.md#as-a-receiver-files-it), below the folder that it was started with.
-- Below
-- `archive` no byte of a client's is in a path: it is a function of a clock, of random bits, of a record's number and of a place.
use Rattle.std.specs.Prelude.{ℕ, ◌<◌, ◌≡◌, Bool, true, false, List, [], ◌∷◌}
use Rattle.base.specs.Pick.{pick}
use Rattle.table.specs.declared.targets.Target.{Target}
use Rattle.files.specs.Name.{file_name}
use Rattle.files.specs.Path.{in_folder, service_folder}
use Rattle.filing.specs.Lines.{bytes}
use Rattle.filing.specs.Names.{session_name, record_name, part_name}
use Rattle.filing.specs.declared.paths.SessionId.{SessionId}
use Rattle.filing.specs.declared.paths.Place.{Place}
use Rattle.filing.specs.declared.paths.Place.TheVariants.{Archive, Session, Log, Part, Headers, Body, Note, Record}

-- ---- what is filed

-- The name of a session's folder.
abbrev pub session_of : SessionId → List ℕ
session_of s = session_name s.clock s.high s.low

-- A path in the folder of a session.
abbrev pub in_session : SessionId → List ℕ → List ℕ
in_session s p = in_folder (bytes "archive") (in_folder (session_of s) p)

-- The path of a place below the receiver's folder, by the session and the record's number.
unfoldable pub below : SessionId → ℕ → Place → List ℕ
below s n Archive = bytes "archive"
below s n Session = in_folder (bytes "archive") (session_of s)
below s n Log = in_session s (bytes "session")
below s n Part = in_session s (part_name n)
below s n Headers = in_session s (in_folder (part_name n) (bytes "headers"))
below s n Body = in_session s (in_folder (part_name n) (bytes "body"))
below s n Note = in_session s (in_folder (part_name n) (bytes "note"))
below s n Record = in_session s (record_name n)

-- The same in the receiver's folder.
unfoldable pub record_path : List ℕ → SessionId → ℕ → Place → List ℕ
record_path folder s n place = in_folder folder (below s n place)

-- ---- what is given out

-- The path of a rule file: in the folder `rules`, and there in the folder of the service if the connection was opened with a Target. There is none if
-- no file may have the name.
unfoldable pub rule_path : List ℕ → Target → List ℕ → List ℕ
rule_path folder g name = pick (file_name name) (in_folder folder (in_folder (bytes "rules") (in_folder (service_folder g) name))) []

-- ---- what is claimed of both

-- A path whose components may all be names of files: none is empty, has a slash or a zero, or begins with a dot.
pub data Plain : List ℕ → Type 0 where
  one : (c : List ℕ) → file_name c ≡ true → Plain c
  more : (c p q : List ℕ) → file_name c ≡ true → Plain p → q ≡ in_folder c p → Plain q

-- Each component of a path below the archive is plain, whatever a client sends.
abbrev pub RecordPathsPlain : Type 0
RecordPathsPlain = (s : SessionId) (n : ℕ) (place : Place) → Plain (below s n place)

-- There is no path of a rule file, or its last component is the name that passed the test and each other one is plain.
abbrev pub RulePathsPlain : Type 0
RulePathsPlain = (g : Target) (name : List ℕ) → file_name name ≡ true → Plain (in_folder (bytes "rules") (in_folder (service_folder g) name))

-- Two records of a session have two paths.
abbrev pub RecordPathsApart : Type 0
RecordPathsApart =
    (folder : List ℕ) (s : SessionId) (m n : ℕ) → m < 1000000 → n < 1000000 → record_path folder s m Record ≡ record_path folder s n Record → m ≡ n

-- ---- how the code lays a path out: three names behind slashes, each filled up, of which a place takes the front

-- The place is that of the log.
abbrev pub is_log : Place → Bool
is_log Log = true
is_log Archive = false
is_log Session = false
is_log Part = false
is_log Headers = false
is_log Body = false
is_log Note = false
is_log Record = false

-- What stands in the session's folder.
abbrev pub leaf_of : Place → ℕ → List ℕ
leaf_of place n = pick (is_log place) (0x73 ∷ 0x65 ∷ 0x73 ∷ 0x73 ∷ 0x69 ∷ 0x6F ∷ 0x6E ∷ 0 ∷ 0 ∷ 0 ∷ 0 ∷ []) (part_name n)

-- `headers`.
abbrev pub headers_file : List ℕ
headers_file = 0x68 ∷ 0x65 ∷ 0x61 ∷ 0x64 ∷ 0x65 ∷ 0x72 ∷ 0x73 ∷ []

-- What stands in the record's folder.
abbrev pub part_file : Place → List ℕ
part_file Body = 0x62 ∷ 0x6F ∷ 0x64 ∷ 0x79 ∷ 0 ∷ 0 ∷ 0 ∷ []
part_file Note = 0x6E ∷ 0x6F ∷ 0x74 ∷ 0x65 ∷ 0 ∷ 0 ∷ 0 ∷ []
part_file Archive = headers_file
part_file Session = headers_file
part_file Log = headers_file
part_file Part = headers_file
part_file Headers = headers_file
part_file Record = headers_file

-- How long the path of a place is.
abbrev pub length_of : Place → ℕ
length_of Archive = 7
length_of Session = 41
length_of Record = 48
length_of Log = 49
length_of Part = 53
length_of Body = 58
length_of Note = 58
length_of Headers = 61
