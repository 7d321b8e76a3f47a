-- Which frame of the log stands for which entry (docs/ARCHIVE.md, "The log"), and what the first frame says of the settings.
use Rattle.std.specs.Prelude.{ℕ, ◌+◌, ◌*◌, ◌/◌, ◌%◌, ◌<◌, ◌^◌, Bool, ◌&&◌, ◌||◌, List, [], ◌∷◌, ◌++◌, ◌≡◌, eqb, get_or, take, drop}
use Rattle.base.specs.Pick.{pick}
use Rattle.base.specs.Bytes.{be32, bytes16, bytes32}
use Rattle.archive.specs.Block.{same}
use Rattle.journal.specs.Checks.{bit}
use Rattle.journal.specs.Journal.{Settings, fresh}
use Rattle.journal.specs.Naming.{unnamed}
use Rattle.filing.specs.Entries.{LogEntry, received, sent, answered, object, checked, nonce, closed, ended, Handed, log_handed}
use Rattle.filing.specs.Frame.{Content}
use Rattle.filing.specs.declared.payload.CheckMade.{CheckMade}
use Rattle.filing.specs.declared.payload.OpenNumbers.{OpenNumbers}
use Rattle.filing.specs.declared.payload.OpenFlags.{OpenFlags}
use Rattle.filing.specs.declared.frame.Head.{Head}
use Rattle.filing.specs.declared.frame.Kind.{Kind}
use Rattle.filing.specs.declared.frame.Kind.TheVariants.{Open, Recv, Part, Sent, Answ, Objt, Pass, Nonc, Clos, File, Fail, Done}

-- ---- the letters

-- The four letters of a frame as one number, its high-order byte the first of them.
abbrev pub kind_number : Kind → ℕ
kind_number Open = 0x6F70656E
kind_number Recv = 0x72656376
kind_number Part = 0x70617274
kind_number Sent = 0x73656E74
kind_number Answ = 0x616E7377
kind_number Objt = 0x6F626A74
kind_number Pass = 0x70617373
kind_number Nonc = 0x6E6F6E63
kind_number Clos = 0x636C6F73
kind_number File = 0x66696C65
kind_number Fail = 0x6661696C
kind_number Done = 0x646F6E65

-- The letters of a frame.
abbrev pub letters_of : Kind → List ℕ
letters_of k = bytes32 (kind_number k)

-- What a frame holds, by its head in the code and its payload.
abbrev pub content_in : Head → List ℕ → Content
content_in h p = record { kind = letters_of h.kind; clock = h.clock; payload = p }

-- ---- ids

-- The bytes of some ids, four each.
abbrev pub id_bytes : List ℕ → List ℕ
id_bytes [] = []
id_bytes (x ∷ l) = bytes32 x ++ id_bytes l

-- The ids that some bytes are; bytes that are left over are none.
unfoldable pub ids_in : List ℕ → List ℕ
ids_in [] = []
ids_in (a ∷ []) = []
ids_in (a ∷ b ∷ []) = []
ids_in (a ∷ b ∷ c ∷ []) = []
ids_in (a ∷ b ∷ c ∷ d ∷ l) = be32 (a ∷ b ∷ c ∷ d ∷ []) 0 ∷ ids_in l

-- ---- frames and entries

-- The frame of an entry at the clock `t`. `more` is what a frame says beyond its entry: the rest of the reply, the object, why a check was
-- stopped, or with which number the stream ended.
abbrev pub content_for : LogEntry → ℕ → List ℕ → Content
content_for (received p) t more = record { kind = letters_of Recv; clock = t; payload = p }
content_for (sent b) t more = record { kind = letters_of Sent; clock = t; payload = b ∷ more }
content_for (answered code hs) t more = record { kind = letters_of Answ; clock = t; payload = code ∷ hs }
content_for object t more = record { kind = letters_of Objt; clock = t; payload = more }
content_for (checked right) t more = record { kind = letters_of Pass; clock = t; payload = bit right ∷ more }
content_for (nonce n) t more = record { kind = letters_of Nonc; clock = t; payload = n }
content_for (closed l) t more = record { kind = letters_of Clos; clock = t; payload = id_bytes l }
content_for ended t more = record { kind = letters_of Done; clock = t; payload = pick (eqb (get_or more 0 0) 2) 2 1 ∷ [] }

-- The payload of a check of a password.
unfoldable pub check_pair : CheckMade → List ℕ
check_pair c = (content_for (checked c.right) 0 (bit c.stopped ∷ [])).payload

-- The entry of a frame by its payload's first byte, if the frame is `done`: the stream ended in the first two cases alone.
abbrev pub end_in : ℕ → List LogEntry
end_in b = pick (eqb b 1 || eqb b 2) (ended ∷ []) []

-- The entry that a frame stands for, if it stands for one.
unfoldable pub entry_in : Content → List LogEntry
entry_in c =
    pick (same c.kind (letters_of Recv)) (received c.payload ∷ [])
    (pick (same c.kind (letters_of Part)) (received c.payload ∷ [])
    (pick (same c.kind (letters_of Sent)) (sent (get_or c.payload 0 0) ∷ [])
    (pick (same c.kind (letters_of Answ)) (answered (get_or c.payload 0 0) (drop 1 c.payload) ∷ [])
    (pick (same c.kind (letters_of Objt)) (object ∷ [])
    (pick (same c.kind (letters_of Pass)) (checked (eqb (get_or c.payload 0 0) 1) ∷ [])
    (pick (same c.kind (letters_of Nonc)) (nonce c.payload ∷ [])
    (pick (same c.kind (letters_of Clos)) (closed (ids_in c.payload) ∷ [])
    (pick (same c.kind (letters_of Done)) (end_in (get_or c.payload 0 0)) []))))))))

-- The entries that some frames stand for.
abbrev pub entries_in : List Content → List LogEntry
entries_in [] = []
entries_in (c ∷ cs) = entry_in c ++ entries_in cs

-- Each number has 32 bits.
abbrev pub AllIds : List ℕ → Type 0
AllIds [] = Unit {0}
AllIds (x ∷ l) = (x < 2 ^ 32) × AllIds l

-- An entry fits into its frame.
abbrev pub FitsFrame : LogEntry → Type 0
FitsFrame (closed l) = AllIds l
FitsFrame (received p) = Unit {0}
FitsFrame (sent b) = Unit {0}
FitsFrame (answered code hs) = Unit {0}
FitsFrame object = Unit {0}
FitsFrame (checked right) = Unit {0}
FitsFrame (nonce n) = Unit {0}
FitsFrame ended = Unit {0}

-- Some frames are those of a log: each entry has its own, and others, which stand for none, may stand between.
pub data Encodes : List LogEntry → List Content → Type 0 where
  nothing : Encodes [] []
  entry : (e : LogEntry) (t : ℕ) (more : List ℕ) {es : List LogEntry} {cs : List Content} → FitsFrame e → Encodes es cs
      → Encodes (e ∷ es) (content_for e t more ∷ cs)
  beside : (c : Content) {es : List LogEntry} {cs : List Content} → entry_in c ≡ [] → Encodes es cs → Encodes es (c ∷ cs)

-- ---- the first frame

-- What the first frame says.
pub record OpenFrame : Type 0 where
  pub limit : ℕ
  pub packet : ℕ
  pub srm : Bool
  pub authentication : Bool
  pub asks_user : Bool
  pub read_only_of : Bool
  pub enforces_user : Bool
  pub refuses : Bool
  pub has_realm_of : Bool
  -- Charset and realm, the session's name, and what was known of the peer.
  pub rest : List ℕ

-- The flags of the first frame as one number.
abbrev pub open_flags : OpenFrame → ℕ
open_flags o =
    bit o.srm + 2 * bit o.authentication + 4 * bit o.asks_user + 8 * bit o.read_only_of + 16 * bit o.enforces_user
    + 32 * bit o.refuses + 64 * bit o.has_realm_of

-- The payload of the first frame: `OBX1`, the limits, the flags and the rest.
abbrev pub opening_bytes : OpenFrame → List ℕ
opening_bytes o = bytes32 0x4F425831 ++ (bytes32 o.limit ++ (bytes16 o.packet ++ (open_flags o ∷ o.rest)))

-- What the first frame says, by its numbers and flags in the code; `more` follows them.
abbrev pub opened : OpenNumbers → OpenFlags → List ℕ → OpenFrame
opened n f more =
    record {
      limit = n.limit;
      packet = n.packet;
      srm = f.srm;
      authentication = f.authentication;
      asks_user = f.asks_user;
      read_only_of = f.read_only;
      enforces_user = f.enforces_user;
      refuses = f.refuses;
      has_realm_of = f.has_realm;
      rest = n.charset ∷ n.realm ∷ 0 ∷ 0 ∷ 0 ∷ more;
    }

-- The flags in the code as one number.
unfoldable pub flags_in : OpenFlags → ℕ
flags_in f = open_flags (opened (record { limit = 0; packet = 0; charset = 0; realm = 0 }) f [])

-- The first row of the first frame's payload.
unfoldable pub open_row : OpenNumbers → OpenFlags → List ℕ
open_row n f = take 16 (opening_bytes (opened n f []))

-- A flag is set: `n` is its number.
abbrev pub is_set : ℕ → ℕ → Bool
is_set n f = eqb (f / n % 2) 1

-- The journal's settings by the first frame's payload.
unfoldable pub settings_in : List ℕ → Settings
settings_in p =
    let f = get_or p 10 0 in
    record {
      limit = be32 p 4;
      srm = is_set 1 f;
      authentication = is_set 2 f;
      demands_user = is_set 16 f && is_set 4 f;
      refuses = is_set 32 f;
    }

-- ---- what an auditor makes of a log

-- The records that some frames stand for, with their Targets: the first frame tells the settings.
abbrev pub audited : List Content → List Handed
audited [] = []
audited (c ∷ cs) = log_handed (fresh (settings_in c.payload)) unnamed (entries_in cs)
