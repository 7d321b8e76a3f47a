-- A log taken frame by frame by `frame_taken`, which the contract of the program's function on a frame cites, from number 0 on; and the claims that,
-- unless a wrong frame is told, this leaves and hands over what an auditor makes of the log.
use Rattle.std.specs.Prelude.{◌≡◌, ℕ, ◌+◌, ◌%◌, ◌^◌, List, [], ◌∷◌, ◌++◌, length, ◌≢◌}
use Rattle.base.specs.Pick.{pick}
use Rattle.base.specs.Bytes.{be32}
use Rattle.archive.specs.Claims.{Octets}
use Rattle.digest.specs.declared.md5.Octets16.{Octets16}
use Rattle.table.specs.Targets.{target_bytes}
use Rattle.filing.specs.Frame.{Content}
use Rattle.filing.specs.Reading.{read_log}
use Rattle.filing.specs.Kinds.{audited}
use Rattle.filing.specs.Entries.{Handed}
use Rattle.journal_code.specs.declared.state.Settings.{Settings}
use Rattle.journal_code.specs.declared.state.State.{State}
use Rattle.journal_code.specs.State.{fresh_state}
use Rattle.journal_code.specs.Run.{Stores, record_in}
use Rattle.journal_code.specs.Claims.{Lent, settings_read}
use Rattle.audit.specs.declared.place.Here.{Here}
use Rattle.audit.specs.declared.entry.Act.{Act}
use Rattle.audit.specs.declared.entry.Act.TheVariants.{Pass, Start, Wrong, Feed}
use Rattle.audit.specs.declared.entry.Audit.{Audit}
use Rattle.audit.specs.declared.waiting.Waiting.{Waiting}
use Rattle.audit.specs.Waiting.{is_handed}
use Rattle.audit.specs.Taken.{act_for, audit_with, Taken, taken_as, frame_taken}
use Rattle.audit.specs.Right.{frames_done, frames_hand}

-- ---- a frame

-- What the program has of a frame beside its content: how many bytes the log has up to its end, its check, and what the last record has become by
-- then, which is judged between two frames.
pub record Beside : Type 0 where
  pub bytes : ℕ
  pub check : Octets16
  pub waiting : Waiting

-- The four letters of a content as one number.
abbrev pub letters_in : Content → ℕ
letters_in c = be32 c.kind 0

-- Frame `n` with the content `c`, except for its payload.
abbrev pub here_of : ℕ → Content → Beside → Here
here_of n c b = record { number = n; letters = letters_in c; clock = c.clock; bytes = b.bytes; check = b.check }

-- What is known before a frame: what was known behind the one before it, and the last record as it is by then.
abbrev pub known_with : Audit → Waiting → Audit
known_with a w = audit_with a.state w a.name a.records a.done a.fault a.fault_at

-- Frame `n` with the content `c` is taken.
abbrev pub taken_next : Taken → ℕ → Content → Beside → Taken
taken_next t n c b = frame_taken (known_with t.audit b.waiting) (here_of n c b) c.payload t.stores

-- The record that a frame handed over, if it did, by what was done with it: it stands in the stores `x`, and `s` is the state behind the frame.
abbrev pub act_gives : Act → State → Stores → List Handed
act_gives Pass s x = []
act_gives Start s x = []
act_gives (Wrong f) s x = []
act_gives (Feed e) s x = pick (is_handed e s.handed) (record { given = record_in s x; target = target_bytes s.target } ∷ []) []

-- The same of frame `n` with the content `c`, which left `u`.
abbrev pub given_next : Taken → ℕ → Content → Taken → List Handed
given_next t n c u = act_gives (act_for t.audit.fault n (letters_in c) c.payload) u.audit.state u.stores

-- ---- all frames

-- What is known, and the stores, behind the frames from number `n` on.
abbrev pub frames_taken : (ℕ → Beside) → ℕ → Taken → List Content → Taken
frames_taken b n t [] = t
frames_taken b n t (c ∷ cs) = frames_taken b (n + 1) (taken_next t n c (b n)) cs

-- The records that they hand over.
abbrev pub frames_give : (ℕ → Beside) → ℕ → Taken → List Content → List Handed
frames_give b n t [] = []
frames_give b n t (c ∷ cs) = given_next t n c (taken_next t n c (b n)) ++ frames_give b (n + 1) (taken_next t n c (b n)) cs

-- ---- the claims

-- The letters of each content are four bytes.
abbrev pub AllLettered : List Content → Type 0
AllLettered [] = Unit {0}
AllLettered (c ∷ cs) = (length c.kind ≡ 4) × Octets c.kind × AllLettered cs

-- Behind a first frame with the settings `st`, the contents `cs` leave `t` and hand `l` over, as going from entry to entry does.
pub record DoneBy (st : Settings) (x : Stores) (cs : List Content) (t : Taken) (l : List Handed) : Type 0 where
  pub state : t.audit.state ≡ (frames_done (fresh_state st) x cs).state
  pub stores : t.stores ≡ (frames_done (fresh_state st) x cs).stores
  pub given : l ≡ frames_hand (fresh_state st) x cs
  pub records : t.audit.records ≡ length l % 2 ^ 32

-- If no wrong frame is told behind the last, each frame behind the first was fed as the entry that it stands for.
abbrev pub TakenRight : Type 0
TakenRight =
    (b : ℕ → Beside) (a : Audit) (x : Stores) (c : Content) (cs : List Content) → a.fault ≡ 0 → AllLettered cs
    → (frames_taken b 0 (taken_as a x) (c ∷ cs)).audit.fault ≡ 0
    → DoneBy (settings_read c.payload) x cs (frames_taken b 0 (taken_as a x) (c ∷ cs)) (frames_give b 0 (taken_as a x) (c ∷ cs))

-- If no wrong frame is told, the records that the program takes from the frames of a log's bytes are those that an auditor makes of them, unless the
-- kept headers of a Put passed 65,535 bytes, which is told by the number 6.
abbrev pub TakenAudited : Type 0
TakenAudited =
    (bytes : List ℕ) (b : ℕ → Beside) (a : Audit) (x : Stores) → Octets bytes → Lent 1048576 x → a.fault ≡ 0
    → (frames_taken b 0 (taken_as a x) (read_log bytes).contents).audit.fault ≡ 0
    → ((frames_taken b 0 (taken_as a x) (read_log bytes).contents).audit.state.number ≢ 6)
    → frames_give b 0 (taken_as a x) (read_log bytes).contents ≡ audited (read_log bytes).contents
