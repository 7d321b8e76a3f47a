-- The claims on the code: read entry by entry, a log hands over the records that the journal says, each with its Target. The one exception is
-- told as 6: the kept headers of a Put pass 65,535 bytes, where the engine ends too.
use Rattle.std.specs.Prelude.{◌≡◌, ℕ, ◌≤◌, ◌<◌, Bool, List, [], ◌∷◌, ◌++◌, length, get_or}
use Rattle.std.proofs.Math.Option.{Option, none, some}
use Rattle.base.specs.Bytes.{be32}
use Rattle.packet.specs.Limits.{max_packet}
use Rattle.packet.specs.Packet.{Request, request_of}
use Rattle.journal.specs.Record.{carried_by}
use Rattle.journal.specs.Journal.{Opened, nothing, trailing, putting, getting, sending, gathering, draining, Journal, fresh, Read, more, whole, short, read_up}
use Rattle.journal.specs.Naming.{unnamed}
use Rattle.table.specs.Places.{table_length}
use Rattle.filing.specs.Frame.{Content}
use Rattle.filing.specs.Kinds.{entries_in, is_set, audited}
use Rattle.filing.specs.Entries.{LogEntry, received, sent, answered, object, checked, nonce, closed, ended, entry_step, log_handed}
use Rattle.journal_code.specs.declared.state.Settings.{Settings}
use Rattle.journal_code.specs.State.{fresh_state}
use Rattle.journal_code.specs.Run.{settings_of, Stores, handed_from, state_after}

-- The stores have room.
pub record Lent (limit : ℕ) (x : Stores) : Type 0 where
  pub packet : max_packet ≤ length x.packet
  pub headers : max_packet ≤ length x.headers
  pub body : limit ≤ length x.body
  pub tables : table_length ≤ length x.tables

-- Bytes are bytes.
abbrev pub AllOctets : List LogEntry → Type 0
AllOctets [] = Unit {0}
AllOctets (received p ∷ es) = ((k : ℕ) → get_or p k 0 < 256) × AllOctets es
AllOctets (sent b ∷ es) = AllOctets es
AllOctets (answered code hs ∷ es) = AllOctets es
AllOctets (object ∷ es) = AllOctets es
AllOctets (checked right ∷ es) = AllOctets es
AllOctets (nonce n ∷ es) = AllOctets es
AllOctets (closed l ∷ es) = AllOctets es
AllOctets (ended ∷ es) = AllOctets es

-- ---- the kept headers of a Put

-- The kept headers of a Put with the packet `r`, by what was open before it.
abbrev pub put_kept : Opened → Request → List ℕ
put_kept nothing r = (carried_by r.headers).headers
put_kept trailing r = (carried_by r.headers).headers
put_kept (putting c s) r = c.headers ++ (carried_by r.headers).headers
put_kept (getting k) r = []
put_kept sending r = []
put_kept (gathering o k) r = []
put_kept draining r = []

-- The same of what a packet reads as, and of what bytes are.
abbrev pub kept_in : Opened → Option Request → List ℕ
kept_in o none = []
kept_in o (some r) = put_kept o r

abbrev pub kept_by : Opened → Read → List ℕ
kept_by o (more p) = []
kept_by o (whole p) = kept_in o (request_of p)
kept_by o short = []

-- They are within 65,535 bytes after an entry.
abbrev pub KeptFits : Journal → LogEntry → Type 0
KeptFits j (received p) = length (kept_by j.opened (read_up j.begun p)) ≤ max_packet
KeptFits j (sent b) = Unit {0}
KeptFits j (answered code hs) = Unit {0}
KeptFits j object = Unit {0}
KeptFits j (checked right) = Unit {0}
KeptFits j (nonce n) = Unit {0}
KeptFits j (closed l) = Unit {0}
KeptFits j ended = Unit {0}

-- They are so after each entry.
abbrev pub AllKept : Journal → List LogEntry → Type 0
AllKept j [] = Unit {0}
AllKept j (e ∷ es) = KeptFits j e × AllKept (entry_step j e).next es

-- ---- the claims

-- If the session did not end with 6, the records are those of the journal.
abbrev pub HandsAll : Type 0
HandsAll =
    (st : Settings) (demands : Bool) (x : Stores) (es : List LogEntry) → Lent st.limit x → AllOctets es
    → ((state_after (fresh_state st) x es).number ≡ 6 → ⊥)
    → handed_from (fresh_state st) x es ≡ log_handed (fresh (settings_of st demands)) unnamed es

-- It ends with 6 only if the kept headers of a Put pass 65,535 bytes.
abbrev pub SixTold : Type 0
SixTold =
    (st : Settings) (demands : Bool) (x : Stores) (es : List LogEntry) → Lent st.limit x → AllOctets es
    → AllKept (fresh (settings_of st demands)) es → (state_after (fresh_state st) x es).number ≡ 6 → ⊥

-- ---- the frames of a log

-- The settings that the payload of the first frame says.
abbrev pub settings_read : List ℕ → Settings
settings_read p =
    record { limit = be32 p 4; srm = is_set 1 (get_or p 10 0); authentication = is_set 2 (get_or p 10 0); refuses = is_set 32 (get_or p 10 0) }

-- The entries for which the frames behind the first stand hand over what an auditor makes of the log.
abbrev pub FramesAudited : Type 0
FramesAudited =
    (c : Content) (cs : List Content) (x : Stores) → Lent (settings_read c.payload).limit x → AllOctets (entries_in cs)
    → ((state_after (fresh_state (settings_read c.payload)) x (entries_in cs)).number ≡ 6 → ⊥)
    → handed_from (fresh_state (settings_read c.payload)) x (entries_in cs) ≡ audited (c ∷ cs)
