-- What the bytes of a receiver's log tell, read back by whoever has no engine: exactly what was to be filed, and if the log was cut after any
-- byte, the first of it. An auditor rests on this.
use Rattle.std.specs.Prelude.{ℕ, ◌<◌, ◌^◌, ◌≡◌, List, [], ◌∷◌, ◌++◌, length, take}
use Rattle.journal.specs.Journal.{packets}
use Rattle.server.specs.declared.Settings.{Settings}
use Rattle.model.specs.Runs.{State, Performed, Ran, Started}
use Rattle.model.specs.Theorem.{journal_of, fed, Kept}
use Rattle.filing.specs.Entries.{LogEntry, Handed, Joins}
use Rattle.filing.specs.Frame.{Content, log_bytes}
use Rattle.filing.specs.Reading.{read_log}
use Rattle.filing.specs.Kinds.{letters_of, Encodes, OpenFrame, opening_bytes, audited}
use Rattle.filing.specs.Claims.{AllFit}
use Rattle.filing.specs.declared.frame.Kind.TheVariants.{Open}
use Rattle.reception.specs.Received.{notes, Attempt, attempted, Received, Files}
use Rattle.reception.specs.Notes.{pending}
use Rattle.reception.specs.Turns.{ReceiverTurn, Turns, calls_made, attempts_of, state_after, waits_after, entries_made, held_in}

-- The first frame of a receiver with these settings; the rest is the charset and the realm, the session's name and what is known of the client.
abbrev pub opening_with : Settings → List ℕ → OpenFrame
opening_with st more =
    record {
      limit = st.max_object_size;
      packet = st.max_packet_length;
      srm = st.srm_supported;
      authentication = st.authentication;
      asks_user = st.user_id_required;
      read_only_of = st.read_only;
      enforces_user = st.user_id_enforced;
      refuses = st.refuse_trailing;
      has_realm_of = st.has_realm;
      rest = more;
    }

-- That frame at the clock `t`.
abbrev pub open_frame : Settings → ℕ → List ℕ → Content
open_frame st t more = record { kind = letters_of Open; clock = t; payload = opening_bytes (opening_with st more) }

-- A receiver's log: the frames `cs` behind the first one, and the attempts, after which the records `w` wait.
pub record Logged (st : Settings) (t : ℕ) (more : List ℕ) (cs : List Content) (l : List Attempt) (w : List Handed) : Type 0 where
  pub s : State
  pub start : Started st s
  pub xs : List Performed
  pub ran : Ran s xs
  pub received : Received [] xs l w
  pub kept : Kept (packets (journal_of st) (fed st s xs))
  pub es : List LogEntry
  pub joins : Joins (journal_of st) (notes s xs) es
  pub encodes : Encodes es cs
  -- The Put limit has 32 bits, and so has what each frame counts.
  pub limit : st.max_object_size < 2 ^ 32
  pub fits : AllFit (open_frame st t more ∷ cs)
  pub few : length (open_frame st t more ∷ cs) < 2 ^ 32

-- The bytes of a log, read back, tell what was to be filed.
abbrev pub LogTells : Type 0
LogTells =
    (st : Settings) (t : ℕ) (more : List ℕ) (cs : List Content) (l : List Attempt) (w : List Handed) → Logged st t more cs l w
    → audited (read_log (log_bytes (open_frame st t more ∷ cs))).contents ≡ attempted l ++ w

-- Some records are the first of others.
pub record FirstHanded (hs whole : List Handed) : Type 0 where
  pub lost : List Handed
  pub joined : hs ++ lost ≡ whole

-- If the log is cut after any byte, it tells the first of that.
abbrev pub CutTells : Type 0
CutTells =
    (st : Settings) (t : ℕ) (more : List ℕ) (cs : List Content) (l : List Attempt) (w : List Handed) → Logged st t more cs l w → (n : ℕ)
    → FirstHanded (audited (read_log (take n (log_bytes (open_frame st t more ∷ cs)))).contents) (attempted l ++ w)

-- ---- a session

-- A session of a receiver: turns from an accepted start, and the frames `cs` of its log behind the first one, with the bytes of a packet that
-- goes on.
pub record Session (st : Settings) (s : State) (ts : List ReceiverTurn) (t : ℕ) (more : List ℕ) (cs : List Content) : Type 0 where
  pub start : Started st s
  pub turns : Turns [] s ts
  pub kept : Kept (packets (journal_of st) (fed st s (calls_made s ts)))
  pub encodes : Encodes (entries_made s ts ++ pending (held_in (state_after s ts))) cs
  pub limit : st.max_object_size < 2 ^ 32
  pub fits : AllFit (open_frame st t more ∷ cs)
  pub few : length (open_frame st t more ∷ cs) < 2 ^ 32

-- The records of a session: those of the attempts, and the one that waits, if one does.
abbrev pub records_of : State → List ReceiverTurn → List Handed
records_of s ts = attempted (attempts_of ts) ++ waits_after [] s ts

-- What holds of a session: what was to be filed is what the journal says, success is told only if every step went well, the log's bytes tell the
-- records, and if the log is cut after any byte, the first of them.
pub record SessionHolds (st : Settings) (s : State) (ts : List ReceiverTurn) (t : ℕ) (more : List ℕ) (cs : List Content) : Type 0 where
  pub files : Files st s (calls_made s ts) (attempts_of ts) (waits_after [] s ts)
  pub tells : audited (read_log (log_bytes (open_frame st t more ∷ cs))).contents ≡ records_of s ts
  pub cut : (n : ℕ) → FirstHanded (audited (read_log (take n (log_bytes (open_frame st t more ∷ cs)))).contents) (records_of s ts)

-- The claim on every session.
abbrev pub SessionsHold : Type 0
SessionsHold =
    (st : Settings) (s : State) (ts : List ReceiverTurn) (t : ℕ) (more : List ℕ) (cs : List Content) → Session st s ts t more cs
    → SessionHolds st s ts t more cs
