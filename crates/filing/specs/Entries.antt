-- What the log says of a session, and the records that it stands for. An entry is what the journal needs of a call and no secret: of a
-- password only whether its check came out right, of credentials and of an object's bytes nothing. A whole packet stands for its pieces.
use Rattle.std.specs.Prelude.{ℕ, List, [], ◌∷◌, ◌++◌, map, ◌≡◌, Bool, false}
use Rattle.std.proofs.Math.Option.{Option, none, some}
use Rattle.base.specs.Pick.{pick}
use Rattle.digest.specs.Md5.{octets16}
use Rattle.journal.specs.Record.{Record}
use Rattle.journal.specs.Calls.{Call, bytes_offered_of, stream_ended_of, reply_taken_of, reply_given_of, object_given_of, body_given_of, body_failed_of, abort_acknowledged_of, password_given_of, nonce_given_of, credentials_given_of, connections_closed_of, Fed, no_step, step_by_of, reply_sent}
use Rattle.journal.specs.Journal.{Journal, Entry as Step, unchanged, stands, password_checked, passes, challenged, more, read_up, journal_fed, journal_step}
use Rattle.journal.specs.Naming.{Naming, fed_names, naming_step}

-- An entry of the log.
pub data LogEntry : Type 0 where
  -- Bytes came from the peer: a packet, or some of one.
  received : List ℕ → LogEntry
  -- A reply was sent, and this is its first byte.
  sent : ℕ → LogEntry
  -- The host answered with a reply: a code and header bytes.
  answered : ℕ → List ℕ → LogEntry
  -- The host answered a Get with an object.
  object : LogEntry
  -- A password was checked, and was right or not.
  checked : Bool → LogEntry
  -- A challenge was made with this nonce.
  nonce : List ℕ → LogEntry
  -- The host closed these connection ids together.
  closed : List ℕ → LogEntry
  -- The peer's stream ended.
  ended : LogEntry

-- What an entry does to a journal. One that has ended reads nothing any more.
abbrev pub entry_fed : Journal → LogEntry → Step
entry_fed j (received p) = journal_fed j (step_by_of (bytes_offered_of p))
entry_fed j (sent b) = journal_fed j (reply_sent b)
entry_fed j (answered code hs) = journal_fed j (step_by_of (reply_given_of code hs))
entry_fed j object = journal_fed j (step_by_of (object_given_of [] false))
entry_fed j (checked right) = pick j.ended (unchanged j) (unchanged (stands j (password_checked j.standing right)))
entry_fed j (nonce n) = pick j.ended (unchanged j) (unchanged (stands j (challenged j.standing n)))
entry_fed j (closed l) = journal_fed j (step_by_of (connections_closed_of l))
entry_fed j ended = journal_fed j (step_by_of stream_ended_of)

-- The same, shut, so that proofs along a log carry it as one word.
unfoldable pub entry_step : Journal → LogEntry → Step
entry_step j e = entry_fed j e

-- What an entry does to the naming of Targets, with the journal before it: packets and answers alone name anything.
abbrev pub entry_names : Journal → Naming → LogEntry → Naming
entry_names j n (received p) = fed_names j n (step_by_of (bytes_offered_of p))
entry_names j n (answered code hs) = fed_names j n (step_by_of (reply_given_of code hs))
entry_names j n (sent b) = n
entry_names j n object = n
entry_names j n (checked right) = n
entry_names j n (nonce o) = n
entry_names j n (closed l) = n
entry_names j n ended = n

-- The same, shut.
unfoldable pub names_step : Journal → Naming → LogEntry → Naming
names_step j n e = entry_names j n e

-- ---- the records

-- A record, and the Target that the request names by which it is handed over.
pub record Handed : Type 0 where
  pub given : Record
  pub target : Option (List ℕ)

-- Records that are handed over under the Target `t`.
abbrev pub handed_under : Option (List ℕ) → List Record → List Handed
handed_under t rs = map (λ (r : Record). record { given = r; target = t }) rs

-- The records that a log stands for, each with its Target.
abbrev pub log_handed : Journal → Naming → List LogEntry → List Handed
log_handed j n [] = []
log_handed j n (e ∷ es) =
    handed_under (names_step j n e).under (entry_step j e).given ++ log_handed (entry_step j e).next (names_step j n e) es

-- The records that a list of calls must hand over, each with the Target that is due.
abbrev pub journal_handed : Journal → Naming → List Fed → List Handed
journal_handed j n [] = []
journal_handed j n (f ∷ fs) =
    handed_under (naming_step j n f).under (journal_step j f).given ++ journal_handed (journal_step j f).next (naming_step j n f) fs

-- The records that a log stands for.
abbrev pub log_records : Journal → List LogEntry → List Record
log_records j [] = []
log_records j (e ∷ es) = (entry_step j e).given ++ log_records (entry_step j e).next es

-- ---- the end

-- The first number, if there is one: the one with which a session ended.
abbrev pub first_end : List (Option ℕ) → Option ℕ
first_end [] = none
first_end (none ∷ l) = first_end l
first_end (some n ∷ l) = some n

-- The numbers with which the entries of a log end the session; there is mostly one, at the last entry.
abbrev pub log_ends : Journal → List LogEntry → List (Option ℕ)
log_ends j [] = []
log_ends j (e ∷ es) = (entry_step j e).number ∷ log_ends (entry_step j e).next es

-- ---- what is logged of a call

-- The entries of a call that goes.
abbrev pub entries_of : Journal → Call → List LogEntry
entries_of j (bytes_offered_of i) = received i ∷ []
entries_of j stream_ended_of = ended ∷ []
entries_of j reply_taken_of = []
entries_of j (reply_given_of code hs) = answered code hs ∷ []
entries_of j (object_given_of hs body) = object ∷ []
entries_of j (body_given_of d) = []
entries_of j body_failed_of = []
entries_of j abort_acknowledged_of = []
entries_of j (password_given_of p) = checked (passes j p) ∷ []
entries_of j (nonce_given_of n l) = nonce (octets16 n) ∷ []
entries_of j (credentials_given_of c) = []
entries_of j (connections_closed_of l) = closed l ∷ []

-- The entries of a call as it is fed: none of one that was refused.
abbrev pub logged : Journal → Fed → List LogEntry
logged j no_step = []
logged j (step_by_of c) = entries_of j c
logged j (reply_sent b) = sent b ∷ []

-- The log of a list of calls.
abbrev pub log_of : Journal → List Fed → List LogEntry
log_of j [] = []
log_of j (f ∷ fs) = logged j f ++ log_of (journal_step j f).next fs

-- ---- whole packets

-- The second log is the first with some pieces of packets joined, from the journal `j` on. A receiver joins all of them.
pub data Joins : Journal → List LogEntry → List LogEntry → Type 0 where
  nothing : {j : Journal} → Joins j [] []
  keep : {j : Journal} (e : LogEntry) {es fs : List LogEntry} → Joins (entry_step j e).next es fs → Joins j (e ∷ es) (e ∷ fs)
  -- After the bytes `a` the packet goes on, so the bytes `b` that come next belong to it.
  join : {j : Journal} (a b q : List ℕ) {es fs : List LogEntry} → j.ended ≡ false → read_up j.begun a ≡ more q
      → Joins j (received (a ++ b) ∷ es) fs → Joins j (received a ∷ received b ∷ es) fs
