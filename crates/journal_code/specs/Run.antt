-- A log read entry by entry, as the code does it: the state and the stores after each, and the records that are handed over, which stand in the
-- stores (docs/ARCHIVE.md, "The log").
use Rattle.std.specs.Prelude.{ℕ, Bool, List, [], ◌∷◌, ◌++◌, take}
use Rattle.std.proofs.Math.Option.{none, some}
use Rattle.base.specs.Pick.{pick}
use Rattle.journal.specs.Record.{Record}
use Rattle.journal.specs.Journal.{Settings as JournalSettings}
use Rattle.table.specs.Targets.{target_bytes}
use Rattle.filing.specs.Entries.{LogEntry, received, sent, answered, object, checked, nonce, closed, ended, Handed}
use Rattle.journal_code.specs.declared.state.Settings.{Settings}
use Rattle.journal_code.specs.declared.state.State.{State}
use Rattle.journal_code.specs.Receive.{Came, received_step}
use Rattle.journal_code.specs.Answer.{Tabled, answered_step, object_state, sent_state, checked_state, nonce_state, closed_step, ended_state}

-- The settings of a journal; no record depends on whether a response must bring a user id, which is `demands`.
abbrev pub settings_of : Settings → Bool → JournalSettings
settings_of st demands =
    record { limit = st.limit; srm = st.srm; authentication = st.authentication; demands_user = demands; refuses = st.refuses }

-- The stores that the caller lends.
pub record Stores : Type 0 where
  pub packet : List ℕ
  pub headers : List ℕ
  pub body : List ℕ
  pub tables : List ℕ

-- The state and the stores.
pub record Held : Type 0 where
  pub state : State
  pub stores : Stores

-- Makes a `Held`.
abbrev pub held : State → Stores → Held
held s x = record { state = s; stores = x }

-- What bytes from the peer leave; the table store stays.
abbrev pub held_came : Came → List ℕ → Held
held_came c t = held c.state (record { packet = c.packet; headers = c.headers; body = c.body; tables = t })

-- What an answer leaves; the other stores stay.
abbrev pub held_tabled : Tabled → Stores → Held
held_tabled y x = held y.state (record { packet = x.packet; headers = x.headers; body = x.body; tables = y.tables })

-- What an entry does.
abbrev pub entry_done : State → Stores → LogEntry → Held
entry_done s x (received p) = held_came (received_step s p x.packet x.headers x.body x.tables) x.tables
entry_done s x (sent b) = held (sent_state s b) x
entry_done s x (answered code hs) = held_tabled (answered_step s code hs x.tables) x
entry_done s x object = held (object_state s) x
entry_done s x (checked right) = held (checked_state s right) x
entry_done s x (nonce n) = held (nonce_state s) x
entry_done s x (closed l) = held_tabled (closed_step s l x.tables) x
entry_done s x ended = held (ended_state s) x

-- The record that stands in the stores.
abbrev pub record_in : State → Stores → Record
record_in s x =
    record {
      headers = take s.gathered.kept x.headers;
      body = pick s.gathered.came (some (take s.gathered.body x.body)) none;
    }

-- The record that the last entry handed over, if it did.
abbrev pub handed_in : Held → List Handed
handed_in h = pick h.state.handed (record { given = record_in h.state h.stores; target = target_bytes h.state.target } ∷ []) []

-- All records that the entries hand over.
abbrev pub handed_from : State → Stores → List LogEntry → List Handed
handed_from s x [] = []
handed_from s x (e ∷ es) =
    handed_in (entry_done s x e) ++ handed_from (entry_done s x e).state (entry_done s x e).stores es

-- The state after the entries.
abbrev pub state_after : State → Stores → List LogEntry → State
state_after s x [] = s
state_after s x (e ∷ es) = state_after (entry_done s x e).state (entry_done s x e).stores es
