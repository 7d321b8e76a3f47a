-- The claims on the journal, said of the journal alone; no engine is in them. Its records are those of the Put forms (proofs/Forms). It has
-- ended exactly after the calls in which an end is due, and takes no more bytes than are offered (proofs/Ends). A packet leaves an operation
-- open or is followed by a reply (proofs/Opens).
use Rattle.std.specs.Prelude.{◌≡◌, List, true, false, ℕ, ◌≤◌, length}
use Rattle.std.proofs.Math.Option.{none, some}
use Rattle.journal.specs.Record.{Record}
use Rattle.journal.specs.Calls.{Fed}
use Rattle.journal.specs.Journal.{Settings, Journal, busy, fresh, stopped, whole, taken_up, journal_packet, journal_step, journal_records, Marked, packets}
use Rattle.journal.specs.PutForm.{Exactly}
use Rattle.journal.specs.Srm.{Mode, silent, read_due}

-- For every list that a fresh journal is fed, its records are those of the Put forms among its packets.
abbrev pub PutForms : Type 0
PutForms = (st : Settings) (fs : List Fed) → Exactly st.limit (packets (fresh st) fs) (journal_records (fresh st) fs)

-- There is no choice in it: some packets have one list of records.
abbrev pub OneList : Type 0
OneList = (limit : ℕ) (ps : List Marked) (rs qs : List Record) → Exactly limit ps rs → Exactly limit ps qs → rs ≡ qs

-- The journal has ended after every call in which an end is due.
abbrev pub EndsThere : Type 0
EndsThere = (j : Journal) (f : Fed) (n : ℕ) → (journal_step j f).number ≡ some n → (journal_step j f).next.ended ≡ true

-- It ends in no other call, but for a packet of another operation than the one that is open (`stopped`); then the engine ends with 5 once
-- the reply to that packet is taken.
abbrev pub EndsNowhereElse : Type 0
EndsNowhereElse =
    (j : Journal) (f : Fed) → j.ended ≡ false → (journal_step j f).next.ended ≡ true → (journal_step j f).number ≡ none
    → journal_step j f ≡ stopped j

-- No more bytes are taken than are offered.
abbrev pub TakesNoMore : Type 0
TakesNoMore = (p i : List ℕ) → taken_up p i ≤ length i

-- A packet after which no reply is due leaves an operation open, whatever was open before it. So an operation is open from its first packet
-- on, until a reply is due that is its last.
abbrev pub OpensOrReplies : Type 0
OpensOrReplies = (m : Mode) (j : Journal) (p : List ℕ) → read_due (whole p) m j ≡ silent → busy (journal_packet j p).next.opened ≡ true
