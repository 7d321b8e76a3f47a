-- What a frame of the log does (docs/ARCHIVE.md, "The log"): the first tells the settings and the session's name, each later one is fed to the
-- journal, and what it says of the last record is kept. A frame that no receiver writes is told by a number, and those behind it are passed over: 1
-- no `open`, 2 a Put limit over 1,048,576, 3 letters that do not belong there, 4 a packet of another length than it says.
use Rattle.std.specs.Prelude.{ℕ, ◌+◌, ◌%◌, ◌^◌, Bool, ◌&&◌, List, length, take, drop, replicate, ◌==◌, nat_le, nat_lt, slice_index, Option, Some, None}
use Rattle.std.proofs.Math.Seq.{paste}
use Rattle.base.specs.Pick.{pick}
use Rattle.base.specs.Bytes.{be16}
use Rattle.filing.specs.Kinds.{kind_number}
use Rattle.filing.specs.ReadBack.{kind_read, entry_read, entry_with}
use Rattle.filing.specs.declared.frame.Kind.{Kind}
use Rattle.filing.specs.declared.frame.Kind.TheVariants.{Open, Recv, Done}
use Rattle.filing.specs.declared.entry.EntryRead.{EntryRead}
use Rattle.filing.specs.declared.entry.EntryRead.TheVariants.{Packet}
use Rattle.journal_code.specs.declared.state.State.{State}
use Rattle.journal_code.specs.State.{fresh_state}
use Rattle.journal_code.specs.Run.{Stores, Held}
use Rattle.journal_code.specs.Claims.{settings_read}
use Rattle.audit.specs.declared.place.Here.{Here}
use Rattle.audit.specs.declared.entry.Act.{Act}
use Rattle.audit.specs.declared.entry.Act.TheVariants.{Pass, Start, Wrong, Feed}
use Rattle.audit.specs.declared.entry.Audit.{Audit}
use Rattle.audit.specs.declared.waiting.Waiting.{Waiting}
use Rattle.audit.specs.Feed.{frame_done}
use Rattle.audit.specs.Place.{four_at}
use Rattle.audit.specs.Waiting.{nothing_waiting, is_handed, waiting_after}

-- ---- what is done with a frame

-- A payload is a packet of the length that it says.
unfoldable pub is_packet : List ℕ → Bool
is_packet p = nat_le 3 (length p) && be16 p 1 == length p

-- A first frame that is an `open`.
unfoldable pub open_act : List ℕ → Act
open_act p = pick (four_at p 0 == 0x4F425831) (pick (nat_lt 1048576 (settings_read p).limit) (Wrong 2) Start) (Wrong 1)

-- The first frame.
abbrev pub first_act : ℕ → List ℕ → Act
first_act l p = pick (l == kind_number Open) (open_act p) (Wrong 1)

-- A packet.
abbrev pub packet_act : List ℕ → Act
packet_act p = pick (is_packet p) (Feed Packet) (Wrong 4)

-- A frame behind the first, by its letters and its kind.
abbrev pub known_act : ℕ → Kind → List ℕ → Act
known_act l k p = pick (l == kind_number Open) (Wrong 3) (pick (l == kind_number Recv) (packet_act p) (Feed (entry_read k p)))

-- A frame behind the first, by what its letters are.
abbrev pub later_act : ℕ → Option Kind → List ℕ → Act
later_act l (Some k) p = known_act l k p
later_act l None p = Wrong 3

-- Frame `n`, behind a wrong frame with the number `fault`, or 0.
unfoldable pub act_for : ℕ → ℕ → ℕ → List ℕ → Act
act_for fault n l p = pick (fault == 0) (pick (n == 0) (first_act l p) (later_act l (kind_read l) p)) Pass

-- ---- what is known after it

-- The one definition that lists the fields; it is shut.
unfoldable pub audit_with : State → Waiting → List ℕ → ℕ → ℕ → ℕ → ℕ → Audit
audit_with s w name r d f at =
    record { state = s; waiting = w; name = name; records = r; done = d; fault = f; fault_at = at }

-- The session's name by the first payload; zeros if it is not there.
unfoldable pub name_in : List ℕ → List ℕ
name_in p = pick (nat_lt (length p) 49) (replicate 33 0) (paste (replicate 33 0) 0 (take 33 (drop 16 p)) (length (take 33 (drop 16 p))))

-- Behind the first frame.
abbrev pub started_by : List ℕ → Audit
started_by p = audit_with (fresh_state (settings_read p)) nothing_waiting (name_in p) 0 256 0 0

-- Behind a wrong frame.
abbrev pub wrong_at : Audit → ℕ → ℕ → Audit
wrong_at a f n = audit_with a.state a.waiting a.name a.records a.done f n

-- The number of the end: that of a frame `done`, else the one before.
unfoldable pub done_after : ℕ → ℕ → List ℕ → ℕ
done_after d l p = pick (l == kind_number Done) (pick (length p == 0) d (slice_index p 0)) d

-- How many records there are.
unfoldable pub records_after : ℕ → Bool → ℕ
records_after r handed = pick handed ((r + 1) % 2 ^ 32) r

-- Behind a frame that left the state `s`.
abbrev pub fed_by : Audit → State → EntryRead → Here → List ℕ → Audit
fed_by a s e h p =
    audit_with s (waiting_after a.waiting s e h p) a.name (records_after a.records (is_handed e s.handed)) (done_after a.done
    h.letters p) 0 0

-- ---- the frame

-- What is known, and the stores.
pub record Taken : Type 0 where
  pub audit : Audit
  pub stores : Stores

-- Makes a `Taken`.
abbrev pub taken_as : Audit → Stores → Taken
taken_as a x = record { audit = a; stores = x }

-- An entry was fed.
abbrev pub fed_taken : Audit → EntryRead → Here → List ℕ → Held → Taken
fed_taken a e h p y = taken_as (fed_by a y.state e h p) y.stores

-- What is done with the frame `h` with the payload `p`.
abbrev pub act_done : Act → Audit → Here → List ℕ → Stores → Taken
act_done Pass a h p x = taken_as a x
act_done Start a h p x = taken_as (started_by p) x
act_done (Wrong f) a h p x = taken_as (wrong_at a f h.number) x
act_done (Feed e) a h p x = fed_taken a e h p (frame_done a.state x (entry_with e p))

-- What a frame does.
unfoldable pub frame_taken : Audit → Here → List ℕ → Stores → Taken
frame_taken a h p x = act_done (act_for a.fault h.number h.letters p) a h p x
