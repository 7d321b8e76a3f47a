-- What is logged of an event in the code's words (docs/ARCHIVE.md, "The log"): the frame's kind, what its payload begins with, and the parts that
-- follow it as they were lent; which parts an event may have; and what a call of `content_for` gives.
use Rattle.std.specs.Prelude.{ℕ, ◌%◌, Bool, true, ◌&&◌, not, List, [], ◌∷◌, ◌++◌, ltb, leb, eqb, length, get_or, take, replicate, Ok, Err}
use Rattle.base.specs.Pick.{pick}
use Rattle.base.specs.Bytes.{bytes16}
use Rattle.archive.specs.Writing.{Writing, writing, front}
use Rattle.archive.specs.declared.block.WriteError.TheVariants.{Short, TooLong}
use Rattle.journal.specs.Checks.{bit}
use Rattle.filing.specs.Entries.{LogEntry, received, sent, answered, object, checked, nonce, closed}
use Rattle.filing.specs.Frame.{Content}
use Rattle.filing.specs.Kinds.{letters_of, ids_in, check_pair, end_in, open_row}
use Rattle.filing.specs.declared.frame.Kind.{Kind}
use Rattle.filing.specs.declared.frame.Kind.TheVariants.{Open, Recv, Part, Sent, Answ, Objt, Pass, Nonc, Clos, File, Fail, Done}
use Rattle.filing.specs.declared.content.Event.{Event}
use Rattle.filing.specs.declared.content.Event.TheVariants.{Opened, Received, Broken, Replied, Answered, Given, Checked, Challenged, Closed, Filing, Failed, Ended}

-- The frame of an event.
abbrev pub event_kind : Event → Kind
event_kind (Opened n f) = Open
event_kind Received = Recv
event_kind Broken = Part
event_kind Replied = Sent
event_kind (Answered code) = Answ
event_kind (Given body) = Objt
event_kind (Checked c) = Pass
event_kind Challenged = Nonc
event_kind Closed = Clos
event_kind Filing = File
event_kind Failed = Fail
event_kind (Ended n) = Done

-- What the payload of an event begins with; its first part has `k` bytes.
abbrev pub front_of : Event → ℕ → List ℕ
front_of (Opened n f) k = open_row n f
front_of Received k = []
front_of Broken k = []
front_of Replied k = []
front_of (Answered code) k = code ∷ []
front_of (Given body) k = bit body ∷ bytes16 k
front_of (Checked c) k = check_pair c
front_of Challenged k = []
front_of Closed k = []
front_of Filing k = []
front_of Failed k = []
front_of (Ended n) k = n ∷ []

-- The payload of an event whose parts are the bytes `a`, `b` and `c`.
unfoldable pub payload_for : Event → List ℕ → List ℕ → List ℕ → List ℕ
payload_for e a b c = front_of e (length a) ++ (a ++ (b ++ c))

-- The frame of an event at the clock `t`.
abbrev pub content_by : Event → ℕ → List ℕ → List ℕ → List ℕ → Content
content_by e t a b c = record { kind = letters_of (event_kind e); clock = t; payload = payload_for e a b c }

-- An event may have a first part of `m` bytes and a second of `n`: a session's name has 33 bytes and the realm has as many as were said, an object's
-- headers are counted in two bytes, a nonce has sixteen, an id has four, a record's row has 49, and its Target has 254 at most.
abbrev pub right_parts : Event → ℕ → ℕ → Bool
right_parts (Opened o f) m n = eqb m 33 && eqb n o.realm
right_parts Received m n = true
right_parts Broken m n = true
right_parts Replied m n = true
right_parts (Answered code) m n = true
right_parts (Given body) m n = leb m 65535
right_parts (Checked c) m n = true
right_parts Challenged m n = eqb m 16
right_parts Closed m n = eqb (m % 4) 0
right_parts Filing m n = eqb m 49 && leb n 254
right_parts Failed m n = true
right_parts (Ended o) m n = true

-- The payload of an event written to the front of the store `s`: 10 comes before 13, and neither changes the store.
unfoldable pub content_written : List ℕ → Event → List ℕ → List ℕ → List ℕ → Writing
content_written s e a b c =
    let p = payload_for e a b c in
    pick (ltb (length s) (length p)) (writing (Err Short) s)
    (pick (not (right_parts e (length a) (length b))) (writing (Err TooLong) s) (writing (Ok (length p)) (front p s)))

-- Some bytes with zeros behind them, up to a whole row.
abbrev pub filled_row : List ℕ → List ℕ
filled_row l = take 16 (l ++ replicate 16 0)

-- ---- what the log says of an event

-- The entry that an event with the parts `p` stands for, if it stands for one.
abbrev pub entry_by : Event → List ℕ → List LogEntry
entry_by (Opened n f) p = []
entry_by Received p = received p ∷ []
entry_by Broken p = received p ∷ []
entry_by Replied p = sent (get_or p 0 0) ∷ []
entry_by (Answered code) p = answered code p ∷ []
entry_by (Given body) p = object ∷ []
entry_by (Checked c) p = checked c.right ∷ []
entry_by Challenged p = nonce p ∷ []
entry_by Closed p = closed (ids_in p) ∷ []
entry_by Filing p = []
entry_by Failed p = []
entry_by (Ended n) p = end_in n

-- An event as it is logged: with its clock and its parts.
pub record Noted : Type 0 where
  pub event : Event
  pub clock : ℕ
  pub first : List ℕ
  pub second : List ℕ
  pub third : List ℕ

-- The frames of some events, and the entries that they stand for.
abbrev pub contents_by : List Noted → List Content
contents_by [] = []
contents_by (n ∷ l) = content_by n.event n.clock n.first n.second n.third ∷ contents_by l

abbrev pub entries_by : List Noted → List LogEntry
entries_by [] = []
entries_by (n ∷ l) = entry_by n.event (n.first ++ (n.second ++ n.third)) ++ entries_by l
