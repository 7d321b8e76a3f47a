-- What is noted of a call in the log: an event and its bytes, by the decision from which the call was made and by what it returned. A packet is
-- noted once it is whole, from the packet store; one that breaks off is noted when the session ends.
use Rattle.std.specs.Prelude.{ℕ, ◌+◌, Bool, true, false, List, [], ◌∷◌, ◌++◌, ltb, leb, eqb, take}
use Rattle.base.specs.Pick.{pick}
use Rattle.digest.specs.Md5.{octets16}
use Rattle.server.specs.declared.CallResult.{CallResult}
use Rattle.server.specs.declared.End.TheVariants as end
use Rattle.server.specs.declared.Outcome.{Outcome}
use Rattle.server.specs.declared.Outcome.TheVariants as outcome
use Rattle.model.specs.Step.{Stores}
use Rattle.model.specs.Runs.{State, Performed}
use Rattle.filing.specs.Entries.{LogEntry, received}
use Rattle.filing.specs.Contents.{entry_by}
use Rattle.packet.specs.Limits.{max_packet}
use Rattle.filing.specs.declared.content.Event.{Event}
use Rattle.filing.specs.declared.content.Event.TheVariants.{Received, Broken, Replied, Answered, Given, Checked, Challenged, Ended}
use Rattle.reception.specs.Answers.{length_header}
use Rattle.reception.specs.Received.{last_right}
use Rattle.reception.specs.declared.answer.Secret.{Secret}
use Rattle.reception.specs.declared.answer.Secret.TheVariants as secret
use Rattle.reception.specs.declared.answer.Answer.{Answer}
use Rattle.reception.specs.declared.answer.Answer.TheVariants as answer
use Rattle.reception.specs.declared.note.Part.{Part}
use Rattle.reception.specs.declared.note.Part.TheVariants as part
use Rattle.reception.specs.declared.note.Note.{Note}
use Rattle.reception.specs.declared.note.Note.TheVariants as note

-- ---- what a call returned

-- The call was refused.
abbrev pub is_refused : Outcome → Bool
is_refused (outcome.Refused r) = true
is_refused outcome.WantsBytes = false
is_refused (outcome.Reply n) = false
is_refused (outcome.Request r) = false
is_refused (outcome.End n) = false

-- A packet has begun, with so many bytes, and goes on.
abbrev pub is_unfinished : Outcome → ℕ → Bool
is_unfinished outcome.WantsBytes begun = ltb 0 begun
is_unfinished (outcome.Reply n) begun = false
is_unfinished (outcome.Request r) begun = false
is_unfinished (outcome.End n) begun = false
is_unfinished (outcome.Refused r) begun = false

-- The session ends, since a packet's length is under 3.
abbrev pub is_too_small : Outcome → Bool
is_too_small (outcome.End end.LengthTooSmall) = true
is_too_small (outcome.End end.Disconnected) = false
is_too_small (outcome.End end.Truncated) = false
is_too_small (outcome.End end.Unreadable) = false
is_too_small (outcome.End end.OtherOperation) = false
is_too_small (outcome.End end.HeadersTooLarge) = false
is_too_small (outcome.End end.ReplyTooLarge) = false
is_too_small outcome.WantsBytes = false
is_too_small (outcome.Reply n) = false
is_too_small (outcome.Request r) = false
is_too_small (outcome.Refused r) = false

-- ---- the note

-- The check was stopped over all connections.
abbrev pub is_check_stopped : Secret → Bool
is_check_stopped secret.Stopped = true
is_check_stopped secret.Known = false
is_check_stopped secret.Unknown = false

-- The number of the end of the stream.
abbrev pub end_number_at : ℕ → ℕ
end_number_at begun = pick (eqb begun 0) 1 2

-- How many bytes of a packet have come: `begun` before a call that took `taken`, and no more than a packet can have.
unfoldable pub total : ℕ → ℕ → ℕ
total begun taken = pick (leb (begun + taken) max_packet) (begun + taken) max_packet

-- The event of a packet that has come.
abbrev pub packet_event : Outcome → Event
packet_event o = pick (is_too_small o) Broken Received

-- What is noted of bytes that were offered behind `begun` ones.
unfoldable pub packet_note : ℕ → CallResult → Note
packet_note begun r =
    pick (is_unfinished r.outcome r.engine.begun) note.Nothing
    (note.Event (packet_event r.outcome) (part.Packet (total begun r.taken)))

-- What is noted of a call that goes, `begun` bytes of a packet having come before it.
abbrev pub note_by : Answer → ℕ → CallResult → Note
note_by answer.Offer begun r = packet_note begun r
note_by answer.End begun r = note.Event (Ended (end_number_at begun)) part.Nothing
note_by answer.Sent begun r = note.Event Replied part.Reply
note_by (answer.Reply code) begun r = note.Event (Answered code) part.Nothing
note_by (answer.Object size) begun r = note.Event (Given true) (part.Length size)
note_by answer.Body begun r = note.Nothing
note_by answer.BodyFailed begun r = note.Nothing
note_by answer.Acknowledge begun r = note.Nothing
note_by (answer.Password s) begun r =
    note.Event (Checked (record { right = last_right r.engine.peer.window; stopped = is_check_stopped s })) part.Nothing
note_by (answer.Nonce n) begun r = note.Event Challenged (part.Nonce n)
note_by (answer.Credentials user) begun r = note.Nothing
note_by answer.NoCredentials begun r = note.Nothing

-- What is noted of a call: nothing of one that was refused.
abbrev pub note_made : Answer → ℕ → CallResult → Note
note_made a begun r = pick (is_refused r.outcome) note.Nothing (note_by a begun r)

-- The stream has ended.
abbrev pub is_end : Answer → Bool
is_end answer.End = true
is_end answer.Offer = false
is_end answer.Sent = false
is_end (answer.Reply code) = false
is_end (answer.Object size) = false
is_end answer.Body = false
is_end answer.BodyFailed = false
is_end answer.Acknowledge = false
is_end (answer.Password s) = false
is_end (answer.Nonce n) = false
is_end (answer.Credentials user) = false
is_end answer.NoCredentials = false

-- How many bytes of a packet break off, of which `begun` had come.
abbrev pub broken_for : Answer → ℕ → CallResult → ℕ
broken_for a begun r = pick (is_refused r.outcome) 0 (pick (is_end a) begun 0)

-- ---- the entries

-- The bytes of a part, by the stores before the call and after it.
abbrev pub part_bytes : Part → Stores → Stores → List ℕ
part_bytes part.Nothing before after = []
part_bytes (part.Packet n) before after = take n after.packet
part_bytes part.Reply before after = before.reply
part_bytes (part.Length n) before after = length_header n
part_bytes (part.Nonce n) before after = octets16 n

-- The entry that a note stands for.
abbrev pub note_entries : Note → Stores → Stores → List LogEntry
note_entries note.Nothing before after = []
note_entries (note.Event v p) before after = entry_by v (part_bytes p before after)

-- The bytes of a packet, as an entry if there are any.
abbrev pub pending : List ℕ → List LogEntry
pending [] = []
pending (b ∷ l) = received (b ∷ l) ∷ []

-- What a call adds to the log, made of the decision `a` on the state `s`.
abbrev pub logged_at : State → Answer → Performed → List LogEntry
logged_at s a x =
    pending (take (broken_for a s.engine.begun x.result) s.stores.packet)
    ++ note_entries (note_made a s.engine.begun x.result) s.stores x.stores
