-- A log read frame by frame, as the program does it, and the claim that it hands over what an auditor makes of the log: `frame_done` is what the
-- contract of the program's function on a frame says.
use Rattle.std.specs.Prelude.{◌≡◌, ℕ, List, [], ◌∷◌, ◌++◌, ◌≢◌}
use Rattle.filing.specs.Frame.{Content}
use Rattle.filing.specs.Reading.{read_log}
use Rattle.filing.specs.Kinds.{entry_in, entries_in, audited}
use Rattle.filing.specs.Entries.{LogEntry, Handed}
use Rattle.journal_code.specs.declared.state.State.{State}
use Rattle.journal_code.specs.State.{fresh_state}
use Rattle.journal_code.specs.Run.{Stores, Held, held, entry_done, handed_in}
use Rattle.journal_code.specs.Claims.{Lent, AllOctets, settings_read}
use Rattle.audit.specs.Feed.{frame_done}

-- The record that a frame hands over, if it does, by its entry.
abbrev pub frame_hands : State → Stores → List LogEntry → List Handed
frame_hands s x [] = []
frame_hands s x (e ∷ es) = handed_in (entry_done s x e)

-- The state and the stores after some frames.
abbrev pub frames_done : State → Stores → List Content → Held
frames_done s x [] = held s x
frames_done s x (c ∷ cs) = frames_done (frame_done s x (entry_in c)).state (frame_done s x (entry_in c)).stores cs

-- The records that they hand over.
abbrev pub frames_hand : State → Stores → List Content → List Handed
frames_hand s x [] = []
frames_hand s x (c ∷ cs) =
    frame_hands s x (entry_in c) ++ frames_hand (frame_done s x (entry_in c)).state (frame_done s x (entry_in c)).stores cs

-- What the frames behind the first hand over, one by one, is what an auditor makes of the log's bytes, unless the kept headers of a Put passed
-- 65,535 bytes.
abbrev pub AuditRight : Type 0
AuditRight =
    (bytes : List ℕ) (c : Content) (cs : List Content) (x : Stores) → (read_log bytes).contents ≡ c ∷ cs
    → Lent (settings_read c.payload).limit x → AllOctets (entries_in cs)
    → ((frames_done (fresh_state (settings_read c.payload)) x cs).state.number ≢ 6)
    → frames_hand (fresh_state (settings_read c.payload)) x cs ≡ audited (read_log bytes).contents
