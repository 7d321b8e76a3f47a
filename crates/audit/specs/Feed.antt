-- What a frame of the log does to the journal: what its entry does, if it is one (docs/ARCHIVE.md, "The log").
use Rattle.std.specs.Prelude.{ℕ, List, [], ◌∷◌}
use Rattle.filing.specs.Entries.{LogEntry}
use Rattle.journal_code.specs.declared.state.State.{State}
use Rattle.journal_code.specs.Run.{Stores, Held, held, entry_done}

-- The stores that the program lends.
abbrev pub lent : List ℕ → List ℕ → List ℕ → List ℕ → Stores
lent packet headers body tables = record { packet = packet; headers = headers; body = body; tables = tables }

-- What the entry of a frame leaves. A frame that is no entry leaves all as it was.
abbrev pub frame_done : State → Stores → List LogEntry → Held
frame_done s x [] = held s x
frame_done s x (e ∷ es) = entry_done s x e
