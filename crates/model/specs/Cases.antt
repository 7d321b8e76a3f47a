-- The proved cases, P1 to P12 (docs/PROTOCOL.md#proved-cases), as one table of rows: what is given, and what the definitions make of it.
use Rattle.std.specs.Prelude.{ℕ, List, [], ◌∷◌, ◌++◌, true, false, take, replicate, Option}
use Rattle.std.proofs.Math.Option.{none, some}
use Rattle.text.specs.Unicode.{scalars16}
use Rattle.packet.specs.FirstByte.{known_byte, first_byte}
use Rattle.packet.specs.declared.opcode.FirstByte.{FirstByte}
use Rattle.packet.specs.declared.opcode.Opcode.TheVariants as op
use Rattle.journal.specs.Ids.{new_id}
use Rattle.journal.specs.Record.{Record}
use Rattle.journal.specs.Calls.{Call, bytes_offered_of, reply_taken_of, object_given_of, body_given_of}
use Rattle.table.specs.Places.{table_length}
use Rattle.model.specs.Step.{Stores}
use Rattle.model.specs.Calls.{started}
use Rattle.server.specs.Settings.{settings_with, default_settings}
use Rattle.server.specs.declared.Settings.{Settings}
use Rattle.model.specs.Runs.{State, step_of, state_of, handed}
use Rattle.server.specs.declared.Outcome.{Outcome}
use Rattle.server.specs.declared.Outcome.TheVariants as outcome

-- The source's settings with a Put limit, but what trails a Put that was too long is refused with it.
abbrev pub refusing_settings : ℕ → Settings
refusing_settings limit = settings_with limit true

-- A fresh engine with some settings, and stores of zeros.
abbrev pub fresh_with : Settings → State
fresh_with st =
    record {
      engine = started st;
      stores =
          record {
            packet = replicate 65535 0;
            headers = replicate 65535 0;
            body = replicate st.max_object_size 0;
            reply = replicate 65535 0;
          };
      tables = replicate table_length 0;
    }

-- A fresh engine with a Put limit and else the source's settings.
abbrev pub fresh_state : ℕ → State
fresh_state limit = fresh_with (default_settings limit)

-- The state after a call, by the model's step.
abbrev pub next_state : State → Call → State
next_state s c = state_of (step_of s c)

-- The records that calls hand over.
abbrev pub records_by : State → List Call → List Record
records_by s [] = []
records_by s (c ∷ cs) = handed (step_of s c).took.outcome (step_of s c).stores ++ records_by (next_state s c) cs

-- The reply that a call makes, if it makes one.
abbrev pub reply_in : Outcome → Stores → List (List ℕ)
reply_in (outcome.Reply n) s = take n s.reply ∷ []
reply_in outcome.WantsBytes s = []
reply_in (outcome.Request r) s = []
reply_in (outcome.End n) s = []
reply_in (outcome.Refused n) s = []

-- The replies that calls make, in order.
abbrev pub replies : State → List Call → List (List ℕ)
replies s [] = []
replies s (c ∷ cs) = reply_in (step_of s c).took.outcome (step_of s c).stores ++ replies (next_state s c) cs

-- What is given: a first byte; open ids and a counter; bytes of text; calls on a fresh engine with a Put limit; or such calls if what
-- trails a Put that was too long is refused.
pub data Given : Type 0 where
  byte : ℕ → Given
  counter : List ℕ → ℕ → Given
  text : List ℕ → Given
  calls : ℕ → List Call → Given
  refusing : ℕ → List Call → Given

-- What comes of what is given: an operation; an id; scalar values; or replies and records.
pub data Comes : Type 0 where
  operation : Option FirstByte → Comes
  id : ℕ → Comes
  scalars : List ℕ → Comes
  session : List (List ℕ) → List Record → Comes

-- What the definitions make of what is given.
unfoldable pub comes_of : Given → Comes
comes_of (byte b) = operation (first_byte b)
comes_of (counter ids c) = id (new_id ids c)
comes_of (text s) = scalars (scalars16 s)
comes_of (calls limit cs) = session (replies (fresh_state limit) cs) (records_by (fresh_state limit) cs)
comes_of (refusing limit cs) = session (replies (fresh_with (refusing_settings limit)) cs) (records_by (fresh_with (refusing_settings limit)) cs)

-- A row of the table.
pub record Row : Type 0 where
  pub given : Given
  pub comes : Comes

-- Makes a `Row`.
abbrev pub row : Given → Comes → Row
row g c = record { given = g; comes = c }

-- The row with what the definitions make of what it is given.
unfoldable pub evaluated : Row → Row
evaluated r = row r.given (comes_of r.given)

-- The record of a Put with the body `b` and no kept headers.
abbrev pub put_body : List ℕ → Record
put_body b = record { headers = []; body = some b }

-- The cases.
abbrev pub table : List Row
table =
    -- P1, P2
    row (byte 0xE2) (operation (known_byte op.Put true))
    ∷ row (byte 0x22) (operation (known_byte op.Put false))
    ∷ row (byte 0x7F) (operation (known_byte op.Abort false))
    ∷ row (byte 0xFF) (operation (known_byte op.Abort true))
    ∷ row (byte 0x1F) (operation (known_byte (op.UserDefined 0x1F) false))
    -- P3, P4
    ∷ row (calls 8 (bytes_offered_of (0x84 ∷ 0x00 ∷ 0x03 ∷ []) ∷ [])) (session ((0xD1 ∷ 0x00 ∷ 0x03 ∷ []) ∷ []) [])
    ∷ row (calls 8 (bytes_offered_of (0x82 ∷ 0x00 ∷ 0x06 ∷ 0x48 ∷ 0x00 ∷ 0x02 ∷ []) ∷ [])) (session ((0xC0 ∷ 0x00 ∷ 0x03 ∷ []) ∷ []) [])
    -- P5, P6
    ∷ row (calls 8 (bytes_offered_of (0x82 ∷ 0x00 ∷ 0x0A ∷ 0x48 ∷ 0x00 ∷ 0x04 ∷ 0x41 ∷ 0x49 ∷ 0x00 ∷ 0x03 ∷ []) ∷ []))
    (session [] (put_body (0x41 ∷ []) ∷ []))
    ∷ row (calls 8 (bytes_offered_of (0x82 ∷ 0x00 ∷ 0x03 ∷ []) ∷ [])) (session [] (record { headers = []; body = none } ∷ []))
    ∷ row (calls 8 (bytes_offered_of (0x82 ∷ 0x00 ∷ 0x06 ∷ 0x49 ∷ 0x00 ∷ 0x03 ∷ []) ∷ [])) (session [] (put_body [] ∷ []))
    -- P7: limit 2; P8: limit 1, without and with the setting that refuses what trails
    ∷ row
    (calls 2 (bytes_offered_of (0x02 ∷ 0x00 ∷ 0x08 ∷ 0x48 ∷ 0x00 ∷ 0x05 ∷ 0x41 ∷ 0x42 ∷ []) ∷ reply_taken_of
    ∷ bytes_offered_of (0x82 ∷ 0x00 ∷ 0x07 ∷ 0x49 ∷ 0x00 ∷ 0x04 ∷ 0x43 ∷ []) ∷ []))
    (session ((0x90 ∷ 0x00 ∷ 0x03 ∷ []) ∷ (0xCD ∷ 0x00 ∷ 0x03 ∷ []) ∷ []) [])
    ∷ row
    (calls 1 (bytes_offered_of (0x02 ∷ 0x00 ∷ 0x08 ∷ 0x48 ∷ 0x00 ∷ 0x05 ∷ 0x41 ∷ 0x42 ∷ []) ∷ reply_taken_of
    ∷ bytes_offered_of (0x82 ∷ 0x00 ∷ 0x07 ∷ 0x49 ∷ 0x00 ∷ 0x04 ∷ 0x43 ∷ []) ∷ []))
    (session ((0xCD ∷ 0x00 ∷ 0x03 ∷ []) ∷ []) (put_body (0x43 ∷ []) ∷ []))
    ∷ row
    (refusing 1 (bytes_offered_of (0x02 ∷ 0x00 ∷ 0x08 ∷ 0x48 ∷ 0x00 ∷ 0x05 ∷ 0x41 ∷ 0x42 ∷ []) ∷ reply_taken_of
    ∷ bytes_offered_of (0x82 ∷ 0x00 ∷ 0x07 ∷ 0x49 ∷ 0x00 ∷ 0x04 ∷ 0x43 ∷ []) ∷ []))
    (session ((0xCD ∷ 0x00 ∷ 0x03 ∷ []) ∷ (0xCD ∷ 0x00 ∷ 0x03 ∷ []) ∷ []) [])
    -- P9: the counter at its end; 0 open
    ∷ row (counter [] 4294967295) (id 0)
    ∷ row (counter (0 ∷ []) 4294967295) (id 1)
    -- P10
    ∷ row (calls 8 (bytes_offered_of (0x81 ∷ 0x00 ∷ 0x08 ∷ 0xCB ∷ 0x00 ∷ 0x00 ∷ 0x00 ∷ 0x07 ∷ []) ∷ [])) (session ((0xD3 ∷ 0x00 ∷ 0x03 ∷ []) ∷ []) [])
    -- P11
    ∷ row (text (0xD8 ∷ 0x00 ∷ 0x00 ∷ 0x41 ∷ [])) (scalars (0xFFFD ∷ 0x0041 ∷ []))
    -- P12: a Get of 249 body bytes, and of 250
    ∷ row (calls 8 (bytes_offered_of (0x83 ∷ 0x00 ∷ 0x03 ∷ []) ∷ object_given_of [] true ∷ body_given_of (replicate 249 0x61) ∷ body_given_of [] ∷ []))
    (session ((0xA0 ∷ 0x00 ∷ 0xFF ∷ 0x49 ∷ 0x00 ∷ 0xFC ∷ replicate 249 0x61) ∷ []) [])
    ∷ row
    (calls 8 (bytes_offered_of (0x83 ∷ 0x00 ∷ 0x03 ∷ []) ∷ object_given_of [] true ∷ body_given_of (replicate 250 0x61)
    ∷ reply_taken_of ∷ bytes_offered_of (0x83 ∷ 0x00 ∷ 0x03 ∷ []) ∷ body_given_of [] ∷ []))
    (session ((0x90 ∷ 0x00 ∷ 0xFF ∷ 0x48 ∷ 0x00 ∷ 0xFC ∷ replicate 249 0x61) ∷ (0xA0 ∷ 0x00 ∷ 0x07 ∷ 0x49 ∷ 0x00 ∷ 0x04 ∷ 0x61 ∷ []) ∷ []) [])
    ∷ []
