-- What the engine asks of the headers of every packet (docs/PROTOCOL.md#admission, #put, #get; the source's engine/server.rs): the first
-- ConnectionID, the first SingleResponseMode and its first parameters.
use Rattle.std.specs.Prelude.{ℕ, List, Bool, true, false, get_or}
use Rattle.std.proofs.Math.Option.{Option, none, some}
use Rattle.base.specs.Bytes.{be32}
use Rattle.packet.specs.HeaderIds as header_id
use Rattle.packet.specs.Header.{Header, first}
pub use Rattle.packet.specs.Header.{present}
use Rattle.packet.specs.Modes.{additional, wait}
use Rattle.journal.specs.Journal.{is_enable}
use Rattle.incoming.specs.declared.survey.Survey.{Survey}

-- The connection id that a header names, 0 if there is none.
abbrev pub id_of : Option (List ℕ) → ℕ
id_of none = 0
id_of (some v) = be32 v 0

-- The first parameter passes a test.
abbrev pub tests : (ℕ → Bool) → Option (List ℕ) → Bool
tests f none = false
tests f (some v) = f (get_or v 0 0)

-- The survey of headers that can be read.
abbrev pub survey_list : List Header → Survey
survey_list hs =
    record {
      id = id_of (first header_id.connection_id hs);
      has_id = present (first header_id.connection_id hs);
      readable = true;
      enable = is_enable (first header_id.single_response_mode hs);
      additional = tests additional (first header_id.single_response_mode_parameters hs);
      wait = tests wait (first header_id.single_response_mode_parameters hs);
    }

-- The survey of headers that cannot be read: the engine asks nothing more of them.
abbrev pub unreadable_survey : Survey
unreadable_survey = record { id = 0; has_id = false; readable = false; enable = false; additional = false; wait = false }

-- The survey of what a packet reads as.
unfoldable pub survey_of : Option (List Header) → Survey
survey_of none = unreadable_survey
survey_of (some hs) = survey_list hs
