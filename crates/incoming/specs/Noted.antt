-- The survey in one pass, as src/survey has it: of ConnectionID, SingleResponseMode and its parameters the first is noted, others are
-- passed over. proofs/Notes says that this is the survey.
use Rattle.std.specs.Prelude.{ℕ, true, false, get_or, eqb}
use Rattle.base.specs.Pick.{pick}
use Rattle.base.specs.Bytes.{be32}
use Rattle.packet.specs.HeaderIds as header_id
use Rattle.packet.specs.Header.{Header}
use Rattle.packet.specs.Modes as modes
use Rattle.incoming.specs.declared.survey.Noted.{Noted}
use Rattle.incoming.specs.declared.survey.Survey.{Survey}

-- Nothing was found yet.
abbrev pub nothing : Noted
nothing =
    record { id = 0; has_id = false; has_mode = false; enable = false; has_parameter = false; additional = false; wait = false }

-- The connection id is noted, unless one was found before.
unfoldable pub note_id : Noted → ℕ → Noted
note_id n id =
    pick n.has_id n
    (record {
      id = id;
      has_id = true;
      has_mode = n.has_mode;
      enable = n.enable;
      has_parameter = n.has_parameter;
      additional = n.additional;
      wait = n.wait;
    })

-- The mode is noted, unless one was found before.
unfoldable pub note_mode : Noted → ℕ → Noted
note_mode n mode =
    pick n.has_mode n
    (record {
      id = n.id;
      has_id = n.has_id;
      has_mode = true;
      enable = eqb mode modes.enable;
      has_parameter = n.has_parameter;
      additional = n.additional;
      wait = n.wait;
    })

-- The parameter is noted, unless one was found before.
unfoldable pub note_parameter : Noted → ℕ → Noted
note_parameter n parameter =
    pick n.has_parameter n
    (record {
      id = n.id;
      has_id = n.has_id;
      has_mode = n.has_mode;
      enable = n.enable;
      has_parameter = true;
      additional = modes.additional parameter;
      wait = modes.wait parameter;
    })

-- One header more is noted.
unfoldable pub note_one : Noted → Header → Noted
note_one n h =
    pick (eqb h.id header_id.connection_id) (note_id n (be32 h.value 0))
    (pick (eqb h.id header_id.single_response_mode) (note_mode n (get_or h.value 0 0))
    (pick (eqb h.id header_id.single_response_mode_parameters) (note_parameter n (get_or h.value 0 0))
    n))

-- The survey of readable headers, from what was noted of them.
abbrev pub survey_noted : Noted → Survey
survey_noted n =
    record { id = n.id; has_id = n.has_id; readable = true; enable = n.enable; additional = n.additional; wait = n.wait }
