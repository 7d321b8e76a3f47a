-- The settings of a session: those of the engine are those that the first frame of the log says (docs/ARCHIVE.md, "The log").
use Rattle.std.specs.Prelude.{◌≡◌, ℕ, List, ◌∷◌}
use Rattle.server.specs.declared.Settings.{Settings}
use Rattle.filing.specs.Kinds.{opened}
use Rattle.filing.specs.declared.payload.OpenFlags.{OpenFlags}
use Rattle.filing.specs.declared.payload.OpenNumbers.{OpenNumbers}
use Rattle.reception.specs.Tells.{opening_with}

-- The engine's settings, by the numbers and flags of the first frame.
abbrev pub settings_by : OpenNumbers → OpenFlags → Settings
settings_by n f =
    record {
      max_object_size = n.limit;
      max_packet_length = n.packet;
      charset = n.charset;
      has_realm = f.has_realm;
      srm_supported = f.srm;
      authentication = f.authentication;
      user_id_required = f.asks_user;
      read_only = f.read_only;
      user_id_enforced = f.enforces_user;
      refuse_trailing = f.refuses;
    }

-- The claim: the first frame is that of a receiver with the engine's settings, of which the theorem on sessions speaks.
abbrev pub OpeningSays : Type 0
OpeningSays =
    (n : OpenNumbers) (f : OpenFlags) (more : List ℕ)
    → opened n f more ≡ opening_with (settings_by n f) (n.charset ∷ n.realm ∷ 0 ∷ 0 ∷ 0 ∷ more)
