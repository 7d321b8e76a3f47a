-- The source's settings (its `ServerConfig` and the engine's defaults).
use Rattle.std.specs.Prelude.{ℕ, Bool, false}
use Rattle.packet.specs.Limits.{max_packet}
use Rattle.server.specs.declared.Settings.{Settings}

-- The source's settings, but for the Put limit, and for whether the engine refuses what trails a Put that was too long, which the source
-- does not know.
abbrev pub settings_with : ℕ → Bool → Settings
settings_with limit refuse =
    record {
      max_object_size = limit;
      max_packet_length = max_packet;
      charset = 0;
      has_realm = false;
      srm_supported = false;
      authentication = false;
      user_id_required = false;
      read_only = false;
      user_id_enforced = false;
      refuse_trailing = refuse;
    }

-- The source's settings, but for the Put limit, which the host chooses.
abbrev pub default_settings : ℕ → Settings
default_settings limit = settings_with limit false
