-- What `rewritten` says is what the functions do: a value that their reader reads and their writer writes again (docs/PROTOCOL.md#headers).
-- The left sides are those of the contracts of `decode_unicode` and `put_unicode`, `decode_ascii` with `put_type` and `put_time`, and
-- `be32_at` with `permissions` and `put_u32`.
use Rattle.std.specs.Prelude.{ℕ, ◌<◌, ◌≡◌, List, [], ◌∷◌, ◌++◌, length}
use Rattle.base.specs.Bytes.{be32, bytes32}
use Rattle.text.specs.Unicode.{lossy, Octets}
use Rattle.text.specs.Text.{unicode_text, ascii_text}
use Rattle.packet.specs.HeaderIds as header_id
use Rattle.packet.specs.Modes.{permissions_of}
use Rattle.packet.specs.Canonical.{terminated16, rewritten}

-- A value that is read and written again becomes what `rewritten` says, for each kind of value that may change so.
pub record Rewriting : Type 0 where
  -- The text of an id below 0x40.
  pub unicode : (id : ℕ) (v : List ℕ) → id < 0x40 → Octets v → terminated16 (lossy (unicode_text v)) ≡ rewritten id v
  -- Type and Time.
  pub type : (v : List ℕ) → ascii_text (ascii_text v) ++ (0 ∷ []) ≡ rewritten header_id.type v
  pub time : (v : List ℕ) → ascii_text (ascii_text v) ≡ rewritten header_id.time v
  -- Permissions, a value of four bytes.
  pub permissions : (v : List ℕ) → length v ≡ 4 → Octets v → bytes32 (permissions_of (be32 v 0)) ≡ rewritten header_id.permissions v
