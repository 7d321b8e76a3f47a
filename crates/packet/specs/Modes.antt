-- The one-byte values of the Single Response Mode (SRM) headers (IrOBEX 1.5, section 3.3) and of Action Id, and the Permissions
-- (docs/PROTOCOL.md#modes).
use Rattle.std.specs.Prelude.{Bool, ◌&&◌, ◌||◌, [], ◌∷◌, ℕ, ◌%◌, ◌^◌, leb}
use Rattle.packet.specs.Codes.{member}

-- ---- Single Response Mode

-- The sender asks that SRM is disabled.
abbrev pub disable : ℕ
disable = 0

-- The sender asks for SRM, or confirms it.
abbrev pub enable : ℕ
enable = 1

-- The sender supports SRM, without enabling it.
abbrev pub supported : ℕ
supported = 2

-- The byte is a value of the Single Response Mode header.
unfoldable pub is_mode : ℕ → Bool
is_mode b = member b (disable ∷ enable ∷ supported ∷ [])

-- ---- Single Response Mode Parameters

-- The sender asks for one additional packet.
abbrev pub additional_packet : ℕ
additional_packet = 0

-- The other side must wait for the next packet from the sender.
abbrev pub waiting : ℕ
waiting = 1

-- The sender asks for both.
abbrev pub additional_packet_and_waiting : ℕ
additional_packet_and_waiting = 2

-- The byte is a value of the Single Response Mode Parameters header.
unfoldable pub is_parameter : ℕ → Bool
is_parameter b = member b (additional_packet ∷ waiting ∷ additional_packet_and_waiting ∷ [])

-- The parameter asks for an additional packet.
unfoldable pub additional : ℕ → Bool
additional b = member b (additional_packet ∷ additional_packet_and_waiting ∷ [])

-- The parameter asks the other side to wait.
unfoldable pub wait : ℕ → Bool
wait b = member b (waiting ∷ additional_packet_and_waiting ∷ [])

-- ---- Action Id and Permissions

-- The byte is an action: 0 Copy, 1 Move or Rename, 2 Set Permissions, 0x80 to 0xFF vendor specific.
unfoldable pub is_action : ℕ → Bool
is_action b = member b (0 ∷ 1 ∷ 2 ∷ []) || (leb 0x80 b && leb b 0xFF)

-- The Permissions that a number of four bytes says: user, group and other in the low three. A reader drops the top byte, and a writer
-- writes it as 0.
abbrev pub permissions_of : ℕ → ℕ
permissions_of n = n % 2 ^ 24
