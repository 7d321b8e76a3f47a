-- What the writers of packets leave at the front of a store (docs/PROTOCOL.md#packets). A packet over 65,535 bytes has no length field (7).
use Rattle.std.specs.Prelude.{ℕ, ◌-◌, List, [], ◌∷◌, ◌++◌, Bool, length, replicate, ltb, Option, Some, None}
use Rattle.base.specs.Bytes.{bytes16}
use Rattle.packet.specs.declared.opcode.Opcode.{Opcode}
use Rattle.packet.specs.declared.opcode.Opcode.TheVariants as op
use Rattle.packet.specs.declared.packet.Fields.{Fields}
use Rattle.packet.specs.declared.packet.Fields.TheVariants as fields
use Rattle.packet.specs.declared.packet.ConnectParameters.{ConnectParameters}
use Rattle.packet.specs.Limits.{max_packet, min_packet, obex_version}
use Rattle.packet.specs.FirstByte.{byte_of}
use Rattle.packet.specs.Codes.{sent_code}
use Rattle.packet.specs.Flags.{flag_bits}
use Rattle.packet.specs.declared.store.LengthField.TheVariants.{TwoBytes}
use Rattle.packet.specs.Packet.{packet_bytes}
use Rattle.packet.specs.Placed.{Putting, placed}

-- Connect's four bytes: version, flags and limit.
abbrev pub encoded_connect : ConnectParameters → List ℕ
encoded_connect c = c.version ∷ c.flags ∷ bytes16 c.max_packet_length

-- Connect's four bytes; by default version 1.0, no flags, and the smallest limit.
abbrev pub connect_bytes : Fields → List ℕ
connect_bytes fields.Default = obex_version ∷ 0 ∷ bytes16 min_packet
connect_bytes (fields.Connect c) = encoded_connect c
connect_bytes (fields.SetPath f) = obex_version ∷ 0 ∷ bytes16 min_packet

-- SetPath's flags, by default none.
abbrev pub set_path_byte : Fields → ℕ
set_path_byte fields.Default = 0
set_path_byte (fields.Connect c) = 0
set_path_byte (fields.SetPath f) = flag_bits f.backup f.no_create

-- The bytes between length and headers; fields of another operation are ignored. SetPath's second byte, the constants, is 0.
abbrev pub field_bytes : Opcode → Fields → List ℕ
field_bytes op.Connect f = connect_bytes f
field_bytes op.Disconnect f = []
field_bytes op.Put f = []
field_bytes op.Get f = []
field_bytes op.SetPath f = set_path_byte f ∷ 0 ∷ []
field_bytes op.Action f = []
field_bytes op.Session f = []
field_bytes op.Abort f = []
field_bytes (op.UserDefined x) f = []

-- Such bytes in front of zeros, four in all.
abbrev pub filled4 : List ℕ → List ℕ
filled4 l = l ++ replicate (4 - length l) 0

-- The fields of a response: Connect's four bytes, or none.
abbrev pub parameter_bytes : Option ConnectParameters → List ℕ
parameter_bytes None = []
parameter_bytes (Some c) = encoded_connect c

-- A packet goes to the front of the store. A store that is too short (10) is told before a packet over 65,535 bytes (7).
unfoldable pub write_packet : List ℕ → List ℕ → Putting
write_packet store packet = placed store 0 TwoBytes (ltb max_packet (length packet)) packet

-- A request goes to the front of the store.
abbrev pub write_request : List ℕ → Opcode → Bool → Fields → List ℕ → Putting
write_request store o final f headers = write_packet store (packet_bytes (byte_of o final) (field_bytes o f) headers)

-- A response goes to the front of the store.
abbrev pub write_response : List ℕ → ℕ → Option ConnectParameters → List ℕ → Putting
write_response store code connect headers = write_packet store (packet_bytes (sent_code code) (parameter_bytes connect) headers)
