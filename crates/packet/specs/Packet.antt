-- Packets (IrOBEX 1.5, sections 3.1 and 3.2; docs/PROTOCOL.md#packets): a first byte, the 16-bit length of the whole, Connect's four bytes
-- or SetPath's two, and headers up to the end.
use Rattle.std.specs.Prelude.{ℕ, ◌+◌, ◌/◌, ◌%◌, List, ◌∷◌, ◌++◌, Bool, length, get_or, take, ltb, eqb}
use Rattle.std.specs.Prelude.{Option as Maybe, Some, None}
use Rattle.std.proofs.Math.Option.{Option, none, some}
use Rattle.base.specs.Pick.{pick}
use Rattle.base.specs.Bytes.{be16, bytes16}
use Rattle.packet.specs.FirstByte.{first_byte}
use Rattle.packet.specs.Header.{Header, read_headers}
use Rattle.packet.specs.declared.opcode.Opcode.{Opcode}
use Rattle.packet.specs.declared.opcode.Opcode.TheVariants.{Connect, Disconnect, Put, Get, SetPath, Action, Session, Abort, UserDefined}
use Rattle.packet.specs.declared.opcode.FirstByte.{FirstByte}

-- How many bytes stand between length and headers.
abbrev pub fields_of : Opcode → ℕ
fields_of Connect = 4
fields_of Disconnect = 0
fields_of Put = 0
fields_of Get = 0
fields_of SetPath = 2
fields_of Action = 0
fields_of Session = 0
fields_of Abort = 0
fields_of (UserDefined x) = 0

-- Where the headers of a request start.
abbrev pub prefix_of : Opcode → ℕ
prefix_of o = 3 + fields_of o

-- A request as read: its opcode, the Final bit, its bytes (for the fields) and its headers.
pub record Request : Type 0 where
  pub opcode : Opcode
  pub final : Bool
  pub bytes : List ℕ
  pub headers : List Header

-- The request with the headers that were read; `none` is unreadable.
abbrev pub request_with : Opcode → Bool → List ℕ → Option (List Header) → Option Request
request_with o f p none = none
request_with o f p (some hs) = some (record { opcode = o; final = f; bytes = p; headers = hs })

-- A whole packet as a request, by its first byte; `none` is unreadable.
abbrev pub request_by : Maybe FirstByte → List ℕ → Option Request
request_by None p = none
request_by (Some b) p =
    pick (ltb (length p) (prefix_of b.opcode)) none (request_with b.opcode b.is_final p (read_headers p (prefix_of b.opcode)))

-- A whole packet as a request, whatever its length field says; `none` is unreadable.
unfoldable pub request_of : List ℕ → Option Request
request_of p = request_by (first_byte (get_or p 0 0)) p

-- The packet at the front of some bytes as a request, by its length field; `none` is unreadable.
unfoldable pub request_at : List ℕ → Option Request
request_at s =
    pick (ltb (length s) 3) none
    (pick (ltb (be16 s 1) 3) none
    (pick (ltb (length s) (be16 s 1)) none (request_of (take (be16 s 1) s))))

-- The largest packet that the sender of a Connect can receive: its fields are version, flags and this limit.
unfoldable pub connect_limit : List ℕ → ℕ
connect_limit p = be16 p 5

-- SetPath's flag bit 0: the path goes up a level before the name is applied.
unfoldable pub backup : List ℕ → Bool
backup p = eqb (get_or p 3 0 % 2) 1

-- SetPath's flag bit 1: a folder that does not exist is not created.
unfoldable pub no_create_of : List ℕ → Bool
no_create_of p = eqb (get_or p 3 0 / 2 % 2) 1

-- The bytes of a packet: first byte, length of the whole, fields, headers.
unfoldable pub packet_bytes : ℕ → List ℕ → List ℕ → List ℕ
packet_bytes b fields hs = b ∷ (bytes16 (3 + length fields + length hs) ++ (fields ++ hs))
