-- The first byte of a request (IrOBEX 1.5, section 3.4; docs/PROTOCOL.md#first-byte): its opcode and the Final bit.
use Rattle.std.specs.Prelude.{Bool, true, false, ◌&&◌, ◌||◌, List, [], ◌∷◌, map, ℕ, zero, suc, ◌+◌, ◌%◌, eqb, leb, Option, Some, None, Result, Ok, Err, codes}
use Rattle.base.specs.Pick.{pick}
use Rattle.packet.specs.declared.opcode.Opcode.{Opcode}
use Rattle.packet.specs.declared.opcode.Opcode.TheVariants.{Connect, Disconnect, Put, Get, SetPath, Action, Session, Abort, UserDefined}
use Rattle.packet.specs.declared.opcode.FirstByte.{FirstByte}
use Rattle.packet.specs.declared.opcode.UnknownOpcode.{UnknownOpcode}

-- The number of an opcode, without the Final bit.
abbrev pub value_of : Opcode → ℕ
value_of Connect = 0x00
value_of Disconnect = 0x01
value_of Put = 0x02
value_of Get = 0x03
value_of SetPath = 0x05
value_of Action = 0x06
value_of Session = 0x07
value_of Abort = 0x7F
value_of (UserDefined x) = x

-- The name of an operation, as programs print it; those that an application defines have one name.
abbrev pub name_of : Opcode → List ℕ
name_of Connect = codes "connect"
name_of Disconnect = codes "disconnect"
name_of Put = codes "put"
name_of Get = codes "get"
name_of SetPath = codes "set_path"
name_of Action = codes "action"
name_of Session = codes "session"
name_of Abort = codes "abort"
name_of (UserDefined x) = codes "user_defined"

-- A first byte that names the opcode `o`, with the Final bit or without it.
abbrev pub known_byte : Opcode → Bool → Option FirstByte
known_byte o final = Some (record { opcode = o; is_final = final })

-- What a value of five bits names, if it names an opcode.
unfoldable pub named : ℕ → Bool → Option FirstByte
named x final =
    pick (eqb x (value_of Connect)) (known_byte Connect final)
    (pick (eqb x (value_of Disconnect)) (known_byte Disconnect final)
    (pick (eqb x (value_of Put)) (known_byte Put final)
    (pick (eqb x (value_of Get)) (known_byte Get final)
    (pick (eqb x (value_of SetPath)) (known_byte SetPath final)
    (pick (eqb x (value_of Action)) (known_byte Action final)
    (pick (eqb x (value_of Session)) (known_byte Session final)
    (pick (leb 0x10 x && leb x 0x1F) (known_byte (UserDefined x) final)
    None)))))))

-- The opcode with the number `x`, or an error if there is none.
unfoldable pub opcode_numbered : ℕ → Result Opcode UnknownOpcode
opcode_numbered x =
    pick (eqb x (value_of Abort)) (Ok Abort)
    (pick (eqb x (value_of Connect)) (Ok Connect)
    (pick (eqb x (value_of Disconnect)) (Ok Disconnect)
    (pick (eqb x (value_of Put)) (Ok Put)
    (pick (eqb x (value_of Get)) (Ok Get)
    (pick (eqb x (value_of SetPath)) (Ok SetPath)
    (pick (eqb x (value_of Action)) (Ok Action)
    (pick (eqb x (value_of Session)) (Ok Session)
    (pick (leb 0x10 x && leb x 0x1F) (Ok (UserDefined x))
    (Err (record {}))))))))))

-- What the first byte of a request says: the top bit is the Final bit; low seven bits that are all ones are Abort; any other byte names an
-- opcode by its low five bits, or none.
unfoldable pub first_byte : ℕ → Option FirstByte
first_byte b = pick (eqb (b % 128) (value_of Abort)) (known_byte Abort (leb 0x80 b)) (named (b % 32) (leb 0x80 b))

-- The number that stands for what a first byte says: the opcode's, with the Final bit if the packet is final; 0x40, which is the number of
-- no opcode, if the byte is unknown.
abbrev pub entry_of : Option FirstByte → ℕ
entry_of (Some b) = pick b.is_final (value_of b.opcode + 0x80) (value_of b.opcode)
entry_of None = 0x40

-- What such a number says: the top bit is the Final bit, and the other seven are the number of the opcode.
unfoldable pub entry_says : ℕ → Option FirstByte
entry_says n = pick (eqb (n % 128) (value_of Abort)) (known_byte Abort (leb 0x80 n)) (named (n % 128) (leb 0x80 n))

-- The `n` numbers from `b` on.
unfoldable pub numbers_from : ℕ → ℕ → List ℕ
numbers_from b zero = []
numbers_from b (suc n) = b ∷ numbers_from (suc b) n

-- The table of first bytes: the numbers for what each byte from 0x00 to 0xFF says.
unfoldable pub first_byte_table : List ℕ
first_byte_table = map (λ b. entry_of (first_byte b)) (numbers_from 0x00 256)

-- The opcode is always sent with the Final bit.
abbrev pub always_final : Opcode → Bool
always_final Connect = true
always_final Disconnect = true
always_final Put = false
always_final Get = false
always_final SetPath = true
always_final Action = false
always_final Session = true
always_final Abort = true
always_final (UserDefined x) = false

-- The byte `n` with its top bit set.
abbrev pub top_bit : ℕ → ℕ
top_bit n = n % 128 + 0x80

-- The byte that is sent for an opcode: with the top bit if it is final or always so.
unfoldable pub byte_of : Opcode → Bool → ℕ
byte_of o final = pick (final || always_final o) (top_bit (value_of o)) (value_of o)

-- 1 for a UserDefined, 0 for a named opcode.
abbrev pub kind_of : Opcode → ℕ
kind_of Connect = 0
kind_of Disconnect = 0
kind_of Put = 0
kind_of Get = 0
kind_of SetPath = 0
kind_of Action = 0
kind_of Session = 0
kind_of Abort = 0
kind_of (UserDefined x) = 1

-- Two opcodes are the same; two UserDefined are if they hold the same value.
unfoldable pub same_opcode : Opcode → Opcode → Bool
same_opcode a b = eqb (kind_of a) (kind_of b) && eqb (value_of a) (value_of b)
