-- The limits of the protocol (IrOBEX 1.5, section 3.1) and of the engine: the numbers of `packet::limits`.
use Rattle.std.specs.Prelude.{ℕ}

-- The longest packet: its length field has 16 bits.
abbrev pub max_packet : ℕ
max_packet = 65535

-- The smallest limit that a device may name, and the one that holds before a Connect.
abbrev pub min_packet : ℕ
min_packet = 255

-- What the longest packet holds after its first three bytes, and a header with a length field after its own three.
abbrev pub max_capacity : ℕ
max_capacity = 65532

-- The longest value under a tag, whose length is one byte.
abbrev pub max_tag_value : ℕ
max_tag_value = 255

-- How many connections the engine keeps open at once.
abbrev pub max_connections : ℕ
max_connections = 64

-- The version of the protocol that Connect names: 1.0.
abbrev pub obex_version : ℕ
obex_version = 0x10

-- The longest realm: a tag's value has 255 bytes at most, and the realm's charset is the first of them.
abbrev pub max_realm : ℕ
max_realm = 254
