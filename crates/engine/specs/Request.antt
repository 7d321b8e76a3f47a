-- The last whole packet, read again: where its headers start, and those that the answer to a Connect looks for. `proofs/LastPacket.antt`
-- says that they are the model's `last_headers`.
use Rattle.std.specs.Prelude.{ℕ, List, length, get_or, ltb, Option, Some, None}
use Rattle.base.specs.Pick.{pick}
use Rattle.packet.specs.FirstByte.{first_byte}
use Rattle.packet.specs.Packet.{prefix_of}
use Rattle.packet.specs.declared.opcode.FirstByte.{FirstByte}
use Rattle.connection.specs.declared.request.ConnectRequest.{ConnectRequest}
use Rattle.connection.specs.Request.{connect_request}

-- The headers of a packet of `n` bytes start behind the fields of its opcode; if these are not all there, at its end.
abbrev pub from_by : Option FirstByte → ℕ → ℕ
from_by None n = n
from_by (Some b) n = pick (ltb n (prefix_of b.opcode)) n (prefix_of b.opcode)

-- Where the headers of packet `q` start, whether they can be read or not.
unfoldable pub last_from : List ℕ → ℕ
last_from q = from_by (first_byte (get_or q 0 0)) (length q)

-- The headers of packet `q` that the answer to a Connect looks for.
unfoldable pub last_connect : List ℕ → ConnectRequest
last_connect q = connect_request q (last_from q)
