-- The client's last packet, read again for an answer that comes in a later call.
use Rattle.std.specs.Prelude.{ℕ, ◌+◌, List, take}
use Rattle.std.proofs.Math.Option.{Option}
use Rattle.base.specs.Place.{Place, span, Some, None}
use Rattle.packet.specs.HeaderIds as header_id
use Rattle.packet.specs.Tags.{last_value}
use Rattle.packet.specs.Header.{Header, first, first_place, part}
use Rattle.packet.specs.Packet.{request_of}
use Rattle.packet.specs.Auth.{Response, realm_place}
use Rattle.journal.specs.Journal.{response_in, headers_of as headersIn}
use Rattle.server.specs.declared.Engine.{Engine}
use Rattle.model.specs.Step.{Stores}

-- The last whole packet, at the front of the packet store.
unfoldable pub last_packet : Engine → Stores → List ℕ
last_packet e s = take e.length s.packet

-- The headers of the last packet; none if it cannot be read.
unfoldable pub last_headers : Engine → Stores → List Header
last_headers e s = headersIn (request_of (last_packet e s))

-- The first AuthenticateResponse of the last packet, if it can be read.
unfoldable pub client_response : Engine → Stores → Option Response
client_response e s = response_in (first header_id.authenticate_response (last_headers e s))

-- A place in the part of the packet that begins at `n`, as a place in the packet.
abbrev pub placed_at : ℕ → Place → Place
placed_at n None = None
placed_at n (Some p) = span (n + p.start) (n + p.end)

-- Where the user id of the response stands in the packet.
abbrev pub user_in : List ℕ → Place → Place
user_in q None = None
user_in q (Some p) = placed_at p.start (last_value (part q p.start p.end) 1)

-- Where the user id of a Connect's first AuthenticateResponse stands in the packet. A Connect's headers start at place 7.
unfoldable pub user_place : Engine → Stores → Place
user_place e s = user_in (last_packet e s) (first_place header_id.authenticate_response (last_packet e s) 7)

-- Where the realm of the client's challenge stands in the packet.
abbrev pub realm_in : List ℕ → Place → Place
realm_in q None = None
realm_in q (Some p) = placed_at p.start (realm_place (part q p.start p.end))
