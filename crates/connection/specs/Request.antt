-- The headers that the engine looks for in a Connect that it answers (docs/PROTOCOL.md#connect): of each the first, if all can be read.
use Rattle.std.specs.Prelude.{ℕ, List, length, ◌==◌}
use Rattle.base.specs.Pick.{pick}
use Rattle.base.specs.Place.{Place, span, Some, None}
use Rattle.packet.specs.HeaderIds as header_id
use Rattle.packet.specs.HeaderList.{readable_from}
use Rattle.connection.specs.declared.request.ConnectRequest.{ConnectRequest}
use Rattle.connection.specs.Pieces.{first_in}

-- Makes a `ConnectRequest`.
abbrev pub found_request : ℕ → Place → Place → Place → Place → ConnectRequest
found_request from t c r m = record { from = from; target = t; challenge = c; response = r; mode = m }

-- The headers of `s` from `from` on, read as those of a Connect. Headers that cannot be read start at the end, so that there are none.
unfoldable pub connect_request : List ℕ → ℕ → ConnectRequest
connect_request s from =
    found_request (pick (readable_from s from) from (length s)) (first_in header_id.target s from) (first_in header_id.authenticate_challenge s from)
    (first_in header_id.authenticate_response s from) (first_in header_id.single_response_mode s from)

-- The request in which nothing is found, with headers that start at `from`.
abbrev pub headerless : ℕ → ConnectRequest
headerless from = found_request from None None None None

-- ---- as the walk has it

-- The first of two places that was found.
abbrev pub or_found : Place → Place → Place
or_found (Some p) f = Some p
or_found None f = f

-- A header with `id` stands from `a` up to `b`, and it is the first of its id unless one was found before.
abbrev pub noted_found : Place → ℕ → ℕ → ℕ → ℕ → Place
noted_found f wanted id a b = pick (id == wanted) (or_found f (span a b)) f

-- The header is noted at each of the four places, by its id.
unfoldable pub noted_request : ConnectRequest → ℕ → ℕ → ℕ → ConnectRequest
noted_request c id a b =
    found_request c.from (noted_found c.target header_id.target id a b) (noted_found c.challenge header_id.authenticate_challenge id a b)
    (noted_found c.response header_id.authenticate_response id a b) (noted_found c.mode header_id.single_response_mode id a b)
