-- What the packets of a Put carry (docs/PROTOCOL.md#put): the headers that are kept, as received, and the body.
use Rattle.std.specs.Prelude.{ℕ, List, [], ◌∷◌, ◌++◌, Bool, ◌||◌, length, eqb}
use Rattle.std.proofs.Math.Option.{Option, none, some}
use Rattle.base.specs.Pick.{pick}
use Rattle.packet.specs.HeaderIds as header_id
use Rattle.packet.specs.Header.{Header, bytes_of}

-- ---- ids

-- The id is Body or EndOfBody.
unfoldable pub is_body : ℕ → Bool
is_body id = eqb id header_id.body || eqb id header_id.end_of_body

-- The id is one of the two headers of Single Response Mode (SRM).
unfoldable pub is_srm : ℕ → Bool
is_srm id = eqb id header_id.single_response_mode || eqb id header_id.single_response_mode_parameters

-- ---- records

-- A record: the bytes of the kept headers, and the body bytes, or none if no Body or EndOfBody header came.
pub record Record : Type 0 where
  pub headers : List ℕ
  pub body : Option (List ℕ)

-- A record with nothing in it.
abbrev pub bare : Record
bare = record { headers = []; body = none }

-- A body that came in two parts. None is not empty: with no body header there is no body.
abbrev pub join_body : Option (List ℕ) → Option (List ℕ) → Option (List ℕ)
join_body none b = b
join_body (some a) none = some a
join_body (some a) (some b) = some (a ++ b)

-- What two packets carry.
abbrev pub joined : Record → Record → Record
joined c d = record { headers = c.headers ++ d.headers; body = join_body c.body d.body }

-- How many body bytes there are.
abbrev pub body_length : Option (List ℕ) → ℕ
body_length none = 0
body_length (some b) = length b

-- How many body bytes a record has; the Put limit bounds them.
abbrev pub size_of : Record → ℕ
size_of c = body_length c.body

-- What one header of a Put carries: body bytes, nothing (SRM headers are not kept), or itself.
unfoldable pub carried_one : Header → Record
carried_one h =
    pick (is_body h.id) (record { headers = []; body = some h.value })
    (pick (is_srm h.id) bare (record { headers = bytes_of h; body = none }))

-- What all headers of a Put packet carry.
unfoldable pub carried_by : List Header → Record
carried_by [] = bare
carried_by (h ∷ hs) = joined (carried_one h) (carried_by hs)

-- What a Get keeps of a packet's headers: all but the SRM headers.
unfoldable pub kept_by_get : List Header → List ℕ
kept_by_get [] = []
kept_by_get (h ∷ hs) = pick (is_srm h.id) (kept_by_get hs) (bytes_of h ++ kept_by_get hs)
