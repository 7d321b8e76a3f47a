-- Which numbers are response codes (IrOBEX 1.5, section 3.2.1; docs/PROTOCOL.md#reply-codes), and the byte that is sent for a code.
use Rattle.std.specs.Prelude.{Bool, false, ◌&&◌, ◌||◌, List, [], ◌∷◌, ℕ, eqb, leb}
use Rattle.packet.specs.FirstByte.{top_bit}
use Rattle.packet.specs.ResponseCodes as response

-- The number `x` is in the list.
abbrev pub member : ℕ → List ℕ → Bool
member x [] = false
member x (y ∷ ys) = eqb x y || member x ys

-- All response codes.
unfoldable pub codes : List ℕ
codes =
    response.continue ∷
    response.success ∷
    response.created ∷
    response.accepted ∷
    response.non_authoritative_information ∷
    response.no_content ∷
    response.reset_content ∷
    response.partial_content ∷
    response.multiple_choices ∷
    response.moved_permanently ∷
    response.moved_temporarily ∷
    response.see_other ∷
    response.not_modified ∷
    response.use_proxy ∷
    response.bad_request ∷
    response.unauthorized ∷
    response.payment_required ∷
    response.forbidden ∷
    response.not_found ∷
    response.method_not_allowed ∷
    response.not_acceptable ∷
    response.proxy_authentication_required ∷
    response.request_time_out ∷
    response.conflict ∷
    response.gone ∷
    response.length_required ∷
    response.precondition_failed ∷
    response.requested_entity_too_large ∷
    response.request_url_too_large ∷
    response.unsupported_media_type ∷
    response.internal_server_error ∷
    response.not_implemented ∷
    response.bad_gateway ∷
    response.service_unavailable ∷
    response.gateway_timeout ∷
    response.http_version_not_supported ∷
    response.database_full ∷
    response.database_locked ∷
    []

-- The number is one of the 38 codes; from 0x80 on there is none.
unfoldable pub is_code : ℕ → Bool
is_code b = member b codes

-- The code is of the 2xx family, as the source tests it: 0x27 to 0x2F are in the range and are no codes.
unfoldable pub is_success : ℕ → Bool
is_success b = leb response.success b && leb b 0x2F

-- The byte that is sent for a code: the code plus 0x80. A number from 0x80 on, which is no code, is sent as it is.
abbrev pub sent_code : ℕ → ℕ
sent_code code = top_bit code
