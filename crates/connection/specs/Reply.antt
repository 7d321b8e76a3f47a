-- Replies (docs/PROTOCOL.md#reply-limit; the source's send): a reply over 65,535 bytes ends the engine (7); one over the peer's limit
-- becomes Internal Server Error, which keeps Connect's fields.
use Rattle.std.specs.Prelude.{ℕ, ◌+◌, Bool, true, false, List, [], ◌∷◌, ◌++◌, length, drop, nat_lt}
use Rattle.std.specs.Prelude.{Option as OrNone, Some, None}
use Rattle.std.proofs.Math.Option.{Option, none, some}
use Rattle.base.specs.Pick.{pick}
use Rattle.base.specs.Bytes.{bytes16}
use Rattle.packet.specs.Limits.{max_packet, obex_version}
use Rattle.packet.specs.HeaderIds as header_id
use Rattle.packet.specs.ResponseCodes as response
use Rattle.packet.specs.Modes as modes
use Rattle.packet.specs.Codes.{sent_code}
use Rattle.packet.specs.Packet.{packet_bytes}
use Rattle.connection.specs.declared.reply.Begun.{Begun}
use Rattle.connection.specs.declared.reply.Fit.{Fit}
use Rattle.connection.specs.declared.reply.Fit.TheVariants as fit

-- Connect's fields in a reply: version 1.0, no flags, the engine's own limit.
abbrev pub fields_of : ℕ → List ℕ
fields_of limit = obex_version ∷ (0x00 ∷ bytes16 limit)

-- What stands before the headers of a reply of `n` bytes to a Connect.
abbrev pub start_bytes : ℕ → ℕ → ℕ → List ℕ
start_bytes b n limit = b ∷ (bytes16 n ++ fields_of limit)

-- The bytes that are sent, by the peer's limit; `none` is a reply over 65,535 bytes (7).
unfoldable pub send_bytes : ℕ → ℕ → List ℕ → List ℕ → Option (List ℕ)
send_bytes remote code fields hs =
    pick (nat_lt max_packet (3 + length fields + length hs)) none
    (pick (nat_lt remote (3 + length fields + length hs)) (some (packet_bytes (sent_code response.internal_server_error) fields []))
    (some (packet_bytes (sent_code code) fields hs)))

-- The bytes `q` at the front of a store.
abbrev pub front : List ℕ → List ℕ → List ℕ
front q y = q ++ drop (length q) y

-- Continue, with SingleResponseMode if Single Response Mode (SRM) is granted.
abbrev pub continue_bytes : Bool → List ℕ
continue_bytes false = packet_bytes (sent_code response.continue) [] []
continue_bytes true = packet_bytes (sent_code response.continue) [] (header_id.single_response_mode ∷ (modes.enable ∷ []))

-- ---- the code's answer, with the reply store afterwards

-- The code's answer, how many bytes the reply takes or none, with the reply store afterwards.
pub record Sending : Type 0 where
  pub answer : OrNone ℕ
  pub reply : List ℕ

-- Makes a `Sending`.
abbrev pub sending : OrNone ℕ → List ℕ → Sending
sending r y = record { answer = r; reply = y }

-- What sending leads to; a reply that is too large leaves the store as it was.
abbrev pub sent_into : Option (List ℕ) → List ℕ → Sending
sent_into none y = sending None y
sent_into (some q) y = sending (Some (length q)) (front q y)

-- What becomes of a reply of `n` bytes, by the peer's limit.
abbrev pub fit_of_of : ℕ → ℕ → Fit
fit_of_of remote n = pick (nat_lt max_packet n) fit.TooLarge (pick (nat_lt remote n) fit.Replaced fit.Whole)

-- ---- a reply to a Connect that is begun

-- A reply to a Connect that was begun, with the reply store afterwards.
pub record Beginning : Type 0 where
  pub answer : Begun
  pub reply : List ℕ

-- Makes a `Beginning`.
abbrev pub beginning : Begun → List ℕ → Beginning
beginning r y = record { answer = r; reply = y }

-- A reply to a Connect begins: what stands before its headers of `n` bytes, or the reply in its place.
abbrev pub begins_by : Fit → ℕ → ℕ → ℕ → List ℕ → Beginning
begins_by fit.TooLarge code limit n y = beginning (record { whole = false; sent = None }) y
begins_by fit.Replaced code limit n y = beginning (record { whole = false; sent = Some 7 }) (front (start_bytes (sent_code response.internal_server_error) 7 limit) y)
begins_by fit.Whole code limit n y = beginning (record { whole = true; sent = Some (7 + n) }) (front (start_bytes (sent_code code) (7 + n) limit) y)
