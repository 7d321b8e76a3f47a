-- The packets that the client sends (docs/PROTOCOL.md#client), by what a user sees alone: each is within the server's limit as the responses
-- told it, its length field is its length, and it can be read as a request with the opcode of its operation, or of an Abort once the user has
-- aborted. Headers that fit no packet are refused before anything is sent (24), so that the client never ends for them.
use Rattle.std.specs.Prelude.{ℕ, ◌≤◌, ◌≡◌, List, [], ◌∷◌, Bool, true, false, ◌||◌, length, take}
use Rattle.std.proofs.Math.Option.{some}
use Rattle.base.specs.Pick.{pick}
use Rattle.base.specs.Bytes.{be16}
use Rattle.text.specs.Unicode.{Octets}
use Rattle.packet.specs.Packet.{Request, request_of}
use Rattle.packet.specs.declared.opcode.Opcode.{Opcode}
use Rattle.packet.specs.declared.opcode.Opcode.TheVariants as op
use Rattle.client_model.specs.declared.Settings.{Settings}
use Rattle.client_model.specs.declared.End.{End}
use Rattle.client_model.specs.declared.End.TheVariants as end
use Rattle.client_model.specs.declared.Outcome.{Outcome}
use Rattle.client_model.specs.declared.Outcome.TheVariants as outcome
use Rattle.client_model.specs.Step.{Stores}
use Rattle.client_model.specs.Guard.{short}
use Rattle.client_model.specs.Calls.{started}
use Rattle.client_model.specs.Refusals.{ClientCall, connect, disconnect, get, body_given_of, bytes_offered_of, put, requestSent, partTaken, abort, stream_ended_of, Open, closed, connecting, disconnecting, putting, getting, aborting, Known, at_start, opens, is_abort, learns, Seen, seen}

-- A packet within a limit that a server can read as a request with this opcode.
pub record Sendable (limit : ℕ) (o : Opcode) (q : List ℕ) : Type 0 where
  pub within : length q ≤ limit
  pub field : be16 q 1 ≡ length q
  pub request : Request
  pub reads : request_of q ≡ some request
  pub opcode : request.opcode ≡ o

-- The opcode of an operation. No packet is sent while none is open.
abbrev pub opcode_in : Open → Opcode
opcode_in connecting = op.Connect
opcode_in disconnecting = op.Disconnect
opcode_in putting = op.Put
opcode_in getting = op.Get
opcode_in aborting = op.Abort
opcode_in closed = op.Abort

-- The opcode that is due on a packet: Abort's once the user has aborted, else that of the operation that is open or that the call opens.
abbrev pub opcode_due : Known → ClientCall → Opcode
opcode_due k x = pick (k.aborted || is_abort x) op.Abort (opcode_in (opens x k.opened))

-- The client ends because a header fits no packet.
abbrev pub is_headers_changed : End → Bool
is_headers_changed end.HeadersChanged = true
is_headers_changed end.Disconnected = false
is_headers_changed end.Truncated = false
is_headers_changed end.LengthTooSmall = false
is_headers_changed end.Unreadable = false

-- What holds of a call by its outcome, with the request store `q` afterwards.
abbrev pub SendsBy : Outcome → Known → ClientCall → List ℕ → Type 0
SendsBy (outcome.Send n) k x q = Sendable k.limit (opcode_due k x) (take n q)
SendsBy (outcome.End e) k x q = is_headers_changed e ≡ false
SendsBy (outcome.Refused r) k x q = Unit {0}
SendsBy outcome.Ready k x q = Unit {0}
SendsBy outcome.WantsBytes k x q = Unit {0}
SendsBy (outcome.Read n) k x q = Unit {0}
SendsBy (outcome.Part n b) k x q = Unit {0}
SendsBy (outcome.Done code n) k x q = Unit {0}
SendsBy (outcome.Stopped code n) k x q = Unit {0}
SendsBy (outcome.Aborted code n) k x q = Unit {0}

-- It holds of each of a list of calls.
abbrev pub AllSend : Known → List Seen → Type 0
AllSend k [] = Unit {0}
AllSend k (x ∷ xs) = SendsBy x.outcome k x.call x.request × AllSend (learns k x) xs

-- The headers and the response bytes that a call brings are bytes.
abbrev pub BringsOctets : ClientCall → Type 0
BringsOctets (connect hs) = Octets hs
BringsOctets (disconnect hs) = Octets hs
BringsOctets (put hs has) = Octets hs
BringsOctets (get hs) = Octets hs
BringsOctets (bytes_offered_of i) = Octets i
BringsOctets requestSent = Unit {0}
BringsOctets (body_given_of d) = Unit {0}
BringsOctets partTaken = Unit {0}
BringsOctets abort = Unit {0}
BringsOctets stream_ended_of = Unit {0}

abbrev pub AllBringOctets : List ClientCall → Type 0
AllBringOctets [] = Unit {0}
AllBringOctets (x ∷ xs) = BringsOctets x × AllBringOctets xs

-- Every packet of every list of calls from an accepted start is such a packet.
abbrev pub ClientSends : Type 0
ClientSends =
    (st : Settings) (s : Stores) (xs : List ClientCall) → short s ≡ false → AllBringOctets xs → AllSend at_start (seen (started st) s xs)
