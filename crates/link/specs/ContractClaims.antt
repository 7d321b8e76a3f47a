-- The link over contracts: a run of both ends of which is known only what the functions' contracts say, from their starts on. Each call returned
-- what its contract says, with the stores as the call before left them; the stream carries the bytes. Such a run is one of the claims.
use Rattle.std.specs.Prelude.{ℕ, ◌≤◌, ◌≡◌, List, [], ◌∷◌, ◌++◌, take, drop}
use Rattle.std.proofs.Math.Option.{Option, none, some}
use Rattle.packet.specs.Limits.{max_packet}
use Rattle.journal.specs.Calls.{Call}
use Rattle.server.specs.declared.CallResult.{CallResult as ServerResult}
use Rattle.server.specs.declared.Outcome.{Outcome as ServerOutcome}
use Rattle.server.specs.declared.Outcome.TheVariants as told
use Rattle.server.specs.declared.Settings.{Settings as ServerSettings}
use Rattle.model.specs.Step.{Stores as ServerStores, Called}
use Rattle.model.specs.Runs.{State, step_of}
use Rattle.model.specs.ContractClaims.{state, Accepted}
use Rattle.client_model.specs.Step.{Stores, Stepped, stepped}
use Rattle.client_model.specs.Calls.{request_sent_step, bytes_offered_step, stream_ended_step, start_step}
use Rattle.client_model.specs.declared.CallResult.{CallResult}
use Rattle.client_model.specs.declared.Outcome.{Outcome}
use Rattle.client_model.specs.declared.Outcome.TheVariants as said
use Rattle.client_model.specs.declared.Settings.{Settings}
use Rattle.link.specs.Link.{Link, link_with, Move, user, host, sendUp, sendDown, offerUp, offerDown, closeUp, closeDown, user_step, client_did, server_did, reply_bytes, server_call, moves}
use Rattle.link.specs.Claims.{Fresh}

-- ---- one move

-- What the calls of a move returned and left: that on the client, if there was one, and that on the server.
pub record Returned : Type 0 where
  pub client : Stepped
  pub server : Called

-- What the contract says of the client's call when the packet that waits was sent.
abbrev pub sent_call : Outcome → Link → Option Stepped
sent_call (said.Send n) l = some (request_sent_step l.client l.stores)
sent_call said.Ready l = none
sent_call said.WantsBytes l = none
sent_call (said.Read n) l = none
sent_call (said.Part k b) l = none
sent_call (said.Done c n) l = none
sent_call (said.Stopped c n) l = none
sent_call (said.Aborted c n) l = none
sent_call (said.End x) l = none
sent_call (said.Refused r) l = none

-- The same when the server has ended and all its bytes are taken.
abbrev pub end_call : ServerOutcome → List ℕ → Link → Option Stepped
end_call (told.End x) [] l = some (stream_ended_step l.client l.stores)
end_call (told.End x) (b ∷ down) l = none
end_call told.WantsBytes down l = none
end_call (told.Reply n) down l = none
end_call (told.Request r) down l = none
end_call (told.Refused r) down l = none

-- What the contract says of the call that a move makes on the client, if it makes one.
abbrev pub client_call : Link → Move → Option Stepped
client_call l (user u) = some (user_step l u)
client_call l sendUp = sent_call l.said l
client_call l (offerDown n) = some (bytes_offered_step l.client (take n l.down) l.stores)
client_call l closeDown = end_call l.told l.down l
client_call l (host c) = none
client_call l sendDown = none
client_call l (offerUp n) = none
client_call l closeUp = none

-- A call returned what its contract says, if it was made.
abbrev pub ClientSays : Option Stepped → Stepped → Type 0
ClientSays none m = Unit {0}
ClientSays (some x) m = m ≡ x

-- The same of the server.
abbrev pub ServerSays : State → Option Call → Called → Type 0
ServerSays s none m = Unit {0}
ServerSays s (some c) m = m ≡ step_of s c

-- Both ends did in a move what their contracts say.
pub record MoveSays (l : Link) (m : Move) (x : Returned) : Type 0 where
  pub client : ClientSays (client_call l m) x.client
  pub server : ServerSays l.server (server_call l m) x.server

-- ---- the link afterwards, by what was returned

-- The client's call was made, if there was one, and the queues are then these.
abbrev pub client_led : Option Stepped → Link → Stepped → List ℕ → List ℕ → Link
client_led none l m up down = l
client_led (some x) l m up down = client_did l m up down

-- The server's call was made, if there was one, and the queue down is then this.
abbrev pub server_led : Option Call → Link → Called → List ℕ → Link
server_led none l m down = l
server_led (some c) l m down = server_did l m (drop m.took.taken l.up) down

-- The bytes of the packet that waits at the client.
abbrev pub request_bytes : Outcome → List ℕ → List ℕ
request_bytes (said.Send n) q = take n q
request_bytes said.Ready q = []
request_bytes said.WantsBytes q = []
request_bytes (said.Read n) q = []
request_bytes (said.Part k b) q = []
request_bytes (said.Done c n) q = []
request_bytes (said.Stopped c n) q = []
request_bytes (said.Aborted c n) q = []
request_bytes (said.End x) q = []
request_bytes (said.Refused r) q = []

-- The link after a move.
abbrev pub led : Link → Move → Returned → Link
led l (user u) x = client_led (client_call l (user u)) l x.client l.up l.down
led l sendUp x = client_led (client_call l sendUp) l x.client (l.up ++ request_bytes l.said l.stores.request) l.down
led l (offerDown n) x = client_led (client_call l (offerDown n)) l x.client l.up (drop x.client.took.taken l.down)
led l closeDown x = client_led (client_call l closeDown) l x.client l.up l.down
led l (host c) x = server_led (server_call l (host c)) l x.server l.down
led l sendDown x = server_led (server_call l sendDown) l x.server (l.down ++ reply_bytes l.told l.server.stores.reply)
led l (offerUp n) x = server_led (server_call l (offerUp n)) l x.server l.down
led l closeUp x = server_led (server_call l closeUp) l x.server l.down

-- ---- a run

-- Each move of a run was made as the contracts say, in the link that the move before left.
abbrev pub RanSo : Link → List Move → List Returned → Type 0
RanSo l [] [] = Unit {0}
RanSo l [] (x ∷ xs) = ⊥
RanSo l (m ∷ ms) [] = ⊥
RanSo l (m ∷ ms) (x ∷ xs) = MoveSays l m x × RanSo (led l m x) ms xs

-- The link after a run.
abbrev pub led_all : Link → List Move → List Returned → Link
led_all l [] xs = l
led_all l (m ∷ ms) [] = l
led_all l (m ∷ ms) (x ∷ xs) = led_all (led l m x) ms xs

-- ---- the starts

-- A start of the client that was accepted, by what its contract says.
pub record ClientAccepted (cs : Settings) (s : Stores) (r : CallResult) (t : Stores) : Type 0 where
  pub says : stepped r t ≡ start_step cs s
  pub accepted : r.outcome ≡ said.Ready

-- The link of two ends that were started so.
abbrev pub started_link : ServerResult → ServerStores → List ℕ → CallResult → Stores → Link
started_link v t u r s = link_with r.client s said.Ready (state v t u) told.WantsBytes [] []

-- What the contracts of both ends come to: two accepted starts are fresh ends, and every run that the contracts allow from any link is the run of
-- that link, of which the claims speak.
pub record ContractsLink : Type 0 where
  pub starts : (st : ServerSettings) (cs : Settings) (realm : List ℕ) (v : ServerStores) (w : ServerStores) (u : List ℕ) (x : ServerResult)
      (s t : Stores) (r : CallResult) → st.max_packet_length ≤ max_packet → cs.max_packet_length ≤ max_packet
      → Accepted st realm v x w u → ClientAccepted cs s r t → Fresh st cs (started_link x w u r t)
  pub runs : (l : Link) (ms : List Move) (xs : List Returned) → RanSo l ms xs → led_all l ms xs ≡ moves l ms
