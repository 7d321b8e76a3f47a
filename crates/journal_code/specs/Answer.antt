-- What the entries of a log that are no packets do to the state and the table store (docs/PROTOCOL.md#journal): the journal's `replied`,
-- `object_sent`, `taken_at`, `password_checked`, `challenged` and `closes` as the code has them.
use Rattle.std.specs.Prelude.{ℕ, List, [], ◌∷◌, Bool, true, false, ◌&&◌, length, take, leb, eqb, Option, Some, None}
use Rattle.base.specs.Pick.{pick}
use Rattle.packet.specs.HeaderIds as header_id
use Rattle.packet.specs.Header.{first}
use Rattle.packet.specs.Codes.{is_success, sent_code}
use Rattle.packet.specs.ResponseCodes as response
use Rattle.packet.specs.Limits.{max_connections}
use Rattle.journal.specs.Ids.{without}
use Rattle.table.specs.Places.{table_length}
use Rattle.table.specs.declared.targets.Target.{Target}
use Rattle.connection.specs.Peer.{id_in, Linked, checked_peer, verified_peer, authenticated_peer, left_peer, closed_tables, Answers, answer_by, disconnected_by, AskedTarget}
use Rattle.connection.specs.Pieces.{headers_from}
use Rattle.connection.specs.declared.peer.Peer.{Peer}
use Rattle.connection.specs.declared.peer.Answer.{Answer}
use Rattle.journal_code.specs.declared.state.State.{State}
use Rattle.journal_code.specs.declared.state.Open.{Open}
use Rattle.journal_code.specs.declared.state.Open.TheVariants.{Nothing, Trailing, Putting, Getting, Sending, Gathering, Draining}
use Rattle.journal_code.specs.declared.state.Last.{Last}
use Rattle.journal_code.specs.declared.state.Last.TheVariants as last
use Rattle.journal_code.specs.State.{quiet, ended_with, standing_by, opens_now}
use Rattle.journal_code.specs.Route.{asks_in}

-- The state, with the table store.
pub record Tabled : Type 0 where
  pub state : State
  pub tables : List ℕ

-- Makes a `Tabled`.
abbrev pub tabled : State → List ℕ → Tabled
tabled s t = record { state = s; tables = t }

-- A table store of `t` numbers has room for `n` ids.
unfoldable pub linked_in : ℕ → ℕ → Bool
linked_in n t = leb n max_connections && leb table_length t

-- Nothing is open, and nothing is refused either.
abbrev pub is_nothing : Open → Bool
is_nothing Nothing = true
is_nothing Trailing = false
is_nothing (Putting srm) = false
is_nothing Getting = false
is_nothing Sending = false
is_nothing (Gathering o) = false
is_nothing Draining = false

-- ---- replies

-- The peer of an answer to a Connect, or the peer `p` if no id was opened.
abbrev pub peer_or : Peer → Option Answer → Peer
peer_or p None = p
peer_or p (Some a) = a.peer

-- The state with the peer and the table store of an answer to a Connect, and of a Disconnect.
abbrev pub stands_answered : State → Answers → Tabled
stands_answered s a = tabled (standing_by s (peer_or s.peer a.answer)) a.tables

abbrev pub stands_linked : State → Linked → Tabled
stands_linked s l = tabled (standing_by s l.peer) l.tables

-- A Connect is answered: `enable` and `w` are what it asked for.
unfoldable pub connected_step : State → ℕ → List ℕ → Bool → AskedTarget → List ℕ → Tabled
connected_step s code hs enable w t =
    pick (is_success code)
    (stands_answered s (answer_by s.peer t (asks_in s enable) (id_in (first header_id.connection_id (headers_from hs 0))) w))
    (tabled (quiet s) t)

-- The last packet is answered, with nothing open.
abbrev pub reply_step : Last → State → ℕ → List ℕ → List ℕ → Tabled
reply_step last.Other s code hs t = tabled (quiet s) t
reply_step (last.Connect enable w) s code hs t = connected_step s code hs enable w t
reply_step (last.Disconnect i) s code hs t = stands_linked s (disconnected_by s.peer t i)

-- A reply inside an operation closes a Get.
abbrev pub answered_inside : Open → State → State
answered_inside Getting s = opens_now s Nothing
answered_inside Nothing s = quiet s
answered_inside Trailing s = quiet s
answered_inside (Putting srm) s = quiet s
answered_inside Sending s = quiet s
answered_inside (Gathering o) s = quiet s
answered_inside Draining s = quiet s

-- The host answered with a reply.
unfoldable pub answered_step : State → ℕ → List ℕ → List ℕ → Tabled
answered_step s code hs t =
    pick s.ended (tabled (quiet s) t)
    (pick (linked_in s.peer.count (length t))
    (pick (is_nothing s.opened) (reply_step s.last s code hs t) (tabled (answered_inside s.opened s) t))
    (tabled (quiet s) t))

-- ---- the others

-- The host answered a Get with an object.
abbrev pub object_in : Open → State → State
object_in Getting s = opens_now s Sending
object_in Nothing s = quiet s
object_in Trailing s = quiet s
object_in (Putting srm) s = quiet s
object_in Sending s = quiet s
object_in (Gathering o) s = quiet s
object_in Draining s = quiet s

-- The same, unless the session has ended.
unfoldable pub object_state : State → State
object_state s = pick s.ended (quiet s) (object_in s.opened s)

-- A reply was sent while an object is sent: the Get closes on the first one that is not Continue.
unfoldable pub sent_object : State → ℕ → State
sent_object s b = pick (eqb b (sent_code response.continue)) (quiet s) (opens_now s Nothing)

-- A reply was sent, before the end.
abbrev pub sent_in : Open → State → ℕ → State
sent_in Sending s b = sent_object s b
sent_in Nothing s b = quiet s
sent_in Trailing s b = quiet s
sent_in (Putting srm) s b = quiet s
sent_in Getting s b = quiet s
sent_in (Gathering o) s b = quiet s
sent_in Draining s b = quiet s

-- A reply was sent.
unfoldable pub sent_state : State → ℕ → State
sent_state s b = pick s.ended (pick (eqb s.number 0) (ended_with s 5) (quiet s)) (sent_in s.opened s b)

-- The peer once a password was checked.
abbrev pub checked_peers : Peer → Bool → Peer
checked_peers p true = verified_peer (checked_peer p false)
checked_peers p false = checked_peer p true

-- A password was checked.
unfoldable pub checked_state : State → Bool → State
checked_state s right = pick s.ended (quiet s) (standing_by s (checked_peers s.peer right))

-- A challenge was made.
unfoldable pub nonce_state : State → State
nonce_state s = pick s.ended (quiet s) (standing_by s (authenticated_peer s.peer false s.peer.challenge))

-- How many ids are open, and the table store in which they stand.
pub record Remaining : Type 0 where
  pub count : ℕ
  pub tables : List ℕ

-- Makes a `Remaining`.
abbrev pub remaining : ℕ → List ℕ → Remaining
remaining n t = record { count = n; tables = t }

-- The ids of a list are closed one after the other, of the first `n` numbers of the table store `t`.
unfoldable pub closed_all : List ℕ → ℕ → List ℕ → Remaining
closed_all [] n t = remaining n t
closed_all (x ∷ l) n t = closed_all l (length (without x (take n t))) (closed_tables x n t)

-- The ids of a list were closed, and `x` is left; if there was none to close, nothing changes.
abbrev pub closes_to : List ℕ → State → Remaining → Tabled
closes_to [] s x = tabled (quiet s) x.tables
closes_to (y ∷ l) s x = tabled (standing_by s (left_peer s.peer x.count)) x.tables

-- The host closed these ids together.
unfoldable pub closed_step : State → List ℕ → List ℕ → Tabled
closed_step s l t =
    pick s.ended (tabled (quiet s) t)
    (pick (linked_in s.peer.count (length t)) (closes_to l s (closed_all l s.peer.count t)) (tabled (quiet s) t))

-- The peer's stream ended.
unfoldable pub ended_state : State → State
ended_state s = pick s.ended (quiet s) (pick (eqb s.begun 0) (ended_with s 1) (ended_with s 2))
