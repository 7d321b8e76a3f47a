-- What Connect and Disconnect change (docs/PROTOCOL.md#connect, #connection-ids, #disconnect).
use Rattle.std.specs.Prelude.{ℕ, ◌+◌, ◌%◌, ◌^◌, Bool, true, false, List, length, take, ◌==◌, nat_le, nat_lt, slice_set, Some, None}
use Rattle.std.specs.Prelude.{Option as OrNone, option_map, unwrap_or}
use Rattle.std.proofs.Math.Option.{Option, none, some}
use Rattle.base.specs.Pick.{pick}
use Rattle.base.specs.Bytes.{be32}
use Rattle.digest.specs.declared.md5.Octets16.{Octets16}
use Rattle.packet.specs.Limits.{min_packet, max_connections}
pub use Rattle.packet.specs.Header.{present as isGiven}
use Rattle.table.specs.Targets.{unnamed, target_by, place_of, target_set, targets_closed}
use Rattle.table.specs.declared.targets.Target.{Target}
use Rattle.journal.specs.Ids.{member, without, new_id}
use Rattle.journal.specs.Checks.{shifted}
use Rattle.table.specs.Nonces.{counted}
use Rattle.connection.specs.Reply.{front}
use Rattle.connection.specs.declared.peer.Peer.{Peer}
use Rattle.connection.specs.declared.peer.Answer.{Answer}

-- The id that a header names, or that goes in front of an answer, if there is one, as the code has it.
abbrev pub ConnectionId : Type 0
ConnectionId = OrNone ℕ

-- The nonce of the challenge that was sent and not yet answered, if there is one, as the code has it.
abbrev pub Challenge : Type 0
Challenge = OrNone Octets16

-- The one definition that lists the fields; it is shut, so that proofs do not write them all out.
unfoldable pub peer_with : ℕ → ℕ → ℕ → Bool → Bool → Challenge → ℕ → ℕ → Peer
peer_with n next remote srm auth ch w m =
    record {
      count = n;
      nonces = m;
      window = w;
      next_connection_id = next;
      remote_max_packet_length = remote;
      srm_enabled = srm;
      authenticated = auth;
      challenge = ch;
    }

-- The open ids are the first numbers of the table store.
abbrev pub ids_of : Peer → List ℕ → List ℕ
ids_of p t = take p.count t

-- The peer, and the table store beside it.
pub record Linked : Type 0 where
  pub peer : Peer
  pub tables : List ℕ

-- Makes a `Linked`.
abbrev pub linked : Peer → List ℕ → Linked
linked p t = record { peer = p; tables = t }

-- A fresh engine's peer: nothing is open or remembered, the counter is at 1, and the limit is the smallest.
abbrev pub fresh_peer : Peer
fresh_peer = peer_with 0 1 min_packet false false None 0 0

-- A limit that a Connect names, at least 255.
abbrev pub at_least255 : ℕ → ℕ
at_least255 n = pick (nat_lt n min_packet) min_packet n

-- The peer once a Connect named the limit `n`.
abbrev pub limited : Peer → ℕ → Peer
limited p n =
    peer_with p.count p.next_connection_id (at_least255 n) p.srm_enabled p.authenticated p.challenge p.window p.nonces

-- The peer with this authentication and challenge.
abbrev pub authenticated_peer : Peer → Bool → Challenge → Peer
authenticated_peer p auth ch =
    peer_with p.count p.next_connection_id p.remote_max_packet_length p.srm_enabled auth ch p.window p.nonces

-- The peer with one check of a password more in its window, and nothing else changed (docs/PROTOCOL.md#eight-wrong).
abbrev pub checked_peer : Peer → Bool → Peer
checked_peer p wrong =
    peer_with p.count p.next_connection_id p.remote_max_packet_length p.srm_enabled p.authenticated p.challenge
    (shifted p.window wrong) p.nonces

-- The peer after a right password: the challenge is used up.
abbrev pub verified_peer : Peer → Peer
verified_peer p = authenticated_peer p true None

-- The peer once a challenge with the nonce `n` was sent: there is one more that the table store remembers, up to 32
-- (docs/PROTOCOL.md#nonces).
abbrev pub challenged_peer : Peer → Octets16 → Peer
challenged_peer p n =
    peer_with p.count p.next_connection_id p.remote_max_packet_length p.srm_enabled false (Some n) p.window (counted p.nonces)

-- The peer with Single Response Mode (SRM) on or off.
abbrev pub srm_peer : Peer → Bool → Peer
srm_peer p srm =
    peer_with p.count p.next_connection_id p.remote_max_packet_length srm p.authenticated p.challenge p.window p.nonces

-- The peer with one id more, a counter and SRM.
abbrev pub added_peer : Peer → Bool → ℕ → Peer
added_peer p srm next = peer_with (p.count + 1) next p.remote_max_packet_length srm p.authenticated p.challenge p.window p.nonces

-- The id is opened if it is not open yet, behind those that are, with the counter `next`; `none` if it is a 65th. It takes the Target `g`,
-- also if it was open (docs/PROTOCOL.md#targets).
unfoldable pub opened : Peer → List ℕ → Bool → ℕ → ℕ → Target → Option Linked
opened p t srm id next g =
    pick (member id (ids_of p t)) (some (linked (srm_peer p srm) (target_set t (place_of id (ids_of p t)) g)))
    (pick (nat_le max_connections p.count) none (some (linked (added_peer p srm next) (target_set (slice_set t p.count id) p.count g))))

-- The Target that an id takes, by the request's first Target header.
abbrev pub target_given : Option (List ℕ) → Target
target_given none = unnamed
target_given (some v) = target_by v

-- The id that the search yields, which goes in front of the answer to a Target.
abbrev pub searched : Peer → List ℕ → ℕ
searched p t = new_id (ids_of p t) p.next_connection_id

-- A Connect succeeds: by the answer's first ConnectionID and the request's first Target.
abbrev pub opened_for : Peer → List ℕ → Bool → Option (List ℕ) → Option (List ℕ) → Option Linked
opened_for p t srm (some v) target = opened p t srm (be32 v 0) p.next_connection_id (target_given target)
opened_for p t srm none (some v) = opened p t srm (searched p t) ((searched p t + 1) % 2 ^ 32) (target_by v)
opened_for p t srm none none = some (linked (srm_peer p srm) t)

-- All is cleared, but not the counter, the challenge, the window and the nonces.
abbrev pub cleared_peer : Peer → Peer
cleared_peer p = peer_with 0 p.next_connection_id min_packet false false p.challenge p.window p.nonces

-- The peer with `n` ids left open; if none is left, all is cleared.
abbrev pub left_peer : Peer → ℕ → Peer
left_peer p n =
    pick (n == 0) (cleared_peer p)
    (peer_with n p.next_connection_id p.remote_max_packet_length p.srm_enabled p.authenticated p.challenge p.window p.nonces)

-- The table store once the id `x` was closed, of the first `n`: those that are left stand at its front, in their order, and their Targets
-- beside them.
unfoldable pub closed_tables : ℕ → ℕ → List ℕ → List ℕ
closed_tables x n t = front (without x (take n t)) (targets_closed x n t)

-- The peer and the table store once the id `x` was closed.
abbrev pub closed_linked : Peer → List ℕ → ℕ → Linked
closed_linked p t x = linked (left_peer p (length (without x (ids_of p t)))) (closed_tables x p.count t)

-- A Disconnect closes the id that a header names; if it names none, all is cleared.
unfoldable pub disconnected_peer : Peer → List ℕ → Option (List ℕ) → Linked
disconnected_peer p t none = linked (cleared_peer p) t
disconnected_peer p t (some v) = closed_linked p t (be32 v 0)

-- ---- the same by numbers, as the code has them

-- The id that a header names, as the code has it.
abbrev pub id_in : Option (List ℕ) → ConnectionId
id_in none = None
id_in (some v) = Some (be32 v 0)

-- The Target that an id takes, by the request's first Target header, if there is one, as the code has it.
abbrev pub AskedTarget : Type 0
AskedTarget = OrNone Target

abbrev pub target_asked : Option (List ℕ) → AskedTarget
target_asked none = None
target_asked (some v) = Some (target_by v)

-- What opening leads to, with the table store afterwards: the peer, or none.
pub record Opens : Type 0 where
  pub peer : OrNone Peer
  pub tables : List ℕ

-- Makes an `Opens`.
abbrev pub opens : OrNone Peer → List ℕ → Opens
opens r t = record { peer = r; tables = t }

-- A 65th is not opened, and leaves the table store as it was.
abbrev pub opening_of : List ℕ → Option Linked → Opens
opening_of t none = opens None t
opening_of t (some q) = opens (Some q.peer) q.tables

-- A Connect succeeds, by numbers: the id that the answer names, and the Target `w` that the Target header gives, if there is one.
abbrev pub opened_by : Peer → List ℕ → Bool → ConnectionId → AskedTarget → Option Linked
opened_by p t srm (Some i) w = opened p t srm i p.next_connection_id (unwrap_or w unnamed)
opened_by p t srm None (Some g) = opened p t srm (searched p t) ((searched p t + 1) % 2 ^ 32) g
opened_by p t srm None None = some (linked (srm_peer p srm) t)

-- The id that goes in front: for a Target, if the answer has none.
abbrev pub front_by_of : Peer → List ℕ → ConnectionId → AskedTarget → ConnectionId
front_by_of p t (Some i) w = None
front_by_of p t None (Some g) = Some (searched p t)
front_by_of p t None None = None

-- What the host's answer to a Connect leads to, with the table store afterwards: nothing if its id is a 65th.
pub record Answers : Type 0 where
  pub answer : OrNone Answer
  pub tables : List ℕ

-- Makes an `Answers`.
abbrev pub answers : OrNone Answer → List ℕ → Answers
answers r t = record { answer = r; tables = t }

-- The peer with the id `f` that goes in front of the host's answer.
abbrev pub answer_with : ConnectionId → Peer → Answer
answer_with f p = record { peer = p; front = f }

-- What opening leads to, with the id `f` that goes in front of the host's answer.
abbrev pub answer_from : Opens → ConnectionId → Answers
answer_from o f = answers (option_map (answer_with f) o.peer) o.tables

-- What the host's answer to a Connect leads to, by numbers: the id that it names, and the Target `w` that the Target header gives, if there
-- is one.
abbrev pub answer_by : Peer → List ℕ → Bool → ConnectionId → AskedTarget → Answers
answer_by p t srm given w = answer_from (opening_of t (opened_by p t srm given w)) (front_by_of p t given w)

-- A Disconnect, by the number that it names.
abbrev pub disconnected_by : Peer → List ℕ → ConnectionId → Linked
disconnected_by p t None = linked (cleared_peer p) t
disconnected_by p t (Some i) = closed_linked p t i
